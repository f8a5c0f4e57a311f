-- The numbers of labels and shapes (document 01, 'The tape').
use Rattle.std.specs.Prelude.{ℕ}
use Rattle.tape.specs.declared.label.Label.{Label}
use Rattle.tape.specs.declared.label.Label.TheVariants.{«Type», Length, Value, Raw, SubTlvs, AdminGroup, LocalIdentifier, RemoteIdentifier, Ipv4InterfaceAddress, Ipv4NeighborAddress, Ipv6InterfaceAddress, Ipv6NeighborAddress, MaxBandwidth, MaxReservableBandwidth, UnreservedBandwidth, TeDefaultMetric, Flags, Weight, Algorithm, Sid, NeighborSystemId, Anomalous, Delay, MinDelay, MaxDelay, DelayVariation, LinkLoss, Bandwidth, EndpointBehavior, Srv6Sid, LocatorBlockLength, LocatorNodeLength, FunctionLength, ArgumentLength, Tags, FlagX, FlagR, FlagN, Ipv4SourceRouterId, Ipv6SourceRouterId, Ranges, Algorithms, Msds, Preference, Srv6Flags, Ipv4TeRouterId, Ipv6TeRouterId, SubTlv, Range, RangeSize, RangeSid, Msd, MsdType, MsdValue, BandwidthElement, Tag, AlgorithmElement}
use Rattle.tape.specs.declared.shape.Shape.{Shape}
use Rattle.tape.specs.declared.shape.Shape.TheVariants.{U8, U16, U32, U64, Ipv4, Ipv6, Bytes, Array, Object}

-- the number of a label
abbrev pub label_code : Label → ℕ
label_code «Type» = 0
label_code Length = 1
label_code Value = 2
label_code Raw = 3
label_code SubTlvs = 4
label_code AdminGroup = 5
label_code LocalIdentifier = 6
label_code RemoteIdentifier = 7
label_code Ipv4InterfaceAddress = 8
label_code Ipv4NeighborAddress = 9
label_code Ipv6InterfaceAddress = 10
label_code Ipv6NeighborAddress = 11
label_code MaxBandwidth = 12
label_code MaxReservableBandwidth = 13
label_code UnreservedBandwidth = 14
label_code TeDefaultMetric = 15
label_code Flags = 16
label_code Weight = 17
label_code Algorithm = 18
label_code Sid = 19
label_code NeighborSystemId = 20
label_code Anomalous = 21
label_code Delay = 22
label_code MinDelay = 23
label_code MaxDelay = 24
label_code DelayVariation = 25
label_code LinkLoss = 26
label_code Bandwidth = 27
label_code EndpointBehavior = 28
label_code Srv6Sid = 29
label_code LocatorBlockLength = 30
label_code LocatorNodeLength = 31
label_code FunctionLength = 32
label_code ArgumentLength = 33
label_code Tags = 34
label_code FlagX = 35
label_code FlagR = 36
label_code FlagN = 37
label_code Ipv4SourceRouterId = 38
label_code Ipv6SourceRouterId = 39
label_code Ranges = 40
label_code Algorithms = 41
label_code Msds = 42
label_code Preference = 43
label_code Srv6Flags = 44
label_code Ipv4TeRouterId = 45
label_code Ipv6TeRouterId = 46
label_code SubTlv = 47
label_code Range = 48
label_code RangeSize = 49
label_code RangeSid = 50
label_code Msd = 51
label_code MsdType = 52
label_code MsdValue = 53
label_code BandwidthElement = 54
label_code Tag = 55
label_code AlgorithmElement = 56

-- the number of a shape
abbrev pub shape_code : Shape → ℕ
shape_code U8 = 0
shape_code U16 = 1
shape_code U32 = 2
shape_code U64 = 3
shape_code Ipv4 = 4
shape_code Ipv6 = 5
shape_code Bytes = 6
shape_code Array = 7
shape_code Object = 8
