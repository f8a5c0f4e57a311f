-- Document 01's table of the registries, line by line, and the reading that it gives.
use Rattle.std.specs.Prelude.{◌&&◌, cond, List, [], ◌∷◌, ℕ, leb, eqb, length}
use Rattle.meaning.specs.Label
use Rattle.meaning.specs.Shape.{u8, u16, u32, u64, ipv4, ipv6, bytes}
use Rattle.meaning.specs.Field.{Field, part, flag, sid, array, tail, push, from, first, numbers, msds, ranges, Row, row, Plan}

-- the types 37 through 39 share one reading
abbrev bandwidth : List Field
bandwidth = part Label.bandwidth u32 0 4 ∷ []

-- Prefix-SID: Flags | Algorithm | SID/Index/Label
abbrev prefix_sid : List Field
prefix_sid = part Label.flags u8 0 1 ∷ part Label.algorithm u8 1 1 ∷ sid 2 ∷ []

-- Flags | ranges
abbrev flags_and_ranges : List Field
flags_and_ranges = part Label.flags u8 0 1 ∷ array Label.ranges (from 1) ranges ∷ []

-- registry, type, least value length, fields
unfoldable pub table : List Row
table =
    -- RFC 5305, section 3.1, administrative group
    row 0 3 4 (part Label.admin_group u32 0 4 ∷ []) ∷
    -- RFC 5305, section 3.4, maximum link bandwidth
    row 0 9 4 (part Label.max_bandwidth u32 0 4 ∷ []) ∷
    -- RFC 5305, section 3.5, maximum reservable link bandwidth
    row 0 10 4 (part Label.max_reservable_bandwidth u32 0 4 ∷ []) ∷
    -- RFC 5307, section 1.1, link local and remote identifiers
    row 0 4 8 (part Label.local_identifier u32 0 4 ∷ part Label.remote_identifier u32 4 4 ∷ []) ∷
    -- RFC 5305, section 3.2, IPv4 interface address
    row 0 6 4 (part Label.ipv4_interface_address ipv4 0 4 ∷ []) ∷
    -- RFC 5305, section 3.3, IPv4 neighbor address
    row 0 8 4 (part Label.ipv4_neighbor_address ipv4 0 4 ∷ []) ∷
    -- RFC 6119, section 4.2, IPv6 interface address
    row 0 12 16 (part Label.ipv6_interface_address ipv6 0 16 ∷ []) ∷
    -- RFC 6119, section 4.3, IPv6 neighbor address
    row 0 13 16 (part Label.ipv6_neighbor_address ipv6 0 16 ∷ []) ∷
    -- RFC 5305, section 3.6, unreserved bandwidth: 8 numbers from the first 32 octets
    row 0 11 32 (array Label.unreserved_bandwidth (first 32) (numbers Label.bandwidth_element u32 4) ∷ []) ∷
    -- RFC 5305, section 3.7, traffic engineering default metric
    row 0 18 3 (part Label.te_default_metric u32 0 3 ∷ []) ∷
    -- RFC 8667, section 2.2.1, Adj-SID: Flags | Weight | SID/Label/Index
    row 0 31 5 (part Label.flags u8 0 1 ∷ part Label.weight u8 1 1 ∷ sid 2 ∷ []) ∷
    -- RFC 8667, section 2.2.2, LAN-Adj-SID: Flags | Weight | Neighbor System-ID | SID/Label/Index
    row 0 32 11 (part Label.flags u8 0 1 ∷ part Label.weight u8 1 1 ∷ part Label.neighbor_system_id bytes 2 6 ∷ sid 8 ∷ []) ∷
    -- RFC 8570, section 4.1, link delay: A | RESERVED | Delay
    row 0 33 4 (flag Label.anomalous 0x80 ∷ part Label.delay u32 1 3 ∷ []) ∷
    -- RFC 8570, section 4.4, link loss: A | RESERVED | Link Loss
    row 0 36 4 (flag Label.anomalous 0x80 ∷ part Label.link_loss u32 1 3 ∷ []) ∷
    -- RFC 8570, section 4.2, min/max link delay: A | RESERVED | Min Delay | RESERVED | Max Delay
    row 0 34 8 (flag Label.anomalous 0x80 ∷ part Label.min_delay u32 1 3 ∷ part Label.max_delay u32 5 3 ∷ []) ∷
    -- RFC 8570, section 4.3, delay variation: RESERVED | Delay Variation
    row 0 35 4 (part Label.delay_variation u32 1 3 ∷ []) ∷
    -- RFC 8570, section 4.5, residual bandwidth
    row 0 37 4 bandwidth ∷
    -- RFC 8570, section 4.6, available bandwidth
    row 0 38 4 bandwidth ∷
    -- RFC 8570, section 4.7, utilized bandwidth
    row 0 39 4 bandwidth ∷
    -- RFC 9352, section 8.1, SRv6 End.X SID: Flags | Algorithm | Weight | Endpoint Behavior | SID | Sub-sub-TLV-len | Sub-sub-TLVs
    row 0 43 21 (part Label.flags u8 0 1 ∷ part Label.algorithm u8 1 1 ∷ part Label.weight u8 2 1 ∷ part Label.endpoint_behavior u16 3 2 ∷ tail 5 ∷ []) ∷
    -- RFC 9352, section 8.2, SRv6 LAN End.X SID: Neighbor System-ID | then as 43
    row 0 44 27 (part Label.neighbor_system_id bytes 0 6 ∷ part Label.flags u8 6 1 ∷ part Label.algorithm u8 7 1 ∷ part Label.weight u8 8 1 ∷ part Label.endpoint_behavior u16 9 2 ∷ tail 11 ∷ []) ∷
    -- RFC 5130, section 3.1, 32-bit administrative tags
    row 1 1 4 (array Label.tags (from 0) (numbers Label.tag u32 4) ∷ []) ∷
    -- RFC 5130, section 3.2, 64-bit administrative tags
    row 1 2 8 (array Label.tags (from 0) (numbers Label.tag u64 8) ∷ []) ∷
    -- RFC 8667, section 2.1, Prefix-SID
    row 1 3 5 prefix_sid ∷
    -- RFC 8667, section 2.4.4, Prefix-SID of a mapping server
    row 3 3 5 prefix_sid ∷
    -- RFC 7794, section 2.1, prefix attribute flags: X | R | N | ...
    row 1 4 1 (part Label.flags u8 0 1 ∷ flag Label.flag_x 0x80 ∷ flag Label.flag_r 0x40 ∷ flag Label.flag_n 0x20 ∷ []) ∷
    -- RFC 9352, section 7.2, SRv6 End SID: Flags | Endpoint Behavior | SID | Sub-sub-TLV-len | Sub-sub-TLVs
    row 1 5 19 (part Label.flags u8 0 1 ∷ part Label.endpoint_behavior u16 1 2 ∷ tail 3 ∷ []) ∷
    -- RFC 7794, section 2.2, IPv4 source router ID
    row 1 11 4 (part Label.ipv4_source_router_id ipv4 0 4 ∷ []) ∷
    -- RFC 7794, section 2.2, IPv6 source router ID
    row 1 12 16 (part Label.ipv6_source_router_id ipv6 0 16 ∷ []) ∷
    -- RFC 8667, section 3.1, SR-Capabilities
    row 2 2 1 flags_and_ranges ∷
    -- RFC 8667, section 3.3, SR Local Block
    row 2 22 1 flags_and_ranges ∷
    -- RFC 9346, section 3.5.1, IPv4 TE router ID
    row 2 11 4 (part Label.ipv4_te_router_id ipv4 0 4 ∷ []) ∷
    -- RFC 9346, section 3.5.2, IPv6 TE router ID
    row 2 12 16 (part Label.ipv6_te_router_id ipv6 0 16 ∷ []) ∷
    -- RFC 8667, section 3.2, SR-Algorithm
    row 2 19 0 (array Label.algorithms (from 0) (numbers Label.algorithm_element u8 1) ∷ []) ∷
    -- RFC 8491, section 2, Node MSD: MSD-Type | MSD-Value, and so on
    row 2 23 0 (array Label.msds (from 0) msds ∷ []) ∷
    -- RFC 8667, section 3.4, SRMS preference
    row 2 24 1 (part Label.preference u8 0 1 ∷ []) ∷
    -- RFC 9352, section 2, SRv6 Capabilities: Flags | sub-sub-TLVs
    row 2 25 2 (part Label.srv6_flags u16 0 2 ∷ push 2 ∷ []) ∷
    -- RFC 8667, sections 2.3 and 2.4.5, SID/Label
    row 3 1 3 (sid 0 ∷ []) ∷
    -- RFC 9352, section 9, SRv6 SID Structure: LB Length | LN Length | Fun. Length | Arg. Length
    row 4 1 4 (part Label.locator_block_length u8 0 1 ∷ part Label.locator_node_length u8 1 1 ∷ part Label.function_length u8 2 1 ∷ part Label.argument_length u8 3 1 ∷ []) ∷
    []

-- the fields that rows give a value of n octets; none where its type is unknown or it is too short
unfoldable pub fields_of : List Row → ℕ → ℕ → ℕ → List Field
fields_of [] registry t n = []
fields_of (row registry' t' least fields ∷ rows) registry t n =
    cond (eqb registry registry' && (eqb t t' && leb least n)) fields (fields_of rows registry t n)

-- the table's reading
unfoldable pub usual : Plan
usual registry t v = fields_of table registry t (length v)
