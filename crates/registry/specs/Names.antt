-- The names of the registries, as docs/src has them: one line a type.
use Rattle.std.specs.Prelude.{ℕ, cond, List, [], ◌∷◌, eqb, map}
use Prim.Native.String.{String, [] as none, ◌∷◌ as more}
use Prim.Native.Char.{code}
use Rattle.registry.specs.declared.Registry.{Registry}
use Rattle.registry.specs.declared.Registry.TheVariants.{Neighbor, Prefix, RouterCapability, Binding, Srv6Sid, Unregistered}

-- a type and its name
abbrev pub Name : Type 0
Name = ℕ × String

-- IANA, IS-IS Sub-TLVs for TLVs Advertising Neighbor Information
abbrev neighbor : List Name
neighbor =
    (3, "Administrative group (color)") ∷
    (4, "Link Local/Remote Identifiers") ∷
    (6, "IPv4 interface address") ∷
    (8, "IPv4 neighbor address") ∷
    (9, "Maximum link bandwidth") ∷
    (10, "Maximum reservable link bandwidth") ∷
    (11, "Unreserved bandwidth") ∷
    (12, "IPv6 Interface Address") ∷
    (13, "IPv6 Neighbor Address") ∷
    (14, "Extended Administrative Group") ∷
    (15, "Link MSD") ∷
    (16, "Application-Specific Link Attributes") ∷
    (17, "Generic Metric") ∷
    (18, "TE Default metric") ∷
    (19, "Link-attributes") ∷
    (20, "Link Protection Type") ∷
    (21, "Interface Switching Capability Descriptor") ∷
    (22, "Bandwidth Constraints") ∷
    (23, "Unconstrained TE LSP Count") ∷
    (24, "Remote AS Number") ∷
    (25, "IPv4 Remote ASBR Identifier") ∷
    (26, "IPv6 Remote ASBR Identifier") ∷
    (27, "Interface Adjustment Capability Descriptor (IACD)") ∷
    (28, "MTU") ∷
    (29, "SPB-Metric") ∷
    (30, "SPB-A-OALG") ∷
    (31, "Adjacency Segment Identifier") ∷
    (32, "LAN Adjacency Segment Identifier") ∷
    (33, "Unidirectional Link Delay") ∷
    (34, "Min/Max Unidirectional Link Delay") ∷
    (35, "Unidirectional Delay Variation") ∷
    (36, "Unidirectional Link Loss") ∷
    (37, "Unidirectional Residual Bandwidth") ∷
    (38, "Unidirectional Available Bandwidth") ∷
    (39, "Unidirectional Utilized Bandwidth") ∷
    (40, "RTM Capability") ∷
    (41, "L2 Bundle Member Adj-SID") ∷
    (42, "L2 Bundle Member LAN Adj-SID") ∷
    (43, "SRv6 End.X SID") ∷
    (44, "SRv6 LAN End.X SID") ∷
    (45, "IPv6 Local ASBR Identifier") ∷
    (161, "Flood Reflector Adjacency") ∷
    []

-- IANA, IS-IS Sub-TLVs for TLVs Advertising Prefix Reachability
abbrev prefix : List Name
prefix =
    (1, "32-bit Administrative Tag") ∷
    (2, "64-bit Administrative Tag") ∷
    (3, "Prefix Segment Identifier") ∷
    (4, "Prefix Attribute Flags") ∷
    (5, "SRv6 End SID") ∷
    (6, "Flexible Algorithm Prefix Metric (FAPM)") ∷
    (11, "IPv4 Source Router ID") ∷
    (12, "IPv6 Source Router ID") ∷
    (32, "BIER Info") ∷
    []

-- IANA, IS-IS Sub-TLVs for IS-IS Router CAPABILITY TLV
abbrev router_capability : List Name
router_capability =
    (1, "TE Node Capability Descriptor") ∷
    (2, "Segment Routing Capability") ∷
    (3, "TE-MESH-GROUP TLV (IPv4)") ∷
    (4, "TE-MESH-GROUP TLV (IPv6)") ∷
    (5, "PCED") ∷
    (6, "NICKNAME") ∷
    (7, "TREES") ∷
    (8, "TREE-RT-IDs") ∷
    (9, "TREE-USE-IDs") ∷
    (10, "INT-VLAN") ∷
    (11, "IPv4 TE Router ID") ∷
    (12, "IPv6 TE Router ID") ∷
    (13, "TRILL-VER") ∷
    (14, "VLAN-GROUP") ∷
    (15, "INT-LABEL") ∷
    (16, "RBCHANNELS") ∷
    (17, "AFFINITY") ∷
    (18, "LABEL-GROUP") ∷
    (19, "Segment Routing Algorithm") ∷
    (20, "S-BFD Discriminators") ∷
    (21, "Node-Admin-Tag") ∷
    (22, "Segment Routing Local Block (SRLB)") ∷
    (23, "Node MSD") ∷
    (24, "Segment Routing Mapping Server Preference (SRMS Preference)") ∷
    (25, "SRv6 Capabilities") ∷
    (26, "Flexible Algorithm Definition (FAD)") ∷
    (27, "IS-IS Area Leader") ∷
    (28, "IS-IS Dynamic Flooding") ∷
    (29, "IP Algorithm") ∷
    (30, "MP-TLV Support for TLVs with Implicit Support") ∷
    (161, "Flood Reflection Discovery") ∷
    []

-- IANA, IS-IS Sub-TLVs for Segment Identifier/Label Binding TLVs
abbrev binding : List Name
binding =
    (1, "SID/Label") ∷
    (3, "Prefix Segment Identifier") ∷
    []

-- IANA, IS-IS Sub-Sub-TLVs for SRv6 SID Sub-TLVs
abbrev srv6_sid : List Name
srv6_sid =
    (1, "SRv6 SID Structure") ∷
    []

-- the names of a registry; none are registered for sub-sub-TLVs of SRv6 Capabilities (RFC 9352, section 2)
abbrev pub names_of : Registry → List Name
names_of Neighbor = neighbor
names_of Prefix = prefix
names_of RouterCapability = router_capability
names_of Binding = binding
names_of Srv6Sid = srv6_sid
names_of Unregistered = []

-- the name that a list gives a type, empty where it gives none
unfoldable pub find : List Name → ℕ → String
find [] t = ""
find (n ∷ ns) t = cond (eqb n.0 t) n.1 (find ns t)

-- a text of ASCII as octets
abbrev pub as_octets : String → List ℕ
as_octets none = []
as_octets (more c s) = code c ∷ as_octets s

-- the octets of the name of a type in a registry
unfoldable pub name_of : Registry → ℕ → List ℕ
name_of registry t = as_octets (find (names_of registry) t)

-- names in octets, as the code has them
abbrev pub in_octets : List Name → List (ℕ × List ℕ)
in_octets names = map (λ n. (n.0, as_octets n.1)) names
