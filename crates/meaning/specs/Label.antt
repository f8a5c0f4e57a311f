-- The labels of document 01, 'The tape': 0 to 46 are the field numbers of docs/src, 47 to 56 are those that 01 adds.
use Rattle.std.specs.Prelude.{ℕ}

-- the labels, by their names in docs/src
pub data Label : Type 0 where
  type length value raw sub_tlvs admin_group local_identifier remote_identifier : Label
  ipv4_interface_address ipv4_neighbor_address ipv6_interface_address ipv6_neighbor_address max_bandwidth max_reservable_bandwidth unreserved_bandwidth te_default_metric : Label
  flags weight algorithm sid neighbor_system_id anomalous delay min_delay : Label
  max_delay delay_variation link_loss bandwidth endpoint_behavior srv6_sid locator_block_length locator_node_length : Label
  function_length argument_length tags flag_x flag_r flag_n ipv4_source_router_id ipv6_source_router_id : Label
  ranges algorithms msds preference srv6_flags ipv4_te_router_id ipv6_te_router_id sub_tlv : Label
  range range_size range_sid msd msd_type msd_value bandwidth_element tag : Label
  algorithm_element : Label

-- the number of a label
abbrev pub number : Label → ℕ
number type = 0
number length = 1
number value = 2
number raw = 3
number sub_tlvs = 4
number admin_group = 5
number local_identifier = 6
number remote_identifier = 7
number ipv4_interface_address = 8
number ipv4_neighbor_address = 9
number ipv6_interface_address = 10
number ipv6_neighbor_address = 11
number max_bandwidth = 12
number max_reservable_bandwidth = 13
number unreserved_bandwidth = 14
number te_default_metric = 15
number flags = 16
number weight = 17
number algorithm = 18
number sid = 19
number neighbor_system_id = 20
number anomalous = 21
number delay = 22
number min_delay = 23
number max_delay = 24
number delay_variation = 25
number link_loss = 26
number bandwidth = 27
number endpoint_behavior = 28
number srv6_sid = 29
number locator_block_length = 30
number locator_node_length = 31
number function_length = 32
number argument_length = 33
number tags = 34
number flag_x = 35
number flag_r = 36
number flag_n = 37
number ipv4_source_router_id = 38
number ipv6_source_router_id = 39
number ranges = 40
number algorithms = 41
number msds = 42
number preference = 43
number srv6_flags = 44
number ipv4_te_router_id = 45
number ipv6_te_router_id = 46
number sub_tlv = 47
number range = 48
number range_size = 49
number range_sid = 50
number msd = 51
number msd_type = 52
number msd_value = 53
number bandwidth_element = 54
number tag = 55
number algorithm_element = 56
