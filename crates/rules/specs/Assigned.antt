-- Numbers that the standards assign.
use Rattle.std.specs.Prelude.{ℕ}

-- IPv6 next headers and IPv4 protocols (IANA)
abbrev pub hop_by_hop : ℕ
hop_by_hop = 0

abbrev pub ipv4_protocol : ℕ
ipv4_protocol = 4

abbrev pub udp_protocol : ℕ
udp_protocol = 17

abbrev pub ipv6_protocol : ℕ
ipv6_protocol = 41

abbrev pub routing_header : ℕ
routing_header = 43

abbrev pub fragment_header : ℕ
fragment_header = 44

abbrev pub icmpv6_protocol : ℕ
icmpv6_protocol = 58

abbrev pub destination_options : ℕ
destination_options = 60

abbrev pub ethernet_protocol : ℕ
ethernet_protocol = 143

-- routing type of the SRH (RFC 8754)
abbrev pub segment_routing : ℕ
segment_routing = 4

-- behaviours (RFC 8986, RFC 9433): waypoint, D, Di, E6, E4
abbrev pub end : ℕ
end = 1

abbrev pub end_m_gtp6d : ℕ
end_m_gtp6d = 69

abbrev pub end_m_gtp6d_di : ℕ
end_m_gtp6d_di = 70

abbrev pub end_m_gtp6e : ℕ
end_m_gtp6e = 71

abbrev pub end_m_gtp4e : ℕ
end_m_gtp4e = 72

-- PDU session types (TS 24.501)
abbrev pub ipv4_session : ℕ
ipv4_session = 1

abbrev pub ipv6_session : ℕ
ipv6_session = 2

abbrev pub ipv4v6_session : ℕ
ipv4v6_session = 3

abbrev pub ethernet_session : ℕ
ethernet_session = 5

-- PDU types of the container (TS 38.415), and the directions of entries and rules
abbrev pub downlink : ℕ
downlink = 0

abbrev pub uplink : ℕ
uplink = 1

-- UDP port, message types, type of the PDU Session container and of the Recovery element (TS 29.281)
abbrev pub gtpu_port : ℕ
gtpu_port = 2152

abbrev pub echo_request : ℕ
echo_request = 1

abbrev pub echo_response : ℕ
echo_response = 2

abbrev pub g_pdu : ℕ
g_pdu = 255

abbrev pub pdu_session_container : ℕ
pdu_session_container = 0x85

abbrev pub recovery : ℕ
recovery = 14

-- ICMPv6 types (RFC 4443, RFC 4861): two error messages, and Redirect
abbrev pub time_exceeded : ℕ
time_exceeded = 3

abbrev pub parameter_problem : ℕ
parameter_problem = 4

abbrev pub redirect : ℕ
redirect = 137
