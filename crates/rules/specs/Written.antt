-- What is written, read back: each field of each packet that we send, through the readers of the layouts and in plain numbers. No
-- writer is named here.
use Rattle.std.specs.Prelude.{◌≡◌, ◌≢◌, List, [], ◌∷◌, ℕ, ◌+◌, ◌-◌, ◌*◌, ◌/◌, ◌%◌, ◌≤◌, ◌<◌, length, drop}
use Rattle.rules.specs.Octets.{octet, window}
use Rattle.rules.specs.Args.{Args, args_at}
use Rattle.rules.specs.Entry as Entry
use Rattle.rules.specs.Rule as Rule
use Rattle.rules.specs.Policy as Policy
use Rattle.rules.specs.Ipv6 as Ipv6
use Rattle.rules.specs.Srh as Srh
use Rattle.rules.specs.Ipv4 as Ipv4
use Rattle.rules.specs.Gtpu as Gtpu
use Rattle.rules.specs.Carried.{Carried}
use Rattle.rules.specs.AddsUp.{AddsUp}

-- HEADERS

-- IPv6 (RFC 8200, 3) with a payload of some octets; flow label 0 (house)
pub record Ipv6Fields (p : List ℕ) (class payload hops : ℕ) : Type 0 where
  pub version : Ipv6.version p ≡ 6
  pub trafficClass : Ipv6.traffic_class p ≡ class
  pub flow_label : Ipv6.flow_label p ≡ 0
  pub payloadLength : Ipv6.payload_length p ≡ payload
  pub hopLimit : Ipv6.hop_limit p ≡ hops
  pub size : length p ≡ 40 + payload

-- SRH (RFC 8754, 2) behind the IPv6 header, with SL = LE = last, so of last + 1 segments, and the inner octets behind it: flags 0, tag 0,
-- no TLVs
pub record SrhFields (p : List ℕ) (last : ℕ) (inner : List ℕ) : Type 0 where
  pub units : Srh.units p ≡ 2 * (last + 1)
  pub routingType : Srh.routing_type p ≡ 4
  pub segmentsLeft : Srh.segments_left p ≡ last
  pub lastEntry : Srh.last_entry p ≡ last
  pub flags : Srh.flags p ≡ 0
  pub tag : Srh.tag p ≡ 0
  pub behind : drop (48 + 16 * (last + 1)) p ≡ inner

-- IPv4 (RFC 791): no options, identification 0, DF set, right header checksum (house); UDP
pub record Ipv4Fields (p : List ℕ) (class total hops : ℕ) (from to : List ℕ) : Type 0 where
  pub version : Ipv4.version p ≡ 4
  pub headerLength : Ipv4.header_length p ≡ 5
  pub tos : Ipv4.tos p ≡ class
  pub totalLength : Ipv4.total_length p ≡ total
  pub identification : Ipv4.identification p ≡ 0
  pub reserved_bit : Ipv4.reserved_bit p ≡ 0
  pub dont_fragment : Ipv4.dont_fragment p ≡ 1
  pub moreFragments : Ipv4.more_fragments p ≡ 0
  pub fragmentOffset : Ipv4.fragment_offset p ≡ 0
  pub ttl : Ipv4.ttl p ≡ hops
  pub protocol : Ipv4.protocol p ≡ 17
  pub headerSum : Ipv4.header_sum p ≡ 0xffff
  pub source : Ipv4.source p ≡ from
  pub destination : Ipv4.destination p ≡ to
  pub size : length p ≡ total

-- UDP (RFC 768): destination 2152
pub record UdpFields (u : List ℕ) (port bytes : ℕ) : Type 0 where
  pub source_port : Gtpu.source_port u ≡ port
  pub destinationPort : Gtpu.destination_port u ≡ 2152
  pub udp_length : Gtpu.udp_length u ≡ bytes
  pub size : length u ≡ bytes

-- GTP-U (TS 29.281): a G-PDU with E only, sequence and N-PDU number 0, one PDU Session container (TS 38.415) of one unit in the entry's
-- direction, which holds QFI and, in downlink only, R; its other bits are 0 (house)
pub record GtpuFields (u : List ℕ) (direction : ℕ) (args : Args) (inner : List ℕ) : Type 0 where
  pub version : Gtpu.version u ≡ 1
  pub protocol_type : Gtpu.protocol_type u ≡ 1
  pub spare_bit : Gtpu.spare_bit u ≡ 0
  pub extension_flag : Gtpu.extension_flag u ≡ 1
  pub sequence_flag : Gtpu.sequence_flag u ≡ 0
  pub n_pdu_flag : Gtpu.n_pdu_flag u ≡ 0
  pub messageType : Gtpu.message_type u ≡ 255
  pub messageLength : Gtpu.message_length u ≡ 8 + length inner
  pub teid : Gtpu.teid u ≡ args.teid
  pub sequence_number : Gtpu.sequence_number u ≡ 0
  pub n_pdu_number : Gtpu.n_pdu_number u ≡ 0
  pub extensionType : Gtpu.extension_type u ≡ 0x85
  pub extensionUnits : Gtpu.extension_units u ≡ 1
  pub pduType : Gtpu.pdu_type u ≡ direction
  pub pdu_type_rest : Gtpu.pdu_type_rest u ≡ 0
  pub qfi : Gtpu.qfi u ≡ args.qfi
  pub in_downlink : direction ≡ 0 → Gtpu.reflective_bit u ≡ args.reflective
  pub in_uplink : direction ≡ 1 → Gtpu.reflective_bit u ≡ 0
  pub top_bit : Gtpu.top_bit u ≡ 0
  pub followingType : Gtpu.following_type u ≡ 0
  pub inner_octets : Gtpu.inner_of u ≡ inner

-- UDP and an Echo Response (TS 29.281, 7.2.2) to the datagram `request`: from 2152 to its source port, with its sequence number; S only,
-- TEID 0, N-PDU number and next type 0, and behind these one Recovery element with restart counter 0
pub record EchoFields (u request : List ℕ) : Type 0 where
  pub source_port : Gtpu.source_port u ≡ 2152
  pub destinationPort : Gtpu.destination_port u ≡ Gtpu.source_port request
  pub udp_length : Gtpu.udp_length u ≡ 22
  pub size : length u ≡ 22
  pub version : Gtpu.version u ≡ 1
  pub protocol_type : Gtpu.protocol_type u ≡ 1
  pub spare_bit : Gtpu.spare_bit u ≡ 0
  pub extension_flag : Gtpu.extension_flag u ≡ 0
  pub sequence_flag : Gtpu.sequence_flag u ≡ 1
  pub n_pdu_flag : Gtpu.n_pdu_flag u ≡ 0
  pub messageType : Gtpu.message_type u ≡ 2
  pub messageLength : Gtpu.message_length u ≡ 6
  pub teid : Gtpu.teid u ≡ 0 ∷ 0 ∷ 0 ∷ 0 ∷ []
  pub sequence_number : Gtpu.sequence_number u ≡ Gtpu.sequence_number request
  pub n_pdu_number : Gtpu.n_pdu_number u ≡ 0
  pub extensionType : Gtpu.extension_type u ≡ 0
  pub elements : drop 20 u ≡ 14 ∷ 0 ∷ []

-- The UDP checksum of what is sent over IPv6 (RFC 8200, 8.1): it is not 0, and its datagram u adds up with it. No other number is both.
pub record TrueChecksum (source destination u : List ℕ) : Type 0 where
  pub sent : Gtpu.udp_checksum u ≢ 0
  pub small : Gtpu.udp_checksum u ≤ 0xffff
  pub adds : AddsUp source destination u

-- next header: 4, 41 or 143 for IPv4, IPv6 or Ethernet sessions; an IPv4v6 session takes 4 or 41 from the inner first nibble
pub record SessionHeader (session next : ℕ) (inner : List ℕ) : Type 0 where
  pub ipv4 : session ≡ 1 → next ≡ 4
  pub ipv6 : session ≡ 2 → next ≡ 41
  pub ethernet : session ≡ 5 → next ≡ 143
  pub nibble4 : session ≡ 3 → octet inner 0 / 16 ≡ 4 → next ≡ 4
  pub nibble6 : session ≡ 3 → octet inner 0 / 16 ≡ 6 → next ≡ 41

-- ADDRESSES

-- SID k of a policy and waypoint k of a rule, from 0, in order of travel
abbrev pub sid_of : (policy : List ℕ) (k : ℕ) → List ℕ
sid_of policy k = window policy (16 + 16 * k) 16

abbrev pub waypoint_of : (r : List ℕ) (k : ℕ) → List ℕ
waypoint_of r k = window r (48 + 16 * k) 16

-- a SID with Args from bit `start` on (RFC 9433, 6.1), U 0; its other bits are those of a SID of the policy
pub record WithArgs (sid : List ℕ) (start : ℕ) (args : Args) (plain : List ℕ) : Type 0 where
  pub carries : args_at sid start ≡ args
  pub unused : octet sid (start / 8) % 2 ≡ 0
  pub before : window sid 0 (start / 8) ≡ window plain 0 (start / 8)
  pub after : window sid (start / 8 + 5) (11 - start / 8) ≡ window plain (start / 8 + 5) (11 - start / 8)

-- the SID that a rule builds (RFC 9433, 6.6): prefix of p octets, IPv4 destination, Args with U 0, zeros
pub record SidBuilt (sid : List ℕ) (r : List ℕ) (c : Carried) : Type 0 where
  pub prefix : window sid 0 (Rule.p r) ≡ window (Rule.sid_prefix r) 0 (Rule.p r)
  pub destination : window sid (Rule.p r) 4 ≡ c.destination
  pub carries : args_at sid (8 * (Rule.p r + 4)) ≡ c.args
  pub unused : octet sid (Rule.p r + 4) % 2 ≡ 0
  pub padding : (i : ℕ) → Rule.p r + 9 ≤ i → octet sid i ≡ 0

-- the source that it builds: prefix of q octets, IPv4 source, zeros
pub record SourceBuilt (address : List ℕ) (r : List ℕ) (c : Carried) : Type 0 where
  pub prefix : window address 0 (Rule.q r) ≡ window (Rule.source_prefix r) 0 (Rule.q r)
  pub source : window address (Rule.q r) 4 ≡ c.source
  pub padding : (i : ℕ) → Rule.q r + 4 ≤ i → octet address i ≡ 0

-- PACKETS p, FROM ENTRY e OR RULE r AND CARRIED VALUES c

-- D: SRH with the policy's n SIDs, SL = LE = n - 1. Args go into the last SID, which is SRH[0]; SID k is SRH[n - 1 - k]. Destination is
-- the first SID, with Args if n is 1.
pub record WrittenD (e policy : List ℕ) (c : Carried) (p : List ℕ) : Type 0 where
  pub ipv6 : Ipv6Fields p c.trafficClass (8 + 16 * Policy.sid_count policy + length c.inner) (Entry.hop_limit e)
  pub nextHeader : Ipv6.next_header p ≡ 43
  pub source : Ipv6.source p ≡ Entry.source e
  pub first : 1 < Policy.sid_count policy → Ipv6.destination p ≡ sid_of policy 0
  pub only : Policy.sid_count policy ≡ 1 → WithArgs (Ipv6.destination p) (Policy.start policy) c.args (Policy.last_sid policy)
  pub srh : SrhFields p (Policy.sid_count policy - 1) c.inner
  pub session : SessionHeader (Entry.session e) (Srh.next_header p) c.inner
  pub sids : (k : ℕ) → k < Policy.sid_count policy - 1 → Srh.segment p (Policy.sid_count policy - 1 - k) ≡ sid_of policy k
  pub last_sid : WithArgs (Srh.segment p 0) (Policy.start policy) c.args (Policy.last_sid policy)

-- Di: as D, but the arriving destination is placed after the last SID as SRH[0]; SL = LE = n. Args are in SRH[1].
pub record WrittenDi (e policy : List ℕ) (c : Carried) (p : List ℕ) : Type 0 where
  pub ipv6 : Ipv6Fields p c.trafficClass (8 + 16 * (Policy.sid_count policy + 1) + length c.inner) (Entry.hop_limit e)
  pub nextHeader : Ipv6.next_header p ≡ 43
  pub source : Ipv6.source p ≡ Entry.source e
  pub first : 1 < Policy.sid_count policy → Ipv6.destination p ≡ sid_of policy 0
  pub only : Policy.sid_count policy ≡ 1 → WithArgs (Ipv6.destination p) (Policy.start policy) c.args (Policy.last_sid policy)
  pub srh : SrhFields p (Policy.sid_count policy) c.inner
  pub session : SessionHeader (Entry.session e) (Srh.next_header p) c.inner
  pub sids : (k : ℕ) → k < Policy.sid_count policy - 1 → Srh.segment p (Policy.sid_count policy - k) ≡ sid_of policy k
  pub last_sid : WithArgs (Srh.segment p 1) (Policy.start policy) c.args (Policy.last_sid policy)
  pub arriving : Srh.segment p 0 ≡ c.destination

-- D4 with waypoints: SRH of the n waypoints, then the SID that the rule builds, which is SRH[0]; SL = LE = n. Destination is the first
-- waypoint, source is built.
pub record WrittenD4Past (r : List ℕ) (c : Carried) (p : List ℕ) : Type 0 where
  pub ipv6 : Ipv6Fields p c.trafficClass (8 + 16 * (Rule.waypoint_count r + 1) + length c.inner) (Rule.hop_limit r)
  pub nextHeader : Ipv6.next_header p ≡ 43
  pub source : SourceBuilt (Ipv6.source p) r c
  pub first : Ipv6.destination p ≡ waypoint_of r 0
  pub srh : SrhFields p (Rule.waypoint_count r) c.inner
  pub session : SessionHeader (Rule.session r) (Srh.next_header p) c.inner
  pub waypoints : (k : ℕ) → k < Rule.waypoint_count r → Srh.segment p (Rule.waypoint_count r - k) ≡ waypoint_of r k
  pub sid : SidBuilt (Srh.segment p 0) r c

-- D4 with no waypoints: there is no SRH; destination is the SID that the rule builds
pub record WrittenD4Plain (r : List ℕ) (c : Carried) (p : List ℕ) : Type 0 where
  pub ipv6 : Ipv6Fields p c.trafficClass (length c.inner) (Rule.hop_limit r)
  pub session : SessionHeader (Rule.session r) (Ipv6.next_header p) c.inner
  pub source : SourceBuilt (Ipv6.source p) r c
  pub sid : SidBuilt (Ipv6.destination p) r c
  pub behind : drop 40 p ≡ c.inner

pub record WrittenD4 (r : List ℕ) (c : Carried) (p : List ℕ) : Type 0 where
  pub past : 0 < Rule.waypoint_count r → WrittenD4Past r c p
  pub plain : Rule.waypoint_count r ≡ 0 → WrittenD4Plain r c p

-- E6: to the destination carried, UDP and GTP-U behind the IPv6 header
pub record WrittenE6 (e : List ℕ) (c : Carried) (p : List ℕ) : Type 0 where
  pub ipv6 : Ipv6Fields p c.trafficClass (24 + length c.inner) (Entry.hop_limit e)
  pub nextHeader : Ipv6.next_header p ≡ 17
  pub source : Ipv6.source p ≡ Entry.source e
  pub destination : Ipv6.destination p ≡ c.destination
  pub udp : UdpFields (drop 40 p) (Entry.source_port e) (24 + length c.inner)
  pub checksum : TrueChecksum (Ipv6.source p) (Ipv6.destination p) (drop 40 p)
  pub gtpu : GtpuFields (drop 40 p) (Entry.direction e) c.args c.inner

-- E4: between the IPv4 addresses carried, UDP and GTP-U behind the IPv4 header; over IPv4 the UDP checksum is 0 (house)
pub record WrittenE4 (e : List ℕ) (c : Carried) (p : List ℕ) : Type 0 where
  pub ipv4 : Ipv4Fields p c.trafficClass (44 + length c.inner) (Entry.hop_limit e) c.source c.destination
  pub udp : UdpFields (drop 20 p) (Entry.source_port e) (24 + length c.inner)
  pub checksum : Gtpu.udp_checksum (drop 20 p) ≡ 0
  pub gtpu : GtpuFields (drop 20 p) (Entry.direction e) c.args c.inner

-- The reply x to the Echo Request p, whose datagram is u, at the entry e of D or Di and at the rule r: addresses exchanged, the request's
-- traffic class (TOS), the entry's hop limit or the rule's TTL; no SRH
pub record WrittenEcho6 (e p u x : List ℕ) : Type 0 where
  pub ipv6 : Ipv6Fields x (Ipv6.traffic_class p) 22 (Entry.hop_limit e)
  pub nextHeader : Ipv6.next_header x ≡ 17
  pub source : Ipv6.source x ≡ Ipv6.destination p
  pub destination : Ipv6.destination x ≡ Ipv6.source p
  pub echo : EchoFields (drop 40 x) u
  pub checksum : TrueChecksum (Ipv6.source x) (Ipv6.destination x) (drop 40 x)

pub record WrittenEcho4 (r p u x : List ℕ) : Type 0 where
  pub ipv4 : Ipv4Fields x (Ipv4.tos p) 42 (Rule.hop_limit r) (Ipv4.destination p) (Ipv4.source p)
  pub echo : EchoFields (drop 20 x) u
  pub checksum : Gtpu.udp_checksum (drop 20 x) ≡ 0

-- Waypoint (RFC 8986, 4.1): packet p is copied to q; only hop limit (octet 7), destination (24 to 39) and SL (43) change
pub record WrittenWaypoint (p q : List ℕ) : Type 0 where
  pub size : length q ≡ length p
  pub hopLimit : Ipv6.hop_limit q ≡ Ipv6.hop_limit p - 1
  pub segmentsLeft : Srh.segments_left q ≡ Srh.segments_left p - 1
  pub destination : Ipv6.destination q ≡ Srh.segment p (Srh.segments_left p - 1)
  pub others : (i : ℕ) → i ≢ 7 → (24 ≤ i → 40 ≤ i) → i ≢ 43 → octet q i ≡ octet p i
