-- Layouts, said a second time: each octet is made of its fields, and each field has its width. So every field of Args, Table, Entry,
-- Rule, Policy, Ipv6, Srh, Ipv4 and Gtpu is pinned: no other reader has these octets.
use Rattle.std.specs.Prelude.{◌≡◌, ◌≢◌, List, [], ℕ, ◌+◌, ◌-◌, ◌*◌, ◌/◌, ◌%◌, ◌^◌, ◌<◌, length, get_or}
use Rattle.rules.specs.Octets.{octet}
use Rattle.rules.specs.Args.{args_at}
use Rattle.rules.specs.Table as Table
use Rattle.rules.specs.Entry as Entry
use Rattle.rules.specs.Rule as Rule
use Rattle.rules.specs.Policy as Policy
use Rattle.rules.specs.Ipv6 as Ipv6
use Rattle.rules.specs.Srh as Srh
use Rattle.rules.specs.Ipv4 as Ipv4
use Rattle.rules.specs.Gtpu as Gtpu

-- FIELDS IN GENERAL

-- a field of n bits
abbrev pub Bits : (n field : ℕ) → Type 0
Bits n field = field < 2 ^ n

-- a field of the 16 bits at octets i and i + 1, most significant octet first
pub record Number16 (s : List ℕ) (i field : ℕ) : Type 0 where
  pub high : octet s i ≡ field / 256
  pub low : octet s (i + 1) ≡ field % 256

-- a field of the n octets from octet i on
pub record Part (s : List ℕ) (i n : ℕ) (field : List ℕ) : Type 0 where
  pub size : length field ≡ n
  pub octets : (k : ℕ) → k < n → octet field k ≡ octet s (i + k)

-- HEADERS

-- IPv6 (RFC 8200, 3)
pub record Ipv6Octets (p : List ℕ) : Type 0 where
  pub octet0 : octet p 0 ≡ Ipv6.version p * 16 + Ipv6.traffic_class p / 16
  pub octet1 : octet p 1 ≡ Ipv6.traffic_class p % 16 * 16 + Ipv6.flow_label p / 65536
  pub octets2and3 : Number16 p 2 (Ipv6.flow_label p % 65536)
  pub version : Bits 4 (Ipv6.version p)
  pub trafficClass : Bits 8 (Ipv6.traffic_class p)
  pub flow_label : Bits 20 (Ipv6.flow_label p)
  pub payloadLength : Number16 p 4 (Ipv6.payload_length p)
  pub nextHeader : octet p 6 ≡ Ipv6.next_header p
  pub hopLimit : octet p 7 ≡ Ipv6.hop_limit p
  pub source : Part p 8 16 (Ipv6.source p)
  pub destination : Part p 24 16 (Ipv6.destination p)

-- SRH (RFC 8754, 2) behind an IPv6 header of 40 octets
pub record SrhOctets (p : List ℕ) : Type 0 where
  pub nextHeader : octet p 40 ≡ Srh.next_header p
  pub units : octet p 41 ≡ Srh.units p
  pub routingType : octet p 42 ≡ Srh.routing_type p
  pub segmentsLeft : octet p 43 ≡ Srh.segments_left p
  pub lastEntry : octet p 44 ≡ Srh.last_entry p
  pub flags : octet p 45 ≡ Srh.flags p
  pub tag : Number16 p 46 (Srh.tag p)
  pub segment : (k : ℕ) → Part p (48 + 16 * k) 16 (Srh.segment p k)

-- IPv4 (RFC 791)
pub record Ipv4Octets (p : List ℕ) : Type 0 where
  pub octet0 : octet p 0 ≡ Ipv4.version p * 16 + Ipv4.header_length p
  pub version : Bits 4 (Ipv4.version p)
  pub headerLength : Bits 4 (Ipv4.header_length p)
  pub tos : octet p 1 ≡ Ipv4.tos p
  pub totalLength : Number16 p 2 (Ipv4.total_length p)
  pub identification : Number16 p 4 (Ipv4.identification p)
  pub octet6 : octet p 6 ≡ Ipv4.reserved_bit p * 128 + Ipv4.dont_fragment p * 64 + Ipv4.more_fragments p * 32 + Ipv4.fragment_offset p / 256
  pub octet7 : octet p 7 ≡ Ipv4.fragment_offset p % 256
  pub reserved_bit : Bits 1 (Ipv4.reserved_bit p)
  pub dont_fragment : Bits 1 (Ipv4.dont_fragment p)
  pub moreFragments : Bits 1 (Ipv4.more_fragments p)
  pub fragmentOffset : Bits 13 (Ipv4.fragment_offset p)
  pub ttl : octet p 8 ≡ Ipv4.ttl p
  pub protocol : octet p 9 ≡ Ipv4.protocol p
  pub header_checksum : Number16 p 10 (Ipv4.header_checksum p)
  pub source : Part p 12 4 (Ipv4.source p)
  pub destination : Part p 16 4 (Ipv4.destination p)

-- UDP (RFC 768), the GTP-U message in it (TS 29.281) with its four further octets, and a PDU Session container (TS 38.415)
pub record GtpuOctets (u : List ℕ) : Type 0 where
  pub source_port : Number16 u 0 (Gtpu.source_port u)
  pub destinationPort : Number16 u 2 (Gtpu.destination_port u)
  pub udp_length : Number16 u 4 (Gtpu.udp_length u)
  pub udp_checksum : Number16 u 6 (Gtpu.udp_checksum u)
  pub octet8 : octet u 8
      ≡ Gtpu.version u * 32 + Gtpu.protocol_type u * 16 + Gtpu.spare_bit u * 8 + Gtpu.extension_flag u * 4 + Gtpu.sequence_flag u * 2
      + Gtpu.n_pdu_flag u
  pub version : Bits 3 (Gtpu.version u)
  pub protocol_type : Bits 1 (Gtpu.protocol_type u)
  pub spare_bit : Bits 1 (Gtpu.spare_bit u)
  pub extension_flag : Bits 1 (Gtpu.extension_flag u)
  pub sequence_flag : Bits 1 (Gtpu.sequence_flag u)
  pub n_pdu_flag : Bits 1 (Gtpu.n_pdu_flag u)
  pub messageType : octet u 9 ≡ Gtpu.message_type u
  pub messageLength : Number16 u 10 (Gtpu.message_length u)
  pub teid : Part u 12 4 (Gtpu.teid u)
  pub sequence_number : Number16 u 16 (Gtpu.sequence_number u)
  pub n_pdu_number : octet u 18 ≡ Gtpu.n_pdu_number u
  pub extensionType : octet u 19 ≡ Gtpu.extension_type u
  pub extensionUnits : octet u 20 ≡ Gtpu.extension_units u
  pub octet21 : octet u 21 ≡ Gtpu.pdu_type u * 16 + Gtpu.pdu_type_rest u
  pub octet22 : octet u 22 ≡ Gtpu.top_bit u * 128 + Gtpu.reflective_bit u * 64 + Gtpu.qfi u
  pub pduType : Bits 4 (Gtpu.pdu_type u)
  pub pdu_type_rest : Bits 4 (Gtpu.pdu_type_rest u)
  pub top_bit : Bits 1 (Gtpu.top_bit u)
  pub reflective_bit : Bits 1 (Gtpu.reflective_bit u)
  pub qfi : Bits 6 (Gtpu.qfi u)
  -- R is the reflective bit in downlink only
  pub in_downlink : Gtpu.pdu_type u ≡ 0 → Gtpu.reflective u ≡ Gtpu.reflective_bit u
  pub otherwise : Gtpu.pdu_type u ≢ 0 → Gtpu.reflective u ≡ 0
  -- the extension's last octet, and the octets behind it
  pub followingType : octet u (20 + 4 * Gtpu.extension_units u - 1) ≡ Gtpu.following_type u
  pub inner_of : Part u (20 + 4 * Gtpu.extension_units u) (length u - (20 + 4 * Gtpu.extension_units u)) (Gtpu.inner_of u)

-- Args.Mob.Session (RFC 9433, 6.1) in a SID from bit `start` on; the last bit of its first octet is U
pub record ArgsOctets (sid : List ℕ) (start : ℕ) : Type 0 where
  pub first : octet sid (start / 8) ≡ (args_at sid start).qfi * 4 + (args_at sid start).reflective * 2 + octet sid (start / 8) % 2
  pub qfi : Bits 6 (args_at sid start).qfi
  pub reflective : Bits 1 (args_at sid start).reflective
  pub teid : Part sid (start / 8 + 1) 4 (args_at sid start).teid

-- THE TABLE (HOUSE)

-- header of 16 octets, entries of 64, rules of 160, policies of 288
pub record TableOctets (t : List ℕ) : Type 0 where
  pub format : octet t 0 ≡ Table.format t
  pub entries : Number16 t 2 (Table.entries t)
  pub rules : Number16 t 4 (Table.rules t)
  pub policies : Number16 t 6 (Table.policies t)
  pub entry : (i : ℕ) → Part t (16 + 64 * i) 64 (Table.entry_at t i)
  pub rule : (k : ℕ) → Part t (16 + 64 * Table.entries t + 160 * k) 160 (Table.rule_at t k)
  pub policy : (j : ℕ) → Part t (16 + 64 * Table.entries t + 160 * Table.rules t + 288 * j) 288 (Table.policy_at t j)

pub record EntryOctets (e : List ℕ) : Type 0 where
  pub behaviour : octet e 0 ≡ Entry.behaviour e
  pub prefix_length : octet e 1 ≡ Entry.prefix_length e
  pub hopLimit : octet e 2 ≡ Entry.hop_limit e
  pub direction : octet e 3 ≡ Entry.direction e
  pub session : octet e 4 ≡ Entry.session e
  pub policy : octet e 5 ≡ Entry.policy e
  pub start : octet e 6 ≡ Entry.start e
  pub p : octet e 7 ≡ Entry.p e
  pub q : octet e 8 ≡ Entry.q e
  pub zero_checksum : octet e 9 ≡ Entry.zero_checksum e
  pub source_port : Number16 e 10 (Entry.source_port e)
  pub prefix : Part e 16 16 (Entry.prefix e)
  pub source : Part e 32 16 (Entry.source e)

pub record RuleOctets (r : List ℕ) : Type 0 where
  pub prefix_length : octet r 0 ≡ Rule.prefix_length r
  pub hopLimit : octet r 1 ≡ Rule.hop_limit r
  pub direction : octet r 2 ≡ Rule.direction r
  pub session : octet r 3 ≡ Rule.session r
  pub p : octet r 4 ≡ Rule.p r
  pub q : octet r 5 ≡ Rule.q r
  pub waypoint_count : octet r 6 ≡ Rule.waypoint_count r
  pub reserved : octet r 7 ≡ Rule.reserved r
  pub prefix : Part r 8 4 (Rule.prefix r)
  pub sid_prefix : Part r 16 16 (Rule.sid_prefix r)
  pub source_prefix : Part r 32 16 (Rule.source_prefix r)
  pub waypoints : length (Rule.waypoints r) ≡ Rule.waypoint_count r
  pub waypoint : (k : ℕ) → k < Rule.waypoint_count r → Part r (48 + 16 * k) 16 (get_or (Rule.waypoints r) k [])

pub record PolicyOctets (policy : List ℕ) : Type 0 where
  pub sid_count : octet policy 0 ≡ Policy.sid_count policy
  pub start : octet policy 1 ≡ Policy.start policy
  pub reserved : octet policy 2 ≡ Policy.reserved policy
  pub waypoints : length (Policy.waypoints policy) ≡ Policy.sid_count policy - 1
  pub waypoint : (k : ℕ) → k < Policy.sid_count policy - 1 → Part policy (16 + 16 * k) 16 (get_or (Policy.waypoints policy) k [])
  pub last_sid : Part policy (16 + 16 * (Policy.sid_count policy - 1)) 16 (Policy.last_sid policy)
