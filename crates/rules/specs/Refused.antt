-- What is refused, said a second time: for each answer number when it is given, through the readers of the layouts and in plain numbers.
-- No row list, no view and no test is named here.
use Rattle.std.specs.Prelude.{◌≡◌, ◌≢◌, Bool, false, cond, List, [], ◌∷◌, ℕ, ◌+◌, ◌-◌, ◌*◌, ◌^◌, ◌/◌, ◌%◌, ◌≤◌, ◌<◌, eqb, length, drop}
use Rattle.std.specs.Prelude.{Some}
use Rattle.rules.specs.Exactly.{Exactly}
use Rattle.rules.specs.Octets.{octet, read16, number}
use Rattle.rules.specs.Table.{entries, rules, entry_at, rule_at, policy_at}
use Rattle.rules.specs.Entry as Entry
use Rattle.rules.specs.Rule as Rule
use Rattle.rules.specs.Policy as Policy
use Rattle.rules.specs.SoundTable.{SoundTable}
use Rattle.rules.specs.Match.{match_entry, match_rule}
use Rattle.rules.specs.Ipv6 as Ipv6
use Rattle.rules.specs.Srh as Srh
use Rattle.rules.specs.Ipv4 as Ipv4
use Rattle.rules.specs.Gtpu as Gtpu
use Rattle.rules.specs.AddsUp.{AddsUp}

-- THE UPPER LAYER OF AN IPV6 PACKET: behind the SRH where there is one, else behind the IPv6 header

-- its number, and where it begins
abbrev pub upper : List ℕ → ℕ
upper p = cond (eqb (Ipv6.next_header p) 43) (Srh.next_header p) (Ipv6.next_header p)

abbrev pub upper_at : List ℕ → ℕ
upper_at p = cond (eqb (Ipv6.next_header p) 43) (48 + 8 * Srh.units p) 40

abbrev pub behind : List ℕ → List ℕ
behind p = drop (upper_at p) p

-- 2: shorter than 40 (IPv4: 20) octets, wrong version, or the length field disagrees with the packet lent

pub data Malformed6 (p : List ℕ) : Type 0 where
  short : length p < 40 → Malformed6 p
  version : Ipv6.version p ≢ 6 → Malformed6 p
  length_field : 40 + Ipv6.payload_length p ≢ length p → Malformed6 p

pub data Malformed4 (p : List ℕ) : Type 0 where
  short : length p < 20 → Malformed4 p
  version : Ipv4.version p ≢ 4 → Malformed4 p
  length_field : Ipv4.total_length p ≢ length p → Malformed4 p

-- 3: header length not 5, wrong checksum, a fragment: More Fragments or an offset, the low fourteen bits of octets 6 and 7 (RFC 791)

pub data BadIpv4 (p : List ℕ) : Type 0 where
  header_length : Ipv4.header_length p ≢ 5 → BadIpv4 p
  checksum : Ipv4.header_sum p ≢ 0xffff → BadIpv4 p
  fragment : read16 p 6 % 0x4000 ≢ 0 → BadIpv4 p

-- 4: for no entry, and for no rule, are the first bits of the destination those of its prefix

abbrev pub NoEntry : (p t : List ℕ) → Type 0
NoEntry p t =
    (i : ℕ) → i < entries t
    → number (Ipv6.destination p) 0 16 / 2 ^ (128 - Entry.prefix_length (entry_at t i))
    ≢ number (Entry.prefix (entry_at t i)) 0 16 / 2 ^ (128 - Entry.prefix_length (entry_at t i))

abbrev pub NoRule : (p t : List ℕ) → Type 0
NoRule p t =
    (k : ℕ) → k < rules t
    → number (Ipv4.destination p) 0 4 / 2 ^ (32 - Rule.prefix_length (rule_at t k))
    ≢ number (Rule.prefix (rule_at t k)) 0 4 / 2 ^ (32 - Rule.prefix_length (rule_at t k))

-- 5: next header 0, 44 or 60 in the chain, a second 43, routing type not 4, SRH cut short: fewer octets left than 8, or than its length
-- field says

pub data BadChain (p : List ℕ) : Type 0 where
  hop_by_hop : Ipv6.next_header p ≡ 0 → BadChain p
  fragment : Ipv6.next_header p ≡ 44 → BadChain p
  destination_options : Ipv6.next_header p ≡ 60 → BadChain p
  srh_short : Ipv6.next_header p ≡ 43 → length p < 40 + 8 → BadChain p
  srh_cut_short : Ipv6.next_header p ≡ 43 → length p < 40 + 8 + 8 * Srh.units p → BadChain p
  routing_type : Ipv6.next_header p ≡ 43 → Srh.routing_type p ≢ 4 → BadChain p
  hop_by_hop_behind : Ipv6.next_header p ≡ 43 → Srh.next_header p ≡ 0 → BadChain p
  routing_behind : Ipv6.next_header p ≡ 43 → Srh.next_header p ≡ 43 → BadChain p
  fragment_behind : Ipv6.next_header p ≡ 43 → Srh.next_header p ≡ 44 → BadChain p
  destination_options_behind : Ipv6.next_header p ≡ 43 → Srh.next_header p ≡ 60 → BadChain p

-- or E6 without SRH
pub data BadChainE6 (p : List ℕ) : Type 0 where
  no_srh : Ipv6.next_header p ≢ 43 → BadChainE6 p
  chain : BadChain p → BadChainE6 p

-- 6: waypoint, SL > 0, hop limit 0 or 1

pub data HopLimitSpent (p : List ℕ) : Type 0 where
  spent : Ipv6.next_header p ≡ 43 → 0 < Srh.segments_left p → Ipv6.hop_limit p < 2 → HopLimitSpent p

-- 7: an SRH holds LE + 1 segments where its length field says at least 2 * (LE + 1) units

-- D, Di, E4: SL not 0
pub data SegmentsRemain (p : List ℕ) : Type 0 where
  remain : Ipv6.next_header p ≡ 43 → Srh.segments_left p ≢ 0 → SegmentsRemain p

-- E6: SL not 1, or LE beyond the segments held
pub data BadLeftE6 (p : List ℕ) : Type 0 where
  not_one : Srh.segments_left p ≢ 1 → BadLeftE6 p
  beyond_held : Srh.units p < 2 * (Srh.last_entry p + 1) → BadLeftE6 p

-- a waypoint with SL > 0: LE beyond the segments held, or SL > LE + 1
pub data BadLeftWaypoint (p : List ℕ) : Type 0 where
  beyond_held : Ipv6.next_header p ≡ 43 → 0 < Srh.segments_left p → Srh.units p < 2 * (Srh.last_entry p + 1) → BadLeftWaypoint p
  beyond_last : Ipv6.next_header p ≡ 43 → 0 < Srh.segments_left p → Srh.last_entry p + 1 < Srh.segments_left p → BadLeftWaypoint p

-- 8: the upper layer is none that the kind takes

-- D, Di and D4, by the protocol and the datagram: not UDP, or destination port not 2152, which is read only if 8 UDP octets are there
pub data NotGtpu (protocol : ℕ) (u : List ℕ) : Type 0 where
  not_udp : protocol ≢ 17 → NotGtpu protocol u
  port : 8 ≤ length u → Gtpu.destination_port u ≢ 2152 → NotGtpu protocol u

-- E6 and E4: the next headers of a session, of which the packet's is none; for IPv4v6 the inner packet is not examined
pub data OfSession (session next : ℕ) : Type 0 where
  ipv4 : session ≡ 1 → next ≡ 4 → OfSession session next
  ipv6 : session ≡ 2 → next ≡ 41 → OfSession session next
  ethernet : session ≡ 5 → next ≡ 143 → OfSession session next
  ipv4v6_as4 : session ≡ 3 → next ≡ 4 → OfSession session next
  ipv4v6_as6 : session ≡ 3 → next ≡ 41 → OfSession session next

-- a waypoint with SL 0 or no SRH
pub data NotUnderway (p : List ℕ) : Type 0 where
  no_srh : Ipv6.next_header p ≢ 43 → NotUnderway p
  arrived : Srh.segments_left p ≡ 0 → NotUnderway p

-- 9: UDP under 8 octets, or its length disagrees

pub data BadUdp (u : List ℕ) : Type 0 where
  short : length u < 8 → BadUdp u
  length_field : Gtpu.udp_length u ≢ length u → BadUdp u

-- 18: over IPv6 the UDP checksum is wrong, or zero where the entry does not allow it

pub data BadChecksum (e p u : List ℕ) : Type 0 where
  zero : Gtpu.udp_checksum u ≡ 0 → Entry.zero_checksum e ≢ 1 → BadChecksum e p u
  wrong : Gtpu.udp_checksum u ≢ 0 → (AddsUp (Ipv6.source p) (Ipv6.destination p) u → ⊥) → BadChecksum e p u

-- 10: GTP-U header behind the UDP header cut short, not version 1 or PT 1, or length disagrees

pub data BadGtpu (u : List ℕ) : Type 0 where
  short : length u < 8 + 8 → BadGtpu u
  short_with_e : Gtpu.extension_flag u ≡ 1 → length u < 8 + 12 → BadGtpu u
  short_with_s : Gtpu.sequence_flag u ≡ 1 → length u < 8 + 12 → BadGtpu u
  short_with_pn : Gtpu.n_pdu_flag u ≡ 1 → length u < 8 + 12 → BadGtpu u
  version : Gtpu.version u ≢ 1 → BadGtpu u
  protocol_type : Gtpu.protocol_type u ≢ 1 → BadGtpu u
  length_field : 8 + 8 + Gtpu.message_length u ≢ length u → BadGtpu u

-- 17: an Echo Request (TS 29.281: type 1) without S, or with a TEID other than 0

abbrev pub Echo : (u : List ℕ) → Type 0
Echo u = Gtpu.message_type u ≡ 1

-- any other message
abbrev pub Other : (u : List ℕ) → Type 0
Other u = Gtpu.message_type u ≢ 1

pub data BadEcho (u : List ℕ) : Type 0 where
  no_sequence_number : Gtpu.sequence_flag u ≡ 0 → BadEcho u
  teid : number u 12 4 ≢ 0 → BadEcho u

-- 12: an extension type but 0x85, a second container, unit count 0 or past the end; the next type counts only if E is set

pub data BadExtension (u : List ℕ) : Type 0 where
  type : Gtpu.extension_flag u ≡ 1 → Gtpu.extension_type u ≢ 0 → Gtpu.extension_type u ≢ 0x85 → BadExtension u
  no_units : Gtpu.extension_flag u ≡ 1 → Gtpu.extension_type u ≢ 0 → Gtpu.extension_units u ≡ 0 → BadExtension u
  past_end : Gtpu.extension_flag u ≡ 1 → Gtpu.extension_type u ≢ 0 → length u < 20 + 4 * Gtpu.extension_units u → BadExtension u
  second : Gtpu.extension_flag u ≡ 1 → Gtpu.extension_type u ≢ 0 → Gtpu.following_type u ≡ 0x85 → BadExtension u
  type_behind : Gtpu.extension_flag u ≡ 1 → Gtpu.extension_type u ≢ 0 → Gtpu.following_type u ≢ 0 → Gtpu.following_type u ≢ 0x85
      → BadExtension u

-- 13: no container, or not the entry's direction

pub data BadContainer (direction : ℕ) (u : List ℕ) : Type 0 where
  no_extension : Gtpu.extension_flag u ≡ 0 → BadContainer direction u
  no_type : Gtpu.extension_type u ≡ 0 → BadContainer direction u
  direction : Gtpu.pdu_type u ≢ direction → BadContainer direction u

-- 14: IPv4v6: inner empty or nibble not 4 or 6

pub data BadInner (session : ℕ) (inner : List ℕ) : Type 0 where
  empty : session ≡ 3 → length inner ≡ 0 → BadInner session inner
  nibble : session ≡ 3 → octet inner 0 / 16 ≢ 4 → octet inner 0 / 16 ≢ 6 → BadInner session inner

-- BY KIND: `applies` tells of each number whether it applies; 11, 15 and 16 are said in their fields

-- numbers that a kind does not have
abbrev pub Never : (applies : ℕ → Bool) → List ℕ → Type 0
Never applies [] = Unit {0}
Never applies (n ∷ ns) = (applies n ≡ false) × Never applies ns

pub record GivenWaypoint (p : List ℕ) (room : ℕ) (applies : ℕ → Bool) : Type 0 where
  pub row5 : Exactly (applies 5) (BadChain p)
  pub row6 : Exactly (applies 6) (HopLimitSpent p)
  pub row7 : Exactly (applies 7) (BadLeftWaypoint p)
  pub row8 : Exactly (applies 8) (NotUnderway p)
  pub row16 : 48 ≤ length p → Exactly (applies 16) (room < length p)
  pub never : Never applies (3 ∷ 9 ∷ 10 ∷ 11 ∷ 12 ∷ 13 ∷ 14 ∷ 15 ∷ 17 ∷ 18 ∷ [])

-- 9 to 14 and 17 belong to D, Di, D4: a datagram, and the direction and session of the entry or rule. For an Echo Request 17 stands in the
-- place of 11, and 12 to 15 never apply.
pub record GivenDatagram (direction session : ℕ) (u : List ℕ) (applies : ℕ → Bool) : Type 0 where
  pub row9 : Exactly (applies 9) (BadUdp u)
  pub row10 : Exactly (applies 10) (BadGtpu u)
  pub row17 : Exactly (applies 17) (Echo u × BadEcho u)
  pub row11 : Exactly (applies 11) (Other u × (Gtpu.message_type u ≢ 255))
  pub row12 : Exactly (applies 12) (Other u × BadExtension u)
  pub row13 : Exactly (applies 13) (Other u × BadContainer direction u)
  pub row14 : Exactly (applies 14) (Other u × BadInner session (Gtpu.inner_of u))

-- D and Di, where the SRH that is written holds some segments; a reply to an Echo Request has 62 octets
pub record GivenGtp6D (e p : List ℕ) (segments room : ℕ) (applies : ℕ → Bool) : Type 0 where
  pub row5 : Exactly (applies 5) (BadChain p)
  pub row7 : Exactly (applies 7) (SegmentsRemain p)
  pub row8 : Exactly (applies 8) (NotGtpu (upper p) (behind p))
  pub row18 : length (behind p) < 65536 → Exactly (applies 18) (BadChecksum e p (behind p))
  pub datagram : GivenDatagram (Entry.direction e) (Entry.session e) (behind p) applies
  pub row15 : Exactly (applies 15) (Other (behind p) × (65535 < 8 + 16 * segments + length (Gtpu.inner_of (behind p))))
  pub row16 : Other (behind p) → Exactly (applies 16) (room < 48 + 16 * segments + length (Gtpu.inner_of (behind p)))
  pub row16_echo : Echo (behind p) → Exactly (applies 16) (room < 62)
  pub never : Never applies (3 ∷ 6 ∷ [])

pub record GivenE6 (e p : List ℕ) (room : ℕ) (applies : ℕ → Bool) : Type 0 where
  pub row5 : Exactly (applies 5) (BadChainE6 p)
  pub row7 : Exactly (applies 7) (BadLeftE6 p)
  pub row8 : Exactly (applies 8) (OfSession (Entry.session e) (upper p) → ⊥)
  pub row15 : Exactly (applies 15) (65535 < 24 + length (behind p))
  pub row16 : Exactly (applies 16) (room < 64 + length (behind p))
  pub never : Never applies (3 ∷ 6 ∷ 9 ∷ 10 ∷ 11 ∷ 12 ∷ 13 ∷ 14 ∷ 17 ∷ 18 ∷ [])

pub record GivenE4 (e p : List ℕ) (room : ℕ) (applies : ℕ → Bool) : Type 0 where
  pub row5 : Exactly (applies 5) (BadChain p)
  pub row7 : Exactly (applies 7) (SegmentsRemain p)
  pub row8 : Exactly (applies 8) (OfSession (Entry.session e) (upper p) → ⊥)
  pub row15 : Exactly (applies 15) (65535 < 44 + length (behind p))
  pub row16 : Exactly (applies 16) (room < 44 + length (behind p))
  pub never : Never applies (3 ∷ 6 ∷ 9 ∷ 10 ∷ 11 ∷ 12 ∷ 13 ∷ 14 ∷ 17 ∷ 18 ∷ [])

-- D4, where the packet that is sent is an IPv6 header and a payload; with no waypoints there is no SRH. A reply has 42 octets.
pub record GivenD4 (r p : List ℕ) (room : ℕ) (applies : ℕ → Bool) : Type 0 where
  pub row8 : Exactly (applies 8) (NotGtpu (Ipv4.protocol p) (drop 20 p))
  pub datagram : GivenDatagram (Rule.direction r) (Rule.session r) (drop 20 p) applies
  pub row15_past : 0 < Rule.waypoint_count r
      → Exactly (applies 15) (Other (drop 20 p) × (65535 < 8 + 16 * (Rule.waypoint_count r + 1) + length (Gtpu.inner_of (drop 20 p))))
  pub row16_past : Other (drop 20 p) → 0 < Rule.waypoint_count r
      → Exactly (applies 16) (room < 48 + 16 * (Rule.waypoint_count r + 1) + length (Gtpu.inner_of (drop 20 p)))
  pub row15_plain : Rule.waypoint_count r ≡ 0 → Exactly (applies 15) (Other (drop 20 p) × (65535 < length (Gtpu.inner_of (drop 20 p))))
  pub row16_plain : Other (drop 20 p) → Rule.waypoint_count r ≡ 0
      → Exactly (applies 16) (room < 40 + length (Gtpu.inner_of (drop 20 p)))
  pub row16_echo : Echo (drop 20 p) → Exactly (applies 16) (room < 42)
  pub never : Never applies (5 ∷ 6 ∷ 7 ∷ 18 ∷ [])

-- at an entry, by the behaviours' numbers in RFC 8986 and RFC 9433
pub record GivenAtEntry (t e p : List ℕ) (room : ℕ) (applies : ℕ → Bool) : Type 0 where
  pub waypoint : Entry.behaviour e ≡ 1 → GivenWaypoint p room applies
  pub d : Entry.behaviour e ≡ 69 → GivenGtp6D e p (Policy.sid_count (policy_at t (Entry.policy e))) room applies
  pub di : Entry.behaviour e ≡ 70 → GivenGtp6D e p (Policy.sid_count (policy_at t (Entry.policy e)) + 1) room applies
  pub e6 : Entry.behaviour e ≡ 71 → GivenE6 e p room applies
  pub e4 : Entry.behaviour e ≡ 72 → GivenE4 e p room applies

-- THE CALLS: rows 1 to 4, then those of the entry or rule that is the longest match, in a sound table

pub record Given6 (p t : List ℕ) (room : ℕ) (applies : ℕ → Bool) : Type 0 where
  pub row1 : Exactly (applies 1) (SoundTable t → ⊥)
  pub row2 : Exactly (applies 2) (Malformed6 p)
  pub never : Never applies (3 ∷ [])
  pub row4 : Exactly (applies 4) (NoEntry p t)
  pub matched : SoundTable t → (i : ℕ) → match_entry t (Ipv6.destination p) ≡ Some i → GivenAtEntry t (entry_at t i) p room applies

pub record Given4 (p t : List ℕ) (room : ℕ) (applies : ℕ → Bool) : Type 0 where
  pub row1 : Exactly (applies 1) (SoundTable t → ⊥)
  pub row2 : Exactly (applies 2) (Malformed4 p)
  pub row3 : Exactly (applies 3) (BadIpv4 p)
  pub row4 : Exactly (applies 4) (NoRule p t)
  pub matched : SoundTable t → (k : ℕ) → match_rule t (Ipv4.destination p) ≡ Some k → GivenD4 (rule_at t k) p room applies
