-- Demand 3: what the papers assume of a trip, and what they promise. Near and far are its two gateways.
use Rattle.std.specs.Prelude.{◌≡◌, true, List, [], ◌∷◌, ◌++◌, ℕ, ◌+◌, ◌≤◌, ◌<◌, length, drop, Some}
use Rattle.rules.specs.Octets.{Octets, splice}
use Rattle.rules.specs.Assigned.{end, end_m_gtp6d, end_m_gtp6d_di, end_m_gtp6e, end_m_gtp4e, g_pdu}
use Rattle.rules.specs.Table.{entry_at, rule_at, policy_at}
use Rattle.rules.specs.Entry as Entry
use Rattle.rules.specs.Rule as Rule
use Rattle.rules.specs.Policy as Policy
use Rattle.rules.specs.Ipv6 as Ipv6
use Rattle.rules.specs.Ipv4 as Ipv4
use Rattle.rules.specs.Srh as Srh
use Rattle.rules.specs.Gtpu as Gtpu
use Rattle.rules.specs.Args.{args_at}
use Rattle.rules.specs.Sound.{sound}
use Rattle.rules.specs.Match.{match_entry, match_rule}
use Rattle.rules.specs.Answer.{Sent}
use Rattle.rules.specs.Header.{header}
use Rattle.rules.specs.Carried.{Carried, carried6, carried4, datagram_in6, datagram_in4}
use Rattle.rules.specs.Waypoint.{forwarded}
use Rattle.rules.specs.D.{d_packet, last_with_args}
use Rattle.rules.specs.Di.{di_packet}
use Rattle.rules.specs.E6.{e6_packet}
use Rattle.rules.specs.D4.{d4_packet, d4_sid}
use Rattle.rules.specs.E4.{e4_packet}
use Rattle.rules.specs.Written.{WrittenE6, WrittenE4}
use Rattle.rules.specs.Trip.{v4, v6, Stop, call, trip, stops}

-- PREMISES

-- the IPv6 call at a stop with a sound table, where the longest match for a destination is entry i, and that entry has a behaviour
pub record AtEntry (s : Stop) (destination : List ℕ) (behaviour i : ℕ) : Type 0 where
  pub call : s.version ≡ v6
  pub octets : Octets s.table
  pub sound : sound s.table ≡ true
  pub matches : match_entry s.table destination ≡ Some i
  pub kind : Entry.behaviour (entry_at s.table i) ≡ behaviour

-- the IPv4 call at a stop with a sound table, where the longest match for a destination is rule k
pub record AtRule (s : Stop) (destination : List ℕ) (k : ℕ) : Type 0 where
  pub call : s.version ≡ v4
  pub octets : Octets s.table
  pub sound : sound s.table ≡ true
  pub matches : match_rule s.table destination ≡ Some k

-- at each waypoint the longest match for the arriving destination is a waypoint entry
abbrev pub AtWaypoints : List Stop → (destinations : List (List ℕ)) → Type 0
AtWaypoints [] [] = Unit {0}
AtWaypoints (s ∷ ss) (d ∷ ds) = ((i : ℕ) × AtEntry s d end i) × AtWaypoints ss ds
AtWaypoints [] (d ∷ ds) = ⊥
AtWaypoints (s ∷ ss) [] = ⊥

-- a buffer has room if it is at least as long as the result written there
abbrev pub HasRoom : Stop → (size : ℕ) → Type 0
HasRoom s n = n ≤ length s.buffer

abbrev pub EachHasRoom : List Stop → (size : ℕ) → Type 0
EachHasRoom [] n = Unit {0}
EachHasRoom (s ∷ ss) n = HasRoom s n × EachHasRoom ss n

-- near and waypoints send a packet of one size, the far gateway one of another
pub record Room (near : Stop) (ss : List Stop) (far : Stop) (on_the_way at_the_end : ℕ) : Type 0 where
  pub at_near : HasRoom near on_the_way
  pub at_waypoints : EachHasRoom ss on_the_way
  pub at_far : HasRoom far at_the_end

-- the policy of entry i
abbrev pub policy_of : Stop → (i : ℕ) → List ℕ
policy_of s i = policy_at s.table (Entry.policy (entry_at s.table i))

-- A trip from the Di entry i of the near gateway to the E6 entry j of the far one. After Di the waypoints are the policy's SIDs but the
-- last, in order.
pub record Matching6 (near : Stop) (ss : List Stop) (far : Stop) (packet : List ℕ) (i j : ℕ) : Type 0 where
  pub octets : Octets packet
  pub g_pdu : Gtpu.message_type (datagram_in6 packet) ≡ g_pdu
  pub sent : (o : List ℕ) × (call near packet ≡ Sent o)
  pub enters : AtEntry near (Ipv6.destination packet) end_m_gtp6d_di i
  pub passes : AtWaypoints ss (Policy.waypoints (policy_of near i))
  pub leaves : AtEntry far (last_with_args (policy_of near i) (carried6 packet).args) end_m_gtp6e j
  pub hopLimit : length ss < Entry.hop_limit (entry_at near.table i)
  pub direction : Entry.direction (entry_at far.table j) ≡ Entry.direction (entry_at near.table i)
  pub session : Entry.session (entry_at far.table j) ≡ Entry.session (entry_at near.table i)
  pub start : Entry.start (entry_at far.table j) ≡ Policy.start (policy_of near i)
  pub room : Room near ss far (length (di_packet (entry_at near.table i) (policy_of near i) (carried6 packet)))
      (length (e6_packet (entry_at far.table j) (carried6 packet)))

-- A trip from rule k of the near gateway to the E4 entry j of the far one. After D4 the waypoints are the rule's.
pub record Matching4 (near : Stop) (ss : List Stop) (far : Stop) (packet : List ℕ) (k j : ℕ) : Type 0 where
  pub octets : Octets packet
  pub g_pdu : Gtpu.message_type (datagram_in4 packet) ≡ g_pdu
  pub sent : (o : List ℕ) × (call near packet ≡ Sent o)
  pub enters : AtRule near (Ipv4.destination packet) k
  pub passes : AtWaypoints ss (Rule.waypoints (rule_at near.table k))
  pub leaves : AtEntry far (d4_sid (rule_at near.table k) (carried4 packet)) end_m_gtp4e j
  pub hopLimit : length ss < Rule.hop_limit (rule_at near.table k)
  pub direction : Entry.direction (entry_at far.table j) ≡ Rule.direction (rule_at near.table k)
  pub session : Entry.session (entry_at far.table j) ≡ Rule.session (rule_at near.table k)
  pub p : Entry.p (entry_at far.table j) ≡ Rule.p (rule_at near.table k)
  pub q : Entry.q (entry_at far.table j) ≡ Rule.q (rule_at near.table k)
  pub room : Room near ss far (length (d4_packet (rule_at near.table k) (carried4 packet)))
      (length (e4_packet (entry_at far.table j) (carried4 packet)))

pub data Matching (near : Stop) (ss : List Stop) (far : Stop) (packet : List ℕ) : Type 0 where
  over6 : (i j : ℕ) → Matching6 near ss far packet i j → Matching near ss far packet
  over4 : (k j : ℕ) → Matching4 near ss far packet k j → Matching near ss far packet

-- PROMISES

-- what the buffers of waypoints hold afterwards: each the packet that arrived there, forwarded, over what was there
abbrev pub forwarded_into : List Stop → (packet : List ℕ) → List (List ℕ)
forwarded_into [] x = []
forwarded_into (s ∷ ss) x = splice s.buffer 0 (forwarded x) ∷ forwarded_into ss (forwarded x)

-- Packet p makes the whole trip: no call refuses. The near gateway sends `first`, each waypoint forwards what arrives, and the far
-- gateway sends the result; each buffer holds what was sent from there, over what was there.
pub record Arrives (near : Stop) (ss : List Stop) (far : Stop) (p first result : List ℕ) : Type 0 where
  pub outcome : (trip (stops near ss far) p).outcome ≡ Sent result
  pub buffers : (trip (stops near ss far) p).buffers
      ≡ splice near.buffer 0 first ∷ forwarded_into ss first ++ splice far.buffer 0 result ∷ []

-- the same call and the same table, with another buffer
pub record Same (s s' : Stop) : Type 0 where
  pub call : s'.version ≡ s.version
  pub table : s'.table ≡ s.table

abbrev pub EachSame : List Stop → List Stop → Type 0
EachSame [] [] = Unit {0}
EachSame (s ∷ ss) (s' ∷ ss') = Same s s' × EachSame ss ss'
EachSame [] (s' ∷ ss') = ⊥
EachSame (s ∷ ss) [] = ⊥

-- other stops for a second trip: the same calls and tables, other buffers, which have room too
pub record Again (near : Stop) (ss : List Stop) (far : Stop) (near' : Stop) (ss' : List Stop) (far' : Stop) (on_the_way at_the_end : ℕ)
    : Type 0 where
  pub same_near : Same near near'
  pub same_waypoints : EachSame ss ss'
  pub same_far : Same far far'
  pub room : Room near' ss' far' on_the_way at_the_end

-- What a trip delivers: it arrives; every field of the result is as docs/RULES.md, Written, fixes it, said without a writer; the result
-- is the headers and the inner octets; a reader reads from it what it read from the packet that went in; and both second trips, begun
-- with the packet that went in and with the one that came out, arrive with the same packets.
pub record Delivers (near : Stop) (ss : List Stop) (far : Stop) (p first result : List ℕ)
    (Written : List ℕ → Type 0) (headers : ℕ) (read : List ℕ → Carried) : Type 0 where
  pub arrives : Arrives near ss far p first result
  pub written : Written result
  pub size : length result ≡ headers + length (read p).inner
  pub values : read result ≡ read p
  pub again : (near' : Stop) (ss' : List Stop) (far' : Stop) → Again near ss far near' ss' far' (length first) (length result)
      → Arrives near' ss' far' p first result × Arrives near' ss' far' result first result

-- over IPv6 what Di sends first, and in the end what E6 writes from the values that went in and the far entry
abbrev pub Delivers6 : (near : Stop) (ss : List Stop) (far : Stop) (p : List ℕ) (i j : ℕ) → Type 0
Delivers6 near ss far p i j =
    let c = carried6 p in
    let e = entry_at near.table i in
    let f = entry_at far.table j in
    Delivers near ss far p (di_packet e (policy_of near i) c) (e6_packet f c) (WrittenE6 f c) 64 carried6

-- over IPv4 what D4 sends first, and in the end what E4 writes
abbrev pub Delivers4 : (near : Stop) (ss : List Stop) (far : Stop) (p : List ℕ) (k j : ℕ) → Type 0
Delivers4 near ss far p k j =
    let c = carried4 p in
    let r = rule_at near.table k in
    let f = entry_at far.table j in
    Delivers near ss far p (d4_packet r c) (e4_packet f c) (WrittenE4 f c) 44 carried4

abbrev pub Promise : {near : Stop} {ss : List Stop} {far : Stop} {p : List ℕ} → Matching near ss far p → Type 0
Promise {near} {ss} {far} {p} (over6 i j m) = Delivers6 near ss far p i j
Promise {near} {ss} {far} {p} (over4 k j m) = Delivers4 near ss far p k j

-- D, WHICH HAS NO FAR END IN THE PAPERS

-- a G-PDU past the D entry i of the near gateway, on its way past waypoints to the policy's last SID
pub record MatchingD (near : Stop) (ss : List Stop) (p : List ℕ) (i : ℕ) : Type 0 where
  pub octets : Octets p
  pub g_pdu : Gtpu.message_type (datagram_in6 p) ≡ g_pdu
  pub sent : (o : List ℕ) × (call near p ≡ Sent o)
  pub enters : AtEntry near (Ipv6.destination p) end_m_gtp6d i
  pub passes : AtWaypoints ss (Policy.waypoints (policy_of near i))
  pub hopLimit : length ss < Entry.hop_limit (entry_at near.table i)
  pub room : EachHasRoom ss (length (d_packet (entry_at near.table i) (policy_of near i) (carried6 p)))

-- what arrives there reads back as the values that went in
pub record DeliversD (near : Stop) (ss : List Stop) (p : List ℕ) (y : List ℕ) : Type 0 where
  pub packet : List ℕ
  pub arrives : (trip (near ∷ ss) p).outcome ≡ Sent packet
  pub destination : Ipv6.destination packet ≡ last_with_args y (carried6 p).args
  pub segmentsLeft : Srh.segments_left packet ≡ 0
  pub args : args_at (Ipv6.destination packet) (Policy.start y) ≡ (carried6 p).args
  pub trafficClass : Ipv6.traffic_class packet ≡ (carried6 p).trafficClass
  pub inner : drop (header packet).upperAt packet ≡ (carried6 p).inner
