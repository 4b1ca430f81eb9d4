-- What the behaviours send, in the form in which it is written: a head, then the arriving octets from a place on.
use Rattle.std.specs.Prelude.{cond, List, [], ◌∷◌, ◌++◌, ℕ, ◌+◌, ◌-◌, ◌*◌, eqb, length, drop, get_or}
use Rattle.rules.specs.Octets.{octet, window}
use Rattle.rules.specs.Assigned.{udp_protocol, routing_header, segment_routing, end_m_gtp6d}
use Rattle.rules.specs.Table.{addresses_at}
use Rattle.rules.specs.Entry as Entry
use Rattle.rules.specs.Rule as Rule
use Rattle.rules.specs.Policy as Policy
use Rattle.rules.specs.Args.{args_at}
use Rattle.rules.specs.Ipv6 as Ipv6
use Rattle.rules.specs.Ipv6.{ipv6}
use Rattle.rules.specs.Ipv4 as Ipv4
use Rattle.rules.specs.Ipv4.{ipv4}
use Rattle.rules.specs.Srh as Srh
use Rattle.rules.specs.Srh.{segments}
use Rattle.rules.specs.Gtpu as Gtpu
use Rattle.rules.specs.Gtpu.{datagram_before}
use Rattle.rules.specs.Header.{header}
use Rattle.rules.specs.Session.{inner_protocol}
use Rattle.rules.specs.Datagram.{datagram}
use Rattle.rules.specs.Carried.{Carried, carried6, carried4, datagram_in6, datagram_in4}
use Rattle.rules.specs.Echo.{is_echo, echo_reply6, echo_reply4}
use Rattle.rules.specs.Answer.{Row, Outcome, Sent, outcome, unless}
use Rattle.rules.specs.Waypoint.{routing, step, with_routing, waypoint_rows}
use Rattle.rules.specs.Gtp6D.{gtp6d_packet, rows_gtp6d, rows_echo6, decide_gtp6d}
use Rattle.rules.specs.D.{last_with_args}
use Rattle.rules.specs.E6.{e6_checksum, rows_e6}
use Rattle.rules.specs.E4.{start_behind, rows_e4}
use Rattle.rules.specs.D4.{d4_sid, d4_source, rows_d4, rows_echo4}

-- everything sent
abbrev pub sent_by : (head : List ℕ) (place : ℕ) (packet : List ℕ) → List ℕ
sent_by head place packet = head ++ drop place packet

-- what a behaviour decides, in this form: its rows, its head, and the place from which the arriving octets follow
pub record Plan : Type 0 where
  pub rows : List Row
  pub head : List ℕ
  pub place : ℕ

abbrev pub carry_out : Plan → (packet : List ℕ) → Outcome
carry_out plan packet = unless plan.rows (Sent (sent_by plan.head plan.place packet))

-- THE FAR END

-- E6, for an inner packet of some size and the UDP checksum that goes with it: from the entry, the arriving SID and SRH[0]
unfoldable pub e6_head : (e : List ℕ) (class : ℕ) (sid to : List ℕ) (size checksum : ℕ) → List ℕ
e6_head e class sid to size checksum =
    ipv6 class (24 + size) udp_protocol (Entry.hop_limit e) (Entry.source e) to []
    ++ datagram_before (Entry.source_port e) (Entry.direction e) checksum (args_at sid (Entry.start e)) size []

-- E4, for an inner packet of some size: from the entry, the arriving SID and the arriving source
unfoldable pub e4_head : (e : List ℕ) (class : ℕ) (sid from : List ℕ) (size : ℕ) → List ℕ
e4_head e class sid from size =
    ipv4 class (44 + size) (Entry.hop_limit e) (window from (Entry.q e) 4) (window sid (Entry.p e) 4) []
    ++ datagram_before (Entry.source_port e) (Entry.direction e) 0 (args_at sid (start_behind (Entry.p e))) size []

unfoldable pub e6_plan : (e packet : List ℕ) → Plan
e6_plan e packet = record {
  rows = rows_e6 e packet;
  head = e6_head e (Ipv6.traffic_class packet) (Ipv6.destination packet) (Srh.segment packet 0) (length packet - (header packet).upperAt)
      (e6_checksum e (Srh.segment packet 0) (args_at (Ipv6.destination packet) (Entry.start e)) (drop (header packet).upperAt packet));
  place = (header packet).upperAt;
}

unfoldable pub e4_plan : (e packet : List ℕ) → Plan
e4_plan e packet = record {
  rows = rows_e4 e packet;
  head = e4_head e (Ipv6.traffic_class packet) (Ipv6.destination packet) (Ipv6.source packet) (length packet - (header packet).upperAt);
  place = (header packet).upperAt;
}

-- THE NEAR END

-- the IPv6 header and the first eight octets of an SRH of n segments, all still to go
unfoldable pub path_front : (class upper hops : ℕ) (source first : List ℕ) (n size : ℕ) → List ℕ
path_front class upper hops source first n size =
    ipv6 class (8 + 16 * n + size) routing_header hops source first
    (upper ∷ (2 * n) ∷ segment_routing ∷ (n - 1) ∷ (n - 1) ∷ 0 ∷ 0 ∷ 0 ∷ [])

-- with the segments of a path: those behind its waypoints, then the waypoints, each last first
unfoldable pub path_head : (class upper hops : ℕ) (source first : List ℕ) (n size : ℕ) (tail waypoints : List (List ℕ)) → List ℕ
path_head class upper hops source first n size tail waypoints =
    path_front class upper hops source first n size ++ (segments tail [] ++ segments waypoints [])

-- a path ends in a SID; at Di one address more stands behind it
unfoldable pub tail_of : (tail : ℕ) (sid end : List ℕ) → List (List ℕ)
tail_of tail sid end = cond (eqb tail 1) (sid ∷ []) (sid ∷ end ∷ [])

-- the addresses behind the waypoints, of D and Di: D has one, Di two
abbrev pub tail_at : (behaviour : ℕ) → ℕ
tail_at behaviour = cond (eqb behaviour end_m_gtp6d) 1 2

-- the head along a path, for an inner packet of some size: waypoints that stand in a record from an octet on, then the tail
unfoldable pub head_along : (class upper hops : ℕ) (source holder : List ℕ) (from waypoints tail : ℕ) (sid end : List ℕ) (size : ℕ) → List ℕ
head_along class upper hops source holder from waypoints tail sid end size =
    let ws = addresses_at holder from waypoints in
    let rest = tail_of tail sid end in
    path_head class upper hops source (get_or (ws ++ rest) 0 []) (waypoints + tail) size rest ws

-- D and Di are one behaviour: a tail of 1 is D, of 2 Di
unfoldable pub gtp6d_path : (tail : ℕ) (policy : List ℕ) → Carried → List (List ℕ)
gtp6d_path tail policy c = Policy.waypoints policy ++ tail_of tail (last_with_args policy c.args) c.destination

unfoldable pub at_gtp6d : (tail : ℕ) (e policy packet : List ℕ) → Outcome
at_gtp6d tail e policy packet =
    let path = gtp6d_path tail policy (carried6 packet) in
    outcome (decide_gtp6d e path (gtp6d_packet e path (carried6 packet)) packet)

-- where the inner packet begins, of a datagram that begins at octet `at`
abbrev pub inner_at : (packet : List ℕ) (at : ℕ) → ℕ
inner_at packet at = at + (20 + 4 * Gtpu.extension_units (drop at packet))

unfoldable pub g_pdu_plan6 : (tail : ℕ) (e policy packet : List ℕ) → Plan
g_pdu_plan6 tail e policy packet =
    let c = carried6 packet in
    let place = inner_at packet (header packet).upperAt in
    record {
      rows = rows_gtp6d e (gtp6d_path tail policy c) packet;
      head = head_along c.trafficClass (inner_protocol (Entry.session e) (octet packet place ∷ [])) (Entry.hop_limit e) (Entry.source e)
          policy 16 (Policy.sid_count policy - 1) tail (last_with_args policy c.args) c.destination (length packet - place);
      place = place;
    }

-- D4 past its waypoints; with none there is no SRH
unfoldable pub d4_head : (r : List ℕ) (class upper : ℕ) (source sid : List ℕ) (size : ℕ) → List ℕ
d4_head r class upper source sid size =
    cond (eqb (Rule.waypoint_count r) 0) (ipv6 class size upper (Rule.hop_limit r) source sid [])
    (head_along class upper (Rule.hop_limit r) source r 48 (Rule.waypoint_count r) 1 sid sid size)

unfoldable pub g_pdu_plan4 : (r packet : List ℕ) → Plan
g_pdu_plan4 r packet =
    let c = carried4 packet in
    let place = inner_at packet Ipv4.size in
    record {
      rows = rows_d4 r packet;
      head = d4_head r c.trafficClass (inner_protocol (Rule.session r) (octet packet place ∷ [])) (d4_source r c) (d4_sid r c)
          (length packet - place);
      place = place;
    }

-- a reply to an Echo Request is all head: no arriving octet follows
unfoldable pub echo_plan6 : (e packet : List ℕ) → Plan
echo_plan6 e packet = record { rows = rows_echo6 e packet; head = echo_reply6 e packet; place = length packet }

unfoldable pub echo_plan4 : (r packet : List ℕ) → Plan
echo_plan4 r packet = record { rows = rows_echo4 packet; head = echo_reply4 r packet; place = length packet }

-- by the type of the message
unfoldable pub gtp6d_plan : (tail : ℕ) (e policy packet : List ℕ) → Plan
gtp6d_plan tail e policy packet = cond (is_echo (datagram (datagram_in6 packet))) (echo_plan6 e packet) (g_pdu_plan6 tail e policy packet)

unfoldable pub d4_plan : (r packet : List ℕ) → Plan
d4_plan r packet = cond (is_echo (datagram (datagram_in4 packet))) (echo_plan4 r packet) (g_pdu_plan4 r packet)

-- THE WAYPOINT

-- the first 48 octets with the next routing state, then the octets behind them
unfoldable pub waypoint_plan : (packet : List ℕ) → Plan
waypoint_plan packet = record {
  rows = waypoint_rows (header packet);
  head = with_routing (window packet 0 48) (step (routing packet) (Srh.segment packet (Srh.segments_left packet - 1)));
  place = 48;
}
