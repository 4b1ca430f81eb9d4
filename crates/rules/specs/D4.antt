-- D4: H.M.GTP4.D (RFC 9433, 6.7).
use Rattle.std.specs.Prelude.{List, [], ◌∷◌, ◌++◌, ℕ, ◌-◌, length, take, replicate}
use Rattle.rules.specs.Octets.{octet}
use Rattle.rules.specs.Rule as Rule
use Rattle.rules.specs.Args.{with_args}
use Rattle.rules.specs.E4.{start_behind}
use Rattle.rules.specs.Answer.{Row, row, Decision, Outcome, outcome}
use Rattle.rules.specs.Header4.{header4}
use Rattle.rules.specs.Datagram.{datagram, not_gtpu, message_rows, g_pdu_rows, inner_rows}
use Rattle.rules.specs.Carried.{Carried, carried4, datagram_in4}
use Rattle.rules.specs.Echo.{by_type, echo_rows, echo_reply4}
use Rattle.rules.specs.Session.{inner_protocol}
use Rattle.rules.specs.Srv6.{past_waypoints, past_waypoints_payload}
use Rattle.rules.specs.declared.Header4.{Header4}
use Rattle.rules.specs.declared.Datagram.{Datagram}

-- n octets of a prefix, an IPv4 address, zeros
abbrev pub address_behind : (prefix : List ℕ) (n : ℕ) (address : List ℕ) → List ℕ
address_behind prefix n address = take n prefix ++ (address ++ replicate (12 - n) 0)

-- the SID that a rule builds: prefix, IPv4 destination, Args, zeros
unfoldable pub d4_sid : (r : List ℕ) → Carried → List ℕ
d4_sid r c = with_args (address_behind (Rule.sid_prefix r) (Rule.p r) c.destination) (start_behind (Rule.p r)) c.args

-- the source that it builds: prefix, IPv4 source, zeros
unfoldable pub d4_source : (r : List ℕ) → Carried → List ℕ
d4_source r c = address_behind (Rule.source_prefix r) (Rule.q r) c.source

unfoldable pub d4_packet : (r : List ℕ) → Carried → List ℕ
d4_packet r c =
    past_waypoints c.trafficClass (inner_protocol (Rule.session r) c.inner) (Rule.hop_limit r) (d4_source r c)
    (Rule.waypoints r) (d4_sid r c) c.inner

-- row 8: dropped, no ICMP (RFC 9433, 6.7)
unfoldable pub gtp4_rows : Header4 → Datagram → List Row
gtp4_rows h g = row (not_gtpu h.protocol g) 8 ∷ []

-- rows 14 and 15
abbrev pub d4_rows : (r inner : List ℕ) → List Row
d4_rows r inner =
    inner_rows (Rule.session r) (length inner) (octet inner 0) (past_waypoints_payload (Rule.waypoints r) inner)

-- all rows of D4, 8 to 15, the checksum not verified, for any message but an Echo Request; row 11 leaves G-PDUs alone
unfoldable pub rows_d4 : (r packet : List ℕ) → List Row
rows_d4 r packet =
    let g = datagram (datagram_in4 packet) in
    gtp4_rows (header4 packet) g ++ (message_rows [] g ++ (g_pdu_rows (Rule.direction r) g ++ d4_rows r (carried4 packet).inner))

abbrev pub decide_g_pdu4 : (r packet : List ℕ) → Decision
decide_g_pdu4 r packet = record { rows = rows_d4 r packet; packet = d4_packet r (carried4 packet) }

-- all rows of D4 for an Echo Request, 8 to 10 and 17
unfoldable pub rows_echo4 : (packet : List ℕ) → List Row
rows_echo4 packet = let g = datagram (datagram_in4 packet) in gtp4_rows (header4 packet) g ++ (message_rows [] g ++ echo_rows g)

abbrev pub decide_echo4 : (r packet : List ℕ) → Decision
decide_echo4 r packet = record { rows = rows_echo4 packet; packet = echo_reply4 r packet }

abbrev pub decide_d4 : (r packet : List ℕ) → Decision
decide_d4 r packet = by_type (datagram (datagram_in4 packet)) (decide_echo4 r packet) (decide_g_pdu4 r packet)

unfoldable pub at_d4 : (r packet : List ℕ) → Outcome
at_d4 r packet = outcome (decide_d4 r packet)
