-- E4: End.M.GTP4.E (RFC 9433, 6.6).
use Rattle.std.specs.Prelude.{not, List, [], ◌∷◌, ◌++◌, ℕ, ◌+◌, ◌*◌, length, drop}
use Rattle.rules.specs.Octets.{window}
use Rattle.rules.specs.Entry as Entry
use Rattle.rules.specs.Ipv6 as Ipv6
use Rattle.rules.specs.Ipv4 as Ipv4
use Rattle.rules.specs.Args.{args_at}
use Rattle.rules.specs.Gtpu.{datagram_octets}
use Rattle.rules.specs.Answer.{Row, row, segments_left_row, upper_layer_row, length_row, Decision, Outcome, outcome}
use Rattle.rules.specs.Header.{header, bad_chain, segments_remain}
use Rattle.rules.specs.Session.{accepts}
use Rattle.rules.specs.Carried.{Carried}
use Rattle.rules.specs.declared.Header.{Header}

-- the bit at which Args begin in the SID of E4 and D4: behind a prefix of p octets and an IPv4 address
abbrev pub start_behind : (p : ℕ) → ℕ
start_behind p = 8 * (p + 4)

-- E4 SID: prefix of p octets, IPv4 destination, Args, padding; IPv6 source: prefix of q octets, IPv4 source, ignored rest
unfoldable pub e4_carried : (e packet : List ℕ) → Carried
e4_carried e packet = record {
  trafficClass = Ipv6.traffic_class packet;
  source = window (Ipv6.source packet) (Entry.q e) 4;
  destination = window (Ipv6.destination packet) (Entry.p e) 4;
  args = args_at (Ipv6.destination packet) (start_behind (Entry.p e));
  inner = drop (header packet).upperAt packet;
}

abbrev pub e4_total_length : (inner : List ℕ) → ℕ
e4_total_length inner = 44 + length inner

unfoldable pub e4_packet : (e : List ℕ) → Carried → List ℕ
e4_packet e c =
    Ipv4.ipv4 c.trafficClass (e4_total_length c.inner) (Entry.hop_limit e) c.source c.destination
    (datagram_octets (Entry.source_port e) (Entry.direction e) 0 c.args c.inner)

-- rows 5, 7 and 8
unfoldable pub e4_rows : (e : List ℕ) → Header → List Row
e4_rows e h =
    row (bad_chain h) 5
    ∷ segments_left_row (segments_remain h)
    ∷ upper_layer_row (not (accepts (Entry.session e) h.upper) ∷ []) h.upperAt
    ∷ []

-- all rows of E4
unfoldable pub rows_e4 : (e packet : List ℕ) → List Row
rows_e4 e packet = e4_rows e (header packet) ++ length_row (e4_total_length (e4_carried e packet).inner) ∷ []

abbrev pub decide_e4 : (e packet : List ℕ) → Decision
decide_e4 e packet = record { rows = rows_e4 e packet; packet = e4_packet e (e4_carried e packet) }

unfoldable pub at_e4 : (e packet : List ℕ) → Outcome
at_e4 e packet = outcome (decide_e4 e packet)
