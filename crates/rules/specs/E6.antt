-- E6: End.M.GTP6.E (RFC 9433, 6.5).
use Rattle.std.specs.Prelude.{not, List, [], ◌∷◌, ◌++◌, ℕ, ◌+◌, length, drop}
use Rattle.rules.specs.Assigned.{udp_protocol}
use Rattle.rules.specs.Entry as Entry
use Rattle.rules.specs.Ipv6 as Ipv6
use Rattle.rules.specs.Srh as Srh
use Rattle.rules.specs.Args.{Args, args_at}
use Rattle.rules.specs.Gtpu.{datagram_octets}
use Rattle.rules.specs.UdpChecksum.{udp_checksum6}
use Rattle.rules.specs.Answer.{Row, row, segments_left_row, upper_layer_row, length_row, differs, Decision, Outcome, outcome}
use Rattle.rules.specs.Header.{header, has_srh, bad_chain, beyond_held}
use Rattle.rules.specs.Session.{accepts}
use Rattle.rules.specs.Carried.{Carried}
use Rattle.rules.specs.declared.Header.{Header}

-- destination SRH[0]; TEID, QFI and R from the arriving destination
unfoldable pub e6_carried : (e p : List ℕ) → Carried
e6_carried e p = record {
  trafficClass = Ipv6.traffic_class p;
  source = [];
  destination = Srh.segment p 0;
  args = args_at (Ipv6.destination p) (Entry.start e);
  inner = drop (header p).upperAt p;
}

abbrev pub e6_payload : (inner : List ℕ) → ℕ
e6_payload inner = 24 + length inner

-- what is sent in UDP, with any checksum
abbrev pub e6_datagram : (e : List ℕ) (checksum : ℕ) (args : Args) (inner : List ℕ) → List ℕ
e6_datagram e checksum args inner = datagram_octets (Entry.source_port e) (Entry.direction e) checksum args inner

unfoldable pub e6_checksum : (e to : List ℕ) (args : Args) (inner : List ℕ) → ℕ
e6_checksum e to args inner = udp_checksum6 (Entry.source e) to (e6_datagram e 0 args inner)

unfoldable pub e6_packet : (e : List ℕ) → Carried → List ℕ
e6_packet e c =
    Ipv6.ipv6 c.trafficClass (e6_payload c.inner) udp_protocol (Entry.hop_limit e) (Entry.source e) c.destination
    (e6_datagram e (e6_checksum e c.destination c.args c.inner) c.args c.inner)

-- rows 5, 7 and 8; row 7 also tests LE (house)
unfoldable pub e6_rows : (e : List ℕ) → Header → List Row
e6_rows e h =
    row (not (has_srh h) ∷ bad_chain h) 5
    ∷ segments_left_row (differs h.segmentsLeft 1 ∷ beyond_held h ∷ [])
    ∷ upper_layer_row (not (accepts (Entry.session e) h.upper) ∷ []) h.upperAt
    ∷ []

-- all rows of E6
unfoldable pub rows_e6 : (e p : List ℕ) → List Row
rows_e6 e p = e6_rows e (header p) ++ length_row (e6_payload (e6_carried e p).inner) ∷ []

abbrev pub decide_e6 : (e p : List ℕ) → Decision
decide_e6 e p = record { rows = rows_e6 e p; packet = e6_packet e (e6_carried e p) }

unfoldable pub at_e6 : (e p : List ℕ) → Outcome
at_e6 e p = outcome (decide_e6 e p)
