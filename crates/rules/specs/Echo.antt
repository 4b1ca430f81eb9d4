-- Echo at D, Di and D4 (TS 29.281, 7.2): an Echo Request is answered with an Echo Response to its sender.
use Rattle.std.specs.Prelude.{Bool, cond, List, [], ◌∷◌, ℕ, ◌/◌, ◌%◌, eqb}
use Rattle.rules.specs.Octets.{number}
use Rattle.rules.specs.Assigned.{udp_protocol, echo_request}
use Rattle.rules.specs.Entry as Entry
use Rattle.rules.specs.Rule as Rule
use Rattle.rules.specs.Ipv6 as Ipv6
use Rattle.rules.specs.Ipv6.{ipv6}
use Rattle.rules.specs.Ipv4 as Ipv4
use Rattle.rules.specs.Ipv4.{ipv4}
use Rattle.rules.specs.Gtpu as Gtpu
use Rattle.rules.specs.Gtpu.{echo_datagram}
use Rattle.rules.specs.UdpChecksum.{udp_checksum6}
use Rattle.rules.specs.Answer.{Row, row, differs, Decision}
use Rattle.rules.specs.Carried.{datagram_in6, datagram_in4}
use Rattle.rules.specs.declared.Datagram.{Datagram}

abbrev pub is_echo : Datagram → Bool
is_echo g = eqb g.messageType echo_request

-- by the type of the message: for an Echo Request, and for any other
abbrev pub by_type : Datagram → (echo other : Decision) → Decision
by_type g echo other = cond (is_echo g) echo other

-- row 17: an Echo Request without S, or with a TEID other than 0
abbrev pub bad_echo : Datagram → List Bool
bad_echo g = differs (g.flags / 2 % 2) 1 ∷ differs (number g.teid 0 4) 0 ∷ []

-- it stands in the place of row 11; there are no rows 12 to 15
unfoldable pub echo_rows : Datagram → List Row
echo_rows g = row (bad_echo g) 17 ∷ []

-- the datagram of a reply with some checksum, to the source port of the request u and with its sequence number
abbrev pub echo_answer : (checksum : ℕ) (u : List ℕ) → List ℕ
echo_answer checksum u = echo_datagram (Gtpu.source_port u) checksum (Gtpu.sequence_number u)

-- over IPv6 its checksum is computed
unfoldable pub echo_checksum : (source destination u : List ℕ) → ℕ
echo_checksum source destination u = udp_checksum6 source destination (echo_answer 0 u)

-- a reply: addresses exchanged, traffic class (TOS) of the request p, hop limit (TTL) of the entry or rule; an arriving SRH is dropped
unfoldable pub echo_reply6 : (e p : List ℕ) → List ℕ
echo_reply6 e p =
    ipv6 (Ipv6.traffic_class p) 22 udp_protocol (Entry.hop_limit e) (Ipv6.destination p) (Ipv6.source p)
    (echo_answer (echo_checksum (Ipv6.destination p) (Ipv6.source p) (datagram_in6 p)) (datagram_in6 p))

unfoldable pub echo_reply4 : (r p : List ℕ) → List ℕ
echo_reply4 r p = ipv4 (Ipv4.tos p) 42 (Rule.hop_limit r) (Ipv4.destination p) (Ipv4.source p) (echo_answer 0 (datagram_in4 p))
