-- What D and Di share: a G-PDU in IPv6 becomes an SRv6 packet along a path, an Echo Request is answered.
use Rattle.std.specs.Prelude.{List, [], ◌∷◌, ◌++◌, length, ℕ}
use Rattle.rules.specs.Octets.{octet}
use Rattle.rules.specs.Entry as Entry
use Rattle.rules.specs.Ipv6 as Ipv6
use Rattle.rules.specs.UdpChecksum.{checksum_row}
use Rattle.rules.specs.Answer.{Row, row, segments_left_row, upper_layer_row, Decision}
use Rattle.rules.specs.Header.{header, bad_chain, segments_remain}
use Rattle.rules.specs.Datagram.{datagram, not_gtpu, message_rows, g_pdu_rows, inner_rows}
use Rattle.rules.specs.Carried.{Carried, carried6, datagram_in6}
use Rattle.rules.specs.Echo.{by_type, echo_rows, echo_reply6}
use Rattle.rules.specs.Session.{inner_protocol}
use Rattle.rules.specs.Srv6.{srv6, srv6_payload}
use Rattle.rules.specs.declared.Header.{Header}
use Rattle.rules.specs.declared.Datagram.{Datagram}

-- what is written: traffic class copied from the removed header, hop limit and source address from the entry (house)
unfoldable pub gtp6d_packet : (e : List ℕ) (path : List (List ℕ)) (c : Carried) → List ℕ
gtp6d_packet e path c =
    srv6 c.trafficClass (inner_protocol (Entry.session e) c.inner) (Entry.hop_limit e) (Entry.source e) path c.inner

-- rows 5, 7 and 8
unfoldable pub gtp6_rows : Header → Datagram → List Row
gtp6_rows h g =
    row (bad_chain h) 5 ∷ segments_left_row (segments_remain h) ∷ upper_layer_row (not_gtpu h.upper g) h.upperAt ∷ []

-- row 18, between the addresses of the IPv6 header
abbrev pub checksum_rows : (e p : List ℕ) → List Row
checksum_rows e p = checksum_row (Entry.zero_allowed e) (Ipv6.source p) (Ipv6.destination p) (datagram_in6 p) ∷ []

-- rows 14 and 15
abbrev pub gtp6d_rows : (e : List ℕ) (path : List (List ℕ)) (inner : List ℕ) → List Row
gtp6d_rows e path inner = inner_rows (Entry.session e) (length inner) (octet inner 0) (srv6_payload path inner)

-- all rows of D and Di, 5 to 15 and 18, for any message but an Echo Request; row 11 leaves G-PDUs alone
unfoldable pub rows_gtp6d : (e : List ℕ) (path : List (List ℕ)) (p : List ℕ) → List Row
rows_gtp6d e path p =
    let g = datagram (datagram_in6 p) in
    gtp6_rows (header p) g
    ++ (message_rows (checksum_rows e p) g ++ (g_pdu_rows (Entry.direction e) g ++ gtp6d_rows e path (carried6 p).inner))

-- a packet p at the entry e, from which a packet along a path is made
abbrev pub decide_g_pdu6 : (e : List ℕ) (path : List (List ℕ)) (made p : List ℕ) → Decision
decide_g_pdu6 e path made p = record { rows = rows_gtp6d e path p; packet = made }

-- all rows of D and Di for an Echo Request, 5 to 10, 18 and 17
unfoldable pub rows_echo6 : (e p : List ℕ) → List Row
rows_echo6 e p = let g = datagram (datagram_in6 p) in gtp6_rows (header p) g ++ (message_rows (checksum_rows e p) g ++ echo_rows g)

abbrev pub decide_echo6 : (e p : List ℕ) → Decision
decide_echo6 e p = record { rows = rows_echo6 e p; packet = echo_reply6 e p }

abbrev pub decide_gtp6d : (e : List ℕ) (path : List (List ℕ)) (made p : List ℕ) → Decision
decide_gtp6d e path made p = by_type (datagram (datagram_in6 p)) (decide_echo6 e p) (decide_g_pdu6 e path made p)
