-- What is asked of a UDP datagram at D, Di and D4: rows 8 to 15. Row 17, of Echo Requests, is in Echo.antt, row
-- 18, of the UDP checksum, in UdpChecksum.antt.
use Rattle.std.specs.Prelude.{Bool, not, ◌&&◌, List, [], ◌∷◌, ◌++◌, ℕ, ◌+◌, ◌*◌, ◌/◌, ◌%◌, leb, ltb, eqb, length}
use Rattle.rules.specs.Octets.{octet}
use Rattle.rules.specs.Assigned.{udp_protocol, gtpu_port, g_pdu, pdu_session_container, ipv4v6_session}
use Rattle.rules.specs.Gtpu as Gtpu
use Rattle.rules.specs.Answer.{Row, row, length_row, differs, given}
use Rattle.rules.specs.declared.Datagram.{Datagram}

-- of a datagram of n octets that begins with u, with the type that follows its first extension
abbrev pub datagram_of : (u : List ℕ) (n following_type : ℕ) → Datagram
datagram_of u n following_type = record {
  size = n;
  destinationPort = Gtpu.destination_port u;
  length = Gtpu.udp_length u;
  flags = octet u 8;
  messageType = Gtpu.message_type u;
  messageLength = Gtpu.message_length u;
  teid = Gtpu.teid u;
  extensionType = Gtpu.extension_type u;
  extensionUnits = Gtpu.extension_units u;
  pduType = Gtpu.pdu_type u;
  followingType = following_type;
}

unfoldable pub datagram : List ℕ → Datagram
datagram u = datagram_of u (length u) (Gtpu.following_type u)

-- row 8: not UDP, or destination port not 2152; the port is read only if 8 UDP octets are there
abbrev pub not_gtpu : (protocol : ℕ) → Datagram → List Bool
not_gtpu protocol g = differs protocol udp_protocol ∷ given (leb 8 g.size) (differs g.destinationPort gtpu_port ∷ [])

-- row 9: UDP under 8 octets, or its length disagrees
abbrev pub bad_udp : Datagram → List Bool
bad_udp g = ltb g.size 8 ∷ differs g.length g.size ∷ []

-- row 10: GTP-U header cut short (8 octets, 12 where any of E, S, PN is set), not version 1 or PT 1, or length disagrees
abbrev pub bad_gtpu : Datagram → List Bool
bad_gtpu g =
    ltb g.size 16
    ∷ differs (g.flags / 16) 3
    ∷ differs (16 + g.messageLength) g.size
    ∷ given (ltb 0 (g.flags % 8)) (ltb g.size 20 ∷ [])

-- E is set and a type follows: there is an extension
abbrev pub extended : Datagram → Bool
extended g = eqb (g.flags / 4 % 2) 1 && ltb 0 g.extensionType

-- row 12 (house): an extension type but 0x85, a second container, unit count 0 or past the end. Whatever type follows a container is either
-- another type or a second container, so that 0 must follow it.
abbrev pub bad_extensions : Datagram → List Bool
bad_extensions g =
    given (extended g)
    (differs g.extensionType pdu_session_container
    ∷ eqb g.extensionUnits 0
    ∷ ltb g.size (20 + 4 * g.extensionUnits)
    ∷ differs g.followingType 0
    ∷ [])

-- row 13 (house): no container, or not the entry's direction
abbrev pub bad_container : (direction : ℕ) → Datagram → List Bool
bad_container direction g = not (extended g) ∷ differs g.pduType direction ∷ []

-- rows 9 and 10, and between them those of the checksum: row 18 at D and Di, none at D4
unfoldable pub message_rows : (checksum_rows : List Row) → Datagram → List Row
message_rows checksum_rows g = row (bad_udp g) 9 ∷ (checksum_rows ++ row (bad_gtpu g) 10 ∷ [])

-- rows 11 to 13
unfoldable pub g_pdu_rows : (direction : ℕ) → Datagram → List Row
g_pdu_rows direction g =
    row (differs g.messageType g_pdu ∷ []) 11 ∷ row (bad_extensions g) 12 ∷ row (bad_container direction g) 13 ∷ []

-- row 14: IPv4v6: inner empty or nibble not 4 or 6
abbrev pub bad_inner : (session size first : ℕ) → List Bool
bad_inner session size first =
    given (eqb session ipv4v6_session) (eqb size 0 ∷ (differs (first / 16) 4 && differs (first / 16) 6) ∷ [])

-- rows 14 and 15, for an inner packet of some size and first octet, and the length field of what is to be sent
unfoldable pub inner_rows : (session size first length_field : ℕ) → List Row
inner_rows session size first length_field = row (bad_inner session size first) 14 ∷ length_row length_field ∷ []
