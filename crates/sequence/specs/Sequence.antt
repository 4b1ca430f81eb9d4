-- TEID and sequence number of a packet as it arrives, for the report of lost packets: of a well-formed G-PDU with S, and of nothing else.
-- Well-formed is what the rows say that ask no table, up to row 11, asked of every message, Echo Requests too: the extensions and the inner
-- packet are not examined.
use Rattle.std.specs.Prelude.{Ok, Err}
use Rattle.std.specs.Prelude.{◌≡◌, Bool, true, false, cond, ◌&&◌, List, [], ◌∷◌, ◌++◌, ℕ, ◌+◌, ◌*◌, eqb}
use Rattle.rules.specs.Octets.{number}
use Rattle.rules.specs.Assigned.{g_pdu}
use Rattle.rules.specs.Gtpu as Gtpu
use Rattle.rules.specs.Answer.{Row, row, differs, verdict, Verdict}
use Rattle.rules.specs.Header.{header, malformed}
use Rattle.rules.specs.Datagram.{datagram, message_rows}
use Rattle.rules.specs.Carried.{datagram_in6, datagram_in4}
use Rattle.rules.specs.Gtp6D.{gtp6_rows}
use Rattle.rules.specs.D4.{gtp4_rows}
use Rattle.rules.specs.Header4.{header4, malformed4, bad_header4}
use Rattle.rules.specs.declared.Datagram.{Datagram}

-- WELL-FORMED

-- row 11: not a G-PDU
abbrev pub not_g_pdu : Datagram → List Bool
not_g_pdu g = differs g.messageType g_pdu ∷ []

-- rows 9 to 11; the readers verify no checksum, which is the entry's matter
abbrev pub rows9_to11 : Datagram → List Row
rows9_to11 g = message_rows [] g ++ row (not_g_pdu g) 11 ∷ []

-- rows 2, 5 and 7 to 11 of an IPv6 packet
unfoldable pub g_pdu_rows6 : List ℕ → List Row
g_pdu_rows6 p =
    let g = datagram (datagram_in6 p) in
    row (malformed (header p)) 2 ∷ (gtp6_rows (header p) g ++ rows9_to11 g)

-- rows 2, 3 and 8 to 11 of an IPv4 packet
unfoldable pub g_pdu_rows4 : List ℕ → List Row
g_pdu_rows4 p =
    let g = datagram (datagram_in4 p) in
    row (malformed4 (header4 p)) 2 ∷ row (bad_header4 (header4 p)) 3 ∷ (gtp4_rows (header4 p) g ++ rows9_to11 g)

-- no row applies
abbrev pub passes : Verdict → Bool
passes (Ok tt) = true
passes (Err r) = false

-- WHAT IS FOUND

-- the flag S of a datagram is set
abbrev pub numbered : List ℕ → Bool
numbered u = eqb (Gtpu.sequence_flag u) 1

-- its TEID as a number
abbrev pub teid : List ℕ → ℕ
teid u = number (Gtpu.teid u) 0 4

-- bit 48, TEID in bits 16 to 47, sequence number in bits 0 to 15
abbrev pub found : (teid sequence_number : ℕ) → ℕ
found teid sequence_number = 0x1000000000000 + teid * 0x10000 + sequence_number

abbrev pub found_in : List ℕ → ℕ
found_in u = found (teid u) (Gtpu.sequence_number u)

-- what is found in a datagram, where no row applies
unfoldable pub sequence_unless : List Row → (u : List ℕ) → ℕ
sequence_unless rows u = cond (passes (verdict rows) && numbered u) (found_in u) 0

-- of an IPv6 packet, and of an IPv4 packet
unfoldable pub sequence6 : List ℕ → ℕ
sequence6 p = sequence_unless (g_pdu_rows6 p) (datagram_in6 p)

unfoldable pub sequence4 : List ℕ → ℕ
sequence4 p = sequence_unless (g_pdu_rows4 p) (datagram_in4 p)

-- where no row applies, S alone decides
pub record ByFlag (u : List ℕ) (r : ℕ) : Type 0 where
  pub set : Gtpu.sequence_flag u ≡ 1 → r ≡ found_in u
  pub clear : Gtpu.sequence_flag u ≡ 0 → r ≡ 0
