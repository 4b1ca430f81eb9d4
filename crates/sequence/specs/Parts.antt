-- What IPv6 and IPv4 share behind their headers: rows 8 to 11 of a datagram, with the protocol that its header names. Where row 8 refuses,
-- no number is found, whatever ICMP fields it has.
use Rattle.std.specs.Prelude.{List, ◌∷◌, ℕ}
use Rattle.rules.specs.Answer.{Row, row}
use Rattle.rules.specs.Datagram.{datagram, not_gtpu}
use Rattle.rules.specs.declared.Datagram.{Datagram}
use Rattle.sequence.specs.Sequence.{rows9_to11, sequence_unless}

unfoldable pub rows8_to11 : (protocol : ℕ) → Datagram → List Row
rows8_to11 protocol g = row (not_gtpu protocol g) 8 ∷ rows9_to11 g

-- of a datagram behind its header
abbrev pub sequence_in : (protocol : ℕ) (u : List ℕ) → ℕ
sequence_in protocol u = sequence_unless (rows8_to11 protocol (datagram u)) u
