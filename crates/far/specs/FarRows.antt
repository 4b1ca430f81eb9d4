-- What E6 and E4 ask: the rows that they share, and of their entry and packet; and the head that E6 writes.
use Rattle.std.specs.Prelude.{◌≡◌, Bool, cond, not, List, [], ◌∷◌, ℕ, ◌≤◌, ◌<◌, length}
use Rattle.rules.specs.Entry as Entry
use Rattle.rules.specs.Args.{args_at}
use Rattle.rules.specs.Session.{accepts}
use Rattle.rules.specs.E6.{e6_checksum}
use Rattle.rules.specs.Plan.{e6_head}
use Rattle.rules.specs.Header.{has_srh, bad_chain, beyond_held, segments_remain, WellFormed}
use Rattle.rules.specs.Answer.{Row, row, segments_left_row, upper_layer_row, length_row, differs}
use Rattle.rules.specs.declared.Header.{Header}

-- row 5: E6 asks for an SRH too
abbrev pub chain_tests : (e6 : Bool) → Header → List Bool
chain_tests e6 h = cond e6 (not (has_srh h) ∷ bad_chain h) (bad_chain h)

-- row 7: E6 asks for one segment left in place of none, and tests LE
abbrev pub left_tests : (e6 : Bool) → Header → List Bool
left_tests e6 h = cond e6 (differs h.segmentsLeft 1 ∷ beyond_held h ∷ []) (segments_remain h)

-- rows 8 and 15, for a length field
abbrev pub upper_rows : (e : List ℕ) → Header → (field : ℕ) → List Row
upper_rows e h field = upper_layer_row (not (accepts (Entry.session e) h.upper) ∷ []) h.upperAt ∷ length_row field ∷ []

-- rows 5, 7 and 8
unfoldable pub far_rows : (e6 : Bool) (e : List ℕ) → Header → List Row
far_rows e6 e h =
    row (chain_tests e6 h) 5
    ∷ segments_left_row (left_tests e6 h)
    ∷ upper_layer_row (not (accepts (Entry.session e) h.upper) ∷ []) h.upperAt
    ∷ []

-- of an entry, and a packet with its view
pub record FarAsked (e packet : List ℕ) (h : Header) : Type 0 where
  pub entry : length e ≡ 64
  pub arrived : WellFormed packet h

-- the writer of a head of some octets, for the length field of what is to be sent
pub record PutFar (e : List ℕ) (octets length_field room : ℕ) : Type 0 where
  pub direction : Entry.direction e < 2
  pub fits : length_field < 65536
  pub spacious : octets ≤ room

-- the head of E6 for an inner packet, with its checksum
abbrev pub e6_head_of : (e : List ℕ) (class : ℕ) (sid to inner : List ℕ) → List ℕ
e6_head_of e class sid to inner = e6_head e class sid to (length inner) (e6_checksum e to (args_at sid (Entry.start e)) inner)
