-- The extension header that follows a place of a GTP-U message (TS 29.281, 5.2.1): the octet at the place is its type, the next one its
-- length in units of four octets, then come its contents, and its last octet is the next place.
use Rattle.std.specs.Prelude.{Bool, cond, ◌||◌, List, ℕ, ◌+◌, ◌*◌, eqb, leb, length}
use Rattle.rules.specs.Octets.{octet}
use Rattle.extension.specs.declared.Fields.{Fields}
use Rattle.extension.specs.declared.Extension.{Extension}
use Rattle.extension.specs.declared.Extension.TheVariants.{End, Header, Refused}

-- the place that says the type of the first extension header
abbrev pub first_place : ℕ
first_place = 11

-- the unit count of the header that follows a place
abbrev pub units_at : List ℕ → ℕ → ℕ
units_at g at = octet g (at + 1)

-- where the unit count leads
abbrev pub next_place : List ℕ → ℕ → ℕ
next_place g at = at + 4 * units_at g at

-- what stands at a place, whatever follows
abbrev pub fields_at : List ℕ → ℕ → Fields
fields_at g at = record { kind = octet g at; units = units_at g at; contents = at + 2; next = next_place g at }

-- unit count 0 or past the end (row 12)
abbrev pub bad_units : List ℕ → ℕ → Bool
bad_units g at = eqb (units_at g at) 0 || leb (length g) (next_place g at)

-- what follows a place: nothing where the type is 0
unfoldable pub extension_after : List ℕ → ℕ → Extension
extension_after g at =
    cond (eqb (octet g at) 0) (End (fields_at g at)) (cond (bad_units g at) (Refused (fields_at g at)) (Header (fields_at g at)))

-- the fields of every case
unfoldable pub fields_of : Extension → Fields
fields_of (End fields) = fields
fields_of (Header fields) = fields
fields_of (Refused fields) = fields
