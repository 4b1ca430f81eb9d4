-- Prefixes of addresses, as numbers: an address lies under a prefix where their first bits are the same number.
use Rattle.std.specs.Prelude.{Bool, List, ℕ, ◌*◌, ◌-◌, ◌^◌, ◌/◌, ◌%◌, eqb}
use Rattle.rules.specs.Octets.{number}

-- the first b bits of the w octets of s, as a number; all of them where b is larger
unfoldable pub first_bits : (w : ℕ) (s : List ℕ) (b : ℕ) → ℕ
first_bits w s b = number s 0 w / 2 ^ (8 * w - b)

-- the address of w octets lies under the prefix of b bits: their first b bits are the same
unfoldable pub under : (w : ℕ) (address prefix : List ℕ) (b : ℕ) → Bool
under w address prefix b = eqb (first_bits w address b) (first_bits w prefix b)

-- the bits of a prefix of w octets past the first b are 0
unfoldable pub clear : (w : ℕ) (prefix : List ℕ) (b : ℕ) → Bool
clear w prefix b = eqb (number prefix 0 w % 2 ^ (8 * w - b)) 0
