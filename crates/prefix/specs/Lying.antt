-- Octets as they lie, in one number of which the first octet is the lowest. It only serves to tell whether octets are the same.
use Rattle.std.specs.Prelude.{◌≡◌, List, ℕ, zero, suc, ◌+◌, ◌*◌, ◌^◌, ◌<◌}
use Rattle.rules.specs.Octets.{octet}

-- the n octets from octet i on
unfoldable pub lying : (s : List ℕ) (i n : ℕ) → ℕ
lying s i zero = 0
lying s i (suc n) = octet s (i + n) * 2 ^ (8 * n) + lying s i n

-- r is these octets, and has no more bits than they
pub record Lying (s : List ℕ) (i n r : ℕ) : Type 0 where
  pub value : r ≡ lying s i n
  pub small : r < 2 ^ (8 * n)
