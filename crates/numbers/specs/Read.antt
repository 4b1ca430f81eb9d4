-- What a reader of numbers says of its result.
use Rattle.std.specs.Prelude.{◌≡◌, List, ℕ, ◌^◌, ◌<◌}
use Rattle.rules.specs.Octets.{number}

-- r is the number in the n octets from octet i on, and has no more bits than they
pub record Read (s : List ℕ) (i n r : ℕ) : Type 0 where
  pub value : r ≡ number s i n
  pub small : r < 256 ^ n
