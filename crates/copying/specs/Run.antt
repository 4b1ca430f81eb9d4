-- What a writer did.
use Rattle.std.specs.Prelude.{◌≡◌, List, ℕ, length}
use Rattle.rules.specs.Octets.{splice}

-- the buffer o with the n octets x from octet a on is now o'
pub record Run (o : List ℕ) (a n : ℕ) (x o' : List ℕ) : Type 0 where
  pub holds : o' ≡ splice o a x
  pub count : length x ≡ n
