-- What functions say of their results.
use Rattle.std.specs.Prelude.{◌≡◌, ℕ, ◌<◌}

-- r is n, and below a bound, so that it can be reckoned with
pub record Known (n bound r : ℕ) : Type 0 where
  pub value : r ≡ n
  pub small : r < bound
