use mathlib.Core.Path.{◌≡◌}
use mathlib.Core.Bool.{Bool}
use Prim.Native.Nat.{ℕ, ◌<◌}
use Rattle.rules.specs.Match.{longest}
use Rattle.matching.specs.Results.{Below}
use Rattle.matching.proofs.longest.Given as goal

abbrev pub invariant-loop-i : goal.invariant-loop-i
invariant-loop-i g l =
    Below l.found l.i
    × ((m : ℕ → Bool) → ((i : ℕ) (b : Bool) → i < l.n → goal.M-post g l.matches i b → b ≡ m i)
    → (f : ℕ → ℕ) → ((i b : ℕ) → i < l.n → goal.B-post g l.bits i b → b ≡ f i)
    → l.found ≡ longest m f l.i)
