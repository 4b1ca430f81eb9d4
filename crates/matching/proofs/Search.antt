-- Laws of the longest match as a loop finds it.
use mathlib.Core.Path.{◌≡◌, refl}
use mathlib.Core.Bool.{Bool, true, false}
use Prim.Native.Nat.{ℕ, ◌+◌}
use native.Mathlib.Numerals.{add-one}
use native.Mathlib.Omega.{arith}
use Rattle.std.specs.Prelude.{Option, Some, None}
use Rattle.rules.specs.Match.{longer, longest}
use Rattle.matching.specs.Results.{Below}

pub below_next : (found : Option ℕ) (n : ℕ) → Below found n → Below found (n + 1)
below_next None n b = tt
below_next (Some i) n b = omega arith

module _ (matches : ℕ → Bool) (bits : ℕ → ℕ) where
  pub longest-none : None ≡ longest matches bits 0
  unfolding longest
  longest-none = refl

  -- i does not match
  pub longest_miss : (i : ℕ) {found : Option ℕ} → found ≡ longest matches bits i → matches i ≡ false → found ≡ longest matches bits (i + 1)
  unfolding longest
  longest_miss i e h = rw (add-one, h) e

  -- i matches
  pub longest_hit : (i : ℕ) {found : Option ℕ} → found ≡ longest matches bits i → matches i ≡ true
      → longer bits found i ≡ longest matches bits (i + 1)
  unfolding longest
  longest_hit i e h = rw (add-one, h, ← e) refl
