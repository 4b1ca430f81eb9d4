-- Laws of conditions that hold of every number below a bound.
use mathlib.Core.Path.{◌≡◌, refl}
use mathlib.Core.Bool.{Bool, true, false, ◌&&◌, and-false}
use Prim.Native.Nat.{ℕ, zero, suc, ◌+◌, ◌<◌}
use native.Mathlib.Nat.{not-suc-le-zero}
use native.Mathlib.Numerals.{add-one}
use native.Mathlib.Omega.{arith}
use native.Mathlib.Decide.{ℕ_discrete}
use Rattle.rules.specs.Sound.{all, distinct}

module _ (f : ℕ → Bool) where
  pub all_none : all f 0 ≡ true
  unfolding all
  all_none = refl

  pub all_more : (i : ℕ) → all f i ≡ true → f i ≡ true → all f (i + 1) ≡ true
  unfolding all
  all_more i a h = rw (add-one, a, h) refl

  pub all_fails : (n i : ℕ) → i < n → f i ≡ false → all f n ≡ false
  unfolding all
  all_fails zero i l h = absurd (not-suc-le-zero l)
  all_fails (suc n) i l h = pick (λ k. all_fails n i k h) (ℕ_discrete i n)
    where
      pick : (i < n → all f n ≡ false) → Dec (i ≡ n) → all f n && f n ≡ false
      pick front (yes e) = rw (← e, h) (and-false (all f i))
      pick front (no d) = rw (front (omega arith)) refl

  pub all_done : (i n : ℕ) → all f i ≡ true → i ≡ n → all f n ≡ true
  all_done i n a e = rw (← e) a

  pub all_true : (n : ℕ) → ((k : ℕ) → k < n → f k ≡ true) → all f n ≡ true
  unfolding all
  all_true zero h = refl
  all_true (suc n) h = rw (all_true n (λ k l. h k (omega arith)), h n (omega arith)) refl

module _ (same : ℕ → ℕ → Bool) where
  pub distinct_none : distinct same 0 ≡ true
  unfolding distinct
  distinct_none = all_none _

  -- one more number, which is the same as none before it
  pub distinct_more : (i : ℕ) → distinct same i ≡ true → ((k : ℕ) → k < i → same k i ≡ false) → distinct same (i + 1) ≡ true
  unfolding distinct
  distinct_more i d h = all_more _ i d (all_true _ i (λ k l. rw (h k l) refl))
