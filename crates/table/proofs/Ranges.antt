-- What `all` over the numbers from a up to b says where it answered true, said of the numbers: the library says it of the list of them.
use mathlib.Core.Path.{◌≡◌, refl, sym, subst}
use mathlib.Core.Bool.{Bool, true, false, true≢false}
use mathlib.Core.List.{List}
use Prim.Native.Nat.{ℕ, ◌-◌, ◌≤◌, ◌<◌}
use native.Mathlib.Omega.{arith}
use lib.ListN.{length, get_or}
use denote.Param.Members.{Mut}
use Rattle.std.specs.Prelude.{Option}
use Rattle.std.specs.Bool.{MatchBool}
use Rattle.std.specs.Fn.{Called}
use Rattle.std.specs.Iterator.{YieldsThen}
use Rattle.std.specs.List.{FoldsTo, AllWithin, HoldsAt, range_with_len}
use Rattle.std.specs.Option.{MatchOption}
use Rattle.std.specs.declared.ops.Range.{Range}
use Rattle.std.proofs.iter.Yields.{nat_range_steps}
use Rattle.std.proofs.lemmas.Iterator.{cases_from_all, YieldsList-from_range}
use Rattle.std.proofs.lemmas.List.FromFn.{length-range_with_len, get_or-range_with_len}
use Rattle.rules.specs.Sound.{all}
use Rattle.table.proofs.Conditions.{all_true}

-- what `all` ensures of its calls of the closure f: each answered true, up to the first that did not
abbrev pub Ran : {F : Type 0} (g : Mut F (ℕ × Unit {0}) Bool) (s u : Range ℕ) (f : F) (r : Bool) → Type 0
Ran {F} g s u f r =
    (xs : List ℕ) × (o : Option ℕ) × (j : F) × YieldsThen nat_range_steps s xs o u × FoldsTo (λ p x q. Called g p (x, tt) true q) f xs j
    × MatchOption o (r ≡ true) (λ x. (r ≡ false) × ((h : F) × Called g j (x, tt) false h))

module _ {F : Type 0} {g : Mut F (ℕ × Unit {0}) Bool} {s u : Range ℕ} {f : F} {r : Bool} (a b : ℕ) (Passes : ℕ → Type 0)
    (ran : Ran g s u f r) (e : s ≡ record { start = a; end = b })
    (passes : (x : ℕ) (q : F) → Called g f (x, tt) true q → (q ≡ f) × Passes x) where
  abbrev numbers : List ℕ
  numbers = range_with_len a (b - a)

  -- what the closure passes holds of each number
  pub all_passed : r ≡ true → (k : ℕ) → a ≤ k → k < b → Passes k
  all_passed p = by r p (cases_from_all u f r Passes (λ _. Unit {0}) ran (YieldsList-from_range a b (b - a) e refl) passes (λ _ _ _. tt))
    where
      long : length numbers ≡ b - a
      long = length-range_with_len a (b - a)

      at : (k : ℕ) → a ≤ k → k < b → get_or numbers (k - a) 0 ≡ k
      at k l m = omega (arith, get_or-range_with_len a (b - a) (k - a) 0 (omega arith))

      by : (t : Bool) → t ≡ true
          → MatchBool t (AllWithin Passes numbers 0 (length numbers))
          ((k : ℕ) × (k < length numbers) × HoldsAt (λ _. Unit {0}) numbers k)
          → (k : ℕ) → a ≤ k → k < b → Passes k
      by true q h = λ k l m. subst Passes (at k l m) (h (k - a) 0 (omega arith) (omega (arith, long)))
      by false q h = absurd (true≢false (sym q))

-- a condition that the closure passes, of all numbers below n
pub all_below : {F : Type 0} {g : Mut F (ℕ × Unit {0}) Bool} {s u : Range ℕ} {f : F} {r : Bool} (n : ℕ) (test : ℕ → Bool) → Ran g s u f r
    → s ≡ record { start = 0; end = n } → ((x : ℕ) (q : F) → Called g f (x, tt) true q → (q ≡ f) × (test x ≡ true))
    → r ≡ true → all test n ≡ true
all_below n test ran e passes p = all_true test n (λ k l. all_passed 0 n (λ k. test k ≡ true) ran e passes p k (omega arith) l)
