-- A fault that may be absent, and what functions over the records below a count say, from what a closure answers at each.
use Rattle.std.specs.Prelude.{◌≡◌, Bool, [], ◌∷◌, ℕ, zero, suc, ◌<◌, Option, None, Some}
use Rattle.rules.specs.Sound.{fresh}
use Rattle.rules.specs.Fault.{first_broken, told, first_fault}

-- of a fault in which 0 says that there is none
abbrev pub nonzero : ℕ → Option ℕ
nonzero zero = None
nonzero (suc f) = Some (suc f)

-- the first fault among the records below n, where `gives i` is what a closure answers at i: the condition that record i breaks first
abbrev pub FirstFault : (gives : ℕ → ℕ → Type 0) (kind n : ℕ) (r : Option ℕ) → Type 0
FirstFault gives kind n r =
    (broken : ℕ → ℕ) → ((i c : ℕ) → i < n → gives i c → c ≡ broken i)
    → r ≡ nonzero (first_fault (λ i. told kind i (broken i)) n)

-- the first fault among the records below n where a record that is the same as one before it breaks that condition, and where
-- `gives i j` is what a closure answers at two records
abbrev pub Repeated : (gives : ℕ → ℕ → Bool → Type 0) (kind n condition : ℕ) (r : Option ℕ) → Type 0
Repeated gives kind n condition r =
    (same : ℕ → ℕ → Bool) → ((i j : ℕ) (b : Bool) → i < j → j < n → gives i j b → b ≡ same i j)
    → r ≡ nonzero (first_fault (λ j. told kind j (first_broken condition (fresh same j ∷ []))) n)
