-- A table has no fault exactly when it is sound.
use mathlib.Core.Path.{◌≡◌, refl, sym, ◌∙◌}
use mathlib.Core.Bool.{Bool, true, false, ◌&&◌, and-true}
use mathlib.Core.List.{List, [], ◌∷◌}
use Prim.Native.Nat.{ℕ, zero, suc, ◌+◌, ◌*◌, ◌≤◌, ◌<◌}
use native.Mathlib.Omega.{arith}
use lib.Dec.{eqb}
use lib.ListN.{length}
use borrow.Author.Tests.{eqb-true, eq-eqb, ne_eqb}
use Rattle.rules.specs.Table.{entries, rules, policies, entry_at, rule_at, policy_at}
use Rattle.rules.specs.Sound.{every, all, fresh, header_conditions, entry_conditions, rule_conditions, policy_conditions, header_sound}
use Rattle.rules.specs.Sound.{entry_sound, rule_sound, policy_sound, same_entry_prefix, same_rule_prefix, distinct, sound_within, sound}
use Rattle.rules.specs.Sound.{entry_marks, entry_limit}
use Rattle.rules.specs.Fault.{broken_before, first_broken, told, or_else, first_fault}
use Rattle.rules.specs.Fault.{header_record, entry_record, rule_record, policy_record}
use Rattle.rules.specs.Fault.{header_broken, entry_broken, rule_broken, policy_broken, entry_repeated, rule_repeated, header_fault}
use Rattle.rules.specs.Fault.{entries_fault, entry_prefixes_fault, rules_fault, rule_prefixes_fault, policies_fault, fault_within, fault}

-- NO FAULT, FOR EACH FORM OF A FAULT

-- no condition is broken where all hold; their numbers begin past 0
none_before : (n : ℕ) (bs : List Bool) (behind : ℕ) → eqb (broken_before (suc n) bs behind) 0 ≡ every bs && eqb behind 0
none_before n [] behind = refl
none_before n (true ∷ bs) behind = none_before (suc n) bs behind
none_before n (false ∷ bs) behind = ne_eqb (suc n) 0 (λ e. omega arith)

pub none_broken : (n : ℕ) (bs : List Bool) → eqb (first_broken (suc n) bs) 0 ≡ every bs
none_broken n bs = none_before n bs 0 ∙ and-true (every bs)

pub none_told : (kind index condition : ℕ) → eqb (told kind index condition) 0 ≡ eqb condition 0
unfolding told
none_told kind index zero = refl
none_told kind index (suc c) = rw (ne_eqb (suc c) 0 (λ e. omega arith)) (ne_eqb (suc c + 256 * kind + 65536 * index) 0 (λ e. omega arith))

pub none_else : (f g : ℕ) → eqb (or_else f g) 0 ≡ eqb f 0 && eqb g 0
unfolding or_else
none_else zero g = refl
none_else (suc f) g = rw (ne_eqb (suc f) 0 (λ e. omega arith)) (ne_eqb (suc f) 0 (λ e. omega arith))

pub none_first : (fault_of : ℕ → ℕ) (holds : ℕ → Bool) → ((i : ℕ) → eqb (fault_of i) 0 ≡ holds i) → (n : ℕ)
    → eqb (first_fault fault_of n) 0 ≡ all holds n
unfolding first_fault all
none_first fault_of holds h zero = refl
none_first fault_of holds h (suc n) = none_else (first_fault fault_of n) (fault_of n) ∙ rw (none_first fault_of holds h n, h n) refl

-- A FAULT OF THE TABLE

pub header-none : (limit : ℕ) (t : List ℕ) → eqb (header_fault limit t) 0 ≡ header_sound limit t
unfolding header_sound
header-none limit t = none_told header_record 0 (header_broken limit t) ∙ none_broken 0 (header_conditions limit t)

entries_none : (t : List ℕ) → eqb (entries_fault t) 0 ≡ all (λ i. entry_sound (policies t) (entry_at t i)) (entries t)
unfolding entry_broken entry_sound
entries_none t =
    none_first _ _ (λ i. none_told entry_record i (entry_broken (policies t) (entry_at t i))
    ∙ none_before 0 (entry_conditions (policies t) (entry_at t i)) (first_broken 15 (entry_marks (entry_at t i)))
    ∙ rw (none_broken 14 (entry_marks (entry_at t i))) refl) (entries t)

pub entry_prefixes_none : (t : List ℕ) (n : ℕ)
    → eqb (first_fault (λ j. told entry_record j (entry_repeated t j)) n) 0 ≡ distinct (same_entry_prefix t) n
unfolding distinct
entry_prefixes_none t n =
    none_first _ _ (λ j. none_told entry_record j (entry_repeated t j) ∙ none_broken 13 (fresh (same_entry_prefix t) j ∷ []) ∙ and-true _) n

rules-none : (t : List ℕ) → eqb (rules_fault t) 0 ≡ all (λ k. rule_sound (rule_at t k)) (rules t)
unfolding rule_broken rule_sound
rules-none t = none_first _ _ (λ k. none_told rule_record k (rule_broken (rule_at t k)) ∙ none_broken 0 (rule_conditions (rule_at t k)))
    (rules t)

pub rule_prefixes_none : (t : List ℕ) → eqb (rule_prefixes_fault t) 0 ≡ distinct (same_rule_prefix t) (rules t)
unfolding distinct
rule_prefixes_none t =
    none_first _ _ (λ j. none_told rule_record j (rule_repeated t j) ∙ none_broken 11 (fresh (same_rule_prefix t) j ∷ []) ∙ and-true _)
    (rules t)

policies-none : (t : List ℕ) → eqb (policies_fault t) 0 ≡ all (λ j. policy_sound (policy_at t j)) (policies t)
unfolding policy_broken policy_sound
policies-none t =
    none_first _ _ (λ j. none_told policy_record j (policy_broken (policy_at t j)) ∙ none_broken 0 (policy_conditions (policy_at t j)))
    (policies t)

-- THE TABLE

pub none-sound : (limit : ℕ) (t : List ℕ) → eqb (fault_within limit t) 0 ≡ sound_within limit t
unfolding fault_within sound_within
none-sound limit t =
    rw (
      none_else (header_fault limit t),
      none_else (entries_fault t),
      none_else (entry_prefixes_fault t),
      none_else (rules_fault t),
      none_else (rule_prefixes_fault t),
      header-none limit t,
      entries_none t,
      entry_prefixes_none t (entries t),
      rules-none t,
      rule_prefixes_none t,
      policies-none t,
    )
    refl

pub sound_faultless : (t : List ℕ) → sound t ≡ true → fault t ≡ 0
sound_faultless t s = eqb-true (fault t) 0 (none-sound entry_limit t ∙ s)

pub faultless_sound : (t : List ℕ) → fault t ≡ 0 → sound t ≡ true
faultless_sound t e = sym (none-sound entry_limit t) ∙ eq-eqb (fault t) 0 e

-- WHAT A FAULT NAMES

-- a condition of the header, or of an entry, a rule or a policy that the table has, by a number of that record's list
pub data Named (t : List ℕ) : ℕ → Type 0 where
  none : Named t 0
  at_header : (condition : ℕ) → condition ≤ 5 → Named t (told header_record 0 condition)
  at_entry : (i condition : ℕ) → i < entries t → condition ≤ 15 → Named t (told entry_record i condition)
  at_rule : (k condition : ℕ) → k < rules t → condition ≤ 12 → Named t (told rule_record k condition)
  at_policy : (j condition : ℕ) → j < policies t → condition ≤ 3 → Named t (told policy_record j condition)

broken_most : (n : ℕ) (bs : List Bool) → first_broken (suc n) bs ≤ n + length bs
broken_most n [] = omega arith
broken_most n (true ∷ bs) = omega (arith, broken_most (suc n) bs)
broken_most n (false ∷ bs) = omega arith

before_most : (n : ℕ) (bs : List Bool) (behind most : ℕ) → n + length bs ≤ most → behind ≤ most → broken_before (suc n) bs behind ≤ most
before_most n [] behind most h k = k
before_most n (true ∷ bs) behind most h k = before_most (suc n) bs behind most (omega arith) k
before_most n (false ∷ bs) behind most h k = omega arith

-- of two faults, and of several, the first that there is is one of them
module _ (P : ℕ → Type 0) where
  else_one : (f g : ℕ) → P f → P g → P (or_else f g)
  unfolding or_else
  else_one zero g p q = q
  else_one (suc f) g p q = rw (ne_eqb (suc f) 0 (λ e. omega arith)) p

  first_one : (fault_of : ℕ → ℕ) (n : ℕ) → P 0 → ((i : ℕ) → i < n → P (fault_of i)) → P (first_fault fault_of n)
  unfolding first_fault
  first_one fault_of zero z h = z
  first_one fault_of (suc n) z h = else_one (first_fault fault_of n) (fault_of n) (first_one fault_of n z (λ i l. h i (omega arith)))
      (h n (omega arith))

pub fault_named : (limit : ℕ) (t : List ℕ) → Named t (fault_within limit t)
unfolding fault_within entry_broken rule_broken policy_broken
fault_named limit t =
    else_one (Named t) (header_fault limit t) _ (at_header _ (broken_most 0 (header_conditions limit t)))
    (else_one (Named t) (entries_fault t) _ (first_one (Named t) _ _ none
    (λ i l. at_entry i _ l (before_most 0 (entry_conditions (policies t) (entry_at t i)) (first_broken 15 (entry_marks (entry_at t i))) 15
    (omega arith) (broken_most 14 (entry_marks (entry_at t i))))))
    (else_one (Named t) (entry_prefixes_fault t) _ (first_one (Named t) _ _ none
    (λ j l. at_entry j _ l (omega (arith, broken_most 13 (fresh (same_entry_prefix t) j ∷ [])))))
    (else_one (Named t) (rules_fault t) _ (first_one (Named t) _ _ none
    (λ k l. at_rule k _ l (omega (arith, broken_most 0 (rule_conditions (rule_at t k))))))
    (else_one (Named t) (rule_prefixes_fault t) _ (first_one (Named t) _ _ none
    (λ j l. at_rule j _ l (broken_most 11 (fresh (same_rule_prefix t) j ∷ []))))
    (first_one (Named t) _ _ none (λ j l. at_policy j _ l (broken_most 0 (policy_conditions (policy_at t j)))))))))
