-- The first condition of soundness that a table breaks (house), as one number: the condition, and the kind and index of its record.
use Rattle.std.specs.Prelude.{Bool, cond, List, [], ◌∷◌, ℕ, zero, suc, ◌+◌, ◌*◌, eqb}
use Rattle.rules.specs.Table.{entries, rules, policies, entry_at, rule_at, policy_at}
use Rattle.rules.specs.Sound.{header_conditions, entry_conditions, rule_conditions, policy_conditions, fresh, same_entry_prefix}
use Rattle.rules.specs.Sound.{entry_marks, same_rule_prefix, entry_limit}

-- CONDITIONS

-- of conditions with numbers from n on, the number of the first that does not hold; where all hold, what is broken behind them
abbrev pub broken_before : (n : ℕ) → List Bool → (behind : ℕ) → ℕ
broken_before n [] behind = behind
broken_before n (b ∷ bs) behind = cond b (broken_before (suc n) bs behind) n

-- 0 where all hold and there is nothing behind them
abbrev pub first_broken : (n : ℕ) → List Bool → ℕ
first_broken n bs = broken_before n bs 0

-- the numbers of a record's conditions, from 1 on in their order; marks have theirs behind that of the repeated prefix, so that no number
-- changes its meaning
abbrev pub header_broken : (limit : ℕ) → List ℕ → ℕ
header_broken limit t = first_broken 1 (header_conditions limit t)

unfoldable pub entry_broken : (policies : ℕ) → List ℕ → ℕ
entry_broken policies e = broken_before 1 (entry_conditions policies e) (first_broken 15 (entry_marks e))

unfoldable pub rule_broken : List ℕ → ℕ
rule_broken r = first_broken 1 (rule_conditions r)

unfoldable pub policy_broken : List ℕ → ℕ
policy_broken policy = first_broken 1 (policy_conditions policy)

-- and behind them that no earlier record has this prefix with its length
abbrev pub entry_repeated : (t : List ℕ) (j : ℕ) → ℕ
entry_repeated t j = first_broken 14 (fresh (same_entry_prefix t) j ∷ [])

abbrev pub rule_repeated : (t : List ℕ) (j : ℕ) → ℕ
rule_repeated t j = first_broken 12 (fresh (same_rule_prefix t) j ∷ [])

-- FAULTS

-- the kinds of record
abbrev pub header_record : ℕ
header_record = 1

abbrev pub entry_record : ℕ
entry_record = 2

abbrev pub rule_record : ℕ
rule_record = 3

abbrev pub policy_record : ℕ
policy_record = 4

-- condition in bits 0 to 7, kind of record in bits 8 to 15, index in bits 16 to 31; 0 where no condition is broken
unfoldable pub told : (kind index condition : ℕ) → ℕ
told kind index condition = cond (eqb condition 0) 0 (condition + 256 * kind + 65536 * index)

-- of two faults the first that there is
unfoldable pub or_else : (f g : ℕ) → ℕ
or_else f g = cond (eqb f 0) g f

-- of the faults of the numbers below n the first that there is
unfoldable pub first_fault : (fault_of : ℕ → ℕ) → (n : ℕ) → ℕ
first_fault fault_of zero = 0
first_fault fault_of (suc n) = or_else (first_fault fault_of n) (fault_of n)

-- THE TABLE

abbrev pub header_fault : (limit : ℕ) → List ℕ → ℕ
header_fault limit t = told header_record 0 (header_broken limit t)

abbrev pub entries_fault : List ℕ → ℕ
entries_fault t = first_fault (λ i. told entry_record i (entry_broken (policies t) (entry_at t i))) (entries t)

abbrev pub entry_prefixes_fault : List ℕ → ℕ
entry_prefixes_fault t = first_fault (λ j. told entry_record j (entry_repeated t j)) (entries t)

abbrev pub rules_fault : List ℕ → ℕ
rules_fault t = first_fault (λ k. told rule_record k (rule_broken (rule_at t k))) (rules t)

abbrev pub rule_prefixes_fault : List ℕ → ℕ
rule_prefixes_fault t = first_fault (λ j. told rule_record j (rule_repeated t j)) (rules t)

abbrev pub policies_fault : List ℕ → ℕ
policies_fault t = first_fault (λ j. told policy_record j (policy_broken (policy_at t j))) (policies t)

unfoldable pub fault_within : (limit : ℕ) → List ℕ → ℕ
fault_within limit t =
    or_else (header_fault limit t)
    (or_else (entries_fault t)
    (or_else (entry_prefixes_fault t) (or_else (rules_fault t) (or_else (rule_prefixes_fault t) (policies_fault t)))))

abbrev pub fault : List ℕ → ℕ
fault t = fault_within entry_limit t
