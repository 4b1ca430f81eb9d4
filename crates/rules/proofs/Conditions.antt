-- What it says that conditions hold: one of several, one of many, and each part of a sound table.
use mathlib.Core.Path.{◌≡◌, refl}
use mathlib.Core.Bool.{Bool, true, false, not, ◌&&◌, ◌||◌, false≢true}
use mathlib.Core.List.{List, [], ◌∷◌}
use Prim.Native.Nat.{ℕ, zero, suc, ◌<◌}
use native.Mathlib.Nat.{not-suc-le-zero}
use native.Mathlib.Omega.{arith}
use native.Mathlib.Decide.{ℕ_discrete}
use borrow.Author.Tests.{leb-true, ltb-true, eqb-true, not-true, le-leb, lt-ltb, eq-eqb}
use Rattle.rules.specs.Table.{entries, rules, policies, entry_at, rule_at, policy_at}
use Rattle.rules.specs.Sound.{every, all, where_used, header_sound, entry_sound, rule_sound, policy_sound}
use Rattle.rules.specs.Sound.{same_entry_prefix, same_rule_prefix, fresh, distinct, sound_within}

pub and_left : (a b : Bool) → a && b ≡ true → a ≡ true
and_left true b h = refl
and_left false b h = h

pub and_right : (a b : Bool) → a && b ≡ true → b ≡ true
and_right true b h = h
and_right false b h = absurd (false≢true h)

pub and_both : (a b : Bool) → a ≡ true → b ≡ true → a && b ≡ true
and_both a b h k = rw (h, k)

-- one of several conditions, by `search conjunct depth 20`
pub ruleset conjunct = (and_left, and_right)

-- conditions that hold, one by one
abbrev pub Holds : List Bool → Type 0
Holds [] = Unit {0}
Holds (b ∷ bs) = (b ≡ true) × Holds bs

-- one condition that holds, and others
infixr 20 ◌also◌
abbrev pub ◌also◌ : {A B : Type 0} → A → B → A × B
a also b = (a, b)

pub every_holds : (bs : List Bool) → every bs ≡ true → Holds bs
every_holds [] h = tt
every_holds (b ∷ bs) h = (and_left b (every bs) h, every_holds bs (and_right b (every bs) h))

pub holds-every : (bs : List Bool) → Holds bs → every bs ≡ true
holds-every [] h = refl
holds-every (b ∷ bs) (h, k) = and_both b (every bs) h (holds-every bs k)

-- arithmetic, from conditions that hold, and conditions from arithmetic
pub ruleset holding = (arith, leb-true, ltb-true, eqb-true)

pub ruleset meeting = (arith, le-leb, lt-ltb, eq-eqb)

-- one condition or another
pub or_cases : {C : Type 0} (a b : Bool) → a || b ≡ true → (a ≡ true → C) → (b ≡ true → C) → C
or_cases true b h f g = f refl
or_cases false b h f g = g h

-- a condition on a field that is used
pub where_used_lem : (used c : Bool) → where_used used c ≡ true → used ≡ true → c ≡ true
where_used_lem true c h u = h
where_used_lem false c h u = absurd (false≢true u)

pub used_where : (used c : Bool) → (used ≡ true → c ≡ true) → where_used used c ≡ true
used_where true c h = h refl
used_where false c h = refl

-- a condition on every number below n
pub all_at : (f : ℕ → Bool) (n i : ℕ) → all f n ≡ true → i < n → f i ≡ true
unfolding all
all_at f zero i h l = absurd (not-suc-le-zero l)
all_at f (suc n) i h l = pick (ℕ_discrete i n) (λ k. all_at f n i (and_left (all f n) (f n) h) k)
  where
    pick : Dec (i ≡ n) → (i < n → f i ≡ true) → f i ≡ true
    pick (yes e) front = rw e (and_right (all f n) (f n) h)
    pick (no d) front = front (omega arith)

pub at_all : (f : ℕ → Bool) (n : ℕ) → ((i : ℕ) → i < n → f i ≡ true) → all f n ≡ true
unfolding all
at_all f zero h = refl
at_all f (suc n) h = and_both (all f n) (f n) (at_all f n (λ i l. h i (omega arith))) (h n (omega arith))

-- numbers of which no two are the same
pub distinct_at : (same : ℕ → ℕ → Bool) (n i j : ℕ) → distinct same n ≡ true → i < j → j < n → same i j ≡ false
unfolding distinct
distinct_at same n i j h l k =
    not-true (same i j) (all_at (λ i. not (same i j)) j i (all_at (λ j. all (λ i. not (same i j)) j) n j h k) l)

pub at_distinct : (same : ℕ → ℕ → Bool) (n : ℕ) → ((i j : ℕ) → i < j → j < n → same i j ≡ false) → distinct same n ≡ true
unfolding distinct
at_distinct same n h = at_all (λ j. fresh same j) n (λ j k. at_all (λ i. not (same i j)) j (λ i l. rw (h i j l k)))

-- each part of a table's soundness, by its name
pub record SoundParts (limit : ℕ) (t : List ℕ) : Type 0 where
  pub header : header_sound limit t ≡ true
  pub entry : (i : ℕ) → i < entries t → entry_sound (policies t) (entry_at t i) ≡ true
  pub entry_apart : (i j : ℕ) → i < j → j < entries t → same_entry_prefix t i j ≡ false
  pub rule : (k : ℕ) → k < rules t → rule_sound (rule_at t k) ≡ true
  pub rule_apart : (i j : ℕ) → i < j → j < rules t → same_rule_prefix t i j ≡ false
  pub policy : (j : ℕ) → j < policies t → policy_sound (policy_at t j) ≡ true

pub sound_parts : (limit : ℕ) (t : List ℕ) → sound_within limit t ≡ true → SoundParts limit t
unfolding sound_within
sound_parts limit t h =
    record {
      header = search conjunct;
      entry = λ i l. all_at (λ i. entry_sound (policies t) (entry_at t i)) (entries t) i (search conjunct) l;
      entry_apart = λ i j l k. distinct_at (same_entry_prefix t) (entries t) i j (search conjunct) l k;
      rule = λ k l. all_at (λ k. rule_sound (rule_at t k)) (rules t) k (search conjunct) l;
      rule_apart = λ i j l k. distinct_at (same_rule_prefix t) (rules t) i j (search conjunct) l k;
      policy = λ j l. all_at (λ j. policy_sound (policy_at t j)) (policies t) j (search conjunct) l;
    }

pub parts_sound : (limit : ℕ) (t : List ℕ) → SoundParts limit t → sound_within limit t ≡ true
unfolding sound_within
parts_sound limit t s =
    and_both _ _ s.header
    (and_both _ _ (at_all _ (entries t) s.entry)
    (and_both _ _ (at_distinct (same_entry_prefix t) (entries t) s.entry_apart)
    (and_both _ _ (at_all _ (rules t) s.rule)
    (and_both _ _ (at_distinct (same_rule_prefix t) (rules t) s.rule_apart) (at_all _ (policies t) s.policy)))))
