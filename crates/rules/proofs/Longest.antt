-- What the longest match is, said without its fold; and that a sound table has one only.
use mathlib.Core.Path.{◌≡◌, refl, sym, ◌∙◌, ap}
use mathlib.Core.Bool.{Bool, true, false, cond, ◌&&◌, true≢false}
use mathlib.Core.List.{List}
use Prim.Native.Nat.{ℕ, zero, suc, ◌≤◌, ◌<◌}
use native.Mathlib.Nat.{not-suc-le-zero}
use native.Mathlib.Omega.{arith}
use native.Mathlib.Decide.{ℕ_discrete, dec_lt}
use borrow.Author.Tests.{ltb-true, ltb-false, eq-eqb}
use lib.Dec.{ltb, eqb}
use Rattle.rules.specs.Octets.{number}
use Rattle.rules.specs.Prefix.{under, clear}
use Rattle.rules.specs.Table.{entries, rules, entry_at, rule_at}
use Rattle.rules.specs.Entry as Entry
use Rattle.rules.specs.Rule as Rule
use Rattle.rules.specs.Sound.{entry_sound, rule_sound, same_entry_prefix, same_rule_prefix, sound_within}
use Rattle.rules.specs.Match.{longer, longest, entry_matches, entry_bits, rule_matches, rule_bits, match_entry, match_rule}
use Rattle.std.specs.Prelude.{Option, Some, None}
use Rattle.rules.proofs.Conditions.{conjunct, sound_parts}
use Rattle.rules.proofs.Prefixes.{one_prefix}

-- i is below n and matches, and no match below n has more bits
pub record BestAt (matches : ℕ → Bool) (bits : ℕ → ℕ) (n i : ℕ) : Type 0 where
  pub below : i < n
  pub hit : matches i ≡ true
  pub most : (j : ℕ) → j < n → matches j ≡ true → bits j ≤ bits i

-- what is found is a longest match below n: such a number, or nothing where none matches
abbrev pub Best : (matches : ℕ → Bool) (bits : ℕ → ℕ) (n : ℕ) → Option ℕ → Type 0
Best matches bits n None = (j : ℕ) → j < n → matches j ≡ true → ⊥
Best matches bits n (Some i) = BestAt matches bits n i

module _ (matches : ℕ → Bool) (bits : ℕ → ℕ) where
  -- what holds of the matches below n, and of n where it matches, holds of those below n + 1
  one_more : (P : ℕ → Type 0) (n : ℕ) → ((j : ℕ) → j < n → matches j ≡ true → P j) → (matches n ≡ true → P n) → (j : ℕ) → j < suc n
      → matches j ≡ true → P j
  one_more P n front last j l h = pick (ℕ_discrete j n)
    where
      pick : Dec (j ≡ n) → P j
      pick (yes e) = rw e (last (rw (← e) h))
      pick (no d) = front j (omega arith) h

  -- a number that does not match changes nothing
  best_miss : (n : ℕ) (found : Option ℕ) → matches n ≡ false → Best matches bits n found → Best matches bits (suc n) found
  best_miss n None e b = one_more (λ j. ⊥) n b (λ h. true≢false (sym h ∙ e))
  best_miss n (Some i) e b =
      record {
        below = omega arith;
        hit = b.hit;
        most = one_more (λ j. bits j ≤ bits i) n b.most (λ h. absurd (true≢false (sym h ∙ e)));
      }

  best_hit : (n : ℕ) (found : Option ℕ) → matches n ≡ true → Best matches bits n found → Best matches bits (suc n) (longer bits found n)
  best_hit n None e b =
      record { below = omega arith; hit = e; most = one_more (λ j. bits j ≤ bits n) n (λ j l h. absurd (b j l h)) (λ h. omega arith) }
  best_hit n (Some i) e b = pick (ltb (bits i) (bits n)) refl
    where
      pick : (longer : Bool) → ltb (bits i) (bits n) ≡ longer → Best matches bits (suc n) (cond longer (Some n) (Some i))
      pick true q =
          record {
            below = omega arith;
            hit = e;
            most = one_more (λ j. bits j ≤ bits n) n (λ j l h. omega (arith, ltb-true, b.most j l h)) (λ h. omega arith);
          }
      pick false q =
          record { below = omega arith; hit = b.hit; most = one_more (λ j. bits j ≤ bits i) n b.most (λ h. omega (arith, ltb-false)) }

  pub longest-best : (n : ℕ) → Best matches bits n (longest matches bits n)
  unfolding longest
  longest-best zero = λ j l h. not-suc-le-zero l
  longest-best (suc n) = pick (matches n) refl (longest-best n)
    where
      pick : (b : Bool) → matches n ≡ b → Best matches bits n (longest matches bits n)
          → Best matches bits (suc n) (cond b (longer bits (longest matches bits n) n) (longest matches bits n))
      pick true e h = best_hit n (longest matches bits n) e h
      pick false e h = best_miss n (longest matches bits n) e h

  pub longest_at : (n i : ℕ) → longest matches bits n ≡ Some i → BestAt matches bits n i
  longest_at n i e = rw e at (longest-best n)

  pub longest-below : (n i : ℕ) → longest matches bits n ≡ Some i → i < n
  longest-below n i e = (longest_at n i e).below

  -- where no two matches have equally many bits, there is one longest only
  pub best_one : (n : ℕ) → ((i j : ℕ) → i < n → j < n → matches i ≡ true → matches j ≡ true → bits i ≡ bits j → i ≡ j)
      → (f g : Option ℕ) → Best matches bits n f → Best matches bits n g → f ≡ g
  best_one n one None None b c = refl
  best_one n one None (Some j) b c = absurd (b j c.below c.hit)
  best_one n one (Some i) None b c = absurd (c i b.below b.hit)
  best_one n one (Some i) (Some j) b c =
      ap Some (one i j b.below c.below b.hit c.hit (omega (arith, b.most j c.below c.hit, c.most i b.below b.hit)))

-- what the matches of a table find
pub matched_entry : (t a : List ℕ) (i : ℕ) → match_entry t a ≡ Some i → BestAt (entry_matches t a) (entry_bits t) (entries t) i
unfolding match_entry
matched_entry t a i e = longest_at (entry_matches t a) (entry_bits t) (entries t) i e

pub matched_rule : (t a : List ℕ) (k : ℕ) → match_rule t a ≡ Some k → BestAt (rule_matches t a) (rule_bits t) (rules t) k
unfolding match_rule
matched_rule t a k e = longest_at (rule_matches t a) (rule_bits t) (rules t) k e

-- prefixes of w octets with no bits past their lengths, of which no two are the same: at most one of a length matches an address
module _ (w : ℕ) (prefix : ℕ → List ℕ) (bits : ℕ → ℕ) (n : ℕ)
    (clean : (i : ℕ) → i < n → clear w (prefix i) (bits i) ≡ true)
    (apart : (i j : ℕ) → i < j → j < n → eqb (bits i) (bits j) && eqb (number (prefix i) 0 w) (number (prefix j) 0 w) ≡ false)
    (a : List ℕ) where
  not_before : (i j : ℕ) → i < j → j < n → under w a (prefix i) (bits i) ≡ true → under w a (prefix j) (bits j) ≡ true → bits i ≡ bits j → ⊥
  not_before i j l k mi mj e =
      let p = one_prefix a (prefix i) (prefix j) w (bits i) mi (rw e mj) (clean i (omega arith)) (rw e (clean j k)) in
      true≢false (rw (eq-eqb (bits i) (bits j) e, eq-eqb (number (prefix i) 0 w) (number (prefix j) 0 w) p) at (apart i j l k))

  one_match : (i j : ℕ) → i < n → j < n → under w a (prefix i) (bits i) ≡ true → under w a (prefix j) (bits j) ≡ true → bits i ≡ bits j
      → i ≡ j
  one_match i j li lj mi mj e = pick (dec_lt i j) (dec_lt j i)
    where
      pick : Dec (i < j) → Dec (j < i) → i ≡ j
      pick (yes l) d = absurd (not_before i j l lj mi mj e)
      pick (no l) (yes k) = absurd (not_before j i k li mj mi (sym e))
      pick (no l) (no k) = omega arith

module _ (limit : ℕ) (t a : List ℕ) (s : sound_within limit t ≡ true) where
  pub entry_one : (i j : ℕ) → i < entries t → j < entries t → entry_matches t a i ≡ true → entry_matches t a j ≡ true
      → entry_bits t i ≡ entry_bits t j → i ≡ j
  unfolding entry_sound same_entry_prefix
  entry_one =
      let h = sound_parts limit t s in
      one_match 16 (λ i. Entry.prefix (entry_at t i)) (entry_bits t) (entries t) (λ i l.
      let c = h.entry i l in search conjunct depth 20) h.entry_apart a

  pub rule_one : (i j : ℕ) → i < rules t → j < rules t → rule_matches t a i ≡ true → rule_matches t a j ≡ true → rule_bits t i
      ≡ rule_bits t j
      → i ≡ j
  unfolding rule_sound same_rule_prefix
  rule_one =
      let h = sound_parts limit t s in
      one_match 4 (λ k. Rule.prefix (rule_at t k)) (rule_bits t) (rules t) (λ k l.
      let c = h.rule k l in search conjunct depth 20) h.rule_apart a

  -- whoever finds a longest match finds the one that the table's own match does
  pub the_longest-entry : (found : Option ℕ) → Best (entry_matches t a) (entry_bits t) (entries t) found → match_entry t a ≡ found
  unfolding match_entry
  the_longest-entry found b = best_one (entry_matches t a) (entry_bits t) (entries t) entry_one _ found (longest-best _ _ _) b

  pub the_longest-rule : (found : Option ℕ) → Best (rule_matches t a) (rule_bits t) (rules t) found → match_rule t a ≡ found
  unfolding match_rule
  the_longest-rule found b = best_one (rule_matches t a) (rule_bits t) (rules t) rule_one _ found (longest-best _ _ _) b
