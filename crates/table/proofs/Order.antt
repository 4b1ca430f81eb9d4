-- Laws of the order of prefixes: when two that are read in two words are the same, which stands first, and records in order.
use mathlib.Core.Path.{◌≡◌, refl, subst, ◌∙◌}
use mathlib.Core.Bool.{Bool, true, false, ◌&&◌}
use mathlib.Core.List.{List}
use Prim.Native.Nat.{ℕ, zero, suc, ◌+◌, ◌-◌, ◌*◌, ◌^◌, ◌≤◌, ◌<◌}
use native.Mathlib.Numerals.{add-one}
use native.Mathlib.Omega.{arith}
use native.Mathlib.Decide.{ℕ_discrete}
use borrow.Author.Tests.{eq-eqb, ne_eqb, eqb-true}
use lib.Dec.{eqb, ltb}
use Rattle.std.specs.Prelude.{Some}
use Rattle.std.specs.Ordering.{nat_cmp, partial_lt, partial_ordering_then}
use Rattle.std.proofs.lemmas.Bool.Decides.{nat_tests}
use Rattle.rules.specs.Octets.{Octets, number}
use Rattle.rules.specs.Table.{entry_at, rule_at}
use Rattle.rules.specs.Entry.{prefix, prefix_length}
use Rattle.rules.specs.Rule as Rule
use Rattle.rules.specs.Sound.{same_entry_prefix, same_rule_prefix, distinct}
use Rattle.rules.proofs.Conditions.{and_left, and_right}
use Rattle.rules.proofs.Windows.{octets-window}
use Rattle.numbers.proofs.Words.{number_split}
use Rattle.prefix.proofs.Prefixes.{eqb_iff}
use Rattle.table.specs.Keys.{key_of, entry_key, rule_key}
use Rattle.table.proofs.Conditions.{distinct_none, distinct_more}

module _ (p q : List ℕ) (hp : number p 8 8 < 2 ^ 64) (hq : number q 8 8 < 2 ^ 64) where
  words-p : number p 0 16 ≡ number p 0 8 * 2 ^ 64 + number p 8 8
  words-p = number_split p 0 8 8

  words-q : number q 0 16 ≡ number q 0 8 * 2 ^ 64 + number q 8 8
  words-q = number_split q 0 8 8

  pub eqb_words : eqb (number p 0 16) (number q 0 16) ≡ eqb (number p 0 8) (number q 0 8) && eqb (number p 8 8) (number q 8 8)
  eqb_words = pick (ℕ_discrete (number p 0 8) (number q 0 8))
    where
      pick : Dec (number p 0 8 ≡ number q 0 8) → eqb (number p 0 16) (number q 0 16) ≡ eqb (number p 0 8) (number q 0 8)
          && eqb (number p 8 8) (number q 8 8)
      pick (yes e) =
          rw (eq-eqb _ _ e) (eqb_iff (number p 0 16) (number q 0 16) (number p 8 8) (number q 8 8) (λ r. omega (arith, words-p, words-q))
          (λ r. omega (arith, words-p, words-q)))
      pick (no d) = rw (ne_eqb _ _ d) (ne_eqb (number p 0 16) (number q 0 16) (λ r. d (omega (arith, words-p, words-q))))

-- a prefix's two words and its length, as code compares them
abbrev pub earlier : (x y : ℕ × ℕ × ℕ) → Bool
earlier =
    partial_lt (λ x y. partial_ordering_then (partial_ordering_then (Some (nat_cmp x.0 y.0)) (Some (nat_cmp x.1 y.1)))
    (Some (nat_cmp x.2 y.2)))

earlier-number : (h l b g k c : ℕ) → l < 2 ^ 64 → k < 2 ^ 64 → b < 256 → c < 256
    → earlier (h, l, b) (g, k, c) ≡ ltb ((h * 2 ^ 64 + l) * 256 + b) ((g * 2 ^ 64 + k) * 256 + c)
earlier-number h l b g k c hl hk hb hc = grind (arith, nat_tests)

key-words : (e : List ℕ) {p : List ℕ} {h l : ℕ} → p ≡ prefix e → h ≡ number p 0 8 → l ≡ number p 8 8
    → key_of e ≡ (h * 2 ^ 64 + l) * 256 + prefix_length e
key-words e s a b = rw (a, b, s, number_split (prefix e) 0 8 8)

-- the order of two entries
pub entry_earlier : (t : List ℕ) → Octets t → (i j : ℕ) {e f p q : List ℕ} {h l g k : ℕ} {r : Bool} → e ≡ entry_at t i → f ≡ entry_at t j
    → p ≡ prefix e → q ≡ prefix f → h ≡ number p 0 8 → l ≡ number p 8 8 → g ≡ number q 0 8 → k ≡ number q 8 8
    → l < 2 ^ 64 → k < 2 ^ 64 → r ≡ earlier (h, l, prefix_length e) (g, k, prefix_length f) → r ≡ ltb (entry_key t i) (entry_key t j)
unfolding entry_at
entry_earlier t o i j {e} {f} {h = h} {l = l} {g = g} {k = k} es fs ps qs a b c d hl hk r =
    let eo : prefix_length e < 256 = rw es (octets-window t (16 + 64 * i) 64 o 1) in
    let fo : prefix_length f < 256 = rw fs (octets-window t (16 + 64 * j) 64 o 1) in
    rw (← es, ← fs, key-words e ps a b, key-words f qs c d)
    (r ∙ earlier-number h l (prefix_length e) g k (prefix_length f) hl hk eo fo)

-- two rules whose keys are the same have the same prefix with the same length
pub key-same : (n m b c : ℕ) → b < 256 → c < 256 → eqb (n * 256 + b) (m * 256 + c) ≡ eqb b c && eqb n m
key-same n m b c hb hc = grind (arith, nat_tests)

pub rule_same : (t : List ℕ) → Octets t → (i j : ℕ) {k l : ℕ} → k ≡ rule_key t i → l ≡ rule_key t j → eqb k l ≡ same_rule_prefix t i j
unfolding rule_at same_rule_prefix
rule_same t o i j a b =
    rw (a, b) (key-same _ _ (Rule.prefix_length (rule_at t i)) (Rule.prefix_length (rule_at t j))
    (octets-window t _ 160 o 0) (octets-window t _ 160 o 0))

-- entries with the same prefix and length have the same key
same_key : (t : List ℕ) (i j : ℕ) → same_entry_prefix t i j ≡ true → entry_key t i ≡ entry_key t j
unfolding same_entry_prefix
same_key t i j h =
    let b = eqb-true (prefix_length (entry_at t i)) (prefix_length (entry_at t j))
    (and_left _ (eqb (number (prefix (entry_at t i)) 0 16) (number (prefix (entry_at t j)) 0 16)) h) in
    let p = eqb-true (number (prefix (entry_at t i)) 0 16) (number (prefix (entry_at t j)) 0 16)
    (and_right (eqb (prefix_length (entry_at t i)) (prefix_length (entry_at t j))) _ h) in
    rw (b, p) refl

pub other_key : (t : List ℕ) (i j : ℕ) → entry_key t i < entry_key t j → same_entry_prefix t i j ≡ false
other_key t i j l = pick (same_entry_prefix t i j) refl
  where
    pick : (b : Bool) → same_entry_prefix t i j ≡ b → same_entry_prefix t i j ≡ false
    pick true e = absurd (omega (arith, same_key t i j e))
    pick false e = e

-- the same of rules
same-rule_key : (t : List ℕ) (i j : ℕ) → same_rule_prefix t i j ≡ true → rule_key t i ≡ rule_key t j
unfolding same_rule_prefix
same-rule_key t i j h =
    let b = eqb-true (Rule.prefix_length (rule_at t i)) (Rule.prefix_length (rule_at t j))
    (and_left _ (eqb (number (Rule.prefix (rule_at t i)) 0 4) (number (Rule.prefix (rule_at t j)) 0 4)) h) in
    let p = eqb-true (number (Rule.prefix (rule_at t i)) 0 4) (number (Rule.prefix (rule_at t j)) 0 4)
    (and_right (eqb (Rule.prefix_length (rule_at t i)) (Rule.prefix_length (rule_at t j))) _ h) in
    rw (b, p) refl

pub other-rule_key : (t : List ℕ) (i j : ℕ) → rule_key t i < rule_key t j → same_rule_prefix t i j ≡ false
other-rule_key t i j l = pick (same_rule_prefix t i j) refl
  where
    pick : (b : Bool) → same_rule_prefix t i j ≡ b → same_rule_prefix t i j ≡ false
    pick true e = absurd (omega (arith, same-rule_key t i j e))
    pick false e = e

-- RECORDS IN ORDER

module _ (key : ℕ → ℕ) (same : ℕ → ℕ → Bool) (other : (i j : ℕ) → key i < key j → same i j ≡ false) where
  -- where each key is past that of the record before it, it is past those of all before it
  past : (n : ℕ) → ((i : ℕ) → 1 ≤ i → i < n → key (i - 1) < key i) → (j k : ℕ) → j < k → k < n → key j < key k
  past n h j zero l m = absurd (omega arith)
  past n h j (suc k) l m =
      let e : suc k - 1 ≡ k = omega arith in
      pick (λ d. past n h j k d (omega arith)) (subst (λ i. key i < key (suc k)) e (h (suc k) (omega arith) m)) (ℕ_discrete j k)
    where
      pick : (j < k → key j < key k) → key k < key (suc k) → Dec (j ≡ k) → key j < key (suc k)
      pick front e (yes q) = rw q e
      pick front e (no d) = omega (arith, front (omega arith))

  -- so no two records are the same
  pub distinct_ascending : (n : ℕ) → ((i : ℕ) → 1 ≤ i → i < n → key (i - 1) < key i) → distinct same n ≡ true
  distinct_ascending n h = up_to n (omega arith)
    where
      up_to : (m : ℕ) → m ≤ n → distinct same m ≡ true
      up_to zero l = distinct_none same
      up_to (suc m) l = rw (← add-one) (distinct_more same m (up_to m (omega arith)) (λ k q. other k m (past n h k m q l)))
