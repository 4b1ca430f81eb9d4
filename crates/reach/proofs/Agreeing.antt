-- Under a prefix, octet by octet: an address lies under a prefix of b bits exactly where each of its octets has the bits of the prefix's
-- that are among the first b. The number of an address says nothing of single octets, so what changes some of them is shown here.
use mathlib.Core.Path.{◌≡◌, refl, sym, ap, ◌∙◌}
use mathlib.Core.Bool.{true}
use mathlib.Core.List.{List}
use Prim.Native.Nat.{ℕ, zero, suc, ◌+◌, ◌*◌, ◌-◌, ◌^◌, ◌/◌, ◌%◌, ◌≤◌, ◌<◌}
use native.Mathlib.Nat.{not-suc-le-zero, zero-add, mul_assoc, mul-add-div_right, div-eq_of_lt, div-one}
use native.Mathlib.Omega.{arith}
use native.Mathlib.Decide.{ℕ_discrete, dec_lt}
use borrow.Author.Tests.{eqb-true, eq-eqb}
use lib.Pow.{pow-add, pow_pos, pow_mono, shr-shr, shr_lt, high, low}
use Rattle.rules.specs.Octets.{octet, Octets, number}
use Rattle.rules.specs.Prefix.{first_bits, under}

-- how many of the first eight, sixteen and so on bits lie past the first b: 8 or more where octet i has none of the first b
abbrev pub beyond : (b i : ℕ) → ℕ
beyond b i = 8 * suc i - b

-- each of the first w octets has the prefix's bits
abbrev pub Agree : (w : ℕ) (address prefix : List ℕ) (b : ℕ) → Type 0
Agree w a p b = (i : ℕ) → i < w → octet a i / 2 ^ beyond b i ≡ octet p i / 2 ^ beyond b i

-- eight bits dropped leave nothing of an octet
pub all_dropped : (x k : ℕ) → x < 256 → 8 ≤ k → x / 2 ^ k ≡ 0
all_dropped x k h l = div-eq_of_lt (omega (arith, pow_mono l))

-- what is the same with k bits dropped is the same with more
pub more_dropped : (x y k m : ℕ) → k ≤ m → x / 2 ^ k ≡ y / 2 ^ k → x / 2 ^ m ≡ y / 2 ^ m
more_dropped x y k m l e =
    let s : m ≡ k + (m - k) = omega arith in
    rw s (sym (shr-shr x k (m - k)) ∙ ap (λ (z : ℕ). z / 2 ^ (m - k)) e ∙ shr-shr y k (m - k))

-- the first b bits of one octet more
module _ (s : List ℕ) (o : Octets s) (w b : ℕ) where
  -- it has none of them
  ends_before : b ≤ 8 * w → first_bits (suc w) s b ≡ first_bits w s b
  unfolding first_bits number
  ends_before l =
      let e : 8 * suc w - b ≡ 8 + (8 * w - b) = omega arith in
      rw (e, ← shr-shr (number s 0 w * 256 + octet s (0 + w)) 8 (8 * w - b), high (number s 0 w) 8 (o (0 + w)))

  -- all before it are among them
  all_before : 8 * w ≤ b → first_bits w s b ≡ number s 0 w
  unfolding first_bits
  all_before l = let e : 8 * w - b ≡ 0 = omega arith in rw e (div-one (number s 0 w))

  -- and some of its own
  ends_within : 8 * w ≤ b → first_bits (suc w) s b ≡ number s 0 w * 2 ^ (8 - beyond b w) + octet s w / 2 ^ beyond b w
  unfolding first_bits number
  ends_within l =
      let k : ℕ = 8 * suc w - b in
      let f : 8 ≡ (8 - k) + k = omega arith in
      let z : octet s (0 + w) ≡ octet s w = ap (octet s) (zero-add w) in
      rw z
      (ap (λ (x : ℕ). (number s 0 w * 2 ^ x + octet s w) / 2 ^ k) f
      ∙ rw (pow-add 2 (8 - k) k, ← mul_assoc (number s 0 w) (2 ^ (8 - k)) (2 ^ k))
      (mul-add-div_right (pow_pos k) (number s 0 w * 2 ^ (8 - k)) (octet s w)))

  own_part : 8 * w ≤ b → octet s w / 2 ^ beyond b w < 2 ^ (8 - beyond b w)
  own_part l =
      let k : ℕ = 8 * suc w - b in
      let f : 8 ≡ (8 - k) + k = omega arith in
      shr_lt (8 - k) k (rw (← f) (o w))

module _ (a p : List ℕ) (oa : Octets a) (op : Octets p) (b : ℕ) where
  same-agree : (w : ℕ) → first_bits w a b ≡ first_bits w p b → Agree w a p b
  same-agree zero e i l = absurd (not-suc-le-zero l)
  same-agree (suc w) e i l = pick (λ e k. same-agree w e i k) (dec_lt (8 * w) b) (ℕ_discrete i w)
    where
      pick : (first_bits w a b ≡ first_bits w p b → i < w → octet a i / 2 ^ beyond b i ≡ octet p i / 2 ^ beyond b i)
          → Dec (8 * w < b) → Dec (i ≡ w) → octet a i / 2 ^ beyond b i ≡ octet p i / 2 ^ beyond b i
      pick front (no n) (yes q) =
          all_dropped (octet a i) (beyond b i) (oa i) (omega arith) ∙ sym (all_dropped (octet p i) (beyond b i) (op i) (omega arith))
      pick front (no n) (no d) =
          front (sym (ends_before a oa w b (omega arith)) ∙ e ∙ ends_before p op w b (omega arith)) (omega arith)
      pick front (yes y) (yes q) =
          let m : ℕ = 8 - beyond b w in
          let f = sym (ends_within a oa w b (omega arith)) ∙ e ∙ ends_within p op w b (omega arith) in
          rw q
          (sym (low (number a 0 w) m (own_part a oa w b (omega arith)))
          ∙ ap (λ (x : ℕ). x % 2 ^ m) f
          ∙ low (number p 0 w) m (own_part p op w b (omega arith)))
      pick front (yes y) (no d) =
          let m : ℕ = 8 - beyond b w in
          let f = sym (ends_within a oa w b (omega arith)) ∙ e ∙ ends_within p op w b (omega arith) in
          let n : number a 0 w ≡ number p 0 w =
          sym (high (number a 0 w) m (own_part a oa w b (omega arith)))
          ∙ ap (λ (x : ℕ). x / 2 ^ m) f
          ∙ high (number p 0 w) m (own_part p op w b (omega arith)) in
          front (all_before a oa w b (omega arith) ∙ n ∙ sym (all_before p op w b (omega arith))) (omega arith)

  agree_same : (w : ℕ) → Agree w a p b → first_bits w a b ≡ first_bits w p b
  unfolding first_bits number
  agree_same zero g = refl
  agree_same (suc w) g = pick (dec_lt (8 * w) b) (agree_same w (λ i l. g i (omega arith)))
    where
      pick : Dec (8 * w < b) → first_bits w a b ≡ first_bits w p b → first_bits (suc w) a b ≡ first_bits (suc w) p b
      pick (no n) e = ends_before a oa w b (omega arith) ∙ e ∙ sym (ends_before p op w b (omega arith))
      pick (yes y) e =
          let n : number a 0 w ≡ number p 0 w = sym (all_before a oa w b (omega arith)) ∙ e ∙ all_before p op w b (omega arith) in
          ends_within a oa w b (omega arith) ∙ rw (n, g w (omega arith)) (sym (ends_within p op w b (omega arith)))

  pub under-agree : (w : ℕ) → under w a p b ≡ true → Agree w a p b
  unfolding under
  under-agree w h = same-agree w (eqb-true (first_bits w a b) (first_bits w p b) h)

  pub agree-under : (w : ℕ) → Agree w a p b → under w a p b ≡ true
  unfolding under
  agree-under w g = eq-eqb (first_bits w a b) (first_bits w p b) (agree_same w g)

-- addresses with the same first n octets lie under the same prefixes of at most 8n bits
pub same_front : (a c p : List ℕ) (w n b : ℕ) → Octets a → Octets c → Octets p → b ≤ 8 * n → ((i : ℕ) → i < n → octet a i ≡ octet c i)
    → under w a p b ≡ true → under w c p b ≡ true
same_front a c p w n b oa oc op l same h = agree-under c p oc op b w (λ i k. pick i k (dec_lt i n))
  where
    pick : (i : ℕ) → i < w → Dec (i < n) → octet c i / 2 ^ beyond b i ≡ octet p i / 2 ^ beyond b i
    pick i k (yes q) = rw (← same i q) (under-agree a p oa op b w h i k)
    pick i k (no q) =
        all_dropped (octet c i) (beyond b i) (oc i) (omega arith) ∙ sym (all_dropped (octet p i) (beyond b i) (op i) (omega arith))
