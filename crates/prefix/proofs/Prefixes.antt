-- Laws of `under` and `clear` for octets in two parts: which part decides.
use mathlib.Core.Path.{◌≡◌, refl, ap, sym, ◌∙◌}
use mathlib.Core.Bool.{Bool, true, false, ◌&&◌}
use mathlib.Core.List.{List}
use Prim.Native.Nat.{ℕ, ◌+◌, ◌*◌, ◌-◌, ◌^◌, ◌/◌, ◌%◌, ◌<◌, ◌≤◌}
use native.Mathlib.Nat.{add-zero, zero-add, zero-mul, mul_assoc, mul-mod_left, mul-add-div_right, mul-add-mod_self_right, mod-eq_of_lt}
use native.Mathlib.Nat.{div-one, zero-div}
use native.Mathlib.Omega.{arith}
use native.Mathlib.Decide.{ℕ_discrete}
use borrow.Author.Tests.{eqb-true, eqb-false, eq-eqb, ne_eqb}
use lib.Dec.{eqb}
use lib.Pow.{pow-add, pow_pos, shr-shr, shr_lt, shl-shr, split, mod-pow-add, high, low}
use Rattle.rules.specs.Octets.{octet, Octets, number}
use Rattle.rules.specs.Prefix.{first_bits, under}
use Rattle.numbers.proofs.Words.{number_parts, number_small}

-- two tests that hold together are the same
pub eqb_iff : (a b c d : ℕ) → (a ≡ b → c ≡ d) → (c ≡ d → a ≡ b) → eqb a b ≡ eqb c d
eqb_iff a b c d f g = pick (eqb c d) refl
  where
    pick : (t : Bool) → eqb c d ≡ t → eqb a b ≡ t
    pick true e = eq-eqb a b (g (eqb-true c d e))
    pick false e = ne_eqb a b (λ h. eqb-false c d e (f h))

eqb_add : (c x y : ℕ) → eqb (c + x) (c + y) ≡ eqb x y
eqb_add c x y = eqb_iff (c + x) (c + y) x y (λ q. omega arith) (λ q. omega arith)

-- n octets, and the m after them
module _ (s : List ℕ) (n m b : ℕ) where
  parts : number s 0 (n + m) ≡ number s 0 n * 2 ^ (8 * m) + number s n m
  parts = number_parts s 0 n m ∙ rw (zero-add n) refl

  bits_front : number s n m < 2 ^ (8 * m) → b ≤ 8 * n → first_bits (n + m) s b ≡ first_bits n s b
  unfolding first_bits
  bits_front h l =
      let e : 8 * (n + m) - b ≡ 8 * m + (8 * n - b) = omega arith in
      rw (parts, e, ← shr-shr, high (number s 0 n) (8 * m) h) refl

  bits_back : 8 * n ≤ b → first_bits (n + m) s b ≡ number s 0 n * 2 ^ (8 * m - (8 * (n + m) - b)) + number s n m / 2 ^ (8 * (n + m) - b)
  unfolding first_bits
  bits_back l =
      let k : ℕ = 8 * (n + m) - b in
      let f : 8 * m ≡ (8 * m - k) + k = omega arith in
      rw parts
      (ap (λ (x : ℕ). (number s 0 n * 2 ^ x + number s n m) / 2 ^ k) f
      ∙ rw (pow-add 2 (8 * m - k) k, ← mul_assoc (number s 0 n) (2 ^ (8 * m - k)) (2 ^ k))
      (mul-add-div_right (pow_pos k) (number s 0 n * 2 ^ (8 * m - k)) (number s n m)))

module _ (a p : List ℕ) (n m b : ℕ) (ha : number a n m < 2 ^ (8 * m)) (hp : number p n m < 2 ^ (8 * m)) where
  -- within the first n octets the others do not count
  pub under_front : b ≤ 8 * n → under (n + m) a p b ≡ under n a p b
  unfolding under
  under_front l = rw (bits_front a n m b ha l, bits_front p n m b hp l) refl

  -- where the first n octets are the same, the others decide
  pub under_same : 8 * n ≤ b → number a 0 n ≡ number p 0 n
      → under (n + m) a p b ≡ eqb (number a n m / 2 ^ (8 * (n + m) - b)) (number p n m / 2 ^ (8 * (n + m) - b))
  unfolding under
  under_same l e =
      rw (bits_back a n m b l, bits_back p n m b l, e)
      (eqb_add (number p 0 n * 2 ^ (8 * m - (8 * (n + m) - b))) (number a n m / 2 ^ (8 * (n + m) - b))
      (number p n m / 2 ^ (8 * (n + m) - b)))

  -- where they are not, the address does not lie under the prefix
  pub under_differ : 8 * n ≤ b → (number a 0 n ≡ number p 0 n → ⊥) → under (n + m) a p b ≡ false
  unfolding under
  under_differ l d =
      let k : ℕ = 8 * (n + m) - b in
      let f : 8 * m ≡ (8 * m - k) + k = omega arith in
      let la : number a n m / 2 ^ k < 2 ^ (8 * m - k) = shr_lt (8 * m - k) k (rw (← f) ha) in
      let lp : number p n m / 2 ^ k < 2 ^ (8 * m - k) = shr_lt (8 * m - k) k (rw (← f) hp) in
      rw (bits_back a n m b l, bits_back p n m b l)
      (ne_eqb _ _ (λ q. d (sym (high (number a 0 n) (8 * m - k) la) ∙ ap (λ (x : ℕ). x / 2 ^ (8 * m - k)) q
      ∙ high (number p 0 n) (8 * m - k) lp)))

-- WHOLE OCTETS, THEN THE PART OF ONE

number_one : (s : List ℕ) (i : ℕ) → number s i 1 ≡ octet s i
unfolding number
number_one s i = rw add-zero (omega arith)

-- i octets that are the same, and m more
pub same_more : (a b : List ℕ) (i m : ℕ) → number a 0 i ≡ number b 0 i → number a i m ≡ number b i m
    → number a 0 (i + m) ≡ number b 0 (i + m)
same_more a b i m e h = rw (parts a i m 0, parts b i m 0, e, h) refl

-- the m octets behind the first i, of all
within : (s : List ℕ) → Octets s → (i m r : ℕ) → number s 0 (i + m + r) / 2 ^ (8 * r) % 2 ^ (8 * m) ≡ number s i m
within s o i m r = rw (parts s (i + m) r 0, high _ _ (number_small s o (i + m) r), parts s i m 0) (low _ _ (number_small s o i m))

-- where m octets among the first n are not the same, the n are not
pub some_differ : (a b : List ℕ) → Octets a → Octets b → (i m n : ℕ) → i + m ≤ n → (number a i m ≡ number b i m → ⊥)
    → eqb (number a 0 n) (number b 0 n) ≡ false
some_differ a b oa ob i m n l d =
    let r : ℕ = n - (i + m) in
    let e : n ≡ i + m + r = omega arith in
    rw e
    (ne_eqb (number a 0 (i + m + r)) (number b 0 (i + m + r))
    (λ q. d (sym (within a oa i m r) ∙ ap (λ (x : ℕ). x / 2 ^ (8 * r) % 2 ^ (8 * m)) q ∙ within b ob i m r)))

-- where one is left of n, it decides
pub one_left : (a b : List ℕ) (i n : ℕ) → number a 0 i ≡ number b 0 i → n ≡ i + 1
    → eqb (octet a i) (octet b i) ≡ eqb (number a 0 n) (number b 0 n)
one_left a b i n e h =
    rw (h, parts a i 1 0, parts b i 1 0, e, number_one a i, number_one b i)
    (sym (eqb_add (number b 0 i * 2 ^ (8 * 1)) (octet a i) (octet b i)))

-- of more bits than there are, all
pub under-past : (a p : List ℕ) (w b c : ℕ) → c ≡ b - (b - 8 * w) → under w a p c ≡ under w a p b
unfolding under first_bits
under-past a p w b c h = let e : 8 * w - c ≡ 8 * w - b = omega arith in rw e refl

module _ (a p : List ℕ) (oa : Octets a) (op : Octets p) (w b : ℕ) where
  -- the first k octets, where the prefix is no longer
  pub under-octets : (k : ℕ) → b ≡ 8 * k → k ≤ w → under w a p b ≡ eqb (number a 0 k) (number p 0 k)
  unfolding under first_bits
  under-octets k e l =
      let m : ℕ = w - k in
      let width : w ≡ k + m = omega arith in
      let none : 8 * k - b ≡ 0 = omega arith in
      ap (λ (n : ℕ). under n a p b) width
      ∙ under_front a p k m b (number_small a oa k m) (number_small p op k m) (omega arith)
      ∙ rw (none, div-one, div-one) refl

  -- the first k octets, and the first r bits of the one behind them
  pub under_part : (k r : ℕ) → b ≡ 8 * k + r → r < 8 → k < w
      → under w a p b ≡ eqb (number a 0 k) (number p 0 k) && eqb (octet a k / 2 ^ (8 - r)) (octet p k / 2 ^ (8 - r))
  under_part k r e lr lk =
      ap (λ (n : ℕ). under n a p b) width
      ∙ under_front a p (k + 1) m b (number_small a oa (k + 1) m) (number_small p op (k + 1) m) (omega arith)
      ∙ pick (ℕ_discrete (number a 0 k) (number p 0 k))
    where
      m : ℕ
      m = w - (k + 1)

      width : w ≡ k + 1 + m
      width = omega arith

      rest : 8 * (k + 1) - b ≡ 8 - r
      rest = omega arith

      pick : Dec (number a 0 k ≡ number p 0 k)
          → under (k + 1) a p b ≡ eqb (number a 0 k) (number p 0 k) && eqb (octet a k / 2 ^ (8 - r)) (octet p k / 2 ^ (8 - r))
      pick (yes q) =
          rw (
            under_same a p k 1 b (number_small a oa k 1) (number_small p op k 1) (omega arith) q,
            eq-eqb _ _ q,
            number_one a k,
            number_one p k,
            rest,
          ) refl
      pick (no d) = rw (under_differ a p k 1 b (number_small a oa k 1) (number_small p op k 1) (omega arith) d, ne_eqb _ _ d) refl

  -- What `lies_under` tells, by the octets that it looks at: the first n, and octets i and j.
  pub told_differ : (n : ℕ) → eqb (number a 0 n) (number p 0 n) ≡ false → 8 * n ≤ b → n ≤ w → false ≡ under w a p b
  told_differ n h lb lw =
      let m : ℕ = w - n in
      let width : w ≡ n + m = omega arith in
      sym (ap (λ (x : ℕ). under x a p b) width
      ∙ under_differ a p n m b (number_small a oa n m) (number_small p op n m) lb (eqb-false _ _ h))

  pub told-whole : (n : ℕ) → eqb (number a 0 n) (number p 0 n) ≡ true → b ≡ 8 * n → n ≤ w → true ≡ under w a p b
  told-whole n h e l = sym (under-octets n e l ∙ h)

  pub told_part : (n i j rest : ℕ) → eqb (number a 0 n) (number p 0 n) ≡ true → i ≡ n → j ≡ n → b + rest ≡ 8 * (n + 1)
      → 0 < rest → rest ≤ 8 → n < w → eqb (octet a i / 2 ^ rest) (octet p j / 2 ^ rest) ≡ under w a p b
  told_part n i j rest h ei ej eb lo hi l =
      let r : 8 - (8 - rest) ≡ rest = omega arith in
      rw (ei, ej, under_part n (8 - rest) (omega arith) (omega arith) l, h, r) refl

-- a word whose last k bits are 0 is what two shifts make of it
pub shifted : (x k : ℕ) → x < 2 ^ 64 → eqb ((x / 2 ^ k * 2 ^ k) % 2 ^ 64) x ≡ eqb (x % 2 ^ k) 0
shifted x k h =
    let e : x / 2 ^ k * 2 ^ k + x % 2 ^ k ≡ x = split x k in
    let l : x / 2 ^ k * 2 ^ k < 2 ^ 64 = omega arith in
    rw (mod-eq_of_lt l) (eqb_iff (x / 2 ^ k * 2 ^ k) x (x % 2 ^ k) 0 (λ q. omega arith) (λ q. omega arith))

zero_of : (x k : ℕ) → x * 2 ^ k ≡ 0 → x ≡ 0
zero_of x k q = sym (shl-shr x k) ∙ ap (λ (y : ℕ). y / 2 ^ k) q ∙ zero-div (2 ^ k)

-- A PREFIX IN TWO WORDS

-- a shift to the left drops the first bits of a word: the others are left where they are all 0 together
pub dropped : (x a b : ℕ) → b + a ≡ 64 → eqb (x * 2 ^ a % 2 ^ 64) 0 ≡ eqb (x % 2 ^ b) 0
dropped x a b e =
    let l : x * 2 ^ a % 2 ^ (b + a) ≡ x % 2 ^ b * 2 ^ a =
    rw (mod-pow-add (x * 2 ^ a) b a, shl-shr x a, mul-mod_left x (2 ^ a)) (add-zero (x % 2 ^ b * 2 ^ a)) in
    ap (λ (k : ℕ). eqb (x * 2 ^ a % 2 ^ k) 0) (sym e)
    ∙ rw l (eqb_iff (x % 2 ^ b * 2 ^ a) 0 (x % 2 ^ b) 0 (λ q. zero_of (x % 2 ^ b) a q) (λ q. rw q (zero-mul (2 ^ a))))

-- past the first word the second decides
pub past_first : (h l b : ℕ) → 64 ≤ b → b ≤ 128 → (h * 2 ^ 64 + l) % 2 ^ (128 - b) ≡ l % 2 ^ (128 - b)
past_first h l b lo hi =
    let k : ℕ = 128 - b in
    let f : 64 ≡ (64 - k) + k = omega arith in
    ap (λ (x : ℕ). (h * 2 ^ x + l) % 2 ^ k) f
    ∙ rw (pow-add 2 (64 - k) k, ← mul_assoc h (2 ^ (64 - k)) (2 ^ k)) (mul-add-mod_self_right (h * 2 ^ (64 - k)) (2 ^ k) l)

-- within it the second has to be 0
module _ (h l b : ℕ) (s : l < 2 ^ 64) (m : b ≤ 64) where
  whole-second : (h * 2 ^ 64 + l) % 2 ^ (128 - b) ≡ h % 2 ^ (64 - b) * 2 ^ 64 + l
  whole-second =
      let e : 128 - b ≡ (64 - b) + 64 = omega arith in
      rw (e, mod-pow-add (h * 2 ^ 64 + l) (64 - b) 64, high h 64 s, low h 64 s) refl

  pub second-set : (l ≡ 0 → ⊥) → eqb ((h * 2 ^ 64 + l) % 2 ^ (128 - b)) 0 ≡ false
  second-set z = rw whole-second (ne_eqb (h % 2 ^ (64 - b) * 2 ^ 64 + l) 0 (λ q. z (omega arith)))

  pub second-clear : l ≡ 0 → eqb ((h * 2 ^ 64 + l) % 2 ^ (128 - b)) 0 ≡ eqb (h % 2 ^ (64 - b)) 0
  second-clear z =
      rw (whole-second, z)
      (eqb_iff (h % 2 ^ (64 - b) * 2 ^ 64 + 0) 0 (h % 2 ^ (64 - b)) 0 (λ q. zero_of (h % 2 ^ (64 - b)) 64 (omega arith)) (λ q. omega arith))
