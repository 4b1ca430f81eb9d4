-- Octets and their numbers: bits past a prefix's length one by one, and octets of which the numbers are the same.
use mathlib.Core.Path.{◌≡◌, sym, ap, ◌∙◌}
use mathlib.Core.Bool.{true}
use mathlib.Core.List.{List}
use Prim.Native.Nat.{ℕ, zero, suc, ◌+◌, ◌-◌, ◌*◌, ◌/◌, ◌%◌, ◌^◌, ◌<◌}
use native.Mathlib.Nat.{zero-add, not-suc-le-zero, zero-div, zero-mod}
use native.Mathlib.Omega.{arith}
use native.Mathlib.Decide.{dec_lt, ℕ_discrete}
use borrow.Author.Tests.{eqb-true, eq-eqb}
use lib.Seq.{ext_get_or}
use lib.Pow.{high, shr-shr, field, mod-mod-pow, mod-pow-add}
use Rattle.rules.specs.Octets.{octet, Octets, window, number}
use Rattle.rules.specs.Prefix.{clear}
use Rattle.rules.specs.SoundTable.{bit, NoBitsPast}
use Rattle.rules.proofs.Windows.{window-length, octets-window}

-- THE BITS OF A NUMBER

-- its k last bits, where they are 0 together
bit_of_none : (n k j : ℕ) → n % 2 ^ k ≡ 0 → j < k → n / 2 ^ j % 2 ≡ 0
bit_of_none n k j h l =
    let e : k - (1 + j) + (1 + j) ≡ k = omega arith in
    let z : n % 2 ^ (k - (1 + j) + (1 + j)) ≡ 0 = rw e h in
    let f : n % 2 ^ (1 + j) ≡ 0 = sym (mod-mod-pow n (k - (1 + j)) (1 + j)) ∙ ap (λ (x : ℕ). x % 2 ^ (1 + j)) z ∙ zero-mod (2 ^ (1 + j)) in
    sym (field n 1 j) ∙ ap (λ (x : ℕ). x / 2 ^ j) f ∙ zero-div (2 ^ j)

none_of_bits : (n k : ℕ) → ((j : ℕ) → j < k → n / 2 ^ j % 2 ≡ 0) → n % 2 ^ k ≡ 0
none_of_bits n zero h = omega arith
none_of_bits n (suc k) h =
    let e : suc k ≡ 1 + k = omega arith in
    let z : n % 2 ^ k ≡ 0 = none_of_bits n k (λ j l. h j (omega arith)) in
    rw (e, mod-pow-add n 1 k, h k (omega arith), z) (omega arith)

-- THE BITS OF OCTETS

-- a bit of the last octet; the octets before it do not reach there
bit_low : (n m : ℕ) → m < 8 → n / 2 ^ m % 2 ≡ n % 256 % 2 ^ (1 + m) / 2 ^ m
bit_low n m h =
    let e : 7 - m + (1 + m) ≡ 8 = omega arith in
    sym (field n 1 m) ∙ ap (λ (x : ℕ). x / 2 ^ m) (sym (mod-mod-pow n (7 - m) (1 + m)) ∙ ap (λ (x : ℕ). n % 2 ^ x % 2 ^ (1 + m)) e)

last_bit : (n x m : ℕ) → m < 8 → (n * 256 + x) / 2 ^ m % 2 ≡ x / 2 ^ m % 2
last_bit n x m h =
    let e : (n * 256 + x) % 256 ≡ x % 256 = omega arith in
    bit_low (n * 256 + x) m h ∙ ap (λ (y : ℕ). y % 2 ^ (1 + m) / 2 ^ m) e ∙ sym (bit_low x m h)

-- bit i of w octets is that of their number
number_bit : (s : List ℕ) → Octets s → (w i : ℕ) → i < 8 * w → number s 0 w / 2 ^ (8 * w - 1 - i) % 2 ≡ bit s i
unfolding number
number_bit s o zero i l = absurd (omega arith)
number_bit s o (suc w) i l = pick (dec_lt i (8 * w)) (λ k. number_bit s o w i k)
  where
    pick : Dec (i < 8 * w) → (i < 8 * w → number s 0 w / 2 ^ (8 * w - 1 - i) % 2 ≡ bit s i)
        → number s 0 (suc w) / 2 ^ (8 * suc w - 1 - i) % 2 ≡ bit s i
    pick (yes k) front =
        let e : 8 * suc w - 1 - i ≡ 8 + (8 * w - 1 - i) = omega arith in
        rw (e, ← shr-shr (number s 0 w * 256 + octet s (0 + w)) 8 (8 * w - 1 - i), high (number s 0 w) 8 (o (0 + w))) (front k)
    pick (no d) front =
        let e : 8 * suc w - 1 - i ≡ 7 - i % 8 = omega arith in
        let f : i / 8 ≡ 0 + w = omega arith in
        rw (e, f) (last_bit (number s 0 w) (octet s (0 + w)) (7 - i % 8) (omega arith))

-- a prefix of w octets that is clear past its length, bit by bit
module _ (s : List ℕ) (w b : ℕ) (o : Octets s) where
  pub clear-past : clear w s b ≡ true → NoBitsPast b s (8 * w)
  unfolding clear
  clear-past h i l k = sym (number_bit s o w i k) ∙ bit_of_none (number s 0 w) (8 * w - b) (8 * w - 1 - i) (eqb-true _ _ h) (omega arith)

  pub past-clear : NoBitsPast b s (8 * w) → clear w s b ≡ true
  unfolding clear
  past-clear h = eq-eqb _ _ (none_of_bits (number s 0 w) (8 * w - b) (λ j l. at j (omega arith) l))
    where
      at : (j : ℕ) → j < 8 * w → j < 8 * w - b → number s 0 w / 2 ^ j % 2 ≡ 0
      at j k l =
          let e : 8 * w - 1 - (8 * w - 1 - j) ≡ j = omega arith in
          let g : number s 0 w / 2 ^ (8 * w - 1 - (8 * w - 1 - j)) % 2 ≡ 0 =
          number_bit s o w (8 * w - 1 - j) (omega arith) ∙ h (8 * w - 1 - j) (omega arith) (omega arith) in
          rw e at g

-- OCTETS OF ONE NUMBER

octets_one : (s r : List ℕ) → Octets s → Octets r → (n : ℕ) → number s 0 n ≡ number r 0 n → (k : ℕ) → k < n → octet s k ≡ octet r k
unfolding number
octets_one s r os or zero h k l = absurd (not-suc-le-zero l)
octets_one s r os or (suc n) h k l = pick (ℕ_discrete k n) (λ e l. octets_one s r os or n e k l)
  where
    sums : number s 0 n * 256 + octet s n ≡ number r 0 n * 256 + octet r n
    sums = rw (zero-add n) at h

    pick : Dec (k ≡ n) → (number s 0 n ≡ number r 0 n → k < n → octet s k ≡ octet r k) → octet s k ≡ octet r k
    pick (yes e) front = rw e (omega (arith, sums, os n, or n))
    pick (no d) front = front (omega (arith, sums, os n, or n)) (omega arith)

-- windows of one number are the same octets
pub windows_one : (s r : List ℕ) (i j n : ℕ) → Octets s → Octets r → number (window s i n) 0 n ≡ number (window r j n) 0 n
    → window s i n ≡ window r j n
windows_one s r i j n os or h =
    ext_get_or 0 _ _ (window-length s i n ∙ sym (window-length r j n))
    (λ k l. octets_one (window s i n) (window r j n) (octets-window s i n os) (octets-window r j n or) n h k (rw window-length at l))
