-- How a sum goes on: words are taken off the front of what is left, and added as they lie. At its end it is the sum of all.
use mathlib.Core.Path.{◌≡◌, refl, subst}
use mathlib.Core.List.{List, ◌∷◌}
use Prim.Native.Nat.{ℕ, ◌+◌, ◌*◌, ◌%◌, ◌≤◌, ◌<◌}
use native.Mathlib.Numerals.{add-one}
use native.Mathlib.Omega.{arith}
use lib.ListN.{length, drop, drop_of_length-le}
use lib.Seq.{drop-cons}
use Rattle.rules.specs.Octets.{octet}
use Rattle.rules.specs.Checksum.{word_sum}
use Rattle.sum.specs.Adding.{Four, Before}

-- the octet in front of what is left
drop_one : (s : List ℕ) (i : ℕ) → i < length s → drop i s ≡ octet s i ∷ drop (i + 1) s
drop_one s i h = rw (add-one, drop-cons s i 0)

-- the word in front of what is left; j and k are the places behind its octets
pub drop_word : (s : List ℕ) (i j k : ℕ) → j ≡ i + 1 → k ≡ j + 1 → k ≤ length s
    → word_sum (drop i s) ≡ octet s i * 256 + octet s j + word_sum (drop k s)
unfolding word_sum
drop_word s i j k e f h =
    rw (f, e, drop_one s i (omega arith), drop_one s (i + 1) (omega arith)) refl

-- nothing is left
pub drop_all : (s : List ℕ) → word_sum (drop (length s) s) ≡ 0
unfolding word_sum
drop_all s = rw (drop_of_length-le s {i = length s} (omega arith)) refl

-- an odd octet is left
drop_odd : (s : List ℕ) (i : ℕ) → i + 1 ≡ length s → word_sum (drop i s) ≡ octet s i * 256
unfolding word_sum
drop_odd s i h = rw (drop_one s i (omega arith), drop_of_length-le s {i = i + 1} (omega arith)) refl

-- no octet is added yet
pub before_none : (s : List ℕ) → Before s 0 0
before_none s = record { sums = omega arith; small = omega arith }

-- a word x y is taken off big-endian and added little-endian, at the bottom of a sum or 16 bits higher
low : (r x y t m : ℕ) → (256 * r + (x * 256 + y + t)) % 65535 ≡ m → (256 * (r + (x + y * 256)) + t) % 65535 ≡ m
low r x y t m e = omega arith

high : (r x y t m : ℕ) → (256 * r + (x * 256 + y + t)) % 65535 ≡ m → (256 * (r + (x + y * 256) * 65536) + t) % 65535 ≡ m
high r x y t m e = omega arith

-- so with an octet that has none behind it
odd : (r x t m : ℕ) → t ≡ 0 → (256 * r + x * 256) % 65535 ≡ m → (256 * (r + x) + t) % 65535 ≡ m
odd r x t m n e = omega arith

-- the same sum, and the same place, said otherwise
pub before_as : {s : List ℕ} {i j r t : ℕ} → Before s i r → i ≡ j → r ≡ t → Before s j t
before_as {s} {i} {j} {r} {t} b e f = subst (λ (k : ℕ). Before s k t) e (subst (λ (n : ℕ). Before s i n) f b)

-- how a sum goes on by a word, by two words at once, and by the odd octet at the end
module _ (s : List ℕ) (i r : ℕ) (b : Before s i r) where
  pub before_two : (x : ℕ) → x ≡ octet s i + octet s (i + 1) * 256 → x < 65536 → i + 2 ≤ length s → Before s (i + 2) (r + x)
  before_two x e k h =
      let l = b.small in
      let one = rw (drop_word s i (i + 1) (i + 2) refl (omega arith) h) at b.sums in
      record { sums = rw e (low r (octet s i) (octet s (i + 1)) (word_sum (drop (i + 2) s)) _ one); small = omega arith }

  pub before_four : (x : ℕ) → Four s i x → (j : ℕ) → j ≡ i + 4 → j ≤ length s → Before s j (r + x)
  before_four x w j e h =
      let k = w.small in
      let l = b.small in
      let x0 : ℕ = octet s i in
      let x1 : ℕ = octet s (i + 1) in
      let x2 : ℕ = octet s (i + 2) in
      let x3 : ℕ = octet s (i + 3) in
      let one = rw (drop_word s i (i + 1) (i + 2) refl (omega arith) (omega arith)) at b.sums in
      let two =
      rw (drop_word s (i + 2) (i + 3) j (omega arith) (omega arith) h) at (low r x0 x1 (word_sum (drop (i + 2) s)) _ one) in
      let sum : r + x ≡ r + (x0 + x1 * 256) + (x2 + x3 * 256) * 65536 = let c = w.value in omega arith in
      record { sums = rw sum (high (r + (x0 + x1 * 256)) x2 x3 (word_sum (drop j s)) _ two); small = omega arith }

  pub before_one : (x : ℕ) → x ≡ octet s i → x < 65536 → i + 1 ≡ length s → Before s (length s) (r + x)
  before_one x e k h =
      let l = b.small in
      let o = rw (drop_odd s i h) at b.sums in
      record { sums = odd r x (word_sum (drop (length s) s)) _ (drop_all s) (rw e o); small = omega arith }

-- four times two words, each added to a sum of its own
pub before_sixteen : (s : List ℕ) (i a b c d : ℕ) → Before s i (a + b + c + d) → (w x y z : ℕ) → Four s i w → Four s (i + 4) x
    → Four s (i + 8) y → Four s (i + 12) z → i + 16 ≤ length s → Before s (i + 16) (a + w + (b + x) + (c + y) + (d + z))
before_sixteen s i a b c d k w x y z fw fx fy fz h =
    let k₁ = before_four s i _ k w fw (i + 4) refl (omega arith) in
    let k₂ = before_four s (i + 4) _ k₁ x fx (i + 8) (omega arith) (omega arith) in
    let k₃ = before_four s (i + 8) _ k₂ y fy (i + 12) (omega arith) (omega arith) in
    before_as (before_four s (i + 12) _ k₃ z fz (i + 16) (omega arith) h) refl (omega arith)

-- all octets are added
pub before_all : (s : List ℕ) (r : ℕ) → Before s (length s) r → 256 * r % 65535 ≡ word_sum s % 65535
before_all s r b = let n = drop_all s in let e = b.sums in omega arith
