-- Laws of numbers that stand in octets: read in two parts, and bounded.
use mathlib.Core.Path.{◌≡◌, refl}
use mathlib.Core.List.{List}
use Prim.Native.Nat.{ℕ, zero, suc, ◌+◌, ◌*◌, ◌^◌, ◌<◌}
use native.Mathlib.Nat.{add-zero, add-suc, add_assoc, mul_assoc, mul-suc, pow-suc}
use native.Mathlib.Omega.{arith}
use lib.Dec.{lit<}
use lib.Pow.{pow-add}
use Rattle.rules.specs.Octets.{Octets, read16, number}

-- two octets are a 16-bit number
pub number_two : (s : List ℕ) (i : ℕ) → number s i 2 ≡ read16 s i
unfolding number
number_two s i = rw add-zero (omega arith)

pub number_split : (s : List ℕ) (i n m : ℕ) → number s i (n + m) ≡ number s i n * 256 ^ m + number s (i + n) m
unfolding number
number_split s i n zero = rw (add-zero n) (omega arith)
number_split s i n (suc m) =
    rw (add-suc, number_split s i n m, pow-suc, add_assoc, ← mul_assoc (number s i n) (256 ^ m) 256) (omega arith)

power_256 : (m : ℕ) → 256 ^ m ≡ 2 ^ (8 * m)
power_256 zero = refl
power_256 (suc m) = rw (pow-suc 256 m, mul-suc 8 m, pow-add 2 (8 * m) 8, power_256 m) refl

pub number_parts : (s : List ℕ) (i n m : ℕ) → number s i (n + m) ≡ number s i n * 2 ^ (8 * m) + number s (i + n) m
number_parts s i n m = rw (number_split, power_256) refl

pub number_small : (s : List ℕ) → Octets s → (i n : ℕ) → number s i n < 2 ^ (8 * n)
unfolding number
number_small s h i zero = lit< tt
number_small s h i (suc n) =
    let l : number s i n < 2 ^ (8 * n) = number_small s h i n in
    rw (mul-suc 8 n, pow-add 2 (8 * n) 8) (omega (arith, h (i + n)))
