-- Laws of octets as they lie: they are the same exactly where their numbers are.
use mathlib.Core.Path.{◌≡◌, refl, sym, ap, ◌∙◌}
use mathlib.Core.List.{List}
use Prim.Native.Nat.{ℕ, zero, suc, ◌+◌, ◌*◌, ◌^◌, ◌/◌, ◌%◌, ◌<◌, ◌≤◌}
use native.Mathlib.Nat.{add-zero, add-suc, add_assoc, add-mul, mul_assoc, mul-suc, mul-le-mul_right}
use native.Mathlib.Omega.{arith}
use lib.Dec.{lit<}
use lib.Pow.{pow-add, high, low}
use Rattle.rules.specs.Octets.{octet, Octets, number}
use Rattle.prefix.specs.Lying.{lying}

lying_small : (s : List ℕ) → Octets s → (i n : ℕ) → lying s i n < 2 ^ (8 * n)
unfolding lying
lying_small s o i zero = lit< tt
lying_small s o i (suc n) =
    let l : lying s i n < 2 ^ (8 * n) = lying_small s o i n in
    let h : octet s (i + n) + 1 ≤ 256 = omega (arith, o (i + n)) in
    let m : (octet s (i + n) + 1) * 2 ^ (8 * n) ≤ 256 * 2 ^ (8 * n) = mul-le-mul_right (2 ^ (8 * n)) h in
    let k : octet s (i + n) * 2 ^ (8 * n) + 1 * 2 ^ (8 * n) ≤ 256 * 2 ^ (8 * n) = rw (← add-mul (octet s (i + n)) 1 (2 ^ (8 * n))) m in
    rw (mul-suc 8 n, pow-add 2 (8 * n) 8) (omega arith)

-- n octets, and the m behind them
pub lying_parts : (s : List ℕ) (i n m : ℕ) → lying s i (n + m) ≡ lying s (i + n) m * 2 ^ (8 * n) + lying s i n
unfolding lying
lying_parts s i n zero = rw (add-zero n) (omega arith)
lying_parts s i n (suc m) =
    let e : 8 * (n + m) ≡ 8 * m + 8 * n = omega arith in
    rw (
      add-suc n m,
      lying_parts s i n m,
      e,
      pow-add 2 (8 * m) (8 * n),
      add_assoc i n m,
      add-mul (octet s (i + (n + m)) * 2 ^ (8 * m)) (lying s (i + n) m) (2 ^ (8 * n)),
      mul_assoc (octet s (i + (n + m))) (2 ^ (8 * m)) (2 ^ (8 * n)),
    ) (omega arith)

-- the same as they lie, the same by their number
pub lying-number : (a b : List ℕ) → Octets a → Octets b → (i n : ℕ) → lying a i n ≡ lying b i n
    → number a i n ≡ number b i n
unfolding lying number
lying-number a b oa ob i zero e = refl
lying-number a b oa ob i (suc n) e =
    let la : lying a i n < 2 ^ (8 * n) = lying_small a oa i n in
    let lb : lying b i n < 2 ^ (8 * n) = lying_small b ob i n in
    let p : octet a (i + n) ≡ octet b (i + n) =
    sym (high (octet a (i + n)) (8 * n) la) ∙ ap (λ (x : ℕ). x / 2 ^ (8 * n)) e ∙ high (octet b (i + n)) (8 * n) lb in
    let q : lying a i n ≡ lying b i n =
    sym (low (octet a (i + n)) (8 * n) la) ∙ ap (λ (x : ℕ). x % 2 ^ (8 * n)) e ∙ low (octet b (i + n)) (8 * n) lb in
    rw (lying-number a b oa ob i n q, p) refl

pub number-lying : (a b : List ℕ) → Octets a → Octets b → (i n : ℕ) → number a i n ≡ number b i n
    → lying a i n ≡ lying b i n
unfolding lying number
number-lying a b oa ob i zero e = refl
number-lying a b oa ob i (suc n) e =
    let h : number a i n ≡ number b i n = omega (arith, oa (i + n), ob (i + n)) in
    let l : octet a (i + n) ≡ octet b (i + n) = omega (arith, oa (i + n), ob (i + n)) in
    rw (number-lying a b oa ob i n h, l) refl
