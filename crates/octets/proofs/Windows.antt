-- A window is a part where the part is there, and what is left before zeros where it is not.
use mathlib.Core.Path.{◌≡◌, refl, sym, ap, ◌∙◌}
use mathlib.Core.List.{List, [], ◌∷◌, ◌++◌}
use Prim.Native.Nat.{ℕ, zero, suc, ◌+◌, ◌≤◌}
use native.Mathlib.Nat.{add-zero}
use native.Mathlib.Omega.{arith}
use lib.ListN.{length, take, drop, replicate, length-replicate}
use lib.Seq.{drop-cons, length-take-le, take_all}
use Rattle.rules.specs.Octets.{octet, window, splice}
use Rattle.rules.proofs.Windows.{window-drop, window-take}
use Rattle.copying.proofs.Laws.{splice_front, splice-whole}

pub window_part : (p : List ℕ) (i n : ℕ) → i + n ≤ length p → window p i n ≡ take n (drop i p)
unfolding window
window_part p i zero h = refl
window_part p i (suc n) h =
    ap (λ (l : List ℕ). octet p i ∷ l) (window_part p (suc i) n (omega arith))
    ∙ ap (λ (l : List ℕ). take (suc n) l) (sym (drop-cons p i 0 (omega arith)))

-- all octets, taken one by one
pub window-all : (s : List ℕ) (n : ℕ) → length s ≡ n → window s 0 n ≡ s
window-all s n h = window-take s n (omega arith) ∙ take_all n s (omega arith)

-- a window of what is left from i on
left-window : (p : List ℕ) (i n : ℕ) → window (drop i p) 0 n ≡ window p i n
left-window p i n = window-drop p i 0 n ∙ ap (λ (k : ℕ). window p k n) (add-zero i)

-- zeros with x at the front, as a window of x
zeros : (i n : ℕ) → replicate n 0 ≡ window [] i n
unfolding window
zeros i zero = refl
zeros i (suc n) = ap (λ (l : List ℕ). 0 ∷ l) (zeros (suc i) n)

padded : (x : List ℕ) (n : ℕ) → length x ≤ n → x ++ drop (length x) (replicate n 0) ≡ window x 0 n
unfolding window
padded [] n h = zeros 0 n
padded (x ∷ xs) zero h = absurd (omega arith)
padded (x ∷ xs) (suc n) h = ap (λ (l : List ℕ). x ∷ l) (padded xs n (omega arith) ∙ window-drop (x ∷ xs) 1 0 n)

-- n zeros that take what is left from i on, at most n octets
pub rest-window : (p : List ℕ) (i n : ℕ) → length (drop i p) ≤ n → splice (replicate n 0) 0 (drop i p) ≡ window p i n
rest-window p i n h = splice_front (replicate n 0) (drop i p) ∙ padded (drop i p) n h ∙ left-window p i n

-- and the first n of it, where as many are left
pub whole-window : (p : List ℕ) (i n : ℕ) → n ≤ length (drop i p) → splice (replicate n 0) 0 (take n (drop i p)) ≡ window p i n
whole-window p i n h =
    splice-whole (replicate n 0) (take n (drop i p)) (length-take-le n (drop i p) h ∙ sym (length-replicate n 0))
    ∙ sym (window-take (drop i p) n h) ∙ left-window p i n
