-- Laws of windows: their length, and where their octets lie.
use mathlib.Core.Path.{◌≡◌, refl, sym, ap, ◌∙◌}
use mathlib.Core.List.{List, [], ◌∷◌, ◌++◌}
use Prim.Native.Nat.{ℕ, zero, suc, ◌+◌, ◌≤◌, ◌<◌}
use native.Mathlib.Nat.{add-zero}
use native.Mathlib.Omega.{arith}
use lib.ListN.{length, take, drop}
use lib.Seq.{get_or-drop, get_or-append-add, drop-append-add}
use Rattle.rules.specs.Octets.{octet, window, Octets}

-- what lies past a front of a known length
pub octet-past : (s r : List ℕ) (n i : ℕ) → length s ≡ n → octet (s ++ r) (n + i) ≡ octet r i
octet-past s r n i h = rw (← h) (get_or-append-add s r i 0)

pub drop_past : (s r : List ℕ) (n i : ℕ) → length s ≡ n → drop (n + i) (s ++ r) ≡ drop i r
drop_past s r n i h = rw (← h) (drop-append-add s r i)

pub window-length : (s : List ℕ) (i n : ℕ) → length (window s i n) ≡ n
unfolding window
window-length s i zero = refl
window-length s i (suc n) = ap suc (window-length s (suc i) n)

-- windows whose octets are the same
pub window_same : (s r : List ℕ) (i j n : ℕ) → ((k : ℕ) → k < n → octet s (i + k) ≡ octet r (j + k)) → window s i n ≡ window r j n
unfolding window
window_same s r i j zero h = refl
window_same s r i j (suc n) h =
    let a : octet s i ≡ octet r j = sym (ap (octet s) (add-zero i)) ∙ h 0 (omega arith) ∙ ap (octet r) (add-zero j) in
    let b : window s (suc i) n ≡ window r (suc j) n =
    window_same s r (suc i) (suc j) n (λ k l. ap (octet s) (sym (shift i k)) ∙ h (suc k) (omega arith) ∙ ap (octet r) (shift j k)) in
    λ x. a x ∷ b x
  where
    shift : (a k : ℕ) → a + suc k ≡ suc a + k
    shift a k = omega arith

pub window-drop : (s : List ℕ) (m i n : ℕ) → window (drop m s) i n ≡ window s (m + i) n
window-drop s m i n = window_same (drop m s) s i (m + i) n (λ k l. get_or-drop m s (i + k) 0 ∙ ap (octet s) (assoc m i k))
  where
    assoc : (a b c : ℕ) → a + (b + c) ≡ a + b + c
    assoc a b c = omega arith

pub window-past : (s r : List ℕ) (m i n : ℕ) → length s ≡ m → window (s ++ r) (m + i) n ≡ window r i n
window-past s r m i n h = window_same (s ++ r) r (m + i) i n (λ k l. ap (octet (s ++ r)) (assoc m i k) ∙ octet-past s r m (i + k) h)
  where
    assoc : (a b c : ℕ) → a + b + c ≡ a + (b + c)
    assoc a b c = omega arith

-- the octets of a list, and of its front, as a window
window-whole : (s r : List ℕ) → window (s ++ r) 0 (length s) ≡ s
unfolding window
window-whole [] r = refl
window-whole (x ∷ s) r = ap (λ (l : List ℕ). x ∷ l) (sym (window-drop (x ∷ s ++ r) 1 0 (length s)) ∙ window-whole s r)

pub window_front : (s r : List ℕ) (n : ℕ) → length s ≡ n → window (s ++ r) 0 n ≡ s
window_front s r n h = rw (← h) (window-whole s r)

pub window-take : (s : List ℕ) (n : ℕ) → n ≤ length s → window s 0 n ≡ take n s
unfolding window
window-take s zero h = refl
window-take [] (suc n) h = absurd (omega arith)
window-take (x ∷ s) (suc n) h = ap (λ (l : List ℕ). x ∷ l) (sym (window-drop (x ∷ s) 1 0 n) ∙ window-take s n (omega arith))

-- a window of a window lies where its octets lie
pub octet-window : (s : List ℕ) (i n k : ℕ) → k < n → octet (window s i n) k ≡ octet s (i + k)
unfolding window
octet-window s i zero k h = absurd (omega arith)
octet-window s i (suc n) zero h = ap (octet s) (sym (add-zero i))
octet-window s i (suc n) (suc k) h = octet-window s (suc i) n k (omega arith) ∙ ap (octet s) (shift i k)
  where
    shift : (a k : ℕ) → suc a + k ≡ a + suc k
    shift a k = omega arith

pub window-window : (s : List ℕ) (i n j m : ℕ) → j + m ≤ n → window (window s i n) j m ≡ window s (i + j) m
window-window s i n j m h =
    window_same (window s i n) s j (i + j) m (λ k l. octet-window s i n (j + k) (omega arith) ∙ ap (octet s) (assoc i j k))
  where
    assoc : (a b c : ℕ) → a + (b + c) ≡ a + b + c
    assoc a b c = omega arith

-- the octets of a window, of a part and of a list behind a front are octets
pub octets-window : (s : List ℕ) (i n : ℕ) → Octets s → Octets (window s i n)
unfolding window
octets-window s i zero h k = omega arith
octets-window s i (suc n) h zero = h i
octets-window s i (suc n) h (suc k) = octets-window s (suc i) n h k

pub octets-drop : (s : List ℕ) (n : ℕ) → Octets s → Octets (drop n s)
octets-drop s n h k = rw (get_or-drop n s k 0) (h (n + k))
