-- Laws of a buffer in which other octets were laid: its length, those octets, and every other octet.
use mathlib.Core.Path.{◌≡◌, sym, ap, ◌∙◌}
use mathlib.Core.List.{List, ◌++◌, append_assoc}
use Prim.Native.Nat.{ℕ, ◌+◌, ◌-◌, ◌≤◌}
use native.Mathlib.Nat.{add-zero}
use native.Mathlib.Omega.{arith}
use native.Mathlib.Decide.{dec_le}
use lib.ListN.{length, take, drop, length-append, length-take, length-drop, get_or-append}
use lib.Seq.{length-take-le, get_or-take, get_or-drop}
use Rattle.rules.specs.Octets.{octet, window, splice}
use Rattle.rules.proofs.Windows.{octet-past, window-past, window_front}

pub splice_parts : (b : List ℕ) (i : ℕ) (x : List ℕ) → splice b i x ≡ take i b ++ (x ++ drop (i + length x) b)
unfolding splice
splice_parts b i x = append_assoc (take i b) x (drop (i + length x) b)

module _ (b : List ℕ) (i : ℕ) (x : List ℕ) (n : ℕ) (hx : length x ≡ n) (hb : i + n ≤ length b) where
  front : length (take i b) ≡ i
  front = length-take-le i b (omega arith)

  pub splice-length : length (splice b i x) ≡ length b
  unfolding splice
  splice-length = simp (length-append, length-take, length-drop) (omega arith)

  pub splice-window : window (splice b i x) i n ≡ x
  splice-window =
      let t = take i b in
      let r = x ++ drop (i + length x) b in
      ap (λ (l : List ℕ). window l i n) (splice_parts b i x) ∙ ap (λ (k : ℕ). window (t ++ r) k n) (sym (add-zero i))
      ∙ window-past t r i 0 n front ∙ window_front x (drop (i + length x) b) n hx

  pub splice-other : (k : ℕ) → (i ≤ k → i + n ≤ k) → octet (splice b i x) k ≡ octet b k
  splice-other k h = ap (λ (l : List ℕ). octet l k) (splice_parts b i x) ∙ pick (dec_le i k)
    where
      pick : Dec (i ≤ k) → octet (take i b ++ (x ++ drop (i + length x) b)) k ≡ octet b k
      pick (yes l) =
          let m : i + n ≤ k = h l in
          let rest = drop (i + length x) b in
          let there : k ≡ i + (n + (k - (i + n))) = omega arith in
          let back : i + length x + (k - (i + n)) ≡ k = omega arith in
          ap (octet (take i b ++ (x ++ rest))) there
          ∙ octet-past (take i b) (x ++ rest) i (n + (k - (i + n))) front
          ∙ octet-past x rest n (k - (i + n)) hx
          ∙ get_or-drop (i + length x) b (k - (i + n)) 0
          ∙ ap (octet b) back
      pick (no l) = get_or-append (take i b) (x ++ drop (i + length x) b) 0 k (rw front (omega arith)) ∙ get_or-take i b k 0 (omega arith)
