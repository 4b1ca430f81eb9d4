-- The laws of `splice`: its length, pieces one after the other, and what is read from it.
use mathlib.Core.Path.{◌≡◌, sym, ap, ◌∙◌}
use mathlib.Core.List.{List, [], ◌++◌, append_assoc, append-nil}
use Prim.Native.Nat.{ℕ, ◌+◌, ◌-◌, ◌≤◌}
use native.Mathlib.Nat.{add-zero, zero-add, add_assoc, add-sub_of_le, le_refl, add-sub_cancel_left}
use native.Mathlib.Omega.{arith}
use lib.ListN.{length, take, drop, length-append, length-drop, take-append-drop, drop_of_length-le}
use lib.Seq.{take_all, paste, take-length, length-take-le, take_at, drop_at, drop-append-add, drop-drop}
use lib.Seq.{take-take, take-append-le, drop-append-le}
use Rattle.rules.specs.Octets.{splice}
use Rattle.copying.specs.Run.{Run}

-- what stands before the rest has the length that it should
head_length : (o : List ℕ) (a : ℕ) (x : List ℕ) → a ≤ length o → length (take a o ++ x) ≡ a + length x
head_length o a x h = length-append (take a o) x ∙ ap (λ (k : ℕ). k + length x) (length-take-le a o h)

pub splice-length : (o : List ℕ) (a : ℕ) (x : List ℕ) → a + length x ≤ length o → length (splice o a x) ≡ length o
unfolding splice
splice-length o a x h =
    let ha : a ≤ length o = omega arith in
    length-append (take a o ++ x) (drop (a + length x) o)
    ∙ ap (λ (k : ℕ). k + length (drop (a + length x) o)) (head_length o a x ha)
    ∙ ap (λ (k : ℕ). a + length x + k) (length-drop (a + length x) o)
    ∙ add-sub_of_le h

-- nothing is replaced
pub splice-nil : (o : List ℕ) (a : ℕ) → splice o a [] ≡ o
unfolding splice
splice-nil o a =
    ap (λ (k : ℕ). take a o ++ [] ++ drop k o) (add-zero a)
    ∙ ap (λ (r : List ℕ). r ++ drop a o) (append-nil (take a o))
    ∙ take-append-drop a o

-- at the front
pub splice_front : (o x : List ℕ) → splice o 0 x ≡ x ++ drop (length x) o
unfolding splice
splice_front o x = ap (λ (k : ℕ). x ++ drop k o) (zero-add (length x))

-- a piece, and the next one right after it
pub splice_next : (o : List ℕ) (a : ℕ) (x y : List ℕ) → a ≤ length o → splice (splice o a x) (a + length x) y ≡ splice o a (x ++ y)
unfolding splice
splice_next o a x y h =
    let p : List ℕ = take a o ++ x in
    let n : ℕ = a + length x in
    let rest : List ℕ = drop n o in
    let l : length p ≡ n = head_length o a x h in
    ap (λ (t : List ℕ). t ++ y ++ drop (n + length y) (p ++ rest)) (take_at p rest n l)
    ∙ ap (λ (t : List ℕ). p ++ y ++ t)
    (ap (λ (k : ℕ). drop (k + length y) (p ++ rest)) (sym l)
    ∙ drop-append-add p rest (length y)
    ∙ drop-drop (length y) n o
    ∙ ap (λ (k : ℕ). drop k o) (add_assoc a (length x) (length y) ∙ ap (λ (k : ℕ). a + k) (sym (length-append x y))))
    ∙ ap (λ (t : List ℕ). t ++ drop (a + length (x ++ y)) o) (append_assoc (take a o) x y)

-- the same, from what two writers say: o₁ is o with x at a, and o₂ is o₁ with y right after
pub chain : (o : List ℕ) (a : ℕ) (x y : List ℕ) {o₁ o₂ : List ℕ} {b : ℕ} → o₁ ≡ splice o a x → o₂ ≡ splice o₁ b y → b ≡ a + length x
    → a ≤ length o → o₂ ≡ splice o a (x ++ y)
chain o a x y {o₁} {o₂} {b} e f n h =
    f ∙ ap (λ (l : List ℕ). splice l b y) e ∙ ap (λ (k : ℕ). splice (splice o a x) k y) n ∙ splice_next o a x y h

-- a copy that has come to its end
pub paste_splice : (o : List ℕ) (a : ℕ) (x : List ℕ) → paste o a x (length x) ≡ splice o a x
unfolding splice
paste_splice o a x = ap (λ (t : List ℕ). take a o ++ t ++ drop (a + length x) o) (take-length x)

-- all of a buffer is replaced
pub splice-whole : (o x : List ℕ) → length x ≡ length o → splice o 0 x ≡ x
splice-whole o x e = splice_front o x ∙ ap (λ (t : List ℕ). x ++ t) (drop_of_length-le o {i = length x} (omega arith)) ∙ append-nil x

-- `&s[a..]` is all of s after the first a; `&s[a..a + n]` is n of them
pub tail_all : (a : ℕ) (s : List ℕ) → take (length s - a) (drop a s) ≡ drop a s
tail_all a s = take_all (length s - a) (drop a s) (simp length-drop (le_refl (length s - a)))

pub part_count : (a n : ℕ) (s : List ℕ) → take (a + n - a) (drop a s) ≡ take n (drop a s)
part_count a n s = rw add-sub_cancel_left

pub length_part : (a n : ℕ) (s : List ℕ) → a + n ≤ length s → length (take n (drop a s)) ≡ n
length_part a n s h = length-take-le n (drop a s) (simp length-drop (omega arith))

-- the first writer
pub first : (o : List ℕ) (a : ℕ) (x : List ℕ) (n : ℕ) {o' : List ℕ} → o' ≡ splice o a x → length x ≡ n → Run o a n x o'
first o a x n e l = record { holds = e; count = l }

-- one more: it writes y, m octets long, where the run ends
pub next : {o : List ℕ} {a n : ℕ} {x o₁ : List ℕ} → Run o a n x o₁ → (y : List ℕ) (m : ℕ) {o₂ : List ℕ} {b : ℕ}
    → o₂ ≡ splice o₁ b y → length y ≡ m → b ≡ a + n → a ≤ length o → Run o a (n + m) (x ++ y) o₂
next {o} {a} {n} {x} r y m e l p h =
    record {
      holds = chain o a x y r.holds e (p ∙ ap (λ (k : ℕ). a + k) (sym r.count)) h;
      count = length-append x y ∙ ap (λ (k : ℕ). k + length y) r.count ∙ ap (λ (k : ℕ). n + k) l;
    }

-- a piece is put right before one that stands there already
pub splice_prev : (o : List ℕ) (a : ℕ) (x y : List ℕ) → a + length x + length y ≤ length o
    → splice (splice o (a + length x) y) a x ≡ splice o a (x ++ y)
unfolding splice
splice_prev o a x y h =
    let n : ℕ = a + length x in
    let p : List ℕ = take n o in
    let rest : List ℕ = drop (n + length y) o in
    let l : length p ≡ n = length-take-le n o (omega arith) in
    ap (λ (t : List ℕ). take a t ++ x ++ drop n (p ++ y ++ rest)) (append_assoc p y rest)
    ∙ ap (λ (t : List ℕ). t ++ x ++ drop n (p ++ y ++ rest))
    (take-append-le a p (y ++ rest) (rw l (omega arith)) ∙ take-take a n o (omega arith))
    ∙ ap (λ (t : List ℕ). take a o ++ x ++ drop n t) (append_assoc p y rest)
    ∙ ap (λ (t : List ℕ). take a o ++ x ++ t) (drop_at p (y ++ rest) n l)
    ∙ sym (append_assoc (take a o ++ x) y rest)
    ∙ ap (λ (t : List ℕ). t ++ rest) (append_assoc (take a o) x y)
    ∙ ap (λ (k : ℕ). take a o ++ (x ++ y) ++ drop k o) (add_assoc a (length x) (length y) ∙ ap (λ (k : ℕ). a + k) (sym (length-append x y)))

pub chain_prev : (o : List ℕ) (a : ℕ) (x y : List ℕ) {o₁ o₂ : List ℕ} {b : ℕ} → o₁ ≡ splice o b y → o₂ ≡ splice o₁ a x → b ≡ a + length x
    → a + length x + length y ≤ length o → o₂ ≡ splice o a (x ++ y)
chain_prev o a x y {o₁} {o₂} {b} e f n h =
    f ∙ ap (λ (l : List ℕ). splice l a x) e ∙ ap (λ (k : ℕ). splice (splice o k y) a x) n ∙ splice_prev o a x y h

-- a piece put into a piece that stands at the front
pub splice_inside : (o p : List ℕ) (a : ℕ) (x : List ℕ) → a + length x ≤ length p → splice (splice o 0 p) a x ≡ splice o 0 (splice p a x)
unfolding splice
splice_inside o p a x h =
    let d : List ℕ = drop (length p) o in
    ap (λ (l : List ℕ). splice l a x) (splice_front o p)
    ∙ ap (λ (l : List ℕ). l ++ x ++ drop (a + length x) (p ++ d)) (take-append-le a p d (omega arith))
    ∙ ap (λ (l : List ℕ). take a p ++ x ++ l) (drop-append-le (a + length x) p d h)
    ∙ sym (append_assoc (take a p ++ x) (drop (a + length x) p) d)
    ∙ sym (splice_front o (splice p a x) ∙ ap (λ (k : ℕ). splice p a x ++ drop k o) (splice-length p a x h))

-- their count, said otherwise
pub run_count : {o : List ℕ} {a n m : ℕ} {x o' : List ℕ} → n ≡ m → Run o a n x o' → Run o a m x o'
run_count e r = record { holds = r.holds; count = r.count ∙ e }

-- the same octets, said otherwise
pub run_as : {o : List ℕ} {a n : ℕ} {x y o' : List ℕ} → Run o a n x o' → x ≡ y → Run o a n y o'
run_as {o} {a} {n} {x} {y} {o'} r e = record {
  holds = r.holds ∙ ap (λ (l : List ℕ). splice o a l) e;
  count = sym (ap length e) ∙ r.count;
}
