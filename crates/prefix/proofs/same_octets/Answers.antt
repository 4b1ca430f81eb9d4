use mathlib.Core.Path.{◌≡◌, refl, sym, ◌∙◌}
use mathlib.Core.Bool.{false}
use mathlib.Core.List.{List}
use lib.Dec.{eqb}
use Prim.Native.Nat.{ℕ, ◌+◌, ◌*◌, ◌/◌, ◌≤◌, ◌<◌}
use native.Mathlib.Omega.{arith}
use borrow.Author.Tests.{eq-eqb}
use Rattle.rules.specs.Octets.{Octets, number}
use Rattle.prefix.specs.Lying.{Lying}
use Rattle.prefix.proofs.Lying.{lying-number, number-lying}
use Rattle.prefix.proofs.Prefixes.{same_more, some_differ, one_left}
use Rattle.prefix.proofs.same_octets.Goals.{then-i-n+else-four_octets, else-i-n, then-i-n-2+else-two_octets, else-i-n-2}
use Rattle.prefix.proofs.same_octets.Goals as goal

-- of n octets the first i are the same, and fewer than m are left
abbrev Fewer : (a b : List ℕ) (n i m : ℕ) → Type 0
Fewer a b n i m = (i ≤ n) × (number a 0 i ≡ number b 0 i) × (n < i + m)

-- and so they are once the next m are
taken : {a b : List ℕ} (oa : Octets a) (ob : Octets b) (n i m x y j : ℕ) → i + m ≤ n → number a 0 i ≡ number b 0 i → n < i + (m + m)
    → Lying a i m x → Lying b i m y → x ≡ y → j ≡ i + m → Fewer a b n j m
taken oa ob n i m x y j h s l p q e is =
    rw is (h, same_more _ _ i m s (lying-number _ _ oa ob i m (sym p.value ∙ e ∙ q.value)), omega arith)

-- m that are not the same are not the same among n
other : {a b : List ℕ} (oa : Octets a) (ob : Octets b) (n i m x y : ℕ) → i + m ≤ n → Lying a i m x → Lying b i m y → (x ≡ y → ⊥)
    → false ≡ eqb (number a 0 n) (number b 0 n)
other oa ob n i m x y h p q d =
    sym (some_differ _ _ oa ob i m n h (λ e. d (p.value ∙ number-lying _ _ oa ob i m e ∙ sym q.value)))

-- the whole words of n octets
words : (a b : List ℕ) (n k : ℕ) → k ≤ n / 8 → n / 8 ≤ k → number a 0 (8 * k) ≡ number b 0 (8 * k) → Fewer a b n (n / 8 * 8) 8
words a b n k l g s = let e : n / 8 * 8 ≡ 8 * k = omega arith in (omega arith, rw e s, omega arith)

pub loop-k-init : goal.loop-k-init
unfolding number
loop-k-init c = (omega arith, refl)

pub returns-then-eight_octets : goal.returns-then-eight_octets
returns-then-eight_octets c =
    other (λ i. (c.type_inv.a i).fits) (λ i. (c.type_inv.b i).fits) c.args.n _ 8 _ _ (omega arith) c.eight_octets.ensures
    c.eight_octets-in-loop-k.ensures c.if-eight_octets.true

pub loop-k-preserved : goal.loop-k-preserved
loop-k-preserved c =
    let l = c.loop-k in
    let e : 8 * (l.k + 1) ≡ 8 * l.k + 8 = omega arith in
    let x = c.eight_octets.ensures.value in
    let y = c.eight_octets-in-loop-k.ensures.value in
    let oa : Octets c.args.a.now = λ i. (c.type_inv.a i).fits in
    let ob : Octets c.args.b.now = λ i. (c.type_inv.b i).fits in
    let same = lying-number _ _ oa ob (8 * l.k) 8 (sym x ∙ c.if-eight_octets.false ∙ y) in
    (omega arith, rw e (same_more _ _ (8 * l.k) 8 l.invariant.1 same))

pub returns-then-four_octets : goal.returns-then-four_octets
returns-then-four_octets c =
    other (λ i. (c.type_inv.a i).fits) (λ i. (c.type_inv.b i).fits) c.args.n _ 4 _ _ (omega arith) c.four_octets.ensures
    c.four_octets-then-i-n.ensures c.if-four_octets.true

pub returns-then-two_octets : goal.returns-then-two_octets
returns-then-two_octets c =
    other (λ i. (c.type_inv.a i).fits) (λ i. (c.type_inv.b i).fits) c.args.n _ 2 _ _ (omega arith) c.two_octets.ensures
    c.two_octets-then-i-n-2.ensures c.if-two_octets.true

pub returns-then-i-n-3 : goal.returns-then-i-n-3
returns-then-i-n-3 c =
    let oa : Octets c.args.a.now = λ i. (c.type_inv.a i).fits in
    let ob : Octets c.args.b.now = λ i. (c.type_inv.b i).fits in
    let l = c.loop-k in
    let eight = words _ _ c.args.n l.k l.invariant.0 (omega arith) l.invariant.1 in
    let four : Fewer c.args.a.now c.args.b.now c.args.n c.if-i-n.i 4 = elim c.if-i-n.branch [
      | then-i-n+else-four_octets w ↦ taken oa ob c.args.n _ 4 _ _ _ (omega arith) eight.1 (omega arith)
          w.four_octets.ensures w.four_octets-then-i-n.ensures w.if-four_octets.false w.i-is
      | else-i-n w ↦ rw w.i-is (eight.0, eight.1, omega arith)
    ] in
    let two : Fewer c.args.a.now c.args.b.now c.args.n c.if-i-n-2.i 2 = elim c.if-i-n-2.branch [
      | then-i-n-2+else-two_octets w ↦ taken oa ob c.args.n c.if-i-n.i 2 _ _ _ (omega arith) four.1 (omega arith)
          w.two_octets.ensures w.two_octets-then-i-n-2.ensures w.if-two_octets.false w.i-is
      | else-i-n-2 w ↦ rw w.i-is (four.0, four.1, omega arith)
    ] in
    one_left _ _ c.if-i-n-2.i _ two.1 (omega arith)

pub returns : goal.returns
returns c =
    let oa : Octets c.args.a.now = λ i. (c.type_inv.a i).fits in
    let ob : Octets c.args.b.now = λ i. (c.type_inv.b i).fits in
    let l = c.loop-k in
    let eight = words _ _ c.args.n l.k l.invariant.0 (omega arith) l.invariant.1 in
    let four : Fewer c.args.a.now c.args.b.now c.args.n c.if-i-n.i 4 = elim c.if-i-n.branch [
      | then-i-n+else-four_octets w ↦ taken oa ob c.args.n _ 4 _ _ _ (omega arith) eight.1 (omega arith)
          w.four_octets.ensures w.four_octets-then-i-n.ensures w.if-four_octets.false w.i-is
      | else-i-n w ↦ rw w.i-is (eight.0, eight.1, omega arith)
    ] in
    let two : Fewer c.args.a.now c.args.b.now c.args.n c.if-i-n-2.i 2 = elim c.if-i-n-2.branch [
      | then-i-n-2+else-two_octets w ↦ taken oa ob c.args.n c.if-i-n.i 2 _ _ _ (omega arith) four.1 (omega arith)
          w.two_octets.ensures w.two_octets-then-i-n-2.ensures w.if-two_octets.false w.i-is
      | else-i-n-2 w ↦ rw w.i-is (four.0, four.1, omega arith)
    ] in
    let e : c.args.n ≡ c.if-i-n-2.i = omega arith in
    rw e (sym (eq-eqb _ _ two.1))
