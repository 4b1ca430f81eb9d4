use mathlib.Core.Path.{◌≡◌, sym, ap, ◌∙◌}
use mathlib.Core.Bool.{Bool, true, not, cond}
use mathlib.Core.List.{[], ◌∷◌}
use Prim.Native.Nat.{ℕ}
use native.Mathlib.Omega.{arith}
use borrow.Author.Tests.{ne_eqb}
use Rattle.rules.specs.Fault.{told, first_broken}
use Rattle.rules.specs.Sound.{fresh}
use Rattle.rules.proofs.Faults.{none_told}
use Rattle.table.proofs.Conditions.{all_none, all_more, all_fails, all_done}
use Rattle.table.proofs.Trying.{told_none, first-none, first_more, some_below, none_below}
use Rattle.table.proofs.apart.repeated.Goals as goal

-- what record j breaks, as far as it is known whether one before it is the same
abbrev fault_at : (kind condition : ℕ) (same : ℕ → ℕ → Bool) (j : ℕ) → ℕ
fault_at kind condition same j = told kind j (first_broken condition (fresh same j ∷ []))

known : (kind condition j : ℕ) (same : ℕ → ℕ → Bool) {b : Bool} → fresh same j ≡ b
    → fault_at kind condition same j ≡ told kind j (cond b 0 condition)
known kind condition j same e = ap (λ (b : Bool). told kind j (cond b 0 condition)) e

pub loop-j-init : goal.loop-j-init
loop-j-init g c = λ same h. first-none _

pub loop-i-init : goal.loop-i-init
loop-i-init g c = λ same h. all_none _

pub returns-then-same : goal.returns-then-same
returns-then-same g c = λ same h.
    let i : ℕ = c.loop-i.i in
    let j : ℕ = c.loop-j.j in
    let kind : ℕ = c.args.kind in
    let condition : ℕ = c.args.condition in
    let s : same i j ≡ true = sym (h i j _ (omega arith) (omega arith) c.same.ensures) ∙ c.if-same.true in
    let e : fault_at kind condition same j ≡ told kind j condition =
    known kind condition j same (all_fails (λ k. not (same k j)) j i (omega arith) (ap not s)) in
    some_below (fault_at kind condition same) _ j (omega arith) (c.loop-j.invariant same h) (rw e c.told.ensures)
    (rw e (none_told kind j condition ∙ ne_eqb condition 0 (λ q. omega (arith, c.requires.1, q))))

pub loop-i-preserved : goal.loop-i-preserved
loop-i-preserved g c = λ same h.
    let i : ℕ = c.loop-i.i in
    let j : ℕ = c.loop-j.j in
    all_more (λ k. not (same k j)) i (c.loop-i.invariant same h)
    (ap not (sym (h i j _ (omega arith) (omega arith) c.same.ensures) ∙ c.if-same.false))

pub loop-j-preserved : goal.loop-j-preserved
loop-j-preserved g c = λ same h.
    let j : ℕ = c.loop-j.j in
    let kind : ℕ = c.args.kind in
    let condition : ℕ = c.args.condition in
    let f : fresh same j ≡ true = all_done (λ k. not (same k j)) c.loop-i.i j (c.loop-i.invariant same h) (omega arith) in
    first_more (fault_at kind condition same) j (c.loop-j.invariant same h) (rw (known kind condition j same f) (told_none kind j))

pub returns : goal.returns
returns g c = λ same h.
    none_below (fault_at c.args.kind c.args.condition same) c.loop-j.j c.args.n (c.loop-j.invariant same h) (omega arith)
