use mathlib.Core.Path.{◌≡◌, sym, ap, ◌∙◌}
use Prim.Native.Nat.{ℕ}
use native.Mathlib.Omega.{arith}
use borrow.Author.Tests.{ne_eqb}
use Rattle.rules.specs.Fault.{told}
use Rattle.rules.proofs.Faults.{none_told}
use Rattle.table.proofs.Trying.{told_none, first-none, first_more, some_below, none_below}
use Rattle.table.proofs.faults.first_fault.Goals as goal

pub loop-i-init : goal.loop-i-init
loop-i-init g c = λ broken h. first-none _

pub returns-then-condition-ne0 : goal.returns-then-condition-ne0
returns-then-condition-ne0 g c = λ broken h.
    let i : ℕ = c.loop-i.i in
    let kind : ℕ = c.args.kind in
    let e : c.broken-condition.result ≡ broken i = h i _ (omega arith) c.broken-condition.ensures in
    some_below (λ j. told kind j (broken j)) _ i (omega arith) (c.loop-i.invariant broken h) (c.told.ensures ∙ ap (told kind i) e)
    (none_told kind i (broken i) ∙ ne_eqb _ _ (λ q. c.if-condition-ne0.true (e ∙ q)))

pub loop-i-preserved : goal.loop-i-preserved
loop-i-preserved g c = λ broken h.
    let i : ℕ = c.loop-i.i in
    let kind : ℕ = c.args.kind in
    let e : broken i ≡ 0 = sym (h i _ (omega arith) c.broken-condition.ensures) ∙ c.if-condition-ne0.false in
    first_more (λ j. told kind j (broken j)) i (c.loop-i.invariant broken h) (ap (told kind i) e ∙ told_none kind i)

pub returns : goal.returns
returns g c = λ broken h.
    none_below (λ j. told c.args.kind j (broken j)) c.loop-i.i c.args.n (c.loop-i.invariant broken h) (omega arith)
