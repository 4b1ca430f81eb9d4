use mathlib.Core.Path.{sym, ◌∙◌}
use native.Mathlib.Omega.{arith}
use Rattle.prefix.proofs.Prefixes.{told_differ, told-whole, told_part}
use Rattle.prefix.proofs.lies_under.Goals as goal

pub returns-then-not-same_octets : goal.returns-then-not-same_octets
returns-then-not-same_octets c w l =
    told_differ _ _ (λ i. (c.type_inv.address i).fits) (λ i. (c.type_inv.prefix i).fits) w _ _ (sym c.same_octets.ensures
    ∙ c.if-not-same_octets.true)
    (omega arith) (omega arith)

pub returns-then-part-eq0 : goal.returns-then-part-eq0
returns-then-part-eq0 c w l =
    told-whole _ _ (λ i. (c.type_inv.address i).fits) (λ i. (c.type_inv.prefix i).fits) w _ _
    (sym c.same_octets.ensures ∙ c.if-not-same_octets.false) (omega arith) (omega arith)

pub returns : goal.returns
returns c w l =
    told_part _ _ (λ i. (c.type_inv.address i).fits) (λ i. (c.type_inv.prefix i).fits) w _ _ _ _ _
    (sym c.same_octets.ensures ∙ c.if-not-same_octets.false) (omega arith)
    (omega arith) (omega arith) (omega arith) (omega arith) (omega arith)
