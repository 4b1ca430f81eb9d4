use mathlib.Core.Path.{ap, ◌∙◌}
use Rattle.table.specs.Keys.{rule_key_of}
use Rattle.table.proofs.Order.{rule_same}
use Rattle.table.proofs.apart.same_rule_prefix.Goals as goal

pub returns : goal.returns
returns c =
    rule_same c.args.table.now (λ k. (c.type_inv.table k).fits) c.args.i c.args.j
    (c.rule_key.ensures ∙ ap rule_key_of c.rule_at.ensures.same) (c.rule_key-2.ensures ∙ ap rule_key_of c.rule_at-2.ensures.same)
