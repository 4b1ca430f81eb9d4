use mathlib.Core.Path.{◌∙◌}
use Rattle.reach.proofs.Laws.{through_container}
use Rattle.reach.proofs.own_args.Goals as goal

pub returns : goal.returns
returns c =
    let a = c.args in
    c.from_container.ensures
    ∙ through_container a.direction a.prefix a.start _ _ _ c.from_sid-held.ensures
    c.flow_octet.ensures
    c.teid.ensures
