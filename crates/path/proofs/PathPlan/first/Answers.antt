use Rattle.path.proofs.Heads.{first-waypoint}
use mathlib.Core.List.{[], ◌∷◌}
use mathlib.Core.Path.{◌∙◌}
use Rattle.rules.specs.Table.{addresses_at}
use Rattle.path.proofs.PathPlan.first.Goals as goal

pub returns-then-self-eq0 : goal.returns-then-self-eq0
unfolding addresses_at
returns-then-self-eq0 c = rw c.if-self-eq0.true

pub returns : goal.returns
returns c =
    let a = c.args in
    c.window.ensures ∙ first-waypoint a.holder.now a.self.from a.self.waypoints (a.self.sid ∷ []) c.if-self-eq0.false
