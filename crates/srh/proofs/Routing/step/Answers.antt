use Rattle.rules.proofs.Judging.{judged}
use Rattle.rules.specs.Waypoint.{step_rows}
use mathlib.Core.Path.{sym}
use Rattle.srh.proofs.Routing.step.Goals as goal

pub returns-then-hops_spent : goal.returns-then-hops_spent
unfolding step_rows
returns-then-hops_spent c = sym (rw c.hop_limit.ensures (search judged depth 20))

pub returns-then-bad_left : goal.returns-then-bad_left
unfolding step_rows
returns-then-bad_left c = sym (rw c.segments_left.ensures (search judged depth 20))

pub returns-then-at_rest : goal.returns-then-at_rest
unfolding step_rows
returns-then-at_rest c = sym (rw c.upper_layer.ensures (search judged depth 20))

pub returns : goal.returns
unfolding step_rows
returns c = (sym (search judged depth 20), cc)
