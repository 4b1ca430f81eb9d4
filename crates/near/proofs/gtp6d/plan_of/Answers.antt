use Rattle.near.specs.Gtp6DPlan.{path_plan}
use Rattle.near.proofs.gtp6d.plan_of.Goals as goal

pub returns : goal.returns
unfolding path_plan
returns c = cc
