use Rattle.rules.proofs.Judging.{judged}
use Rattle.far.proofs.judge_upper.Goals as goal

pub returns-then-bad_upper : goal.returns-then-bad_upper
returns-then-bad_upper c = search judged depth 20

pub returns-then-too_long : goal.returns-then-too_long
returns-then-too_long c = search judged depth 20

pub returns : goal.returns
returns c = search judged depth 20
