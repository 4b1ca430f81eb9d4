use Rattle.rules.proofs.Judging.{judged}
use Rattle.rules.specs.D4.{gtp4_rows}
use Rattle.near.proofs.d4.judge_outer.Goals as goal

pub returns-then-not_gtpu : goal.returns-then-not_gtpu
unfolding gtp4_rows
returns-then-not_gtpu c = search judged depth 20

pub returns : goal.returns
unfolding gtp4_rows
returns c = search judged depth 20
