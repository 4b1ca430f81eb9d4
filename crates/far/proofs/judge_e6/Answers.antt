use Rattle.rules.proofs.Judging.{judged}
use Rattle.far.specs.FarRows.{far_rows}
use Rattle.far.proofs.judge_e6.Goals as goal

pub returns-then-bad_chain6 : goal.returns-then-bad_chain6
unfolding far_rows
returns-then-bad_chain6 c = search judged depth 20

pub returns-then-bad_left6 : goal.returns-then-bad_left6
unfolding far_rows
returns-then-bad_left6 c = search judged depth 20

pub returns : goal.returns
unfolding far_rows
returns c = search judged depth 20
