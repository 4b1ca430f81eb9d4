use Rattle.rules.proofs.Judging.{judged}
use Rattle.far.specs.FarRows.{far_rows}
use Rattle.far.proofs.judge_e4.Goals as goal

pub returns-then-bad_chain : goal.returns-then-bad_chain
unfolding far_rows
returns-then-bad_chain c = search judged depth 20

pub returns-then-segments_remain : goal.returns-then-segments_remain
unfolding far_rows
returns-then-segments_remain c = search judged depth 20

pub returns : goal.returns
unfolding far_rows
returns c = search judged depth 20
