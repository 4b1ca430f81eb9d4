use Rattle.rules.proofs.Judging.{judged}
use Rattle.rules.specs.Gtp6D.{gtp6_rows}
use Rattle.near.proofs.gtp6d.judge_outer.Goals as goal

pub returns-then-bad_chain : goal.returns-then-bad_chain
unfolding gtp6_rows
returns-then-bad_chain c = search judged depth 20

pub returns-then-segments_remain : goal.returns-then-segments_remain
unfolding gtp6_rows
returns-then-segments_remain c = search judged depth 20

pub returns-then-not_gtpu : goal.returns-then-not_gtpu
unfolding gtp6_rows
returns-then-not_gtpu c = search judged depth 20

pub returns : goal.returns
unfolding gtp6_rows
returns c = search judged depth 20
