use Rattle.rules.proofs.Judging.{hands_on, passed_first}
use Rattle.near.proofs.gtp6d.judge.Goals as goal

pub returns-in_err-judge_outer : goal.returns-in_err-judge_outer
returns-in_err-judge_outer c = hands_on _ _ _ _ _ c.from_residual.ensures.1 c.judge_outer.ensures c.in_err-judge_outer.was

pub returns : goal.returns
returns c = passed_first _ _ _ _ c.judge_outer.ensures c.in_ok-judge_outer.was c.judge_datagram.ensures
