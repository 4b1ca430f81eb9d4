use Rattle.rules.proofs.Judging.{hands_on, passed_first}
use Rattle.path.proofs.gpdu.Message.judge_gtpu.Goals as goal

pub returns-in_err-judge_gtpu : goal.returns-in_err-judge_gtpu
returns-in_err-judge_gtpu c = hands_on _ _ _ _ _ c.from_residual.ensures.1 c.judge_gtpu.ensures c.in_err-judge_gtpu.was

pub returns : goal.returns
returns c = passed_first _ _ _ _ c.judge_gtpu.ensures c.in_ok-judge_gtpu.was c.judge_type.ensures
