use Rattle.rules.proofs.Judging.{hands_on, passed_first}
use Rattle.path.proofs.gpdu.Message.judge_pdu.Goals as goal

pub returns-in_err-judge_gpdu : goal.returns-in_err-judge_gpdu
returns-in_err-judge_gpdu c = hands_on _ _ _ _ _ c.from_residual.ensures.1 c.judge_gpdu.ensures c.in_err-judge_gpdu.was

pub returns : goal.returns
returns c = passed_first _ _ _ _ c.judge_gpdu.ensures c.in_ok-judge_gpdu.was c.judge_inner.ensures
