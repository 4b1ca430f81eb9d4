use Rattle.rules.proofs.Judging.{hands_on, passed_first}
use Rattle.rules.specs.Datagram.{message_rows}
use Rattle.path.proofs.gpdu.Message.judge.Goals as goal

pub returns-in_err-judge_udp : goal.returns-in_err-judge_udp
unfolding message_rows
returns-in_err-judge_udp c = hands_on _ _ _ _ _ c.from_residual.ensures.1 c.judge_udp.ensures c.in_err-judge_udp.was

pub returns : goal.returns
unfolding message_rows
returns c = passed_first _ _ _ _ c.judge_udp.ensures c.in_ok-judge_udp.was c.judge_gtpu.ensures
