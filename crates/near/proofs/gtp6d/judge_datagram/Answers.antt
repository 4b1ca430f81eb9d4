use Rattle.rules.proofs.Judging.{hands_on, passed_first}
use Rattle.rules.specs.Datagram.{message_rows}
use Rattle.near.proofs.AtGtp6D.{udp_long}
use Rattle.near.proofs.gtp6d.judge_datagram.Goals as goal

-- its length is right, so that it has a UDP header
pub judge_checked-requires : goal.judge_checked-requires
judge_checked-requires c =
    let a = c.args in
    let v = c.requires in
    record {
      arrived = v.arrived;
      long = udp_long a.packet.now a.h.upperAt a.m.now.view _ v.view c.judge_udp.ensures c.in_ok-judge_udp.was;
    }

pub returns-in_err-judge_udp : goal.returns-in_err-judge_udp
unfolding message_rows
returns-in_err-judge_udp c = hands_on _ _ _ _ _ c.from_residual.ensures.1 c.judge_udp.ensures c.in_err-judge_udp.was

pub returns : goal.returns
unfolding message_rows
returns c = passed_first _ _ _ _ c.judge_udp.ensures c.in_ok-judge_udp.was c.judge_checked.ensures
