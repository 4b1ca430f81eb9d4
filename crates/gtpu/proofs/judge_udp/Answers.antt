use Rattle.gtpu.proofs.Laws.{judged-by}
use Rattle.gtpu.proofs.judge_udp.Goals as goal

pub returns-then-bad_udp : goal.returns-then-bad_udp
returns-then-bad_udp c = search judged-by depth 20

pub returns : goal.returns
returns c = search judged-by depth 20
