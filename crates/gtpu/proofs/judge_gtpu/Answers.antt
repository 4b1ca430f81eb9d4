use Rattle.gtpu.proofs.Laws.{judged-by}
use Rattle.gtpu.proofs.judge_gtpu.Goals as goal

pub returns-then-bad_gtpu : goal.returns-then-bad_gtpu
returns-then-bad_gtpu c = search judged-by depth 20

pub returns : goal.returns
returns c = search judged-by depth 20
