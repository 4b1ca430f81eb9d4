use Rattle.rules.specs.Datagram.{inner_rows}
use Rattle.gtpu.proofs.Laws.{judged-by}
use Rattle.gtpu.proofs.judge_inner.Goals as goal

pub returns-then-bad_inner : goal.returns-then-bad_inner
unfolding inner_rows
returns-then-bad_inner c = search judged-by depth 20

pub returns-then-too_long : goal.returns-then-too_long
unfolding inner_rows
returns-then-too_long c = search judged-by depth 20

pub returns : goal.returns
unfolding inner_rows
returns c = search judged-by depth 20
