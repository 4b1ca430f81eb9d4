use Rattle.rules.specs.Datagram.{g_pdu_rows}
use Rattle.gtpu.proofs.Laws.{judged-by}
use Rattle.gtpu.proofs.judge_gpdu.Goals as goal

pub returns-then-not_gpdu : goal.returns-then-not_gpdu
unfolding g_pdu_rows
returns-then-not_gpdu c = search judged-by depth 20

pub returns-then-bad_extensions : goal.returns-then-bad_extensions
unfolding g_pdu_rows
returns-then-bad_extensions c = search judged-by depth 20

pub returns-then-bad_container : goal.returns-then-bad_container
unfolding g_pdu_rows
returns-then-bad_container c = search judged-by depth 20

pub returns : goal.returns
unfolding g_pdu_rows
returns c = search judged-by depth 20
