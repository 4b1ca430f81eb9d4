use Rattle.rules.proofs.Judging.{judged}
use Rattle.near.proofs.gtp6d.judge_checked.Goals as goal

pub returns-then-bad_checksum : goal.returns-then-bad_checksum
returns-then-bad_checksum c = search judged depth 20

pub returns : goal.returns
returns c = search judged depth 20
