use Rattle.rules.specs.D4.{gtp4_rows}
use Rattle.sequence.proofs.Testing.{tested4}
use Rattle.sequence.proofs.numbered_ipv4.Goals as goal

pub returns-then-is_malformed4 : goal.returns-then-is_malformed4
unfolding gtp4_rows
returns-then-is_malformed4 c = search tested4 depth 20

pub returns-then-bad_header4 : goal.returns-then-bad_header4
unfolding gtp4_rows
returns-then-bad_header4 c = search tested4 depth 20

pub returns : goal.returns
unfolding gtp4_rows
returns c = search tested4 depth 20
