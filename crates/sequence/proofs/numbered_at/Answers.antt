use Rattle.rules.specs.Datagram.{message_rows}
use Rattle.sequence.specs.Parts.{rows8_to11}
use Rattle.sequence.proofs.Testing.{tested8}
use Rattle.sequence.proofs.numbered_at.Goals as goal

pub returns-then-not_gtpu : goal.returns-then-not_gtpu
unfolding rows8_to11 message_rows
returns-then-not_gtpu c = search tested8 depth 20

pub returns-then-bad_udp : goal.returns-then-bad_udp
unfolding rows8_to11 message_rows
returns-then-bad_udp c = search tested8 depth 20

pub returns-then-bad_gtpu : goal.returns-then-bad_gtpu
unfolding rows8_to11 message_rows
returns-then-bad_gtpu c = search tested8 depth 20

pub returns-then-not_gpdu : goal.returns-then-not_gpdu
unfolding rows8_to11 message_rows
returns-then-not_gpdu c = search tested8 depth 20

pub returns-then-not-is_numbered : goal.returns-then-not-is_numbered
unfolding rows8_to11 message_rows
returns-then-not-is_numbered c = search tested8 depth 20

pub returns : goal.returns
unfolding rows8_to11 message_rows
returns c = search tested8 depth 20
