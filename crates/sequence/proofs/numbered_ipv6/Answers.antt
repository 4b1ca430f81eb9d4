use Rattle.rules.specs.Gtp6D.{gtp6_rows}
use Rattle.sequence.proofs.Testing.{tested6}
use Rattle.sequence.proofs.numbered_ipv6.Goals as goal

pub returns-then-is_malformed : goal.returns-then-is_malformed
unfolding gtp6_rows
returns-then-is_malformed c = search tested6 depth 20

pub returns-then-bad_chain : goal.returns-then-bad_chain
unfolding gtp6_rows
returns-then-bad_chain c = search tested6 depth 20

pub returns-then-segments_remain : goal.returns-then-segments_remain
unfolding gtp6_rows
returns-then-segments_remain c = search tested6 depth 20

pub returns : goal.returns
unfolding gtp6_rows
returns c = search tested6 depth 20
