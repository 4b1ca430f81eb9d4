use mathlib.Core.Path.{◌∙◌}
use lib.ListN.{drop}
use Rattle.rules.specs.UdpChecksum.{udp_checksum6}
use Rattle.rules.specs.Echo.{echo_answer, echo_checksum}
use Rattle.echo.proofs.response6.Goals as goal

pub returns : goal.returns
unfolding echo_checksum
returns c =
    let u = drop c.args.at c.args.packet.now in
    let from = c.window-from.ensures in
    let to = c.window-to.ensures in
    let sum = c.checksum_of-sum.ensures ∙ (λ i. udp_checksum6 (from i) (to i) (c.response-bare.ensures i)) in
    c.response.ensures ∙ (λ i. echo_answer (sum i) u)
