use mathlib.Core.Path.{refl, ap, ◌∙◌}
use mathlib.Core.List.{List, [], ◌++◌}
use Prim.Native.Nat.{ℕ, ◌+◌}
use native.Mathlib.Omega.{arith}
use lib.ListN.{length}
use Rattle.rules.specs.Octets.{octet}
use Rattle.rules.specs.Args.{args_at}
use Rattle.rules.specs.Entry as Entry
use Rattle.rules.specs.Ipv6.{ipv6}
use Rattle.rules.specs.Gtpu.{datagram_before}
use Rattle.rules.specs.UdpChecksum.{udp_checksum6}
use Rattle.rules.specs.E6.{e6_checksum}
use Rattle.rules.specs.Plan.{e6_head}
use Rattle.rules.proofs.Plans.{datagram-whole}
use Rattle.copying.proofs.Laws.{next, run_as}
use Rattle.far.proofs.put_e6.Goals as goal

pub returns : goal.returns
unfolding e6_head e6_checksum
returns c =
    let a = c.args in
    let e : List ℕ = a.e.now in
    let inner : List ℕ = a.inner.now in
    let size : ℕ = length inner in
    let port = c.join16-port.ensures.0 in
    let source = c.window-source.ensures in
    let x = c.from_sid-args.ensures in
    let bare = c.head_of-bare.ensures ∙ (λ i. datagram_before (port i) (octet e 3) 0 (x i) size []) in
    let sum = c.checksum-sum.ensures ∙ (λ i. udp_checksum6 (source i) a.to (bare i ++ inner))
    ∙ ap (udp_checksum6 (Entry.source e) a.to)
    (datagram-whole (Entry.source_port e) (octet e 3) 0 (args_at a.sid (Entry.start e)) inner) in
    let head = c.head_of-head in
    let octets = head.ensures ∙ (λ i. datagram_before (port i) (octet e 3) (sum i) (x i) size []) in
    run_as
    (next c.put_ipv6.ensures head.result 24 c.copy_to.ensures (omega (arith, head.type_inv)) refl (omega arith))
    (λ i. ipv6 a.class (24 + size) 17 (octet e 2) (source i) a.to [] ++ octets i)
