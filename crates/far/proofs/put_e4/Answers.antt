use Rattle.rules.specs.Plan.{e4_head}
use Rattle.copying.proofs.Laws.{next, run_as}
use Rattle.rules.specs.Gtpu.{datagram_before}
use Rattle.rules.specs.Ipv4.{ipv4}
use Rattle.rules.specs.Octets.{octet, window}
use native.Mathlib.Omega.{arith}
use Prim.Native.Nat.{ℕ, ◌+◌}
use mathlib.Core.List.{List, [], ◌++◌}
use mathlib.Core.Path.{refl, ap, ◌∙◌}
use Rattle.far.proofs.put_e4.Goals as goal

pub returns : goal.returns
unfolding e4_head
returns c =
    let a = c.args in
    let e : List ℕ = a.e.now in
    let from = c.window-source.ensures ∙ ap (λ (k : ℕ). window a.from k 4) c.wide.ensures.0 in
    let to = c.window-destination.ensures ∙ ap (λ (k : ℕ). window a.sid k 4) c.wide-2.ensures.0 in
    let head = c.head_of-head in
    let octets = head.ensures ∙ (λ i. datagram_before (c.join16-port.ensures.0 i) (octet e 3) 0 (c.from_sid-args.ensures i) a.size []) in
    run_as
    (next c.put_ipv4.ensures head.result 24 c.copy_to.ensures (omega (arith, head.type_inv)) refl (omega arith))
    (λ i. ipv4 a.class (44 + a.size) (octet e 2) (from i) (to i) [] ++ octets i)
