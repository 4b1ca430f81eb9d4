use mathlib.Core.Path.{refl, ◌∙◌}
use Rattle.std.proofs.lemmas.Result.{err_from_is_err_and}
use mathlib.Core.List.{[], ◌++◌}
use native.Mathlib.Omega.{arith}
use Prim.Native.Nat.{◌≤◌}
use lib.ListN.{length, drop, length-append}
use Rattle.rules.specs.Octets.{window}
use Rattle.rules.specs.Ipv4.{ipv4}
use Rattle.rules.specs.Echo.{echo_answer}
use Rattle.rules.proofs.Windows.{window-length}
use Rattle.rules.proofs.Plans.{ipv4_before}
use Rattle.echo.proofs.Laws.{reply_no_room, reply_sent, copied_source, copied_destination, written_over}
use Rattle.echo.proofs.send4.Goals as goal

pub returns-in_err-sent : goal.returns-in_err-sent
returns-in_err-sent c =
    let a = c.args in
    let p = a.packet.now in
    let e = err_from_is_err_and c.from_residual.result c.from_residual.ensures.1 in
    rw (e.1, e.2)
    (reply_no_room _ p c.in_err-sent.ensures
    ((λ i. ipv4 a.tos 42 a.ttl (window p 16 4) (window p 12 4) [] ++ c.response-datagram.ensures i)
    ∙ ipv4_before a.tos 42 a.ttl (window p 16 4) (window p 12 4) (echo_answer 0 (drop a.at p)))
    refl (simp length-append (omega (arith, c.response-datagram.type_inv, window-length p 16 4, window-length p 12 4))))

pub returns : goal.returns
returns c =
    let a = c.args in
    let p = a.packet.now in
    let put = c.exchange4.ensures in
    let long : 42 ≤ length c.send.new.out = omega (arith, c.in_ok-sent.ensures.room _ refl) in
    let source = c.window-source.ensures ∙ copied_source _ _ p put long in
    let destination = c.window-destination.ensures ∙ copied_destination _ _ p put long in
    reply_sent _ p c.in_ok-sent.ensures
    ((λ i. ipv4 a.tos 42 a.ttl (source i) (destination i) [] ++ c.response-datagram.ensures i)
    ∙ ipv4_before a.tos 42 a.ttl (window p 16 4) (window p 12 4) (echo_answer 0 (drop a.at p)))
    refl (written_over _ _ p put long c.put_reply4.ensures)
