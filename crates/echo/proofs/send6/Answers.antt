use mathlib.Core.Path.{◌≡◌, refl, ◌∙◌}
use Rattle.std.proofs.lemmas.Result.{err_from_is_err_and}
use Prim.Native.Nat.{ℕ}
use mathlib.Core.List.{List, [], ◌++◌}
use native.Mathlib.Omega.{arith}
use lib.ListN.{drop, length-append}
use Rattle.rules.specs.Octets.{window}
use Rattle.rules.specs.Ipv6.{ipv6}
use Rattle.rules.specs.Echo.{echo_answer, echo_checksum}
use Rattle.rules.proofs.Plans.{ipv6_before}
use Rattle.echo.specs.Reply.{reply_to6}
use Rattle.echo.proofs.Laws.{reply_no_room, reply_sent}
use Rattle.echo.proofs.send6.Goals as goal

-- what is written is what was read, put together
head_of : (p : List ℕ) (at class hops : ℕ) (source destination datagram : List ℕ)
    → source ≡ window p 24 16 → destination ≡ window p 8 16
    → datagram ≡ echo_answer (echo_checksum (window p 24 16) (window p 8 16) (drop at p)) (drop at p)
    → ipv6 class 22 17 hops source destination [] ++ datagram ≡ reply_to6 p at class hops
head_of p at class hops source destination datagram hs hd hu =
    (λ i. ipv6 class 22 17 hops (hs i) (hd i) [] ++ hu i)
    ∙ ipv6_before class 22 17 hops (window p 24 16) (window p 8 16)
    (echo_answer (echo_checksum (window p 24 16) (window p 8 16) (drop at p)) (drop at p))

pub returns-in_err-sent : goal.returns-in_err-sent
returns-in_err-sent c =
    let a = c.args in
    let p = err_from_is_err_and c.from_residual.result c.from_residual.ensures.1 in
    rw (p.1, p.2)
    (reply_no_room _ a.packet.now c.in_err-sent.ensures (head_of a.packet.now a.at a.class a.hops _ _ _ c.window-source.ensures
    c.window-destination.ensures c.response6-datagram.ensures) refl
    (simp length-append (omega (arith, c.response6-datagram.type_inv, c.window-source.type_inv, c.window-destination.type_inv))))

pub returns : goal.returns
returns c =
    let a = c.args in
    reply_sent _ a.packet.now c.in_ok-sent.ensures (head_of a.packet.now a.at a.class a.hops _ _ _ c.window-source.ensures
    c.window-destination.ensures c.response6-datagram.ensures) refl c.put_reply6.ensures
