use mathlib.Core.Path.{◌≡◌, refl, sym, ◌∙◌}
use Rattle.std.proofs.lemmas.Result.{err_from_is_err_and}
use mathlib.Core.List.{List, [], ◌++◌}
use Prim.Native.Nat.{ℕ, ◌+◌, ◌-◌}
use native.Mathlib.Omega.{arith}
use lib.ListN.{length, take, length-append}
use Rattle.rules.specs.Ipv6.{ipv6}
use Rattle.rules.specs.Ipv6 as Ipv6
use Rattle.rules.specs.Entry as Entry
use Rattle.rules.specs.declared.Refusal.{Refusal}
use Rattle.rules.specs.Plan.{sent_by}
use Rattle.icmp.specs.Icmp.{icmp, checksum_of, icmp_packet}
use Rattle.icmp.proofs.Laws.{quoted_part, quoted-length, whole, message_no_room, message-sent}
use Rattle.icmp.proofs.send.Goals as goal

-- both headers, of what was read
abbrev headers : (n hops : ℕ) (source destination header : List ℕ) → List ℕ
headers n hops source destination header = ipv6 0 (8 + n) 58 hops source destination [] ++ header

together : (e p : List ℕ) (r : Refusal) (n hops : ℕ) (source destination header : List ℕ) → n ≡ length p - (length p - 1232)
    → hops ≡ Entry.hop_limit e → source ≡ Entry.source e → destination ≡ Ipv6.source p
    → header ≡ icmp r (checksum_of source destination (icmp r 0 (take (n - 0) p))) []
    → sent_by (headers n hops source destination header) 0 (take (n - 0) p) ≡ icmp_packet e r p
together e p r n hops source destination header size hop from to read =
    let part = quoted_part p (n - 0) (omega (arith, size)) in
    let built = read ∙ (λ i. icmp r (checksum_of (from i) (to i) (icmp r 0 (part i))) []) in
    (λ i. sent_by (ipv6 0 (8 + (size ∙ sym (quoted-length p)) i) 58 (hop i) (from i) (to i) [] ++ built i) 0 (part i)) ∙ whole e r p

pub returns : goal.returns
returns c =
    message-sent _ _ _
    (together c.args.e.now c.args.packet.now c.args.r _ _ _ _ _ c.quoted_size-n.ensures.0 c.octet_or_0-hops.ensures
    c.window-source.ensures c.window-destination.ensures c.header_for-header.ensures)
    c.in_ok-sent.ensures refl c.put_headers.ensures

pub returns-in_err-sent : goal.returns-in_err-sent
returns-in_err-sent c =
    let p = err_from_is_err_and c.from_residual.result c.from_residual.ensures.1 in
    let h = headers c.quoted_size-n.result c.octet_or_0-hops.result c.window-source.result c.window-destination.result
    c.header_for-header.result in
    rw (p.1, p.2)
    (message_no_room _ _ h
    (together c.args.e.now c.args.packet.now c.args.r _ _ _ _ _ c.quoted_size-n.ensures.0 c.octet_or_0-hops.ensures
    c.window-source.ensures c.window-destination.ensures c.header_for-header.ensures)
    c.in_err-sent.ensures refl
    (simp length-append
    (omega (arith, c.header_for-header.type_inv, c.window-source.type_inv, c.window-destination.type_inv))))
