use mathlib.Core.Path.{ap, ◌∙◌}
use mathlib.Core.List.{List}
use Prim.Native.Nat.{ℕ}
use lib.ListN.{length}
use Rattle.rules.specs.Header.{header, header_of}
use Rattle.gateway.proofs.Matches.{header_front}
use Rattle.report.proofs.Laws.{none_due_read}
use Rattle.report.proofs.none_due.Goals as goal

pub returns : goal.returns
unfolding header
returns c =
    let a = c.args in
    let p = a.packet.now in
    let view = c.header_of-h.ensures ∙ ap (λ (f : List ℕ). header_of f (length p)) c.window.ensures
    ∙ header_front p (length p) in
    let source = c.window-source.ensures in
    let kind = c.octet_or_0-kind.ensures in
    let unspecified = c.is_unspecified.ensures in
    none_due_read a.answered p _ _ _ _ _ _ view source kind c.octet_or_0.ensures unspecified
    c.is_error_or_redirect.ensures
