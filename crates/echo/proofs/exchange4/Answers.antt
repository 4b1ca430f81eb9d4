use mathlib.Core.Path.{sym, ap, ◌∙◌}
use mathlib.Core.List.{◌++◌}
use lib.ListN.{take, drop}
use native.Mathlib.Omega.{arith}
use Rattle.rules.specs.Octets.{splice}
use Rattle.copying.proofs.Laws.{chain, length_part}
use Rattle.octets.proofs.Windows.{window_part}
use Rattle.echo.proofs.exchange4.Goals as goal

pub returns : goal.returns
returns c =
    let p = c.args.packet.now in
    let o = c.args.out.now in
    chain o 12 (take 4 (drop 16 p)) (take 4 (drop 12 p)) c.copy_to.ensures c.copy_to-2.ensures
    (omega (arith, length_part 16 4 p c.requires.0)) (omega (arith, c.requires.1))
    ∙ ap (splice o 12) (λ i. sym (window_part p 16 4 c.requires.0) i ++ sym (window_part p 12 4 (omega (arith, c.requires.0))) i)
