use mathlib.Core.Path.{ap, ◌∙◌}
use native.Mathlib.Omega.{arith}
use lib.ListN.{length}
use Rattle.octets.proofs.Windows.{whole-window, rest-window}
use Rattle.octets.proofs.window.Goals as goal

pub returns-then-rest : goal.returns-then-rest
returns-then-rest g c =
    rw c.left-rest.ensures at c.copy_to.ensures
    ∙ rest-window c.args.s.now c.args.at g.row.N (omega (arith, ap length c.left-rest.ensures, c.if-rest.true))

pub returns : goal.returns
returns g c =
    rw c.left-rest.ensures at c.copy_to-2.ensures
    ∙ whole-window c.args.s.now c.args.at g.row.N (rw c.left-rest.ensures at c.if-rest.false)
