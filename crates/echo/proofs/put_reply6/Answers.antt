use mathlib.Core.Path.{refl}
use native.Mathlib.Omega.{arith}
use Rattle.copying.proofs.Laws.{next}
use Rattle.echo.proofs.put_reply6.Goals as goal

pub returns : goal.returns
returns c =
    let r = c.put_ipv6.ensures in
    next r _ 22 c.copy_to.ensures (omega (arith, c)) refl (omega arith)
