use mathlib.Core.Path.{refl}
use native.Mathlib.Omega.{arith}
use Rattle.copying.proofs.Laws.{next}
use Rattle.icmp.proofs.put_headers.Goals as goal

pub returns : goal.returns
returns c =
    let r = c.put_ipv6.ensures in
    next r _ 8 c.copy_to.ensures (omega (arith, c)) refl (omega arith)
