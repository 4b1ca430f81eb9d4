use mathlib.Core.Path.{◌≡◌}
use Rattle.path.proofs.Heads.{tail_one, tail_two}
use native.Mathlib.Omega.{arith}
use Rattle.path.proofs.put_tail.Goals as goal

pub returns-then-tail-eq1 : goal.returns-then-tail-eq1
returns-then-tail-eq1 c =
    tail_one c.args.tail c.args.sid c.args.end _ _ c.if-tail-eq1.true (omega (arith, c))
    c.copy_to.ensures

pub returns : goal.returns
returns c =
    let two : c.args.tail ≡ 2 = omega (
      arith,
      c,
      c.if-tail-eq1.false,
    ) in
    tail_two c.args.tail c.args.sid c.args.end _ _ _ two (omega (arith, c)) (omega (arith, c)) (omega (arith, c))
    c.copy_to-2.ensures c.copy_to-3.ensures
