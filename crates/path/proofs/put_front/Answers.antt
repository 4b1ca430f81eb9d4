use Rattle.rules.proofs.Plans.{ipv6_before}
use Rattle.rules.specs.Plan.{path_front}
use Rattle.copying.proofs.Laws.{next, run_as}
use native.Mathlib.Omega.{arith}
use Prim.Native.Nat.{◌+◌, ◌-◌, ◌*◌}
use mathlib.Core.List.{[], ◌∷◌}
use mathlib.Core.Path.{refl}
use Rattle.path.proofs.put_front.Goals as goal

pub returns : goal.returns
unfolding path_front
returns c =
    let a = c.args in
    let p = a.plan in
    let n = p.waypoints + p.tail in
    let f = p.upper ∷ (2 * n) ∷ 4 ∷ (n - 1) ∷ (n - 1) ∷ 0 ∷ 0 ∷ 0 ∷ [] in
    run_as (next c.put_ipv6.ensures _ 8 c.copy_to.ensures
    refl refl (omega arith))
    (ipv6_before p.trafficClass (8 + 16 * n + p.size) 43 p.hopLimit p.source a.to f)
