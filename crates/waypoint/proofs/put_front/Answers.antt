use Rattle.waypoint.proofs.AtWaypoint.{front_put}
use Rattle.srh.specs.State.{state}
use native.Mathlib.Omega.{arith}
use Rattle.waypoint.proofs.put_front.Goals as goal

pub returns : goal.returns
returns c =
    let octets = c.octets-destination in
    front_put _ _ (state c.args.s) _ _ _ _ _ (omega (arith, c)) (omega (arith, octets.type_inv)) octets.ensures
    c.copy_to.ensures c.copy_to-2.ensures
    c.copy_to-3.ensures c.copy_to-4.ensures
