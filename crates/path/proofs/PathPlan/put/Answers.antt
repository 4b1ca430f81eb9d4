use Rattle.path.proofs.Heads.{tail_first, path_put}
use Rattle.copying.proofs.Laws.{run_as}
use Rattle.rules.specs.Table.{addresses_at}
use Rattle.rules.specs.Plan.{path_front, tail_of, head_along}
use lib.ListN.{get_or}
use Prim.Native.Nat.{◌+◌}
use mathlib.Core.List.{[], ◌++◌}
use mathlib.Core.Path.{◌∙◌}
use Rattle.path.proofs.PathPlan.put.Goals as goal

pub returns : goal.returns
unfolding head_along
returns c =
    let p = c.args.self in
    let fits = c.requires.fits in
    let ws = addresses_at c.args.holder.now p.from p.waypoints in
    let rest = tail_of p.tail p.sid p.end in
    let n = p.waypoints + p.tail in
    let t = c.first.ensures ∙ tail_first p.tail p.sid p.end ws fits.one fits.two in
    let front = run_as c.put_front.ensures
    (λ i. path_front p.trafficClass p.upper p.hopLimit p.source (t i) n p.size) in
    path_put p.trafficClass p.upper p.hopLimit p.source (get_or (ws ++ rest) 0 []) p.waypoints p.tail p.size rest ws
    front c.put_tail.ensures c.put_reversed.ensures
