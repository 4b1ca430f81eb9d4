use Rattle.near.proofs.AtD4.{put_none, put_some}
use Rattle.copying.proofs.Laws.{run_as, run_count}
use Rattle.rules.specs.Ipv6.{ipv6}
use Rattle.rules.specs.Plan.{head_along}
use Prim.Native.Nat.{◌+◌, ◌*◌}
use mathlib.Core.List.{[]}
use Rattle.near.proofs.d4.put_head.Goals as goal

pub returns-then-plan-eq0 : goal.returns-then-plan-eq0
returns-then-plan-eq0 c =
    let p = c.args.plan in
    let q = c.requires in
    put_none c.args.r.now p.waypoints p.trafficClass p.upper p.source p.sid p.size _ _ q.count c.if-plan-eq0.true
    (run_as c.put_ipv6.ensures (λ i. ipv6 p.trafficClass p.size p.upper (q.hops i) p.source p.sid []))

pub returns : goal.returns
returns c =
    let p = c.args.plan in
    let q = c.requires in
    put_some c.args.r.now p.waypoints p.trafficClass p.upper p.source p.sid p.size _ _ q.count c.if-plan-eq0.false
    (run_count (λ i. 48 + 16 * (p.waypoints + q.tail i)) (run_as c.put.ensures
    (λ i. head_along p.trafficClass p.upper (q.hops i) p.source c.args.r.now (q.from i) p.waypoints (q.tail i) p.sid (q.end i) p.size)))
