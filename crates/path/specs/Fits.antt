-- What the writer of a path asks, and the head of a plan.
use Rattle.std.specs.Prelude.{◌≡◌, List, ℕ, ◌+◌, ◌*◌, ◌≤◌, ◌<◌, length}
use Rattle.rules.specs.Plan.{head_along}
use Rattle.path.specs.declared.PathPlan.{PathPlan}

-- the waypoints stand in their record, the path is no longer than a sound table allows, the length field holds, and there is room
pub record Fits (holder : List ℕ) (from waypoints tail size room : ℕ) : Type 0 where
  pub held : from + 16 * waypoints ≤ length holder
  pub few : waypoints ≤ 7
  pub one : 1 ≤ tail
  pub two : tail ≤ 2
  pub field : 8 + 16 * (waypoints + tail) + size < 65536
  pub spacious : 48 + 16 * (waypoints + tail) ≤ room

-- a plan that can be carried out
pub record Ready (plan : PathPlan) (holder : List ℕ) (room : ℕ) : Type 0 where
  pub fits : Fits holder plan.from plan.waypoints plan.tail plan.size room
  pub source : length plan.source ≡ 16
  pub sid : length plan.sid ≡ 16
  pub end : length plan.end ≡ 16

-- its head
abbrev pub head_of : (plan : PathPlan) (holder : List ℕ) → List ℕ
head_of plan holder =
    head_along plan.trafficClass plan.upper plan.hopLimit plan.source holder plan.from plan.waypoints plan.tail
    plan.sid plan.end plan.size
