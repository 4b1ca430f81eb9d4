-- What the behaviours of the near end ask of the records and of the packet that they are called with.
use Rattle.std.specs.Prelude.{◌≡◌, cond, List, ℕ, ◌+◌, ◌*◌, ◌≤◌, ◌<◌, eqb, length, drop}
use Rattle.rules.specs.Rule as Rule
use Rattle.rules.specs.SoundRecord.{SoundPolicy, SoundRule}
use Rattle.rules.specs.Header.{WellFormed}
use Rattle.rules.specs.Header4.{WellFormed4}
use Rattle.rules.specs.Datagram.{datagram}
use Rattle.rules.specs.declared.Header.{Header}
use Rattle.rules.specs.declared.Datagram.{Datagram}
use Rattle.rules.specs.declared.Header4.{Header4}
use Rattle.path.specs.declared.PathPlan.{PathPlan}

-- D and Di: of an entry, its policy, a tail of 1 or 2, and a packet with its view
pub record Gtp6DAsked (e policy : List ℕ) (tail : ℕ) (packet : List ℕ) (h : Header) : Type 0 where
  pub entry : length e ≡ 64
  pub octets : length policy ≡ 288
  pub sound : SoundPolicy policy
  pub one : 1 ≤ tail
  pub two : tail ≤ 2
  pub arrived : WellFormed packet h

-- a packet with its view, and that of the datagram in it; and one whose datagram has a UDP header
pub record Viewed (packet : List ℕ) (h : Header) (g : Datagram) : Type 0 where
  pub arrived : WellFormed packet h
  pub view : g ≡ datagram (drop h.upperAt packet)

pub record Readable (packet : List ℕ) (h : Header) : Type 0 where
  pub arrived : WellFormed packet h
  pub long : h.upperAt + 8 ≤ length packet

-- D4: of a rule, and a packet with its view
pub record D4Asked (r packet : List ℕ) (h : Header4) : Type 0 where
  pub octets : length r ≡ 160
  pub sound : SoundRule r
  pub arrived : WellFormed4 packet h

-- the writer of its head: a plan along the waypoints of the rule, with one SID behind them
pub record PutD4 (r : List ℕ) (plan : PathPlan) (room : ℕ) : Type 0 where
  pub count : plan.waypoints ≡ Rule.waypoint_count r
  pub most : plan.waypoints ≤ 7
  pub from : plan.from ≡ 48
  pub tail : plan.tail ≡ 1
  pub hops : plan.hopLimit ≡ Rule.hop_limit r
  pub end : plan.end ≡ plan.sid
  pub field : cond (eqb plan.waypoints 0) plan.size (24 + 16 * plan.waypoints + plan.size) < 65536
  pub spacious : cond (eqb plan.waypoints 0) 40 (48 + 16 * (plan.waypoints + 1)) ≤ room
