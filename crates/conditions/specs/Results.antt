-- What the quick tests say of their results.
use Rattle.std.specs.Prelude.{◌≡◌, List, ℕ, true}
use Rattle.rules.specs.Entry as Entry
use Rattle.rules.specs.Rule as Rule
use Rattle.rules.specs.Sound.{prefix_length_within, hop_limit_within, direction_known, session_known, p_within, q_within, reserved_clear}
use Rattle.rules.specs.Sound.{prefix_clear, waypoints_within}

-- the conditions that every behaviour asks of an entry hold
pub record Front (e : List ℕ) : Type 0 where
  pub bits : prefix_length_within 128 (Entry.prefix_length e) ≡ true
  pub clear : prefix_clear e ≡ true
  pub hopLimit : hop_limit_within (Entry.hop_limit e) ≡ true

-- the conditions on single octets of a rule hold
pub record Single (r : List ℕ) : Type 0 where
  pub bits : prefix_length_within 32 (Rule.prefix_length r) ≡ true
  pub hopLimit : hop_limit_within (Rule.hop_limit r) ≡ true
  pub direction : direction_known (Rule.direction r) ≡ true
  pub session : session_known (Rule.session r) ≡ true
  pub p : p_within (Rule.p r) ≡ true
  pub q : q_within (Rule.q r) ≡ true
  pub waypoints : waypoints_within r ≡ true
  pub reserved : reserved_clear (Rule.reserved r) ≡ true
