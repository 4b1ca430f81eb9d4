-- What a behaviour may rely on in its entry, its policy and its rule: named facts of one record, which a sound table gives.
use Rattle.std.specs.Prelude.{◌≡◌, true, List, ℕ, ◌*◌, ◌%◌, ◌≤◌, ◌<◌}
use Rattle.rules.specs.Table.{policies, policy_at}
use Rattle.rules.specs.Entry as Entry
use Rattle.rules.specs.Rule as Rule
use Rattle.rules.specs.Policy as Policy
use Rattle.rules.specs.Sound.{direction_known, session_known}

pub record SoundPolicy (policy : List ℕ) : Type 0 where
  pub least : 1 ≤ Policy.sid_count policy
  pub most : Policy.sid_count policy ≤ 8
  pub start : Policy.start policy ≤ 88
  pub whole : Policy.start policy % 8 ≡ 0

-- an entry of D or Di, and the policy that it names
pub record SoundGtp6D (t e : List ℕ) : Type 0 where
  pub direction : direction_known (Entry.direction e) ≡ true
  pub session : session_known (Entry.session e) ≡ true
  pub named : Entry.policy e < policies t
  pub policy : SoundPolicy (policy_at t (Entry.policy e))

pub record SoundE6 (e : List ℕ) : Type 0 where
  pub direction : direction_known (Entry.direction e) ≡ true
  pub session : session_known (Entry.session e) ≡ true
  pub start : Entry.start e ≤ 88
  pub whole : Entry.start e % 8 ≡ 0
  pub before : Entry.prefix_length e ≤ Entry.start e

pub record SoundE4 (e : List ℕ) : Type 0 where
  pub direction : direction_known (Entry.direction e) ≡ true
  pub session : session_known (Entry.session e) ≡ true
  pub p : Entry.p e ≤ 7
  pub q : Entry.q e ≤ 12
  pub before : Entry.prefix_length e ≤ 8 * Entry.p e

pub record SoundRule (r : List ℕ) : Type 0 where
  pub bits : Rule.prefix_length r ≤ 32
  pub hopLimit : 1 ≤ Rule.hop_limit r
  pub direction : direction_known (Rule.direction r) ≡ true
  pub session : session_known (Rule.session r) ≡ true
  pub p : Rule.p r ≤ 7
  pub q : Rule.q r ≤ 12
  pub waypoints : Rule.waypoint_count r ≤ 7
