-- The plan that D and Di make of what is read.
use Rattle.std.specs.Prelude.{List, [], ◌∷◌, ℕ, ◌-◌}
use Rattle.rules.specs.Entry as Entry
use Rattle.rules.specs.Policy as Policy
use Rattle.rules.specs.Args.{Args}
use Rattle.rules.specs.Session.{inner_protocol}
use Rattle.rules.specs.D.{last_with_args}
use Rattle.path.specs.declared.PathPlan.{PathPlan}

-- of an inner packet of `size` octets at `place`, that begins with the octet `first`, and the destination `to` that arrived
unfoldable pub path_plan : (tail : ℕ) (e policy : List ℕ) (class : ℕ) (args : Args) (first : ℕ) (to : List ℕ) (place size : ℕ) → PathPlan
path_plan tail e policy class args first to place size = record {
  trafficClass = class;
  upper = inner_protocol (Entry.session e) (first ∷ []);
  hopLimit = Entry.hop_limit e;
  source = Entry.source e;
  sid = last_with_args policy args;
  end = to;
  tail = tail;
  waypoints = Policy.sid_count policy - 1;
  from = 16;
  place = place;
  size = size;
}
