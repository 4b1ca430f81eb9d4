-- D: End.M.GTP6.D (RFC 9433, 6.3).
use Rattle.std.specs.Prelude.{List, [], ◌∷◌, ◌++◌, ℕ}
use Rattle.rules.specs.Policy as Policy
use Rattle.rules.specs.Args.{Args, with_args}
use Rattle.rules.specs.Answer.{Decision, Outcome, outcome}
use Rattle.rules.specs.Carried.{Carried, carried6}
use Rattle.rules.specs.Gtp6D.{gtp6d_packet, decide_gtp6d}

-- a policy's last SID with Args; its other bits stay
abbrev pub last_with_args : (policy : List ℕ) → Args → List ℕ
last_with_args policy args = with_args (Policy.last_sid policy) (Policy.start policy) args

-- the policy's SIDs, with Args in the last
unfoldable pub d_path : (policy : List ℕ) → Carried → List (List ℕ)
d_path policy c = Policy.waypoints policy ++ last_with_args policy c.args ∷ []

unfoldable pub d_packet : (e policy : List ℕ) → Carried → List ℕ
d_packet e policy c = gtp6d_packet e (d_path policy c) c

abbrev pub decide_d : (e policy p : List ℕ) → Decision
decide_d e policy p = decide_gtp6d e (d_path policy (carried6 p)) (d_packet e policy (carried6 p)) p

unfoldable pub at_d : (e policy p : List ℕ) → Outcome
at_d e policy p = outcome (decide_d e policy p)
