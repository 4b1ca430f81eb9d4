-- Di: End.M.GTP6.D.Di (RFC 9433, 6.4), the drop-in flow of 5.4.
use Rattle.std.specs.Prelude.{List, [], ◌∷◌, ◌++◌, ℕ}
use Rattle.rules.specs.Policy as Policy
use Rattle.rules.specs.Answer.{Decision, Outcome, outcome}
use Rattle.rules.specs.Carried.{Carried, carried6}
use Rattle.rules.specs.D.{last_with_args}
use Rattle.rules.specs.Gtp6D.{gtp6d_packet, decide_gtp6d}

-- as D, but the arriving destination is placed after the last SID, as SRH[0]
unfoldable pub di_path : (policy : List ℕ) → Carried → List (List ℕ)
di_path policy c = Policy.waypoints policy ++ (last_with_args policy c.args ∷ c.destination ∷ [])

unfoldable pub di_packet : (e policy : List ℕ) → Carried → List ℕ
di_packet e policy c = gtp6d_packet e (di_path policy c) c

abbrev pub decide_di : (e policy p : List ℕ) → Decision
decide_di e policy p = decide_gtp6d e (di_path policy (carried6 p)) (di_packet e policy (carried6 p)) p

unfoldable pub at_di : (e policy p : List ℕ) → Outcome
at_di e policy p = outcome (decide_di e policy p)
