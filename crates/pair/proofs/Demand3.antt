-- Demand 3 behind the answer 0: where near, waypoint and far tables have no mismatch, every G-PDU that the near gateway sends on there is
-- delivered. No other premise is left but octets, room and the near call's own answer.
use mathlib.Core.Path.{◌≡◌}
use mathlib.Core.List.{List, [], ◌∷◌}
use Prim.Native.Nat.{ℕ}
use lib.ListN.{length}
use Rattle.rules.specs.Octets.{Octets}
use Rattle.rules.specs.Table.{entry_at, rule_at}
use Rattle.rules.specs.Rule as Rule
use Rattle.rules.specs.Policy as Policy
use Rattle.rules.specs.Ipv6 as Ipv6
use Rattle.rules.specs.Ipv4 as Ipv4
use Rattle.rules.specs.Gtpu as Gtpu
use Rattle.rules.specs.Assigned.{g_pdu}
use Rattle.rules.specs.Match.{match_entry, match_rule}
use Rattle.rules.specs.Answer.{Sent}
use Rattle.rules.specs.Carried.{carried6, carried4, datagram_in6, datagram_in4}
use Rattle.rules.specs.Di.{di_packet}
use Rattle.rules.specs.E6.{e6_packet}
use Rattle.rules.specs.D4.{d4_packet}
use Rattle.rules.specs.E4.{e4_packet}
use Rattle.rules.specs.Trip.{v4, v6, Stop, call}
use Rattle.rules.specs.Demand3.{Room, policy_of, Delivers6, Delivers4}
use Rattle.std.specs.Prelude.{Some}
use Rattle.rules.proofs.Demand3v6.{demand3_ipv6}
use Rattle.rules.proofs.Demand3v4.{demand3_ipv4}
use Rattle.pair.specs.Fit.{FitWaypoints, Use, Compatible6, Compatible4}
use Rattle.pair.specs.Mismatch.{mismatch6, mismatch4, mismatch_waypoint}
use Rattle.pair.proofs.Fitting.{mismatch6-fits, mismatch4-fits, mismatch_fits-waypoint}
use Rattle.pair.proofs.Delivering.{matching6, matching4}

-- no table has a mismatch with the waypoint's SID
abbrev pub NoMismatches : (tables sids : List (List ℕ)) → Type 0
NoMismatches [] [] = Unit {0}
NoMismatches (t ∷ ts) (sid ∷ sids) = (mismatch_waypoint t sid ≡ 0) × NoMismatches ts sids
NoMismatches [] (sid ∷ sids) = ⊥
NoMismatches (t ∷ ts) [] = ⊥

all_fit : (ts sids : List (List ℕ)) → NoMismatches ts sids → FitWaypoints ts sids
all_fit [] [] n = tt
all_fit [] (sid ∷ sids) n = n
all_fit (t ∷ ts) [] n = n
all_fit (t ∷ ts) (sid ∷ sids) n = (mismatch_fits-waypoint t sid n.0, all_fit ts sids n.1)

-- every G-PDU that the near gateway sends on at Di entry i is delivered at entry j of the far one, where the buffers have room
abbrev pub DeliversAll6 : (near : Stop) (ss : List Stop) (far : Stop) (i j : ℕ) → Type 0
DeliversAll6 near ss far i j =
    (p : List ℕ) → Octets p → match_entry near.table (Ipv6.destination p) ≡ Some i → Gtpu.message_type (datagram_in6 p) ≡ g_pdu
    → (x : List ℕ) → call near p ≡ Sent x
    → Room near ss far (length (di_packet (entry_at near.table i) (policy_of near i) (carried6 p)))
    (length (e6_packet (entry_at far.table j) (carried6 p)))
    → Delivers6 near ss far p i j

-- the same at rule k
abbrev pub DeliversAll4 : (near : Stop) (ss : List Stop) (far : Stop) (k j : ℕ) → Type 0
DeliversAll4 near ss far k j =
    (p : List ℕ) → Octets p → match_rule near.table (Ipv4.destination p) ≡ Some k → Gtpu.message_type (datagram_in4 p) ≡ g_pdu
    → (x : List ℕ) → call near p ≡ Sent x
    → Room near ss far (length (d4_packet (rule_at near.table k) (carried4 p))) (length (e4_packet (entry_at far.table j) (carried4 p)))
    → Delivers4 near ss far p k j

module _ (near : Stop) (ss : List Stop) (far : Stop) (ws : List (List ℕ)) (on : Octets near.table) (of : Octets far.table)
    (us : Use ss ws) (vf : far.version ≡ v6) where
  pub no_mismatch_delivers6 : (i : ℕ) → near.version ≡ v6 → mismatch6 near.table far.table i ≡ 0
      → NoMismatches ws (Policy.waypoints (policy_of near i)) → (j : ℕ) × DeliversAll6 near ss far i j
  no_mismatch_delivers6 i vn h n =
      let (j, f) = mismatch6-fits near.table far.table i on of h in
      let c : Compatible6 near.table ws far.table i j =
      record { fits = f; passes = all_fit ws (Policy.waypoints (policy_of near i)) n } in
      (j, λ p o m g x s room. demand3_ipv6 near ss far p i j (matching6 near ss far ws i j c on of vn us vf p o m g x s room))

  pub no_mismatch_delivers4 : (k : ℕ) → near.version ≡ v4 → mismatch4 near.table far.table k ≡ 0
      → NoMismatches ws (Rule.waypoints (rule_at near.table k)) → (j : ℕ) × DeliversAll4 near ss far k j
  no_mismatch_delivers4 k vn h n =
      let (j, f) = mismatch4-fits near.table far.table k on of h in
      let c : Compatible4 near.table ws far.table k j =
      record { fits = f; passes = all_fit ws (Rule.waypoints (rule_at near.table k)) n } in
      (j, λ p o m g x s room. demand3_ipv4 near ss far p k j (matching4 near ss far ws k j c on of vn us vf p o m g x s room))
