-- A trip may be made of bursts: with room for all at each stop, what comes of each packet is what a single trip makes of it.
use mathlib.Core.Path.{◌≡◌, refl, ap, ◌∙◌}
use mathlib.Core.List.{List, [], ◌∷◌}
use Prim.Native.Nat.{ℕ}
use native.Mathlib.Nat.{le_refl}
use native.Mathlib.Omega.{arith}
use lib.ListN.{length}
use Rattle.rules.specs.Octets.{splice}
use Rattle.rules.specs.Answer.{Outcome, Sent, overlay}
use Rattle.rules.specs.Trip.{Stop, trip, stops}
use Rattle.rules.specs.Demand3.{Matching, over6, over4}
use Rattle.rules.proofs.Trips.{overlay-sent}
use Rattle.rules.proofs.Demand3.{demand3}
use Rattle.burst.specs.Burst.{most, cut, results, Fit}
use Rattle.burst.specs.BurstTrip.{sent_on, lengths_of, arrived, with_later, BurstTrip, outcomes_at, onward, burst_trip}
use Rattle.burst.specs.BurstTrip.{single, calls, RoomForAll}
use Rattle.burst.specs.BurstTrip.{EachMatching, promised, each_promised}
use Rattle.burst.proofs.Laws.{burst-sent, cut-length, outcomes-length}
use Rattle.burst.proofs.Passing.{cut-sent, fit-onward, not_unfit, outcomes-calls, single_step}

-- one burst, and the bursts behind it
pub burst-step : (s : Stop) (ss : List Stop) (ls p : List ℕ) → Fit ls p most
    → let os = outcomes_at s (cut ls p) in let t = burst_trip ss (lengths_of (sent_on os)) (results os) in
    burst_trip (s ∷ ss) ls p ≡ record { outcomes = with_later os t.outcomes; buffers = splice s.buffer 0 (results os) ∷ t.buffers }
unfolding burst_trip overlay
burst-step s ss ls p f =
    let os : List Outcome = outcomes_at s (cut ls p) in
    let x : List ℕ = results os in
    ap (λ (o : Outcome). onward o s ss os (λ ns o. burst_trip ss ns o)) (burst-sent s.version ls p s.table (length s.buffer) most
    (not_unfit ls p most f))
    ∙ ap (λ (y : List ℕ). let t = burst_trip ss (lengths_of (sent_on os)) y in
    record { outcomes = with_later os t.outcomes; buffers = splice s.buffer 0 x ∷ t.buffers }) (overlay-sent x s.buffer)

-- the burst that follows is fit where the first is
pub next_fit : (s : Stop) (ls p : List ℕ) → Fit ls p most
    → let os = outcomes_at s (cut ls p) in Fit (lengths_of (sent_on os)) (results os) most
next_fit s ls p f =
    let n : length (outcomes_at s (cut ls p)) ≡ length ls =
    outcomes-length s.version s.table (cut ls p) (length s.buffer) ∙ cut-length ls p in
    fit-onward (outcomes_at s (cut ls p)) (omega (arith, f.few))

single-none : (ps : List (List ℕ)) → arrived ps ≡ single [] ps
unfolding arrived single trip
single-none [] = refl
single-none (p ∷ ps) = ap (λ (l : List Outcome). Sent p ∷ l) (single-none ps)

pub bursts_deliver : (ss : List Stop) (ls p : List ℕ) → Fit ls p most → RoomForAll ss (cut ls p)
    → (burst_trip ss ls p).outcomes ≡ single ss (cut ls p)
bursts_deliver [] ls p f room = unfold burst_trip in single-none (cut ls p)
bursts_deliver (s ∷ ss) ls p f room =
    let ps : List (List ℕ) = cut ls p in
    let os : List Outcome = outcomes_at s ps in
    let alone : os ≡ calls s ps = outcomes-calls s ps (length s.buffer) room.0 (le_refl (length s.buffer)) in
    let cuts : cut (lengths_of (sent_on os)) (results os) ≡ sent_on os = cut-sent os in
    let later : RoomForAll ss (cut (lengths_of (sent_on os)) (results os)) = rw (cuts, alone) room.1 in
    ap (λ (t : BurstTrip). t.outcomes) (burst-step s ss ls p f)
    ∙ ap (λ (l : List Outcome). with_later os l)
    (bursts_deliver ss (lengths_of (sent_on os)) (results os) (next_fit s ls p f) later ∙ ap (λ (l : List (List ℕ)). single ss l) cuts)
    ∙ ap (λ (l : List Outcome). with_later l (single ss (sent_on l))) alone
    ∙ single_step s ss ps

-- DEMAND 3, IN BURSTS

single-promised : (near : Stop) (ss : List Stop) (far : Stop) (ps : List (List ℕ)) (ms : EachMatching near ss far ps)
    → single (stops near ss far) ps ≡ each_promised near ss far ps ms
unfolding single each_promised
single-promised near ss far [] ms = refl
single-promised near ss far (p ∷ ps) ms = λ i. one ms.0 i ∷ single-promised near ss far ps ms.1 i
  where
    one : (m : Matching near ss far p) → (trip (stops near ss far) p).outcome ≡ Sent (promised m)
    one (over6 i j m) = (demand3 near ss far p (over6 i j m)).arrives.outcome
    one (over4 k j m) = (demand3 near ss far p (over4 k j m)).arrives.outcome

-- under the premises of demand 3 for each packet, and with room for all, every packet arrives as demand 3 promises
pub bursts_demand3 : (near : Stop) (ss : List Stop) (far : Stop) (ls p : List ℕ) → Fit ls p most → RoomForAll (stops near ss far) (cut ls p)
    → (ms : EachMatching near ss far (cut ls p)) → (burst_trip (stops near ss far) ls p).outcomes ≡ each_promised near ss far (cut ls p) ms
bursts_demand3 near ss far ls p f room ms =
    bursts_deliver (stops near ss far) ls p f room ∙ single-promised near ss far (cut ls p) ms
