-- At the end of a trip made of bursts the far gateway's output holds each packet that arrived, at the place that the outcomes tell.
use mathlib.Core.Path.{◌≡◌, refl, sym, ap, ◌∙◌}
use mathlib.Core.List.{List, [], ◌∷◌, ◌++◌}
use Prim.Native.Nat.{ℕ, suc, ◌≤◌}
use native.Mathlib.Omega.{arith}
use lib.ListN.{length}
use Rattle.rules.specs.Octets.{splice}
use Rattle.rules.specs.Answer.{Outcome, Sent, Refused}
use Rattle.rules.specs.Trip.{Stop}
use Rattle.burst.specs.Burst.{most, cut, result, results, Fit}
use Rattle.burst.specs.Alone.{Laid}
use Rattle.burst.specs.BurstTrip.{sent_on, lengths_of, arrived, with_later, BurstTrip, outcomes_at, burst_trip, last_of}
use Rattle.burst.proofs.Laws.{cut-length, outcomes-length}
use Rattle.burst.proofs.Each.{results_within, results_laid}
use Rattle.burst.proofs.Passing.{cut-sent}
use Rattle.burst.proofs.Deliveries.{burst-step, next_fit}

-- what came later of the packets that were sent takes their places, and nothing else changes
later_arrived : (os : List Outcome) → with_later os (arrived (sent_on os)) ≡ os
unfolding with_later arrived sent_on
later_arrived [] = refl
later_arrived (Sent x ∷ os) = ap (λ (l : List Outcome). Sent x ∷ l) (later_arrived os)
later_arrived (Refused r ∷ os) = ap (λ (l : List Outcome). Refused r ∷ l) (later_arrived os)

later_results : (os later : List Outcome) → length later ≡ length (sent_on os) → results (with_later os later) ≡ results later
unfolding with_later sent_on results result
later_results [] [] e = refl
later_results [] (l ∷ later) e = absurd (omega arith)
later_results (Refused r ∷ os) later e = later_results os later e
later_results (Sent x ∷ os) [] e = absurd (omega arith)
later_results (Sent x ∷ os) (l ∷ later) e = ap (λ (y : List ℕ). result l ++ y) (later_results os later (omega arith))

later_count : (os later : List Outcome) → length later ≡ length (sent_on os) → length (with_later os later) ≡ length os
unfolding with_later sent_on
later_count [] later e = refl
later_count (Refused r ∷ os) later e = ap suc (later_count os later e)
later_count (Sent x ∷ os) [] e = absurd (omega arith)
later_count (Sent x ∷ os) (l ∷ later) e = ap suc (later_count os later (omega arith))

lengths_count : (ps : List (List ℕ)) → length (lengths_of ps) ≡ length ps
unfolding lengths_of
lengths_count [] = refl
lengths_count (p ∷ ps) = ap suc (lengths_count ps)

arrived_count : (ps : List (List ℕ)) → length (arrived ps) ≡ length ps
unfolding arrived
arrived_count [] = refl
arrived_count (p ∷ ps) = ap suc (arrived_count ps)

-- every packet has its outcome
pub each_has_outcome : (ss : List Stop) (ls p : List ℕ) → Fit ls p most → length (burst_trip ss ls p).outcomes ≡ length ls
each_has_outcome [] ls p f = unfold burst_trip in (arrived_count (cut ls p) ∙ cut-length ls p)
each_has_outcome (s ∷ ss) ls p f =
    let os : List Outcome = outcomes_at s (cut ls p) in
    ap (λ (t : BurstTrip). length t.outcomes) (burst-step s ss ls p f)
    ∙ later_count os _ (each_has_outcome ss (lengths_of (sent_on os)) (results os) (next_fit s ls p f) ∙ lengths_count (sent_on os))
    ∙ outcomes-length s.version s.table (cut ls p) (length s.buffer) ∙ cut-length ls p

far_holds : (ss : List Stop) (far : Stop) (ls p before : List ℕ) → Fit ls p most
    → let t = burst_trip (ss ++ far ∷ []) ls p in
    (last_of before t.buffers ≡ splice far.buffer 0 (results t.outcomes)) × (length (results t.outcomes) ≤ length far.buffer)
unfolding last_of burst_trip
far_holds [] far ls p before f =
    let os : List Outcome = outcomes_at far (cut ls p) in
    let all : (burst_trip (far ∷ []) ls p).outcomes ≡ os =
    ap (λ (t : BurstTrip). t.outcomes) (burst-step far [] ls p f) ∙ ap (λ (l : List (List ℕ)). with_later os (arrived l)) (cut-sent os)
    ∙ later_arrived os in (
      ap (λ (t : BurstTrip). last_of before t.buffers) (burst-step far [] ls p f)
          ∙ ap (λ (l : List Outcome). splice far.buffer 0 (results l)) (sym all),
      rw all (results_within far.version far.table (cut ls p) (length far.buffer)),
    )
far_holds (s ∷ ss) far ls p before f =
    let os : List Outcome = outcomes_at s (cut ls p) in
    let ns : List ℕ = lengths_of (sent_on os) in
    let rest : List Stop = ss ++ far ∷ [] in
    let here : List ℕ = splice s.buffer 0 (results os) in
    let h = far_holds ss far ns (results os) here (next_fit s ls p f) in
    let count : length (burst_trip rest ns (results os)).outcomes ≡ length (sent_on os) =
    each_has_outcome rest ns (results os) (next_fit s ls p f) ∙ lengths_count (sent_on os) in
    let all : results (burst_trip (s ∷ rest) ls p).outcomes ≡ results (burst_trip rest ns (results os)).outcomes =
    ap (λ (t : BurstTrip). results t.outcomes) (burst-step s rest ls p f) ∙ later_results os _ count in (
      ap (λ (t : BurstTrip). last_of before t.buffers) (burst-step s rest ls p f) ∙ h.0
          ∙ ap (λ (l : List ℕ). splice far.buffer 0 l) (sym all),
      rw all h.1,
    )

pub arrivals_laid : (ss : List Stop) (far : Stop) (ls p : List ℕ) → Fit ls p most
    → let t = burst_trip (ss ++ far ∷ []) ls p in Laid t.outcomes far.buffer (last_of [] t.buffers)
arrivals_laid ss far ls p f =
    let h = far_holds ss far ls p [] f in
    rw h.0 (results_laid (burst_trip (ss ++ far ∷ []) ls p).outcomes far.buffer h.1)
