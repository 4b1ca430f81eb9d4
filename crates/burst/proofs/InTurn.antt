-- A trip made of bursts, with any room: it is the single trips one after the other, each with the unused rest of every buffer.
use mathlib.Core.Path.{◌≡◌, refl, sym, ap, ◌∙◌}
use mathlib.Core.List.{List, [], ◌∷◌}
use Prim.Native.Nat.{ℕ, ◌-◌}
use lib.ListN.{length, length-drop}
use Rattle.rules.specs.Answer.{Outcome, Sent, Refused}
use Rattle.rules.specs.Trip.{Stop, call, trip}
use Rattle.rules.proofs.Trips.{trip-outcome}
use Rattle.burst.specs.Burst.{most, cut, result, outcomes, results, Fit}
use Rattle.burst.specs.BurstTrip.{sent_on, lengths_of, arrived, with_later, BurstTrip, outcomes_at, burst_trip}
use Rattle.burst.specs.BurstTrip.{behind, gone_by, unused, in_turn}
use Rattle.burst.proofs.Laws.{sub-none}
use Rattle.burst.proofs.Passing.{cut-sent, trip-refused}
use Rattle.burst.proofs.Deliveries.{burst-step, next_fit}

-- the outcomes at one stop, then single trips in turn from there on
in_turn_step : (s : Stop) (ss : List Stop) (ps : List (List ℕ))
    → with_later (outcomes_at s ps) (in_turn ss (sent_on (outcomes_at s ps))) ≡ in_turn (s ∷ ss) ps
unfolding outcomes in_turn with_later sent_on unused result
in_turn_step s ss [] = refl
in_turn_step s ss (p ∷ ps) = go (λ z zs. in_turn_step z zs ps) (call s p) refl
  where
    room : ℕ
    room = length s.buffer

    -- what comes of the others, with this room
    others : ℕ → List Outcome
    others k = outcomes s.version s.table ps k

    start : (o : Outcome) → call s p ≡ o → with_later (outcomes_at s (p ∷ ps)) (in_turn ss (sent_on (outcomes_at s (p ∷ ps))))
        ≡ with_later (o ∷ others (room - length (result o))) (in_turn ss (sent_on (o ∷ others (room - length (result o)))))
    start o e =
        ap (λ (o : Outcome). let os = o ∷ others (room - length (result o)) in with_later os (in_turn ss (sent_on os))) e

    end : (o : Outcome) → call s p ≡ o → in_turn (gone_by o s ss (λ x. unused ss x)) ps ≡ in_turn (unused (s ∷ ss) p) ps
    end o e = ap (λ (o : Outcome). in_turn (gone_by o s ss (λ x. unused ss x)) ps) (sym e)

    go : ((z : Stop) (zs : List Stop) → with_later (outcomes_at z ps) (in_turn zs (sent_on (outcomes_at z ps))) ≡ in_turn (z ∷ zs) ps)
        → (o : Outcome) → call s p ≡ o
        → with_later (outcomes_at s (p ∷ ps)) (in_turn ss (sent_on (outcomes_at s (p ∷ ps)))) ≡ in_turn (s ∷ ss) (p ∷ ps)
    go ih (Sent x) e =
        let left : others (room - length x) ≡ outcomes_at (behind s (length x)) ps = ap others (sym (length-drop (length x) s.buffer)) in
        let rest = ap (λ (l : List Outcome). with_later l (in_turn (unused ss x) (sent_on l))) left ∙ ih (behind s (length x)) (unused ss x)
        ∙ end (Sent x) e in
        start (Sent x) e ∙ (λ i. sym (trip-outcome s ss p x e) i ∷ rest i)
    go ih (Refused r) e =
        let rest = ap (λ (k : ℕ). with_later (others k) (in_turn ss (sent_on (others k)))) (sub-none room) ∙ ih s ss ∙ end (Refused r) e in
        start (Refused r) e ∙ (λ i. sym (trip-refused s ss p r e) i ∷ rest i)

in_turn_none : (ps : List (List ℕ)) → arrived ps ≡ in_turn [] ps
unfolding arrived in_turn trip unused
in_turn_none [] = refl
in_turn_none (p ∷ ps) = ap (λ (l : List Outcome). Sent p ∷ l) (in_turn_none ps)

pub bursts_in_turn : (ss : List Stop) (ls p : List ℕ) → Fit ls p most → (burst_trip ss ls p).outcomes ≡ in_turn ss (cut ls p)
bursts_in_turn [] ls p f = unfold burst_trip in in_turn_none (cut ls p)
bursts_in_turn (s ∷ ss) ls p f =
    let ps : List (List ℕ) = cut ls p in
    let os : List Outcome = outcomes_at s ps in
    ap (λ (t : BurstTrip). t.outcomes) (burst-step s ss ls p f)
    ∙ ap (λ (l : List Outcome). with_later os l)
    (bursts_in_turn ss (lengths_of (sent_on os)) (results os) (next_fit s ls p f) ∙ ap (λ (l : List (List ℕ)). in_turn ss l) (cut-sent os))
    ∙ in_turn_step s ss ps
