-- From one burst of a trip to the next: its packets are those that were sent, it is fit, and the outcomes are those of single calls.
use mathlib.Core.Path.{◌≡◌, refl, sym, ap, ◌∙◌}
use mathlib.Core.Bool.{false}
use mathlib.Core.List.{List, [], ◌∷◌, ◌++◌}
use Prim.Native.Nat.{ℕ, ◌+◌, ◌-◌, ◌≤◌}
use native.Mathlib.Omega.{arith}
use lib.ListN.{length, drop, length-append}
use lib.Seq.{take-append_seam, drop-append_seam}
use borrow.Author.Tests.{le-ltb}
use Rattle.rules.specs.Answer.{any, Outcome, Sent, Refused}
use Rattle.rules.specs.Trip.{Stop, translate, call, onward, trip}
use Rattle.rules.specs.declared.Refusal.{Refusal}
use Rattle.rules.proofs.Rows.{clear-any, eq_differs}
use Rattle.rules.proofs.Trips.{trip-outcome}
use Rattle.burst.specs.Burst.{most, sum, cut, result, outcomes, results, unfit, Fit}
use Rattle.burst.specs.BurstTrip.{sent_on, lengths_of, with_later, single, calls}
use Rattle.burst.proofs.Room.{sent_also, refused_also}

-- the packets that a burst sent, cut from its results by their lengths
pub cut-sent : (os : List Outcome) → cut (lengths_of (sent_on os)) (results os) ≡ sent_on os
unfolding cut lengths_of sent_on results result
cut-sent [] = refl
cut-sent (Sent x ∷ os) =
    ap (λ (p : List ℕ). p ∷ cut (lengths_of (sent_on os)) (drop (length x) (x ++ results os))) (take-append_seam x (results os))
    ∙ ap (λ (o : List ℕ). x ∷ cut (lengths_of (sent_on os)) o) (drop-append_seam x (results os))
    ∙ ap (λ (ps : List (List ℕ)). x ∷ ps) (cut-sent os)
cut-sent (Refused r ∷ os) = cut-sent os

-- THE NEXT BURST IS FIT

sum-sent : (os : List Outcome) → sum (lengths_of (sent_on os)) ≡ length (results os)
unfolding sum lengths_of sent_on results result
sum-sent [] = refl
sum-sent (Sent x ∷ os) = ap (λ (n : ℕ). length x + n) (sum-sent os) ∙ sym (length-append x (results os))
sum-sent (Refused r ∷ os) = sum-sent os

count_sent : (os : List Outcome) → length (lengths_of (sent_on os)) ≤ length os
unfolding lengths_of sent_on
count_sent [] = omega arith
count_sent (Sent x ∷ os) = let h = count_sent os in omega arith
count_sent (Refused r ∷ os) = let h = count_sent os in omega arith

pub fit-onward : (os : List Outcome) → length os ≤ most → Fit (lengths_of (sent_on os)) (results os) most
fit-onward os h =
    let n = count_sent os in
    record { few = omega arith; adds = sum-sent os; placed = omega arith }

pub not_unfit : (ls p : List ℕ) (places : ℕ) → Fit ls p places → any (unfit ls p places) ≡ false
not_unfit ls p places f =
    clear-any (unfit ls p places)
    (le-ltb most (length ls) f.few, (eq_differs (sum ls) (length p) f.adds, (le-ltb places (length ls) f.placed, tt)))

-- WITH ROOM FOR ALL, A BURST IS ITS CALLS

pub outcomes-calls : (s : Stop) (ps : List (List ℕ)) (left : ℕ) → length (results (calls s ps)) ≤ left → left ≤ length s.buffer
    → outcomes s.version s.table ps left ≡ calls s ps
unfolding outcomes calls results result
outcomes-calls s [] left h k = refl
outcomes-calls s (p ∷ ps) left h k = go (λ n a b. outcomes-calls s ps n a b) (call s p) refl
  where
    size : (o : Outcome) → call s p ≡ o → length (result o) + length (results (calls s ps)) ≤ left
    size o e =
        let a : length (result (call s p) ++ results (calls s ps)) ≡ length (result (call s p)) + length (results (calls s ps)) =
        length-append (result (call s p)) (results (calls s ps)) in
        let b : length (result (call s p)) ≡ length (result o) = ap (λ (o : Outcome). length (result o)) e in
        omega arith

    next : ((n : ℕ) → length (results (calls s ps)) ≤ n → n ≤ length s.buffer → outcomes s.version s.table ps n ≡ calls s ps)
        → (o : Outcome) → call s p ≡ o → translate s.version p s.table left ≡ o
        → outcomes s.version s.table (p ∷ ps) left ≡ call s p ∷ calls s ps
    next ih o e f =
        let z = size o e in
        ap (λ (o : Outcome). o ∷ outcomes s.version s.table ps (left - length (result o))) f
        ∙ ap (λ (l : List Outcome). o ∷ l) (ih (left - length (result o)) (omega arith) (omega arith))
        ∙ ap (λ (o : Outcome). o ∷ calls s ps) (sym e)

    go : ((n : ℕ) → length (results (calls s ps)) ≤ n → n ≤ length s.buffer → outcomes s.version s.table ps n ≡ calls s ps)
        → (o : Outcome) → call s p ≡ o → outcomes s.version s.table (p ∷ ps) left ≡ call s p ∷ calls s ps
    go ih (Sent x) e = let z = size (Sent x) e in next ih (Sent x) e (sent_also s.version p s.table _ x left e (omega arith))
    go ih (Refused r) e = next ih (Refused r) e (refused_also s.version p s.table _ r left e k)

-- a trip that is refused at its first stop
pub trip-refused : (s : Stop) (ss : List Stop) (p : List ℕ) (r : Refusal) → call s p ≡ Refused r → (trip (s ∷ ss) p).outcome ≡ Refused r
unfolding trip
trip-refused s ss p r e = ap (λ (o : Outcome). (onward o s ss (λ o. trip ss o)).outcome) e

-- calls at a stop, then single trips from there on
pub single_step : (s : Stop) (ss : List Stop) (ps : List (List ℕ))
    → with_later (calls s ps) (single ss (sent_on (calls s ps))) ≡ single (s ∷ ss) ps
unfolding calls single with_later sent_on
single_step s ss [] = refl
single_step s ss (p ∷ ps) = go (single_step s ss ps) (call s p) refl
  where
    go : with_later (calls s ps) (single ss (sent_on (calls s ps))) ≡ single (s ∷ ss) ps → (o : Outcome) → call s p ≡ o
        → with_later (call s p ∷ calls s ps) (single ss (sent_on (call s p ∷ calls s ps))) ≡ (trip (s ∷ ss) p).outcome ∷ single (s ∷ ss) ps
    go ih (Sent x) e =
        ap (λ (o : Outcome). with_later (o ∷ calls s ps) (single ss (sent_on (o ∷ calls s ps)))) e
        ∙ (λ i. sym (trip-outcome s ss p x e) i ∷ ih i)
    go ih (Refused r) e =
        ap (λ (o : Outcome). with_later (o ∷ calls s ps) (single ss (sent_on (o ∷ calls s ps)))) e
        ∙ (λ i. sym (trip-refused s ss p r e) i ∷ ih i)
