-- Laws of trips: one stop more, two lists joined, the empty list, the buffers afterwards.
use mathlib.Core.Path.{◌≡◌, refl, ap, ◌∙◌}
use mathlib.Core.List.{List, [], ◌∷◌, ◌++◌}
use Prim.Native.Nat.{ℕ, ◌+◌}
use lib.ListN.{length, take, drop}
use lib.Seq.{take-append_seam}
use Rattle.rules.specs.Octets.{splice}
use Rattle.rules.specs.Answer.{Outcome, Sent, Refused, overlay}
use Rattle.rules.specs.Trip.{Version, v4, v6, Stop, Trip, translate, call, onward, buffers_of, trip}
use Rattle.rules.specs.Calls.{translate6, translate4}
use Rattle.rules.specs.Demand3.{forwarded_into, Arrives}

-- the call that a stop makes
pub call_v6 : (s : Stop) (p : List ℕ) → s.version ≡ v6 → call s p ≡ translate6 p s.table (length s.buffer)
call_v6 s p h = ap (λ (v : Version). translate v p s.table (length s.buffer)) h

pub call_v4 : (s : Stop) (p : List ℕ) → s.version ≡ v4 → call s p ≡ translate4 p s.table (length s.buffer)
call_v4 s p h = ap (λ (v : Version). translate v p s.table (length s.buffer)) h

-- the next call gets just the octets sent
pub overlay-sent : (x buffer : List ℕ) → take (length x) (overlay (Sent x) buffer) ≡ x
unfolding overlay splice
overlay-sent x buffer = take-append_seam x (drop (0 + length x) buffer)

pub trip-step : (s : Stop) (ss : List Stop) (p x : List ℕ) → call s p ≡ Sent x
    → trip (s ∷ ss) p ≡ record { outcome = (trip ss x).outcome; buffers = splice s.buffer 0 x ∷ (trip ss x).buffers }
unfolding trip overlay
trip-step s ss p x e =
    let t : take (length x) (overlay (Sent x) s.buffer) ≡ x = overlay-sent x s.buffer in
    ap (λ (o : Outcome). onward o s ss (λ o. trip ss o)) e
    ∙ ap (λ (y : List ℕ). record { outcome = (trip ss y).outcome; buffers = splice s.buffer 0 x ∷ (trip ss y).buffers }) t

pub trip-outcome : (s : Stop) (ss : List Stop) (p x : List ℕ) → call s p ≡ Sent x → (trip (s ∷ ss) p).outcome ≡ (trip ss x).outcome
trip-outcome s ss p x e = ap (λ (t : Trip). t.outcome) (trip-step s ss p x e)

-- a trip, and the stops behind it
abbrev pub join : Outcome → (buffers : List (List ℕ)) → List Stop → (List ℕ → Trip) → Trip
join (Sent x) bs ss rest = record { outcome = (rest x).outcome; buffers = bs ++ (rest x).buffers }
join (Refused r) bs ss rest = record { outcome = Refused r; buffers = bs ++ buffers_of ss }

buffers_of-append : (xs ys : List Stop) → buffers_of (xs ++ ys) ≡ buffers_of xs ++ buffers_of ys
buffers_of-append [] ys = refl
buffers_of-append (x ∷ xs) ys = ap (λ (l : List (List ℕ)). x.buffer ∷ l) (buffers_of-append xs ys)

join_more : (o : Outcome) (b : List ℕ) (bs : List (List ℕ)) (ss : List Stop) (rest : List ℕ → Trip) (t : Trip) → t ≡ join o bs ss rest
    → ◌≡◌ {A = Trip} (record { outcome = t.outcome; buffers = b ∷ t.buffers }) (join o (b ∷ bs) ss rest)
join_more (Sent x) b bs ss rest t e = ap (λ (t : Trip). record { outcome = t.outcome; buffers = b ∷ t.buffers }) e
join_more (Refused r) b bs ss rest t e = ap (λ (t : Trip). record { outcome = t.outcome; buffers = b ∷ t.buffers }) e

-- joined lists of stops are passed one after the other; a refusal in the first is the refusal of the whole
pub trip-append : (xs ys : List Stop) (p : List ℕ) → trip (xs ++ ys) p ≡ join (trip xs p).outcome (trip xs p).buffers ys (λ o. trip ys o)
unfolding trip
trip-append [] ys p = refl
trip-append (s ∷ xs) ys p = go (λ o. trip-append xs ys o) (call s p)
  where
    go : ((x : List ℕ) → trip (xs ++ ys) x ≡ join (trip xs x).outcome (trip xs x).buffers ys (λ o. trip ys o))
        → (o : Outcome) → onward o s (xs ++ ys) (λ o. trip (xs ++ ys) o)
        ≡ join (onward o s xs (λ o. trip xs o)).outcome (onward o s xs (λ o. trip xs o)).buffers ys (λ o. trip ys o)
    go ih (Sent x) =
        let held = overlay (Sent x) s.buffer in
        let y = take (length x) held in
        join_more (trip xs y).outcome held (trip xs y).buffers ys (λ o. trip ys o) (trip (xs ++ ys) y) (ih y)
    go ih (Refused r) = ap (λ (l : List (List ℕ)). record { outcome = Refused r; buffers = overlay (Refused r) s.buffer ∷ l })
        (buffers_of-append xs ys)

pub trip-none : (p : List ℕ) → trip [] p ≡ record { outcome = Sent p; buffers = [] }
unfolding trip
trip-none p = refl

-- what comes of a trip that begins with packet a, past waypoints that each forward what they get, and ends with packet b
abbrev pub forwards : List Stop → (a b : List ℕ) → Trip
forwards ss a b = record { outcome = Sent b; buffers = forwarded_into ss a }

-- a near call, a trip past waypoints and a far call, one after the other
pub trip-whole : (near : Stop) (ss : List Stop) (far : Stop) (p a b c : List ℕ)
    → call near p ≡ Sent a → trip ss a ≡ forwards ss a b → call far b ≡ Sent c → Arrives near ss far p a c
unfolding trip
trip-whole near ss far p a b c h₁ h₂ h₃ =
    let last : trip (far ∷ []) b ≡ record { outcome = Sent c; buffers = splice far.buffer 0 c ∷ [] } = trip-step far [] b c h₃ in
    let rest : trip (ss ++ far ∷ []) a ≡ record { outcome = Sent c; buffers = forwarded_into ss a ++ splice far.buffer 0 c ∷ [] } =
    trip-append ss (far ∷ []) a
    ∙ ap (λ (t : Trip). join t.outcome t.buffers (far ∷ []) (λ o. trip (far ∷ []) o)) h₂
    ∙ ap (λ (t : Trip). record { outcome = t.outcome; buffers = forwarded_into ss a ++ t.buffers }) last in
    let t = trip-step near (ss ++ far ∷ []) p a h₁ in
    record {
      outcome = ap (λ (t : Trip). t.outcome) t ∙ ap (λ (t : Trip). t.outcome) rest;
      buffers = ap (λ (t : Trip). t.buffers) t ∙ ap (λ (t : Trip). splice near.buffer 0 a ∷ t.buffers) rest;
    }
