-- A trip: one call after the other, each on just the octets that the call before it sent.
use Rattle.std.specs.Prelude.{List, [], ◌∷◌, ◌++◌, ℕ, length, take}
use Rattle.rules.specs.Answer.{Outcome, Sent, Refused, overlay}
use Rattle.rules.specs.Calls.{translate6, translate4}

-- which of the two calls
pub data Version : Type 0 where
  v4 v6 : Version

-- a stop has a table of its own and an output buffer of its own, with any contents
pub record Stop : Type 0 where
  pub version : Version
  pub table : List ℕ
  pub buffer : List ℕ

abbrev pub translate : Version → (packet table : List ℕ) (room : ℕ) → Outcome
translate v4 p t room = translate4 p t room
translate v6 p t room = translate6 p t room

abbrev pub call : Stop → (packet : List ℕ) → Outcome
call s p = translate s.version p s.table (length s.buffer)

-- what comes of a trip: its outcome, and what each buffer holds afterwards
pub record Trip : Type 0 where
  pub outcome : Outcome
  pub buffers : List (List ℕ)

abbrev pub buffers_of : List Stop → List (List ℕ)
buffers_of [] = []
buffers_of (s ∷ ss) = s.buffer ∷ buffers_of ss

-- a stop's own outcome; the stops after it; the trip from there on. An answer other than 0 ends the trip with that answer.
abbrev pub onward : Outcome → Stop → List Stop → (List ℕ → Trip) → Trip
onward (Sent x) s ss rest =
    let held = overlay (Sent x) s.buffer in
    let t = rest (take (length x) held) in
    record { outcome = t.outcome; buffers = held ∷ t.buffers }
onward (Refused r) s ss rest = record { outcome = Refused r; buffers = overlay (Refused r) s.buffer ∷ buffers_of ss }

unfoldable pub trip : List Stop → (packet : List ℕ) → Trip
trip [] p = record { outcome = Sent p; buffers = [] }
trip (s ∷ ss) p = onward (call s p) s ss (λ o. trip ss o)

-- the near gateway, the waypoints, the far gateway
abbrev pub stops : (near : Stop) (waypoints : List Stop) (far : Stop) → List Stop
stops near ss far = near ∷ ss ++ far ∷ []
