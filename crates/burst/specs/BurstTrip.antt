-- A trip made of bursts: a burst at each stop, over just the packets that the burst before it sent.
use Rattle.std.specs.Prelude.{List, [], ◌∷◌, ℕ, ◌≤◌, length, take, drop}
use Rattle.rules.specs.Table.{entry_at}
use Rattle.rules.specs.Carried.{carried6, carried4}
use Rattle.rules.specs.E6.{e6_packet}
use Rattle.rules.specs.E4.{e4_packet}
use Rattle.rules.specs.Demand3.{Matching, over6, over4}
use Rattle.rules.specs.Answer.{Outcome, Sent, Refused, overlay}
use Rattle.rules.specs.Trip.{Stop, call, buffers_of, trip}
use Rattle.rules.specs.declared.Refusal.{Refusal}
use Rattle.burst.specs.Burst.{most, cut, outcomes, results, burst}

-- the packets that were sent, and the lengths that their answers tell
unfoldable pub sent_on : List Outcome → List (List ℕ)
sent_on [] = []
sent_on (Sent x ∷ os) = x ∷ sent_on os
sent_on (Refused r ∷ os) = sent_on os

unfoldable pub lengths_of : List (List ℕ) → List ℕ
lengths_of [] = []
lengths_of (p ∷ ps) = length p ∷ lengths_of ps

-- packets that have arrived, and packets that were all refused
unfoldable pub arrived : List (List ℕ) → List Outcome
arrived [] = []
arrived (p ∷ ps) = Sent p ∷ arrived ps

unfoldable pub all_refused : Refusal → List Outcome → List Outcome
all_refused r [] = []
all_refused r (o ∷ os) = Refused r ∷ all_refused r os

-- the outcomes at a stop, with what came later of the packets that were sent there
unfoldable pub with_later : (here later : List Outcome) → List Outcome
with_later [] later = []
with_later (Refused r ∷ os) later = Refused r ∷ with_later os later
with_later (Sent x ∷ os) [] = Sent x ∷ with_later os []
with_later (Sent x ∷ os) (l ∷ later) = l ∷ with_later os later

-- what comes of it: the outcome of each packet, and what each buffer holds afterwards
pub record BurstTrip : Type 0 where
  pub outcomes : List Outcome
  pub buffers : List (List ℕ)

-- what comes of the packets at one stop, each with the room then left
abbrev pub outcomes_at : Stop → (packets : List (List ℕ)) → List Outcome
outcomes_at s ps = outcomes s.version s.table ps (length s.buffer)

-- the burst's own answer at a stop; 19 ends the trip of all its packets
abbrev pub onward : Outcome → Stop → List Stop → List Outcome → (List ℕ → List ℕ → BurstTrip) → BurstTrip
onward (Sent x) s ss os rest =
    let held = overlay (Sent x) s.buffer in
    let t = rest (lengths_of (sent_on os)) (take (length x) held) in
    record { outcomes = with_later os t.outcomes; buffers = held ∷ t.buffers }
onward (Refused r) s ss os rest = record { outcomes = all_refused r os; buffers = overlay (Refused r) s.buffer ∷ buffers_of ss }

-- every burst has a place for each answer of the most packets
unfoldable pub burst_trip : List Stop → (lengths octets : List ℕ) → BurstTrip
burst_trip [] ls octets = record { outcomes = arrived (cut ls octets); buffers = [] }
burst_trip (s ∷ ss) ls octets =
    let o = burst s.version ls octets s.table (length s.buffer) most in
    onward o s ss (outcomes_at s (cut ls octets)) (λ ns x. burst_trip ss ns x)

-- the last of some buffers, which at the end of a trip is that of the far gateway
unfoldable pub last_of : (before : List ℕ) → List (List ℕ) → List ℕ
last_of before [] = before
last_of before (b ∷ bs) = last_of b bs

-- SINGLE TRIPS, TO COMPARE WITH

-- each packet by itself, every stop with its whole buffer
unfoldable pub single : List Stop → (packets : List (List ℕ)) → List Outcome
single ss [] = []
single ss (p ∷ ps) = (trip ss p).outcome ∷ single ss ps

-- what single calls at a stop send
unfoldable pub calls : Stop → (packets : List (List ℕ)) → List Outcome
calls s [] = []
calls s (p ∷ ps) = call s p ∷ calls s ps

-- at each stop the buffer is at least as long as the results written there
abbrev pub RoomForAll : List Stop → (packets : List (List ℕ)) → Type 0
RoomForAll [] ps = Unit {0}
RoomForAll (s ∷ ss) ps = (length (results (calls s ps)) ≤ length s.buffer) × RoomForAll ss (sent_on (calls s ps))

-- a stop whose buffer is the unused rest behind n octets
abbrev pub behind : Stop → (n : ℕ) → Stop
behind s n = record { version = s.version; table = s.table; buffer = drop n s.buffer }

-- the stops once a packet has gone by: each has the unused rest of its buffer; where it was refused, and behind that, all is as it was
abbrev pub gone_by : Outcome → Stop → List Stop → (List ℕ → List Stop) → List Stop
gone_by (Sent x) s ss rest = behind s (length x) ∷ rest x
gone_by (Refused r) s ss rest = s ∷ ss

unfoldable pub unused : List Stop → (packet : List ℕ) → List Stop
unused [] p = []
unused (s ∷ ss) p = gone_by (call s p) s ss (λ x. unused ss x)

-- single trips one after the other, each with the unused rest of every buffer
unfoldable pub in_turn : List Stop → (packets : List (List ℕ)) → List Outcome
in_turn ss [] = []
in_turn ss (p ∷ ps) = (trip ss p).outcome ∷ in_turn (unused ss p) ps

-- WHAT DEMAND 3 PROMISES OF EACH

-- each packet's trip is one of demand 3, every stop with its whole buffer
abbrev pub EachMatching : (near : Stop) (ss : List Stop) (far : Stop) (packets : List (List ℕ)) → Type 0
EachMatching near ss far [] = Unit {0}
EachMatching near ss far (p ∷ ps) = Matching near ss far p × EachMatching near ss far ps

-- what is to come out: over IPv6 what E6 writes from the values that went in and the far entry, over IPv4 what E4 writes
abbrev pub promised : {near : Stop} {ss : List Stop} {far : Stop} {p : List ℕ} → Matching near ss far p → List ℕ
promised {far = far} {p = p} (over6 i j m) = e6_packet (entry_at far.table j) (carried6 p)
promised {far = far} {p = p} (over4 k j m) = e4_packet (entry_at far.table j) (carried4 p)

unfoldable pub each_promised : (near : Stop) (ss : List Stop) (far : Stop) (packets : List (List ℕ)) → EachMatching near ss far packets
    → List Outcome
each_promised near ss far [] ms = []
each_promised near ss far (p ∷ ps) ms = Sent (promised ms.0) ∷ each_promised near ss far ps ms.1
