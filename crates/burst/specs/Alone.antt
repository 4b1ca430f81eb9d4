-- A burst said a second time, by the number of a packet: which octets packet i is, with how much room it is called, and where its answer
-- and its result lie.
use Rattle.std.specs.Prelude.{◌≡◌, List, [], ◌∷◌, ℕ, ◌-◌, ◌/◌, ◌≤◌, ◌<◌, length, take, drop, get_or}
use Rattle.rules.specs.Answer.{Outcome, Sent, Refused, packed}
use Rattle.rules.specs.Trip.{Version, translate}
use Rattle.burst.specs.Burst.{sum}

-- packet i begins where the lengths before it end
abbrev pub packet : (lengths octets : List ℕ) (i : ℕ) → List ℕ
packet ls octets i = take (get_or ls i 0) (drop (sum (take i ls)) octets)

-- how many octets an outcome sends
abbrev pub size : Outcome → ℕ
size (Sent x) = length x
size (Refused r) = 0

unfoldable pub sizes : List Outcome → List ℕ
sizes [] = []
sizes (o ∷ os) = size o ∷ sizes os

abbrev pub outcome_at : List Outcome → (i : ℕ) → Outcome
outcome_at os i = get_or os i (Sent [])

-- the octets that were sent before packet i: the place of its result, and what its room is less by
abbrev pub sent_before : List Outcome → (i : ℕ) → ℕ
sent_before os i = sum (take i (sizes os))

-- each outcome is that of a call by itself, with the room then left
pub record Alone (v : Version) (lengths octets table : List ℕ) (room : ℕ) (os : List Outcome) : Type 0 where
  pub count : length os ≡ length lengths
  pub each : (i : ℕ) → i < length lengths → outcome_at os i ≡ translate v (packet lengths octets i) table (room - sent_before os i)

-- the lengths that answers tell: bits 40 and up of each
unfoldable pub lengths_in : (answers : List ℕ) → List ℕ
lengths_in [] = []
lengths_in (a ∷ rest) = a / 0x10000000000 ∷ lengths_in rest

-- what the places for answers hold: an answer for each packet, and past the burst what was there
pub record Told (os : List Outcome) (before after : List ℕ) : Type 0 where
  pub count : length after ≡ length before
  pub each : (i : ℕ) → i < length os → get_or after i 0 ≡ packed (outcome_at os i)
  pub past : (i : ℕ) → length os ≤ i → get_or after i 0 ≡ get_or before i 0

-- what the output holds: the packet that each outcome sends, at its place, and behind the last what was there
pub record Laid (os : List Outcome) (before after : List ℕ) : Type 0 where
  pub count : length after ≡ length before
  pub each : (i : ℕ) (x : List ℕ) → i < length os → outcome_at os i ≡ Sent x → take (length x) (drop (sent_before os i) after) ≡ x
  pub past : drop (sum (sizes os)) after ≡ drop (sum (sizes os)) before

-- why a burst is refused as a whole
pub data BadBurst (lengths octets : List ℕ) (places : ℕ) : Type 0 where
  over32 : 32 < length lengths → BadBurst lengths octets places
  unequal : (sum lengths ≡ length octets → ⊥) → BadBurst lengths octets places
  few_places : places < length lengths → BadBurst lengths octets places
