-- A burst (order 3): up to 32 packets, lying one after the other with their lengths. Each is called once with the room then left, and the
-- results lie one after the other in the output.
use Rattle.std.specs.Prelude.{◌≡◌, Bool, cond, List, [], ◌∷◌, ◌++◌, ℕ, ◌+◌, ◌-◌, ◌≤◌, ltb, length, take, drop}
use Rattle.rules.specs.Octets.{splice}
use Rattle.rules.specs.Answer.{any, differs, row, Outcome, Sent, Refused, unless, packed}
use Rattle.rules.specs.Trip.{Version, translate}

-- the most packets of a burst
abbrev pub most : ℕ
most = 32

unfoldable pub sum : List ℕ → ℕ
sum [] = 0
sum (n ∷ ns) = n + sum ns

-- the packets: the first has as many octets as the first length says, and so on
unfoldable pub cut : (lengths octets : List ℕ) → List (List ℕ)
cut [] octets = []
cut (n ∷ ns) octets = take n octets ∷ cut ns (drop n octets)

-- what an outcome puts into the output: a refused packet takes no room
unfoldable pub result : Outcome → List ℕ
result (Sent x) = x
result (Refused r) = []

-- what comes of each packet, called with the room then left
unfoldable pub outcomes : Version → (table : List ℕ) (packets : List (List ℕ)) (room : ℕ) → List Outcome
outcomes v t [] room = []
outcomes v t (p ∷ ps) room = translate v p t room ∷ outcomes v t ps (room - length (result (translate v p t room)))

-- the results, one after the other
unfoldable pub results : List Outcome → List ℕ
results [] = []
results (o ∷ os) = result o ++ results os

-- the answers, one for each packet
unfoldable pub answers : List Outcome → List ℕ
answers [] = []
answers (o ∷ os) = packed o ∷ answers os

-- row 19: over 32 lengths, lengths that do not add up to the input, or fewer places for answers than lengths
abbrev pub unfit : (lengths octets : List ℕ) (places : ℕ) → List Bool
unfit ls octets places = ltb most (length ls) ∷ differs (sum ls) (length octets) ∷ ltb places (length ls) ∷ []

-- a burst that row 19 does not refuse
pub record Fit (lengths octets : List ℕ) (places : ℕ) : Type 0 where
  pub few : length lengths ≤ most
  pub adds : sum lengths ≡ length octets
  pub placed : length lengths ≤ places

-- The burst as a whole, before any of its packets: what it answers, with the results as what it sends, and what the places for answers
-- hold afterwards.
unfoldable pub burst : Version → (lengths octets table : List ℕ) (room places : ℕ) → Outcome
burst v ls octets t room places =
    unless (row (unfit ls octets places) 19 ∷ []) (Sent (results (outcomes v t (cut ls octets) room)))

unfoldable pub answered : Version → (lengths octets table : List ℕ) (room : ℕ) (before : List ℕ) → List ℕ
answered v ls octets t room before =
    cond (any (unfit ls octets (length before))) before (splice before 0 (answers (outcomes v t (cut ls octets) room)))
