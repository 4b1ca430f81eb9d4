-- The waypoint: our word for an SRv6 End node (RFC 8986, 4.1), without segment popping.
use Rattle.std.specs.Prelude.{Bool, not, ◌&&◌, List, [], ◌∷◌, ℕ, ◌+◌, ◌-◌, leb, ltb}
use Rattle.rules.specs.Octets.{splice}
use Rattle.rules.specs.Ipv6 as Ipv6
use Rattle.rules.specs.Srh as Srh
use Rattle.rules.specs.Answer.{Row, row, hop_limit_row, segments_left_row, upper_layer_row, given, Decision, Outcome, outcome}
use Rattle.rules.specs.Header.{header, has_srh, bad_chain, beyond_held}
use Rattle.rules.specs.declared.Header.{Header}

-- The routing state of a packet: what a waypoint takes and hands back.
pub record Routing : Type 0 where
  pub segmentsLeft : ℕ
  pub hopLimit : ℕ
  pub destination : List ℕ

abbrev pub routing : List ℕ → Routing
routing p = record { segmentsLeft = Srh.segments_left p; hopLimit = Ipv6.hop_limit p; destination = Ipv6.destination p }

-- one segment on: RFC 8986, 4.1, S12 to S14
abbrev pub step : Routing → (segment : List ℕ) → Routing
step s segment = record { segmentsLeft = s.segmentsLeft - 1; hopLimit = s.hopLimit - 1; destination = segment }

-- a packet with another routing state: it is copied, and only hop limit, destination and SL change
unfoldable pub with_routing : (p : List ℕ) → Routing → List ℕ
with_routing p s = splice (splice (splice p 7 (s.hopLimit ∷ [])) 24 s.destination) 43 (s.segmentsLeft ∷ [])

unfoldable pub forwarded : List ℕ → List ℕ
forwarded p = with_routing p (step (routing p) (Srh.segment p (Srh.segments_left p - 1)))

-- a segment is left
abbrev pub underway : (segments_left : ℕ) → Header → Bool
underway segments_left h = has_srh h && ltb 0 segments_left

-- rows 6, 7 and 8: what a step from a routing state refuses
unfoldable pub step_rows : (segments_left hop_limit : ℕ) → Header → List Row
step_rows segments_left hop_limit h =
    hop_limit_row (given (underway segments_left h) (leb hop_limit 1 ∷ []))
    ∷ segments_left_row (given (underway segments_left h) (beyond_held h ∷ ltb (h.lastEntry + 1) segments_left ∷ []))
    ∷ upper_layer_row (not (underway segments_left h) ∷ []) h.upperAt
    ∷ []

-- all rows of a waypoint
unfoldable pub waypoint_rows : Header → List Row
waypoint_rows h = row (bad_chain h) 5 ∷ step_rows h.segmentsLeft h.hopLimit h

abbrev pub decide_waypoint : List ℕ → Decision
decide_waypoint p = record { rows = waypoint_rows (header p); packet = forwarded p }

unfoldable pub at_waypoint : List ℕ → Outcome
at_waypoint p = outcome (decide_waypoint p)
