-- Histories computed by the definitions: the rows that a technician would read.
use Rattle.std.proofs.Common.{◌≡◌, ℕ, List, [], ◌∷◌, refl}
use Rattle.loss.specs.Loss.{signed_of, distance, arrival_of, counted, started, no_row, used_of, lowest, serving, offered, offer_at, offer}
use Rattle.loss.specs.History.{Offer, history}
use Rattle.loss.specs.declared.Row.{Row}

-- numbers offered for TEID 7
abbrev numbers : List ℕ → List Offer
numbers [] = []
numbers (n ∷ ns) = record { teid = 7; number = n } ∷ numbers ns

-- the row of TEID 7 after them
abbrev Reports : (ns : List ℕ) (first highest seen new repeated late lost : ℕ) → Type 0
Reports ns first highest seen new repeated late lost =
    history (no_row ∷ []) (numbers ns)
    ≡ record { teid = 7; first = first; highest = highest; seen = seen; new = new; repeated = repeated; late = late; lost = lost } ∷ []

-- what an offer computes with
unfoldable computing : Unit {0}
unfolding history offer offer_at offered serving used_of lowest counted started distance signed_of arrival_of
computing = tt

gap_of_three : Reports (100 ∷ 101 ∷ 105 ∷ 106 ∷ []) 100 106 4 4 0 0 3
unfolding computing
gap_of_three = refl

a_repeat : Reports (7 ∷ 8 ∷ 8 ∷ 9 ∷ []) 7 9 4 3 1 0 0
unfolding computing
a_repeat = refl

-- the number is missed at first, and lost stays when it comes late
a_late_one : Reports (40 ∷ 42 ∷ 41 ∷ 43 ∷ []) 40 43 4 3 0 1 1
unfolding computing
a_late_one = refl

past_65535 : Reports (65534 ∷ 65535 ∷ 0 ∷ 1 ∷ []) 65534 1 4 4 0 0 0
unfolding computing
past_65535 = refl

-- the edges of the distance: 32,767 is new and passes over 32,766 numbers, -32,768 is late
far_ahead : Reports (10 ∷ 32777 ∷ []) 10 32777 2 2 0 0 32766
unfolding computing
far_ahead = refl

far_behind : Reports (10 ∷ 32778 ∷ []) 10 10 2 1 0 1 0
unfolding computing
far_behind = refl

-- ROWS THAT NO HISTORY GIVES

abbrev row : (teid highest seen lost : ℕ) → Row
row teid highest seen lost =
    let most : ℕ = 4294967295 in
    record { teid = teid; first = 1; highest = highest; seen = seen; new = most; repeated = most; late = most; lost = lost }

-- a row of the TEID behind a free one that holds the TEID, and before another of it; new wraps at 2^32, lost at 2^64
lowest-own : offer (row 7 0 0 0 ∷ row 7 50 3 18446744073709551615 ∷ row 7 60 3 0 ∷ []) 7 53
    ≡ (
      0,
      row 7 0 0 0
          ∷ record { teid = 7; first = 1; highest = 53; seen = 4; new = 0; repeated = 4294967295; late = 4294967295; lost = 1 }
          ∷ row 7 60 3 0 ∷ [],
    )
unfolding computing
lowest-own = refl

-- lost has more than 32 bits
lost_past_32_bits : offer (row 7 50 3 4294967295 ∷ []) 7 53
    ≡ (0, record { teid = 7; first = 1; highest = 53; seen = 4; new = 0; repeated = 4294967295; late = 4294967295; lost = 4294967297 } ∷ [])
unfolding computing
lost_past_32_bits = refl

-- the whole record is written where a row is taken
whole_record : offer (row 7 50 3 9 ∷ row 5 60 0 9 ∷ []) 8 65535
    ≡ (
      0,
      row 7 50 3 9
          ∷ record { teid = 8; first = 65535; highest = 65535; seen = 1; new = 1; repeated = 0; late = 0; lost = 0 } ∷ [],
    )
unfolding computing
whole_record = refl

no_row-free : offer (row 7 50 3 9 ∷ []) 8 1 ≡ (25, row 7 50 3 9 ∷ [])
unfolding computing
no_row-free = refl

-- with a free row and another of the TEID behind it
row-full : offer (row 7 50 4294967295 9 ∷ row 0 0 0 0 ∷ row 7 50 3 9 ∷ []) 7 51
    ≡ (26, row 7 50 4294967295 9 ∷ row 0 0 0 0 ∷ row 7 50 3 9 ∷ [])
unfolding computing
row-full = refl
