-- Histories: offers one after the other, the refused ones included; and what the counts of a row then say.
use Rattle.std.specs.Prelude.{◌≡◌, ℕ, zero, suc, ◌+◌, ◌-◌, ◌%◌, ◌<◌, cond, List, [], ◌∷◌, ◌==◌}
use Rattle.loss.specs.Loss.{row_at, offer}
use Rattle.loss.specs.declared.Row.{Row}

-- a number offered for a TEID
pub record Offer : Type 0 where
  pub teid : ℕ
  pub number : ℕ

-- the rows after a history
unfoldable pub history : List Row → List Offer → List Row
history rows [] = rows
history rows (x ∷ xs) = history (offer rows x.teid x.number).1 xs

-- sequence numbers have 16 bits
abbrev pub Numbers : List Offer → Type 0
Numbers [] = Unit {0}
Numbers (x ∷ xs) = (x.number < 65536) × Numbers xs

abbrev pub AllFree : List Row → Type 0
AllFree rows = (i : ℕ) → (row_at rows i).seen ≡ 0

-- in a row that is used: seen = new + repeated + late, and the first number plus new - 1 plus lost is the highest mod 65,536
pub record Counts (r : Row) : Type 0 where
  pub total : r.seen ≡ r.new + r.repeated + r.late
  pub span : (r.first + r.new - 1 + r.lost) % 65536 ≡ r.highest

-- the offers of one TEID among others
unfoldable pub own_offers : (teid : ℕ) → List Offer → List Offer
own_offers teid [] = []
own_offers teid (x ∷ xs) = cond (x.teid == teid) (x ∷ own_offers teid xs) (own_offers teid xs)

-- n numbers of a TEID that arrive one after the other, 0 after 65,535
unfoldable pub in_order : (teid number n : ℕ) → List Offer
in_order teid number zero = []
in_order teid number (suc n) = record { teid = teid; number = number } ∷ in_order teid ((number + 1) % 65536) n
