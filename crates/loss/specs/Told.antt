-- An offer said a second time, apart from the definition: in which case it answers what, and what the row then holds, in plain numbers.
use Rattle.std.specs.Prelude.{◌≡◌, ℕ, ◌+◌, ◌%◌, ◌^◌, ◌<◌, ◌≤◌, List, length, slice_set}
use Rattle.loss.specs.Loss.{row_at}
use Rattle.loss.specs.declared.Row.{Row}

-- a row that is used and holds the TEID
abbrev pub Holds : (teid : ℕ) → Row → Type 0
Holds teid r = (0 < r.seen) × (r.teid ≡ teid)

-- a place that is lent and used: before the 257th row
abbrev pub Used : (rows : List Row) (i : ℕ) → Type 0
Used rows i = (i < length rows) × (i < 256)

-- the lowest used row of the TEID stands at place i
pub record LowestOwn (rows : List Row) (teid i : ℕ) : Type 0 where
  pub used : Used rows i
  pub holds : Holds teid (row_at rows i)
  pub lowest : (j : ℕ) → j < i → Holds teid (row_at rows j) → ⊥

-- no used row is of the TEID
abbrev pub NoOwn : (rows : List Row) (teid : ℕ) → Type 0
NoOwn rows teid = (j : ℕ) → Used rows j → Holds teid (row_at rows j) → ⊥

-- fields have their widths, as every row that is lent does
abbrev pub Fits : (rows : List Row) → Type 0
Fits rows = (i : ℕ) → ((row_at rows i).highest < 65536) × ((row_at rows i).seen < 4294967296)

-- the row before and after a number that is counted
pub data Told (r : Row) (number : ℕ) : Row → Type 0 where
  -- k numbers lie between the highest and this one
  is_new : (k : ℕ) → k ≤ 32766 → (r.highest + k + 1) % 65536 ≡ number → Told r number record {
    teid = r.teid;
    first = r.first;
    highest = number;
    seen = r.seen + 1;
    new = (r.new + 1) % 2 ^ 32;
    repeated = r.repeated;
    late = r.late;
    lost = (r.lost + k) % 2 ^ 64;
  }
  -- it is the highest
  is_repeated : number ≡ r.highest → Told r number record {
    teid = r.teid;
    first = r.first;
    highest = r.highest;
    seen = r.seen + 1;
    new = r.new;
    repeated = (r.repeated + 1) % 2 ^ 32;
    late = r.late;
    lost = r.lost;
  }
  -- the highest is k numbers past it
  is_late : (k : ℕ) → 1 ≤ k → k ≤ 32768 → (number + k) % 65536 ≡ r.highest → Told r number record {
    teid = r.teid;
    first = r.first;
    highest = r.highest;
    seen = r.seen + 1;
    new = r.new;
    repeated = r.repeated;
    late = (r.late + 1) % 2 ^ 32;
    lost = r.lost;
  }

-- the answer and the rows afterwards
pub data Answers (rows : List Row) (teid number : ℕ) : ℕ → List Row → Type 0 where
  counts : (i : ℕ) (r : Row) → LowestOwn rows teid i → (row_at rows i).seen < 4294967295 → Told (row_at rows i) number r
      → Answers rows teid number 0 (slice_set rows i r)
  begins : (i : ℕ) → NoOwn rows teid → Used rows i → (row_at rows i).seen ≡ 0 → ((j : ℕ) → j < i → 0 < (row_at rows j).seen)
      → Answers rows teid number 0
      (slice_set rows i record { teid = teid; first = number; highest = number; seen = 1; new = 1; repeated = 0; late = 0; lost = 0 })
  none_free : NoOwn rows teid → ((j : ℕ) → Used rows j → 0 < (row_at rows j).seen) → Answers rows teid number 25 rows
  is_full : (i : ℕ) → LowestOwn rows teid i → (row_at rows i).seen ≡ 4294967295 → Answers rows teid number 26 rows
