-- Lost sequence numbers (order 13): what an offer answers, and what it leaves in the rows.
use Rattle.std.specs.Prelude.{ℕ, zero, suc, ◌+◌, ◌-◌, ◌%◌, ◌^◌, Bool, cond, not, ◌&&◌, List, length, ℤ, pos, negsuc, ◌==◌, nat_lt}
use Rattle.std.specs.Prelude.{slice_index_or, slice_set}
use Rattle.std.specs.Prelude.{Option, Some, None}
use Rattle.loss.specs.declared.Row.{Row}

-- THE DISTANCE OF A NUMBER FROM THE HIGHEST ONE

-- a difference mod 65,536, read as -32,768 to 32,767
unfoldable pub signed_of : ℕ → ℤ
signed_of d = cond (nat_lt d 32768) (pos d) (negsuc (65535 - d))

unfoldable pub distance : (number highest : ℕ) → ℤ
distance number highest = signed_of ((number + 65536 - highest) % 65536)

-- WHAT ARRIVES

pub data Arrival : Type 0 where
  New : (passed_over : ℕ) → Arrival
  Repeated : Arrival
  Late : Arrival

-- above 0 the packet is new, and distance less one numbers were passed over; 0 is a repeat; below 0 is late
unfoldable pub arrival_of : (distance : ℤ) → Arrival
arrival_of (pos zero) = Repeated
arrival_of (pos (suc passed_over)) = New passed_over
arrival_of (negsuc _) = Late

-- Each adds 1 to its count and to seen; a new number becomes highest, and what it passed over is lost. Counts have 32 bits, lost 64: on
-- rows that no history gives, they wrap.
unfoldable pub counted : Row → (number : ℕ) → Arrival → Row
counted r number (New passed_over) = record {
  teid = r.teid;
  first = r.first;
  highest = number;
  seen = r.seen + 1;
  new = (r.new + 1) % 2 ^ 32;
  repeated = r.repeated;
  late = r.late;
  lost = (r.lost + passed_over) % 2 ^ 64;
}
counted r number Repeated = record {
  teid = r.teid;
  first = r.first;
  highest = r.highest;
  seen = r.seen + 1;
  new = r.new;
  repeated = (r.repeated + 1) % 2 ^ 32;
  late = r.late;
  lost = r.lost;  -- a repeat loses nothing
}
counted r number Late = record {
  teid = r.teid;
  first = r.first;
  highest = r.highest;
  seen = r.seen + 1;
  new = r.new;
  repeated = r.repeated;
  late = (r.late + 1) % 2 ^ 32;
  lost = r.lost;  -- a late packet gives nothing back
}

-- a row's first number is new, and its counts start from 0 there
unfoldable pub started : (teid number : ℕ) → Row
started teid number =
    record { teid = teid; first = number; highest = number; seen = 1; new = 1; repeated = 0; late = 0; lost = 0 }

-- THE ROW THAT SERVES

abbrev pub free : Row → Bool
free r = r.seen == 0

abbrev pub full : Row → Bool
full r = r.seen == 4294967295

abbrev pub of_teid : (teid : ℕ) → Row → Bool
of_teid teid r = not (free r) && r.teid == teid

-- of n rows lent the first 256 are used
unfoldable pub used_of : (n : ℕ) → ℕ
used_of n = cond (nat_lt 256 n) 256 n

-- what stands in no row: the row past the end
abbrev pub no_row : Row
no_row = record { teid = 0; first = 0; highest = 0; seen = 0; new = 0; repeated = 0; late = 0; lost = 0 }

abbrev pub row_at : List Row → ℕ → Row
row_at rows i = slice_index_or rows i no_row

-- one place, or another where there is none
abbrev pub or_else : Option ℕ → Option ℕ → Option ℕ
or_else (Some i) other = Some i
or_else None other = other

-- the lowest place below n whose row meets a condition
unfoldable pub lowest : (meets : Row → Bool) (rows : List Row) (n : ℕ) → Option ℕ
lowest meets rows zero = None
lowest meets rows (suc i) = or_else (lowest meets rows i) (cond (meets (row_at rows i)) (Some i) None)

-- the lowest row of the TEID serves, else the lowest free one
unfoldable pub serving : (rows : List Row) (teid : ℕ) → Option ℕ
serving rows teid =
    let n = used_of (length rows) in
    or_else (lowest (of_teid teid) rows n) (lowest free rows n)

-- THE OFFER: THE ANSWER, AND THE ROWS AFTERWARDS

-- the row that serves: taken where it is free; 26 where it has seen all that it can count
unfoldable pub offered : Row → (teid number : ℕ) → ℕ × Row
offered r teid number =
    cond (free r) (0, started teid number)
    (cond (full r) (26, r)
    (0, counted r number (arrival_of (distance number r.highest))))

-- it is stored where it stood; 25 where no row serves
unfoldable pub offer_at : (rows : List Row) (teid number : ℕ) → Option ℕ → ℕ × List Row
offer_at rows teid number None = (25, rows)
offer_at rows teid number (Some i) =
    let o = offered (row_at rows i) teid number in
    (o.0, slice_set rows i o.1)

unfoldable pub offer : (rows : List Row) (teid number : ℕ) → ℕ × List Row
offer rows teid number = offer_at rows teid number (serving rows teid)
