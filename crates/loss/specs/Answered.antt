-- What an offer answers: 0, or the number of its refusal.
use Rattle.std.specs.Prelude.{ℕ, Result, Ok, Err}
use Rattle.loss.specs.declared.Refusal.{Refusal}
use Rattle.loss.specs.declared.Refusal.TheVariants.{NoRow, Full}

abbrev pub number_of : Refusal → ℕ
number_of NoRow = 25
number_of Full = 26

abbrev pub answer_of : Result (Unit {0}) Refusal → ℕ
answer_of (Ok u) = 0
answer_of (Err r) = number_of r
