use native.Mathlib.Omega.{arith}
use native.Mathlib.Numerals.{towards_suc}
use Rattle.rules.specs.Octets.{number, window}
use Rattle.numbers.proofs.four.Goals as goal

pub returns : goal.returns
unfolding number window
returns c =
    let e = rw c.array.ensures at c.from_be_bytes.ensures in
    record { value = simp towards_suc (omega arith); small = omega arith }
