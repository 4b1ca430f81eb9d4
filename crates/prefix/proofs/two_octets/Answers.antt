use native.Mathlib.Omega.{arith}
use native.Mathlib.Numerals.{towards_suc}
use Rattle.rules.specs.Octets.{window}
use Rattle.prefix.specs.Lying.{lying}
use Rattle.prefix.proofs.two_octets.Goals as goal

pub returns : goal.returns
unfolding lying window
returns c =
    let e = rw c.array.ensures at c.from_le_bytes.ensures in
    record { value = simp towards_suc (omega arith); small = omega arith }
