use mathlib.Core.Path.{◌≡◌, refl}
use Prim.Native.Nat.{ℕ, ◌-◌, ◌/◌, ◌%◌}
use native.Mathlib.Omega.{arith}
use Rattle.rules.specs.Octets.{window}
use Rattle.copying.proofs.Laws.{first, next, run_as}
use Rattle.ip.proofs.Laws.{ipv4_written}
use Rattle.ip.proofs.put_ipv4.Goals as goal

pub returns : goal.returns
unfolding window
returns c =
    let a = c.args in
    let sum : ℕ = c.header_sum.result in
    let high : a.total / 256 % 256 ≡ a.total / 256 = omega (arith, c.ranges) in
    let high-sum : (65535 - sum) / 256 % 256 ≡ (65535 - sum) / 256 = omega arith in
    let summed = rw (c.to_be_bytes.ensures, high) at c.header_sum.ensures in
    let r₁ = first a.out.now 0 _ 12 c.copy_to.ensures refl in
    let r₂ = next r₁ _ 4 c.copy_to-2.ensures (omega (arith, c)) refl (omega arith) in
    let r₃ = next r₂ _ 4 c.copy_to-3.ensures (omega (arith, c)) refl (omega arith) in
    run_as r₃
    (rw (c.to_be_bytes.ensures, c.to_be_bytes-2.ensures, high, high-sum)
    (ipv4_written a.tos a.total a.ttl sum a.source a.destination (omega (arith, c)) (omega (arith, c)) summed))
