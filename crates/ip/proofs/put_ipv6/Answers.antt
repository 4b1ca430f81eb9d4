use mathlib.Core.Path.{◌≡◌, refl}
use mathlib.Core.List.{append-nil}
use Prim.Native.Nat.{◌/◌, ◌%◌}
use native.Mathlib.Omega.{arith}
use Rattle.copying.proofs.Laws.{first, next, run_as}
use Rattle.ip.proofs.put_ipv6.Goals as goal

pub returns : goal.returns
returns c =
    let a = c.args in
    let r₁ = first a.out.now 0 _ 8 c.copy_to.ensures refl in
    let r₂ = next r₁ _ 16 c.copy_to-2.ensures (omega (arith, c)) refl (omega arith) in
    let r₃ = next r₂ _ 16 c.copy_to-3.ensures (omega (arith, c)) refl (omega arith) in
    let high : a.payload / 256 % 256 ≡ a.payload / 256 = omega (arith, c.ranges) in
    run_as r₃ (rw (c.to_be_bytes.ensures, high, append-nil))
