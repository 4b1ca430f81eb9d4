use Rattle.near.proofs.AtD4.{behind_built}
use Rattle.rules.specs.Octets.{splice}
use lib.ListN.{take, drop, replicate}
use Prim.Native.Nat.{ℕ, ◌+◌, ◌-◌}
use mathlib.Core.List.{List}
use mathlib.Core.Path.{◌≡◌, ap, ◌∙◌}
use native.Mathlib.Omega.{arith}
use Rattle.near.proofs.d4.behind.Goals as goal

pub returns : goal.returns
returns c =
    let a = c.args in
    let r : List ℕ = a.r.now in
    let j : a.at + a.n - a.at ≡ a.n = omega arith in
    let prefix = c.copy_to.ensures ∙ ap (λ (k : ℕ). splice (replicate 16 0) 0
    (take k (drop a.at r))) j in
    behind_built r a.at a.n a.address _ _ (omega (arith, c)) (omega (arith, c)) (omega (arith, c)) prefix c.copy_to-2.ensures
