use mathlib.Core.Path.{sym, ◌∙◌}
use mathlib.Core.List.{List}
use Prim.Native.Nat.{ℕ}
use native.Mathlib.Omega.{arith}
use Rattle.reach.proofs.Reached.{reach4-below}
use Rattle.pair.proofs.at_far4.Goals as goal

pub entry_at-requires : goal.entry_at-requires
entry_at-requires c =
    let t : List ℕ = c.args.far.now in
    let m = sym c.reach4-found.ensures ∙ c.in-Some.is in
    omega (arith, reach4-below t _ _ m)

pub told-requires : goal.told-requires
told-requires c =
    let t : List ℕ = c.args.far.now in
    let m = sym c.reach4-found.ensures ∙ c.in-Some.is in
    omega (arith, reach4-below t _ _ m)
