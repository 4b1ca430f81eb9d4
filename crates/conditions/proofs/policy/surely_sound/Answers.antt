use mathlib.Core.Path.{sym, ◌∙◌}
use mathlib.Core.List.{List}
use Prim.Native.Nat.{ℕ}
use native.Mathlib.Omega.{arith}
use borrow.Author.Tests.{le-leb, eq-eqb}
use Rattle.rules.specs.Octets.{octet}
use Rattle.conditions.proofs.Surely.{sound-policy}
use Rattle.conditions.proofs.policy.surely_sound.Goals as goal

pub returns : goal.returns
returns c = λ q.
    let policy : List ℕ = c.args.policy.now in
    sound-policy policy (le-leb 1 (octet policy 0) (omega arith)) (le-leb (octet policy 0) 8 (omega arith))
    (sym c.start_within.ensures ∙ q) (eq-eqb _ _ c.if-policy-ne0.false)
