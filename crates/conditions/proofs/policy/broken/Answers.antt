use mathlib.Core.Path.{refl}
use mathlib.Core.List.{List}
use Prim.Native.Nat.{ℕ}
use Rattle.rules.specs.Policy as Policy
use Rattle.rules.specs.Sound.{reserved_clear, sids_within}
use Rattle.rules.specs.Fault.{policy_broken}
use Rattle.conditions.proofs.Conditions.{behind, itself}
use Rattle.conditions.proofs.policy.broken.Goals as goal

pub returns : goal.returns
unfolding policy_broken
returns c =
    let policy : List ℕ = c.args.policy.now in
    behind 1 (itself (sids_within policy)) c.unless.ensures
    (behind 2 c.start_within.ensures c.unless-from_2.ensures
    (behind 3 (itself (reserved_clear (Policy.reserved policy))) c.unless-from_3.ensures refl))
