use mathlib.Core.Path.{ap, ◌∙◌}
use mathlib.Core.List.{List}
use Prim.Native.Nat.{ℕ}
use Rattle.rules.specs.Args.{Args, with_args}
use Rattle.rules.specs.Prefix.{under}
use Rattle.reach.specs.Reach.{reaches6}
use Rattle.reach.proofs.reaches6.Goals as goal

pub returns : goal.returns
unfolding reaches6
returns c =
    let a = c.args in
    let own = c.in_sid.ensures ∙ ap (λ (x : Args). with_args a.sid a.start x) c.own_args.ensures in
    c.lies_under.ensures ∙ ap (λ (sid : List ℕ). under 16 sid a.prefix a.bits) own
