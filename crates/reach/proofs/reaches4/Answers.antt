use mathlib.Core.Path.{◌≡◌, ap, ◌∙◌}
use mathlib.Core.Bool.{◌&&◌}
use mathlib.Core.List.{List}
use Prim.Native.Nat.{ℕ, ◌-◌, ◌*◌}
use native.Mathlib.Omega.{arith}
use Rattle.rules.specs.Octets.{octet, window}
use Rattle.rules.specs.Prefix.{under}
use Rattle.rules.specs.Args.{with_args}
use Rattle.rules.specs.E4.{start_behind}
use Rattle.rules.specs.D4.{address_behind}
use Rattle.reach.specs.Reach.{smaller, reaches4}
use Rattle.reach.proofs.reaches4.Goals as goal

pub returns : goal.returns
unfolding reaches4
returns c =
    let a = c.args in
    let r : List ℕ = a.r.now in
    let n = start_behind (octet r 4) in
    let p = c.from-at.ensures in
    let to = c.window-to.ensures ∙ ap (λ (k : ℕ). window a.prefix k 4) p in
    let args = c.own_args.ensures in
    let own =
    c.sid_of-own.ensures ∙ (λ i. with_args (address_behind (window r 16 16) (octet r 4) (to i)) n (args i)) in
    let both : c.min-both.result ≡ smaller (octet r 0) (a.bits - 8 * octet r 4) =
    omega (arith, c.min-both.ensures, c.from.ensures, c.saturating_sub.ensures, p) in
    λ i. (c.lies_under.ensures ∙ (λ j. under 16 (own j) a.prefix a.bits)) i
    && (c.under.ensures ∙ (λ j. under 4 (to j) (c.prefix_of.ensures.same j) (both j))) i
