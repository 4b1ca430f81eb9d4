use mathlib.Core.Path.{sym, ap, ◌∙◌}
use mathlib.Core.List.{List}
use Prim.Native.Nat.{ℕ, ◌+◌, ◌-◌, ◌*◌}
use native.Mathlib.Omega.{arith}
use Rattle.rules.specs.Octets.{octet, window}
use Rattle.reach.specs.Reach.{reach6}
use Rattle.reach.proofs.Reached.{reach6-below}
use Rattle.pair.proofs.at_far6.Goals as goal

pub entry_at-requires : goal.entry_at-requires
entry_at-requires c =
    let a = c.args in
    let d : ℕ = octet a.e.now 3 in
    let policy : List ℕ = a.policy.now in
    let t : List ℕ = a.far.now in
    let count = c.from.ensures in
    let before = c.saturating_sub-before.ensures ∙ ap (λ (n : ℕ). n - 1) count in
    let last = c.window-last.ensures ∙ ap (λ (n : ℕ). window policy (16 + 16 * n) 16) before in
    let r = c.reach6-found.ensures ∙ ap (λ (sid : List ℕ). reach6 t d sid (octet policy 1)) last in
    let m = sym r ∙ c.in-Some.is in
    omega (arith, reach6-below t _ _ _ _ m)

pub told-requires : goal.told-requires
told-requires c =
    let a = c.args in
    let d : ℕ = octet a.e.now 3 in
    let policy : List ℕ = a.policy.now in
    let t : List ℕ = a.far.now in
    let count = c.from.ensures in
    let before = c.saturating_sub-before.ensures ∙ ap (λ (n : ℕ). n - 1) count in
    let last = c.window-last.ensures ∙ ap (λ (n : ℕ). window policy (16 + 16 * n) 16) before in
    let r = c.reach6-found.ensures ∙ ap (λ (sid : List ℕ). reach6 t d sid (octet policy 1)) last in
    let m = sym r ∙ c.in-Some.is in
    omega (arith, reach6-below t _ _ _ _ m)
