use mathlib.Core.Path.{◌≡◌, ◌∙◌}
use mathlib.Core.List.{List}
use Prim.Native.Nat.{ℕ, ◌≤◌, ◌<◌}
use native.Mathlib.Omega.{arith}
use mathlib.Core.Bool.{true}
use Rattle.rules.specs.Sound.{sound}
use Rattle.rules.specs.Table.{rules}
use Rattle.pair.specs.Mismatch.{mismatch4}
use Rattle.table.proofs.Bounds.{sound-size, entries_within_lem, rule_within}
use Rattle.pair.proofs.Fitting.{rule-p}
use Rattle.pair.proofs.Laws.{few_entries, no_rule4, at_far4_lem}
use Rattle.pair.proofs.mismatch4.Goals as goal

pub returns-in-Some : goal.returns-in-Some
unfolding mismatch4
returns-in-Some c = c.in-Some.ensures _

pub rules-requires : goal.rules-requires
rules-requires c =
    let a = c.args in
    let near : List ℕ = a.near.now in
    let far : List ℕ = a.far.now in
    let i : ℕ = a.k in
    let sn : sound near ≡ true = c.in_default.ensures.0 in
    omega (arith, sound-size near sn)

pub returns-then-rules-k : goal.returns-then-rules-k
returns-then-rules-k c =
    let a = c.args in
    let near : List ℕ = a.near.now in
    let far : List ℕ = a.far.now in
    let i : ℕ = a.k in
    let sn : sound near ≡ true = c.in_default.ensures.0 in
    let sf : sound far ≡ true = c.in_default.ensures.1 in
    let l : rules near ≤ i = rw (← c.rules.ensures.value) c.if-rules-k.true in
    no_rule4 near far i sn sf l

pub rule_at-requires : goal.rule_at-requires
rule_at-requires c =
    let a = c.args in
    let near : List ℕ = a.near.now in
    let far : List ℕ = a.far.now in
    let i : ℕ = a.k in
    let sn : sound near ≡ true = c.in_default.ensures.0 in
    let sf : sound far ≡ true = c.in_default.ensures.1 in
    let l : i < rules near = rw (← c.rules.ensures.value) c.if-rules-k.false in
    rule_within near sn i l

pub at_far4-requires : goal.at_far4-requires
at_far4-requires c =
    let a = c.args in
    let near : List ℕ = a.near.now in
    let far : List ℕ = a.far.now in
    let i : ℕ = a.k in
    let sn : sound near ≡ true = c.in_default.ensures.0 in
    let sf : sound far ≡ true = c.in_default.ensures.1 in
    let l : i < rules near = rw (← c.rules.ensures.value) c.if-rules-k.false in
    (rw c.rule_at.ensures.same (rule-p near i sn l), entries_within_lem far sf, few_entries far sf)

pub returns : goal.returns
returns c =
    let a = c.args in
    let near : List ℕ = a.near.now in
    let far : List ℕ = a.far.now in
    let i : ℕ = a.k in
    let sn : sound near ≡ true = c.in_default.ensures.0 in
    let sf : sound far ≡ true = c.in_default.ensures.1 in
    let l : i < rules near = rw (← c.rules.ensures.value) c.if-rules-k.false in
    c.at_far4.ensures ∙ at_far4_lem near far i sn sf l _ c.rule_at.ensures.same
