use mathlib.Core.Path.{◌≡◌, sym, ap, ◌∙◌}
use mathlib.Core.List.{List}
use Prim.Native.Nat.{ℕ, ◌≤◌, ◌<◌}
use native.Mathlib.Omega.{arith}
use mathlib.Core.Bool.{true}
use Rattle.rules.specs.Sound.{sound}
use Rattle.rules.specs.Octets.{octet}
use Rattle.rules.specs.Table.{entries, entry_at, policy_at}
use Rattle.rules.specs.Entry as Entry
use Rattle.pair.specs.Mismatch.{mismatch6}
use Rattle.table.proofs.Bounds.{sound-size, entries_within_lem, entry_within}
use Rattle.pair.proofs.Laws.{few_entries, di-policy_within, di-start}
use Rattle.pair.proofs.Laws.{no_entry6_lem, not_di6_lem, at_far6_lem}
use Rattle.pair.proofs.mismatch6.Goals as goal

pub returns-in-Some : goal.returns-in-Some
unfolding mismatch6
returns-in-Some c = c.in-Some.ensures _

pub entries-requires : goal.entries-requires
entries-requires c =
    let a = c.args in
    let near : List ℕ = a.near.now in
    let far : List ℕ = a.far.now in
    let i : ℕ = a.i in
    let sn : sound near ≡ true = c.in_default.ensures.0 in
    omega (arith, sound-size near sn)

pub returns-then-entries-i : goal.returns-then-entries-i
returns-then-entries-i c =
    let a = c.args in
    let near : List ℕ = a.near.now in
    let far : List ℕ = a.far.now in
    let i : ℕ = a.i in
    let sn : sound near ≡ true = c.in_default.ensures.0 in
    let sf : sound far ≡ true = c.in_default.ensures.1 in
    let l : entries near ≤ i = rw (← c.entries.ensures.value) c.if-entries-i.true in
    no_entry6_lem near far i sn sf l

pub entry_at-e-requires : goal.entry_at-e-requires
entry_at-e-requires c =
    let a = c.args in
    let near : List ℕ = a.near.now in
    let far : List ℕ = a.far.now in
    let i : ℕ = a.i in
    let sn : sound near ≡ true = c.in_default.ensures.0 in
    let sf : sound far ≡ true = c.in_default.ensures.1 in
    let l : i < entries near = rw (← c.entries.ensures.value) c.if-entries-i.false in
    entry_within near sn i l

pub returns-then-e-ne-END_M_GTP6_D_DI : goal.returns-then-e-ne-END_M_GTP6_D_DI
returns-then-e-ne-END_M_GTP6_D_DI c =
    let a = c.args in
    let near : List ℕ = a.near.now in
    let far : List ℕ = a.far.now in
    let i : ℕ = a.i in
    let sn : sound near ≡ true = c.in_default.ensures.0 in
    let sf : sound far ≡ true = c.in_default.ensures.1 in
    let l : i < entries near = rw (← c.entries.ensures.value) c.if-entries-i.false in
    let e = c.entry_at-e.ensures.same in
    not_di6_lem near far i sn sf l (λ q. c.if-e-ne-END_M_GTP6_D_DI.true (ap (λ (r : List ℕ). octet r 0) e ∙ q))

pub policy_at-policy-requires : goal.policy_at-policy-requires
policy_at-policy-requires c =
    let a = c.args in
    let near : List ℕ = a.near.now in
    let far : List ℕ = a.far.now in
    let i : ℕ = a.i in
    let sn : sound near ≡ true = c.in_default.ensures.0 in
    let sf : sound far ≡ true = c.in_default.ensures.1 in
    let l : i < entries near = rw (← c.entries.ensures.value) c.if-entries-i.false in
    let e = c.entry_at-e.ensures.same in
    let b : Entry.behaviour (entry_at near i) ≡ 70 = ap (λ (r : List ℕ). octet r 0) (sym e) ∙ c.if-e-ne-END_M_GTP6_D_DI.false in
    let policy = c.from.ensures ∙ ap (λ (r : List ℕ). octet r 5) e in
    rw policy (di-policy_within near i sn l b)

pub at_far6-requires : goal.at_far6-requires
at_far6-requires c =
    let a = c.args in
    let near : List ℕ = a.near.now in
    let far : List ℕ = a.far.now in
    let i : ℕ = a.i in
    let sn : sound near ≡ true = c.in_default.ensures.0 in
    let sf : sound far ≡ true = c.in_default.ensures.1 in
    let l : i < entries near = rw (← c.entries.ensures.value) c.if-entries-i.false in
    let e = c.entry_at-e.ensures.same in
    let b : Entry.behaviour (entry_at near i) ≡ 70 = ap (λ (r : List ℕ). octet r 0) (sym e) ∙ c.if-e-ne-END_M_GTP6_D_DI.false in
    let n = c.from.ensures ∙ ap (λ (r : List ℕ). octet r 5) e in
    let policy = c.policy_at-policy.ensures.same ∙ ap (policy_at near) n in
    (rw policy (di-start near i sn l b), entries_within_lem far sf, few_entries far sf)

pub returns : goal.returns
returns c =
    let a = c.args in
    let near : List ℕ = a.near.now in
    let far : List ℕ = a.far.now in
    let i : ℕ = a.i in
    let sn : sound near ≡ true = c.in_default.ensures.0 in
    let sf : sound far ≡ true = c.in_default.ensures.1 in
    let l : i < entries near = rw (← c.entries.ensures.value) c.if-entries-i.false in
    let e = c.entry_at-e.ensures.same in
    let b : Entry.behaviour (entry_at near i) ≡ 70 = ap (λ (r : List ℕ). octet r 0) (sym e) ∙ c.if-e-ne-END_M_GTP6_D_DI.false in
    let n = c.from.ensures ∙ ap (λ (r : List ℕ). octet r 5) e in
    let policy = c.policy_at-policy.ensures.same ∙ ap (policy_at near) n in
    c.at_far6.ensures ∙ at_far6_lem near far i sn sf l b _ _ e policy
