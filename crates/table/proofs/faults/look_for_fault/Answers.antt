use Rattle.std.proofs.Common.{rules}
use mathlib.Core.Path.{◌≡◌, refl, sym, ap, ◌∙◌}
use mathlib.Core.List.{List}
use Prim.Native.Nat.{ℕ}
use lib.Dec.{eqb}
use mathlib.Core.Bool.{false}
use Rattle.rules.specs.Sound.{entry_limit}
use Rattle.rules.specs.Fault.{header_record, header_broken, entries_fault, entry_prefixes_fault, rules_fault, rule_prefixes_fault}
use Rattle.rules.specs.Fault.{policies_fault, told, or_else, fault_within, fault}
use Rattle.rules.proofs.Faults.{none_told}
use Rattle.table.proofs.Trying.{next, else_zero, else_else, some_fault, none_there, one_there, told_none}
use Rattle.table.specs.Records.{nonzero}
use Rattle.table.proofs.faults.look_for_fault.Goals as goal

headerless : (t : List ℕ) → header_broken entry_limit t ≡ 0
    → or_else (or_else (or_else (or_else (entries_fault t) (entry_prefixes_fault t)) (rules_fault t)) (rule_prefixes_fault t))
    (policies_fault t) ≡ fault t
unfolding fault_within
headerless t e =
    rw (e, told_none header_record 0, else_zero)
    (else_else _ (rule_prefixes_fault t) (policies_fault t) ∙ else_else _ (rules_fault t) _ ∙ else_else (entries_fault t) _ _)

pub returns-in-Some : goal.returns-in-Some
unfolding fault_within
returns-in-Some c =
    let broken : ℕ = header_broken entry_limit c.args.table.now in
    let there : (c.in-Some.condition ≡ broken) × (eqb broken 0 ≡ false) = one_there broken (sym c.header_broken.ensures ∙ c.in-Some.is) in
    next _ _ (some_fault (told header_record 0 broken) (c.told.ensures ∙ ap (told header_record 0) there.0)
    (none_told header_record 0 broken ∙ there.1)) refl absurd

pub returns : goal.returns
returns c =
    next _ _ (next _ _ (next _ _ (next _ _ c.entries_fault.ensures c.or_else.ensures (λ k. search rules))
    c.or_else-2.ensures (λ k. search rules)) c.or_else-3.ensures (λ k. search rules)) c.or_else-4.ensures (λ k. search rules)
    ∙ ap nonzero (headerless _ (none_there _ (sym c.header_broken.ensures ∙ c.in_default.is)))
