use Rattle.std.proofs.Common.{rules}
use mathlib.Core.Path.{sym, ◌∙◌}
use borrow.Author.Tests.{ltb-true}
use Rattle.table.proofs.Order.{other-rule_key, distinct_ascending}
use Rattle.rules.proofs.Faults.{rule_prefixes_none}
use Rattle.table.proofs.Trying.{none_exactly}
use Rattle.table.proofs.apart.rules_apart.Goals as goal

pub returns : goal.returns
returns c = rw c.requires.2 (none_exactly _ c.rule_prefixes_fault.ensures c.is_none.ensures ∙ rule_prefixes_none _)

pub returns-then-ascending : goal.returns-then-ascending
returns-then-ascending c =
    let t = c.args.table.now in
    sym (distinct_ascending _ _ (other-rule_key t) c.args.n
    (λ i l m. ltb-true _ _ (search (rules, c.ascending.ensures c.if-ascending.true i l m))))
