use Rattle.std.proofs.Common.{rules}
use mathlib.Core.Path.{sym, ◌∙◌}
use borrow.Author.Tests.{ltb-true}
use Rattle.table.proofs.Order.{other_key, distinct_ascending}
use Rattle.rules.proofs.Faults.{entry_prefixes_none}
use Rattle.table.proofs.Trying.{none_exactly}
use Rattle.table.proofs.apart.entries_apart.Goals as goal

pub returns : goal.returns
returns c = none_exactly _ c.entry_pairs_fault.ensures c.is_none.ensures ∙ entry_prefixes_none _ _

pub returns-then-ascending : goal.returns-then-ascending
returns-then-ascending c =
    let t = c.args.table.now in
    sym (distinct_ascending _ _ (other_key t) c.args.n
    (λ i l m. ltb-true _ _ (search (rules, c.ascending.ensures c.if-ascending.true i l m))))
