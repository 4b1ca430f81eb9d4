use Rattle.std.proofs.Common.{rules}
use Rattle.table.proofs.apart.entry_pairs_fault.Goals as goal

pub returns : goal.returns
returns c = c.repeated.ensures _ (λ i j b l m k. search rules)
