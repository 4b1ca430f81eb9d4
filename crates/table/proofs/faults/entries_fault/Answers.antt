use Rattle.std.proofs.Common.{rules}
use Rattle.table.proofs.faults.entries_fault.Goals as goal

pub returns : goal.returns
returns c = rw (← c.entries.ensures.value) (c.first_fault.ensures _ (λ i r l k. search rules))
