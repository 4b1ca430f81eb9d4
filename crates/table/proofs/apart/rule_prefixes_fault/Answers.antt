use Rattle.std.proofs.Common.{rules}
use Rattle.table.proofs.apart.rule_prefixes_fault.Goals as goal

pub returns : goal.returns
returns c = rw (← c.rules.ensures.value) (c.repeated.ensures _ (λ i j b l m k. search rules))
