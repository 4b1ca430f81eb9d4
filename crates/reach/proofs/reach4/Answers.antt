use Rattle.std.proofs.Common.{rules}
use Rattle.reach.specs.Reach.{reach4}
use Rattle.reach.proofs.reach4.Goals as goal

pub returns : goal.returns
unfolding reach4
returns c =
    let whole = rw c.unwrap-r.ensures at c.as_array.ensures.cases in
    rw (← whole.same) (c.longest_entry.ensures _ (λ i b l k. search rules) _ (λ i b l k. k))
