use Rattle.reach.proofs.Laws.{Looked}
use Rattle.reach.proofs.lies_under.Given as goal

abbrev pub invariant-loop-i : goal.invariant-loop-i
invariant-loop-i l = Looked l.address l.prefix l.bits l.i l.same
