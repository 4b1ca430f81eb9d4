use Rattle.srh.proofs.Laws.{Reversing}
use Rattle.srh.proofs.put_reversed.Given as goal

abbrev pub invariant-loop-k : goal.invariant-loop-k
invariant-loop-k l = Reversing l.initial.out l.at l.s l.from l.n l.out l.k
