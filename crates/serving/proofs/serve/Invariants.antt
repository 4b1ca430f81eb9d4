use Rattle.serving.proofs.Loop.{Serving}
use Rattle.serving.proofs.serve.Given as goal

abbrev pub invariant-loop-i : goal.invariant-loop-i
invariant-loop-i g l =
    Serving g.C.Call.version l.lengths l.packets l.table l.initial.out l.initial.answers l.out l.answers l.i l.place l.used
