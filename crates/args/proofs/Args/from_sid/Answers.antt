use Rattle.args.specs.Value.{value}
use Rattle.args.proofs.Laws.{args_cut}
use Rattle.args.proofs.Args.from_sid.Goals as goal

pub returns : goal.returns
unfolding value
returns c = rw (c.window.ensures, c.octet_of.ensures) (args_cut c.args.sid c.args.start)
