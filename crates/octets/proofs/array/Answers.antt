use mathlib.Core.Path.{sym, ◌∙◌}
use Rattle.copying.proofs.Laws.{part_count}
use Rattle.octets.proofs.Windows.{window_part}
use Rattle.octets.proofs.array.Goals as goal

pub returns : goal.returns
returns g c =
    let s = c.args.s.now in
    c.copy_from_slice.ensures.after ∙ part_count c.args.at g.row.N s ∙ sym (window_part s c.args.at g.row.N c.requires)
