use mathlib.Core.Path.{sym}
use Prim.Native.Nat.{◌+◌, ◌≤◌}
use lib.ListN.{length}
use Rattle.copying.proofs.Laws.{part_count, length_part}
use Rattle.octets.proofs.Windows.{window_part}
use Rattle.octets.proofs.sixteen.Goals as goal

pub returns : goal.returns
returns c =
    let a = c.args in
    let h : a.at + 16 ≤ length a.s.now = c.requires in
    simp part_count (sym (window_part a.s.now a.at 16 h), length_part a.at 16 a.s.now h)
