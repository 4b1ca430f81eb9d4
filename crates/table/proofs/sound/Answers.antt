use mathlib.Core.Path.{◌∙◌}
use Rattle.rules.specs.Sound.{entry_limit}
use Rattle.rules.proofs.Faults.{none-sound}
use Rattle.table.proofs.Trying.{none_exactly}
use Rattle.table.proofs.sound.Goals as goal

pub returns : goal.returns
returns c = none_exactly _ c.look_for_fault.ensures c.is_none.ensures ∙ none-sound entry_limit _
