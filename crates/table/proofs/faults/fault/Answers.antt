use mathlib.Core.Path.{sym}
use Rattle.rules.proofs.Faults.{sound_faultless}
use Rattle.table.proofs.faults.fault.Goals as goal

pub returns-then-surely_sound : goal.returns-then-surely_sound
returns-then-surely_sound c = sym (sound_faultless _ (c.surely_sound.ensures c.if-surely_sound.true))
