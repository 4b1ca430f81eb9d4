use Rattle.answer.proofs.Settling.{answered-packed}
use native.Mathlib.Omega.{arith}
use Rattle.gateway.proofs.packed_ipv4_sound.Goals as goal

pub returns : goal.returns
returns c =
    let d = c.translate_ipv4_sound-decided.ensures in
    answered-packed _ _ _ _ _ d.answered (omega arith) (omega arith) (omega arith) (omega arith) c.pack.ensures
