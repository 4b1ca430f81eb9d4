use native.Mathlib.Omega.{arith}
use Rattle.args.specs.Value.{value}
use Rattle.gtpu.proofs.Laws.{datagram_written}
use Rattle.gtpu.proofs.head_of.Goals as goal

pub returns : goal.returns
returns c =
    let a = c.args in
    let t = c.teid-teid in
    let f = c.flow_octet in
    datagram_written a.port a.direction a.checksum a.size f.result _ _ _ _ _ t.result (value a.args)
    c.to_be_bytes-from.ensures c.ranges.port.fits c.to_be_bytes-to.ensures c.to_be_bytes-all.ensures (omega (arith, c.requires))
    c.to_be_bytes-sum.ensures c.ranges.checksum.fits c.to_be_bytes-message.ensures (omega (arith, t)) t.ensures f.ensures
