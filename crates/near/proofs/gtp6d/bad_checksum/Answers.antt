use Rattle.near.proofs.AtGtp6D.{upper_least}
use Rattle.near.proofs.gtp6d.bad_checksum.Goals as goal

pub bad_checksum-requires : goal.bad_checksum-requires
bad_checksum-requires c =
    let r = c.requires in
    (upper_least c.args.packet.now c.args.h r.arrived.view, r.long, r.arrived.short)
