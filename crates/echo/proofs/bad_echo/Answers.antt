use Rattle.echo.proofs.Laws.{bad_read}
use Rattle.echo.proofs.bad_echo.Goals as goal

pub returns : goal.returns
returns c =
    let a = c.args in
    bad_read a.packet.now a.at _ _ _ c.octet_or_0-flags.ensures c.window-teid.ensures c.from_be_bytes.ensures
