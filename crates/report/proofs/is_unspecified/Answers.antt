use Rattle.report.proofs.Laws.{unspecified_read}
use Rattle.report.proofs.is_unspecified.Goals as goal

pub returns : goal.returns
returns c = unspecified_read _ _ c.from_be_bytes.ensures
