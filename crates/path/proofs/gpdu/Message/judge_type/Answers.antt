use mathlib.Core.Path.{refl, sym, ◌∙◌}
use Rattle.path.proofs.Judged.{type-echo, type-other}
use Rattle.path.proofs.gpdu.Message.judge_type.Goals as goal

pub returns-then-is_echo : goal.returns-then-is_echo
returns-then-is_echo c = type-echo _ _ _ _ _ _ _ (sym c.is_echo.ensures ∙ c.if-is_echo.true) refl

pub returns : goal.returns
returns c = type-other _ _ _ _ _ _ _ (sym c.is_echo.ensures ∙ c.if-is_echo.false) c.judge_pdu.ensures
