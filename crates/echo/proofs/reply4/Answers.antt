use mathlib.Core.Path.{sym, ◌∙◌}
use Rattle.echo.proofs.Laws.{echo-refused, echo_passed}
use Rattle.echo.proofs.reply4.Goals as goal

pub returns-then-bad_echo : goal.returns-then-bad_echo
returns-then-bad_echo c =
    echo-refused _ _ _ _ (sym c.bad_echo.ensures ∙ c.if-bad_echo.true) c.bad_echo-then-bad_echo.ensures

pub returns : goal.returns
returns c =
    echo_passed _ _ _ _ _ (sym c.bad_echo.ensures ∙ c.if-bad_echo.false) c.send4.ensures
