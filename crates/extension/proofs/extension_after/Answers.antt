-- `extension_after`: each `return` is the case of the tests that led to it.
use native.Mathlib.Omega.{arith}
use Rattle.extension.proofs.Extensions.{end_at, no_units_lem, past_units, header_at}
use Rattle.extension.proofs.extension_after.Goals as goal

pub returns-then-kind-eq0 : goal.returns-then-kind-eq0
returns-then-kind-eq0 c = search end_at

pub returns-then-units-eq0 : goal.returns-then-units-eq0
returns-then-units-eq0 c = search no_units_lem

pub returns-then-gtp-next : goal.returns-then-gtp-next
returns-then-gtp-next c =
    past_units c.args.gtp.now c.args.at _ _ _ c.octet_or_0-kind.ensures c.octet_or_0-units.ensures c.from.ensures
    c.if-kind-eq0.false c.if-units-eq0.false (omega (arith, c.if-gtp-next.true))

pub returns : goal.returns
returns c =
    header_at c.args.gtp.now c.args.at _ _ _ c.octet_or_0-kind.ensures c.octet_or_0-units.ensures c.from.ensures
    c.if-kind-eq0.false c.if-units-eq0.false (omega (arith, c.if-gtp-next.false))
