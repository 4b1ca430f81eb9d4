use borrow.Author.Tests.{eq-eqb, ne_eqb}
use Rattle.rules.specs.Session.{inner_protocol}
use Rattle.path.proofs.gpdu.inner_next.Goals as goal

pub returns-then-session-eq-IPV4_SESSION : goal.returns-then-session-eq-IPV4_SESSION
unfolding inner_protocol
returns-then-session-eq-IPV4_SESSION c = rw (eq-eqb _ _ c.if-session-eq-IPV4_SESSION.true)

pub returns-then-session-eq-IPV6_SESSION : goal.returns-then-session-eq-IPV6_SESSION
unfolding inner_protocol
returns-then-session-eq-IPV6_SESSION c = rw (ne_eqb _ _ c.if-session-eq-IPV4_SESSION.false, eq-eqb _ _ c.if-session-eq-IPV6_SESSION.true)

pub returns-then-session-eq-ETHERNET_SESSION : goal.returns-then-session-eq-ETHERNET_SESSION
unfolding inner_protocol
returns-then-session-eq-ETHERNET_SESSION c = rw (
  ne_eqb _ _ c.if-session-eq-IPV4_SESSION.false,
  ne_eqb _ _
      c.if-session-eq-IPV6_SESSION.false,
  eq-eqb _ _ c.if-session-eq-ETHERNET_SESSION.true,
)

pub returns-then-first-eq4 : goal.returns-then-first-eq4
unfolding inner_protocol
returns-then-first-eq4 c = rw (
  ne_eqb _ _ c.if-session-eq-IPV4_SESSION.false,
  ne_eqb _ _ c.if-session-eq-IPV6_SESSION.false,
  ne_eqb _ _
      c.if-session-eq-ETHERNET_SESSION.false,
  eq-eqb _ _ c.if-first-eq4.true,
)

pub returns : goal.returns
unfolding inner_protocol
returns c = rw (
  ne_eqb _ _ c.if-session-eq-IPV4_SESSION.false,
  ne_eqb _ _ c.if-session-eq-IPV6_SESSION.false,
  ne_eqb _ _
      c.if-session-eq-ETHERNET_SESSION.false,
  ne_eqb _ _ c.if-first-eq4.false,
)
