use mathlib.Core.Path.{refl}
use mathlib.Core.List.{List}
use Prim.Native.Nat.{ℕ}
use Rattle.rules.specs.Rule as Rule
use Rattle.rules.specs.Sound.{hop_limit_within, p_within, prefix_length_within, q_within, reserved_clear, waypoints_within}
use Rattle.rules.specs.Fault.{rule_broken}
use Rattle.conditions.proofs.Conditions.{behind, itself}
use Rattle.conditions.proofs.rule.broken.Goals as goal

pub returns : goal.returns
unfolding rule_broken
returns c =
    let r : List ℕ = c.unwrap-r.result.now in
    let whole = rw c.unwrap-r.ensures at c.as_array.ensures.cases in
    rw (← whole.same)
    (behind 1 (itself (prefix_length_within 32 (Rule.prefix_length r))) c.unless.ensures
    (behind 2 c.prefix_clear.ensures c.unless-from_2.ensures
    (behind 3 (itself (hop_limit_within (Rule.hop_limit r))) c.unless-from_3.ensures
    (behind 4 c.direction_known.ensures c.unless-from_4.ensures
    (behind 5 c.session_known.ensures c.unless-from_5.ensures
    (behind 6 (itself (p_within (Rule.p r))) c.unless-from_6.ensures
    (behind 7 (itself (q_within (Rule.q r))) c.unless-from_7.ensures
    (behind 8 c.sid_prefix_clear.ensures c.unless-from_8.ensures
    (behind 9 c.source_prefix_clear.ensures c.unless-from_9.ensures
    (behind 10 (itself (waypoints_within r)) c.unless-from_10.ensures
    (behind 11 (itself (reserved_clear (Rule.reserved r))) c.unless-from_11.ensures refl)))))))))))
