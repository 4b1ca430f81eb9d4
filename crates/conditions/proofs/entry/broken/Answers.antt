use mathlib.Core.List.{List}
use Prim.Native.Nat.{ℕ}
use Rattle.rules.specs.Entry as Entry
use Rattle.rules.specs.Sound.{hop_limit_within, p_within, prefix_before_args, prefix_length_within, q_within, uses_places}
use Rattle.rules.specs.Sound.{uses_session, uses_start, where_used}
use Rattle.rules.specs.Fault.{entry_broken}
use Rattle.conditions.proofs.Conditions.{behind, itself, where_used_lem}
use Rattle.conditions.proofs.entry.broken.Goals as goal

pub returns : goal.returns
unfolding entry_broken
returns c =
    let e : List ℕ = c.unwrap-e.result.now in
    let whole = rw c.unwrap-e.ensures at c.as_array.ensures.cases in
    rw (← whole.same)
    (behind 1 c.behaviour_known.ensures c.unless.ensures
    (behind 2 (itself (prefix_length_within 128 (Entry.prefix_length e))) c.unless-from_2.ensures
    (behind 3 c.prefix_clear.ensures c.unless-from_3.ensures
    (behind 4 (itself (hop_limit_within (Entry.hop_limit e))) c.unless-from_4.ensures
    (behind 5 (where_used_lem (uses_session e) c.direction_known.ensures) c.unless-from_5.ensures
    (behind 6 (where_used_lem (uses_session e) c.session_known.ensures) c.unless-from_6.ensures
    (behind 7 c.policy_exists.ensures c.unless-from_7.ensures
    (behind 8 (where_used_lem (uses_start e) c.start_within.ensures) c.unless-from_8.ensures
    (behind 9 (itself (where_used (uses_start e) (prefix_before_args e))) c.unless-from_9.ensures
    (behind 10 (itself (where_used (uses_places e) (p_within (Entry.p e)))) c.unless-from_10.ensures
    (behind 11 (itself (where_used (uses_places e) (q_within (Entry.q e)))) c.unless-from_11.ensures
    (behind 12 (where_used_lem (uses_places e) c.prefix_before_address.ensures) c.unless-from_12.ensures
    c.octet_9_broken.ensures))))))))))))
