-- What a sound table says of the record that a match finds.
use mathlib.Core.Path.{◌≡◌}
use mathlib.Core.Bool.{true}
use mathlib.Core.List.{List}
use Prim.Native.Nat.{ℕ, ◌<◌}
use native.Mathlib.Omega.{arith}
use borrow.Author.Tests.{leb-true, ltb-true}
use Rattle.rules.specs.Assigned.{end_m_gtp6d, end_m_gtp6d_di, end_m_gtp6e, end_m_gtp4e}
use Rattle.rules.specs.Table.{entries, policies, entry_at, rule_at, policy_at}
use Rattle.rules.specs.Entry as Entry
use Rattle.rules.specs.Match.{match_entry, match_rule}
use Rattle.rules.specs.Sound.{every, direction_known, session_known, uses_session, uses_policy, uses_start, uses_places}
use Rattle.rules.specs.Sound.{entry_conditions, rule_conditions, entry_sound, rule_sound, policy_sound, sound_within}
use Rattle.rules.specs.SoundRecord.{SoundPolicy, SoundGtp6D, SoundE6, SoundE4, SoundRule}
use Rattle.rules.specs.SoundTable.{ArgsStart, RightPolicy}
use Rattle.std.specs.Prelude.{Some}
use Rattle.rules.proofs.Conditions.{and_left, conjunct, Holds, every_holds, holding, where_used_lem, sound_parts}
use Rattle.rules.proofs.SoundTables.{start_known, right-policy}
use Rattle.rules.proofs.Longest.{matched_entry, matched_rule}

-- FROM THEIR CONDITIONS

module _ (policies : ℕ) (e : List ℕ) (h : entry_sound policies e ≡ true) where
  conditions : Holds (entry_conditions policies e)
  unfolding entry_sound
  conditions = every_holds (entry_conditions policies e) (and_left (every (entry_conditions policies e)) _ h)

  sound-direction : uses_session e ≡ true → direction_known (Entry.direction e) ≡ true
  unfolding entry_sound
  sound-direction u = where_used_lem (uses_session e) _ (search conjunct depth 20) u

  sound-session : uses_session e ≡ true → session_known (Entry.session e) ≡ true
  unfolding entry_sound
  sound-session u = where_used_lem (uses_session e) _ (search conjunct depth 20) u

  pub sound_named : uses_policy e ≡ true → Entry.policy e < policies
  unfolding entry_sound
  sound_named u = ltb-true _ _ (where_used_lem (uses_policy e) _ (search conjunct depth 20) u)

  pub sound-e6 : Entry.behaviour e ≡ end_m_gtp6e → SoundE6 e
  unfolding entry_sound
  sound-e6 b =
      let args : ArgsStart (Entry.start e) = (start_known _).0 (where_used_lem (uses_start e) _ (search conjunct depth 20) (rw b)) in
      record {
        direction = sound-direction (rw b);
        session = sound-session (rw b);
        start = omega arith;
        whole = omega arith;
        before = leb-true _ _ (where_used_lem (uses_start e) _ (search conjunct depth 20) (rw b));
      }

  pub sound-e4 : Entry.behaviour e ≡ end_m_gtp4e → SoundE4 e
  sound-e4 b =
      let (_, (_, (_, (_, (_, (_, (_, (_, (_, (p, (q, (address, _)))))))))))) = conditions in
      record {
        direction = sound-direction (rw b);
        session = sound-session (rw b);
        p = omega (holding, where_used_lem (uses_places e) _ p (rw b));
        q = omega (holding, where_used_lem (uses_places e) _ q (rw b));
        before = omega (holding, where_used_lem (uses_places e) _ address (rw b));
      }

pub sound-policy : (y : List ℕ) → policy_sound y ≡ true → SoundPolicy y
sound-policy y h =
    let r : RightPolicy y = (right-policy y).0 h in
    record { least = omega arith; most = omega arith; start = omega arith; whole = omega arith }

pub sound-rule : (r : List ℕ) → rule_sound r ≡ true → SoundRule r
unfolding rule_sound
sound-rule r h =
    let conditions : Holds (rule_conditions r) = every_holds (rule_conditions r) h in
    record {
      bits = omega holding;
      hopLimit = omega holding;
      direction = search conjunct depth 20;
      session = search conjunct depth 20;
      p = omega holding;
      q = omega holding;
      waypoints = omega holding;
    }

-- THE RECORD THAT IS FOUND

module _ (limit : ℕ) (t a : List ℕ) (i : ℕ) (s : sound_within limit t ≡ true) (m : match_entry t a ≡ Some i) where
  pub found_below : i < entries t
  found_below = (matched_entry t a i m).below

  pub found-entry : entry_sound (policies t) (entry_at t i) ≡ true
  found-entry = (sound_parts limit t s).entry i found_below

  -- D and Di
  found_gtp6d : uses_session (entry_at t i) ≡ true → uses_policy (entry_at t i) ≡ true → SoundGtp6D t (entry_at t i)
  found_gtp6d u n =
      let l : Entry.policy (entry_at t i) < policies t = sound_named (policies t) (entry_at t i) found-entry n in
      record {
        direction = sound-direction (policies t) (entry_at t i) found-entry u;
        session = sound-session (policies t) (entry_at t i) found-entry u;
        named = l;
        policy = sound-policy (policy_at t (Entry.policy (entry_at t i))) ((sound_parts limit t s).policy (Entry.policy (entry_at t i)) l);
      }

  pub found-d : Entry.behaviour (entry_at t i) ≡ end_m_gtp6d → SoundGtp6D t (entry_at t i)
  found-d b = found_gtp6d (rw b) (rw b)

  pub found-di : Entry.behaviour (entry_at t i) ≡ end_m_gtp6d_di → SoundGtp6D t (entry_at t i)
  found-di b = found_gtp6d (rw b) (rw b)

  pub found-e6 : Entry.behaviour (entry_at t i) ≡ end_m_gtp6e → SoundE6 (entry_at t i)
  found-e6 b = sound-e6 (policies t) (entry_at t i) found-entry b

  pub found-e4 : Entry.behaviour (entry_at t i) ≡ end_m_gtp4e → SoundE4 (entry_at t i)
  found-e4 b = sound-e4 (policies t) (entry_at t i) found-entry b

pub found-rule : (limit : ℕ) (t a : List ℕ) (k : ℕ) → sound_within limit t ≡ true → match_rule t a ≡ Some k → SoundRule (rule_at t k)
found-rule limit t a k s m = sound-rule (rule_at t k) ((sound_parts limit t s).rule k (matched_rule t a k m).below)
