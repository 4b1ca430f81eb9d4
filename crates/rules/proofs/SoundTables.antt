-- A table of octets is sound exactly where SoundTable says so: a law for the value of a field, for each record, and for the table.
use mathlib.Core.Path.{◌≡◌, refl, sym, ap, ◌∙◌}
use mathlib.Core.Logic.{◌≢◌}
use mathlib.Core.Bool.{Bool, true, false, ◌&&◌, ◌||◌, false≢true}
use mathlib.Core.List.{List}
use Prim.Native.Nat.{ℕ, zero, suc, ◌*◌, ◌/◌, ◌%◌, ◌≤◌}
use native.Mathlib.Omega.{arith}
use lib.Dec.{eqb, leb, ltb}
use borrow.Author.Tests.{eqb-true, eqb-false, eq-eqb, ne_eqb, not-true, leb-true}
use Rattle.rules.specs.Exactly.{Exactly}
use Rattle.rules.specs.Octets.{Octets, number}
use Rattle.rules.specs.Assigned as Assigned
use Rattle.rules.specs.Assigned.{end, end_m_gtp6d, end_m_gtp6d_di, end_m_gtp6e, ipv4_session, ipv6_session, ipv4v6_session}
use Rattle.rules.specs.Table.{policies, entry_at, rule_at, policy_at}
use Rattle.rules.specs.Entry as Entry
use Rattle.rules.specs.Rule as Rule
use Rattle.rules.specs.Policy as Policy
use Rattle.rules.specs.Sound.{direction_known, session_known, start_within, sids_within, reserved_clear, behaviour_known, uses_session}
use Rattle.rules.specs.Sound.{uses_policy, uses_start, uses_places, header_conditions, entry_conditions, rule_conditions, policy_conditions}
use Rattle.rules.specs.Sound.{header_sound, entry_sound, rule_sound, policy_sound, same_entry_prefix, same_rule_prefix, sound, entry_limit}
use Rattle.rules.specs.Sound.{every, mark_known, entry_marks}
use Rattle.rules.specs.Fault.{fault}
use Rattle.rules.specs.SoundTable.{Kind, waypoint, d, di, e6, e4, Direction, downlink, uplink, SessionType, ipv4, ipv6}
use Rattle.rules.specs.SoundTable.{ipv4v6, ethernet, ArgsStart, Mark, RightEntry, RightRule, RightPolicy, SoundTable}
use Rattle.rules.proofs.Windows.{octets-window}
use Rattle.rules.proofs.Bits.{clear-past, past-clear, windows_one}
use Rattle.rules.proofs.Conditions.{and_left, and_right, and_both, conjunct, Holds, ◌also◌, every_holds, holds-every, holding}
use Rattle.rules.proofs.Conditions.{meeting, or_cases, where_used_lem, used_where, SoundParts, sound_parts, parts_sound}
use Rattle.rules.proofs.Faults.{sound_faultless, faultless_sound}

-- VALUES OF FIELDS

kind_known : (e : List ℕ) → Exactly (behaviour_known e) (Kind (Entry.behaviour e))
kind_known e = (known, back)
  where
    known : behaviour_known e ≡ true → Kind (Entry.behaviour e)
    known h =
        or_cases (eqb (Entry.behaviour e) end) _ h (λ k. waypoint (omega holding))
        (λ h. or_cases (eqb (Entry.behaviour e) end_m_gtp6d) _ h (λ k. d (omega holding))
        (λ h. or_cases (eqb (Entry.behaviour e) end_m_gtp6d_di) _ h (λ k. di (omega holding))
        (λ h. or_cases (eqb (Entry.behaviour e) end_m_gtp6e) _ h (λ k. e6 (omega holding)) (λ k. e4 (omega holding)))))

    back : Kind (Entry.behaviour e) → behaviour_known e ≡ true
    back (waypoint b) = rw b
    back (d b) = rw b
    back (di b) = rw b
    back (e6 b) = rw b
    back (e4 b) = rw b

direction_known_lem : (x : ℕ) → Exactly (direction_known x) (Direction x)
direction_known_lem x = (known, back)
  where
    known : direction_known x ≡ true → Direction x
    known h = or_cases (eqb x Assigned.downlink) _ h (λ k. downlink (omega holding)) (λ k. uplink (omega holding))

    back : Direction x → direction_known x ≡ true
    back (downlink e) = rw e
    back (uplink e) = rw e

session_known_lem : (x : ℕ) → Exactly (session_known x) (SessionType x)
session_known_lem x = (known, back)
  where
    known : session_known x ≡ true → SessionType x
    known h =
        or_cases (eqb x ipv4_session) _ h (λ k. ipv4 (omega holding))
        (λ h. or_cases (eqb x ipv6_session) _ h (λ k. ipv6 (omega holding))
        (λ h. or_cases (eqb x ipv4v6_session) _ h (λ k. ipv4v6 (omega holding)) (λ k. ethernet (omega holding))))

    back : SessionType x → session_known x ≡ true
    back (ipv4 e) = rw e
    back (ipv6 e) = rw e
    back (ipv4v6 e) = rw e
    back (ethernet e) = rw e

pub start_known : (x : ℕ) → Exactly (start_within x) (ArgsStart x)
start_known x = (known, back)
  where
    known : start_within x ≡ true → ArgsStart x
    known h =
        let whole : x ≡ 8 * (x / 8) = omega (holding, and_left (eqb (x % 8) 0) _ h) in
        record { a = x / 8; most = omega (holding, and_right (eqb (x % 8) 0) _ h); held = whole }

    back : ArgsStart x → start_within x ≡ true
    back r = and_both (eqb (x % 8) 0) _ (omega meeting) (omega meeting)

mark_known_lem : (x : ℕ) → Exactly (mark_known x) (Mark x)
mark_known_lem x = (known x, back)
  where
    known : (x : ℕ) → mark_known x ≡ true → Mark x
    known zero h = Mark.unset refl
    known (suc zero) h = Mark.set refl
    known (suc (suc x)) h = absurd (omega (holding, h))

    back : Mark x → mark_known x ≡ true
    back (Mark.unset e) = rw e
    back (Mark.set e) = rw e

-- AN ENTRY

module _ (count : ℕ) (e : List ℕ) (o : Octets e) where
  uses_session_lem : Exactly (uses_session e) (Entry.behaviour e ≢ 1)
  uses_session_lem = (
    λ u q. eqb-false (Entry.behaviour e) end (not-true _ u) (omega arith),
    λ n. rw (ne_eqb (Entry.behaviour e) end (λ q. n (omega arith))),
  )

  -- octet 9 is no mark
  unmarked : Entry.behaviour e ≢ 69 → Entry.behaviour e ≢ 70 → uses_policy e ≡ false
  unmarked a b = rw (ne_eqb (Entry.behaviour e) end_m_gtp6d a, ne_eqb (Entry.behaviour e) end_m_gtp6d_di b)

  entry_said : entry_sound count e ≡ true → RightEntry count e
  unfolding entry_sound
  entry_said h =
      let (mark, _) = every_holds (entry_marks e) (and_right (every (entry_conditions count e)) _ h) in
      let (kind, (bits, (clear, (hops, (direction, (session, (policy, (start, (args, (p, (q, (address, (reserved, _))))))))))))) =
      every_holds (entry_conditions count e) (and_left (every (entry_conditions count e)) _ h) in
      record {
        kind = (kind_known e).0 kind;
        prefix_length = omega holding;
        prefix = λ b l k. clear-past (Entry.prefix e) 16 _ (octets-window e 16 16 o) clear b (omega arith) k;
        hopLimit = record { least = omega holding; most = omega (arith, o 2) };
        direction = λ n. (direction_known_lem _).0 (where_used_lem (uses_session e) _ direction (uses_session_lem.1 n));
        session = λ n. (session_known_lem _).0 (where_used_lem (uses_session e) _ session (uses_session_lem.1 n));
        policy_of_d = λ b. omega (holding, where_used_lem (uses_policy e) _ policy (rw b));
        policy_of_di = λ b. omega (holding, where_used_lem (uses_policy e) _ policy (rw b));
        start_of_e6 = λ b. (start_known _).0 (where_used_lem (uses_start e) _ start (rw b));
        prefix_of_e6 = λ b. omega (holding, where_used_lem (uses_start e) _ args (rw b));
        p_of_e4 = λ b. omega (holding, where_used_lem (uses_places e) _ p (rw b));
        q_of_e4 = λ b. omega (holding, where_used_lem (uses_places e) _ q (rw b));
        prefix_of_e4 = λ b. omega (holding, where_used_lem (uses_places e) _ address (rw b));
        zero_checksum_of_d = λ b. (mark_known_lem _).0 (where_used_lem (uses_policy e) _ mark (rw b));
        zero_checksum_of_di = λ b. (mark_known_lem _).0 (where_used_lem (uses_policy e) _ mark (rw b));
        reserved = λ a b. eqb-true _ 0 (rw (unmarked a b) at reserved);
      }

  said_entry : RightEntry count e → entry_sound count e ≡ true
  unfolding entry_sound
  said_entry r =
      and_both (every (entry_conditions count e)) _
      (holds-every (entry_conditions count e)
      ((kind_known e).1 r.kind
      also (omega meeting)
      also past-clear (Entry.prefix e) 16 _ (octets-window e 16 16 o) (λ b l k. r.prefix b (omega arith) k)
      also (omega meeting)
      also used_where (uses_session e) _ (λ u. (direction_known_lem _).1 (r.direction (uses_session_lem.0 u)))
      also used_where (uses_session e) _ (λ u. (session_known_lem _).1 (r.session (uses_session_lem.0 u)))
      also used_where (uses_policy e) _ named
      also used_where (uses_start e) _ (λ u. (start_known _).1 (r.start_of_e6 (omega holding)))
      also used_where (uses_start e) _ (λ u. omega (meeting, r.prefix_of_e6 (omega holding)))
      also used_where (uses_places e) _ (λ u. omega (meeting, r.p_of_e4 (omega holding)))
      also used_where (uses_places e) _ (λ u. omega (meeting, r.q_of_e4 (omega holding)))
      also used_where (uses_places e) _ (λ u. omega (meeting, r.prefix_of_e4 (omega holding)))
      also reserved (uses_policy e) refl
      also tt))
      (holds-every (entry_marks e) (used_where (uses_policy e) _ mark also tt))
    where
      reserved : (uses : Bool) → uses_policy e ≡ uses → uses || reserved_clear (Entry.zero_checksum e) ≡ true
      reserved true u = refl
      reserved false u = eq-eqb _ 0 (r.reserved (λ b. false≢true (sym u ∙ rw b)) (λ b. false≢true (sym u ∙ rw b)))

      mark : uses_policy e ≡ true → mark_known (Entry.zero_checksum e) ≡ true
      mark u =
          or_cases (eqb (Entry.behaviour e) end_m_gtp6d) _ u (λ k. (mark_known_lem _).1 (r.zero_checksum_of_d (omega holding)))
          (λ k. (mark_known_lem _).1 (r.zero_checksum_of_di (omega holding)))

      named : uses_policy e ≡ true → ltb (Entry.policy e) count ≡ true
      named u =
          or_cases (eqb (Entry.behaviour e) end_m_gtp6d) _ u (λ k. omega (meeting, r.policy_of_d (omega holding)))
          (λ k. omega (meeting, r.policy_of_di (omega holding)))

  pub right-entry : Exactly (entry_sound count e) (RightEntry count e)
  right-entry = (entry_said, said_entry)

-- A RULE

module _ (r : List ℕ) (o : Octets r) where
  rule_said : rule_sound r ≡ true → RightRule r
  unfolding rule_sound
  rule_said h =
      let (bits, (clear, (hops, (direction, (session, (p, (q, (sid, (source, (waypoints, (reserved, _))))))))))) =
      every_holds (rule_conditions r) h in
      record {
        prefix_length = omega holding;
        prefix = λ b l k. clear-past (Rule.prefix r) 4 _ (octets-window r 8 4 o) clear b (omega arith) k;
        hopLimit = record { least = omega holding; most = omega (arith, o 1) };
        direction = (direction_known_lem _).0 direction;
        session = (session_known_lem _).0 session;
        p = omega holding;
        q = omega holding;
        sid_prefix = λ b l k. clear-past (Rule.sid_prefix r) 16 _ (octets-window r 16 16 o) sid b (omega arith) k;
        source_prefix = λ b l k. clear-past (Rule.source_prefix r) 16 _ (octets-window r 32 16 o) source b (omega arith) k;
        waypoints = omega holding;
        reserved = omega holding;
      }

  said_rule : RightRule r → rule_sound r ≡ true
  unfolding rule_sound
  said_rule s =
      holds-every (rule_conditions r)
      ((omega meeting)
      also past-clear (Rule.prefix r) 4 _ (octets-window r 8 4 o) (λ b l k. s.prefix b (omega arith) k)
      also (omega meeting)
      also (direction_known_lem _).1 s.direction
      also (session_known_lem _).1 s.session
      also (omega meeting)
      also (omega meeting)
      also past-clear (Rule.sid_prefix r) 16 _ (octets-window r 16 16 o) (λ b l k. s.sid_prefix b (omega arith) k)
      also past-clear (Rule.source_prefix r) 16 _ (octets-window r 32 16 o) (λ b l k. s.source_prefix b (omega arith) k)
      also (omega meeting)
      also (omega meeting)
      also tt)

  pub right-rule : Exactly (rule_sound r) (RightRule r)
  right-rule = (rule_said, said_rule)

-- A POLICY

within_least : (least most n : ℕ) → leb least n && leb n most ≡ true → least ≤ n
within_least least most n h = leb-true _ _ (and_left (leb least n) _ h)

within_most : (least most n : ℕ) → leb least n && leb n most ≡ true → n ≤ most
within_most least most n h = leb-true _ _ (and_right (leb least n) _ h)

module _ (y : List ℕ) where
  policy_said : policy_sound y ≡ true → RightPolicy y
  unfolding policy_sound
  policy_said h =
      let conditions : Holds (policy_conditions y) = every_holds (policy_conditions y) h in
      record {
        least_sids = omega (arith, within_least);
        most_sids = omega (arith, within_most);
        start = (start_known _).0 (search conjunct);
        reserved = omega holding;
      }

  said_policy : RightPolicy y → policy_sound y ≡ true
  unfolding policy_sound
  said_policy s =
      let sids : sids_within y ≡ true = and_both (leb 1 (Policy.sid_count y)) _ (omega meeting) (omega meeting) in
      let start : start_within (Policy.start y) ≡ true = (start_known _).1 s.start in
      let reserved : reserved_clear (Policy.reserved y) ≡ true = omega meeting in
      rw (sids, start, reserved)

  pub right-policy : Exactly (policy_sound y) (RightPolicy y)
  right-policy = (policy_said, said_policy)

-- THE TABLE

-- two records with their lengths m and n and their prefixes s and r
module _ (m n : ℕ) (s r : List ℕ) (w : ℕ) where
  apart : eqb m n && eqb (number s 0 w) (number r 0 w) ≡ false → m ≡ n → s ≢ r
  apart h e f = false≢true (sym h ∙ and_both _ _ (eq-eqb _ _ e) (eq-eqb _ _ (ap (λ (s : List ℕ). number s 0 w) f)))

  unlike : (number s 0 w ≡ number r 0 w → s ≡ r) → (m ≡ n → s ≢ r) → eqb m n && eqb (number s 0 w) (number r 0 w) ≡ false
  unlike same h =
      not_so (eqb m n && eqb (number s 0 w) (number r 0 w))
      (λ k. h (eqb-true _ _ (and_left (eqb m n) _ k)) (same (eqb-true _ _ (and_right (eqb m n) _ k))))
    where
      not_so : (b : Bool) → (b ≡ true → ⊥) → b ≡ false
      not_so true n = absurd (n refl)
      not_so false n = refl

module _ (t : List ℕ) (o : Octets t) where
  pub octets-entry : (i : ℕ) → Octets (entry_at t i)
  unfolding entry_at
  octets-entry i = octets-window t _ _ o

  octets-rule : (k : ℕ) → Octets (rule_at t k)
  unfolding rule_at
  octets-rule k = octets-window t _ _ o

  -- prefixes of two entries and of two rules that are the same number
  entries_one : (i j : ℕ) → number (Entry.prefix (entry_at t i)) 0 16 ≡ number (Entry.prefix (entry_at t j)) 0 16
      → Entry.prefix (entry_at t i) ≡ Entry.prefix (entry_at t j)
  entries_one i j = windows_one (entry_at t i) (entry_at t j) 16 16 16 (octets-entry i) (octets-entry j)

  rules_one : (i j : ℕ) → number (Rule.prefix (rule_at t i)) 0 4 ≡ number (Rule.prefix (rule_at t j)) 0 4
      → Rule.prefix (rule_at t i) ≡ Rule.prefix (rule_at t j)
  rules_one i j = windows_one (rule_at t i) (rule_at t j) 8 8 4 (octets-rule i) (octets-rule j)

  table_said : sound t ≡ true → SoundTable t
  unfolding header_sound same_entry_prefix same_rule_prefix
  table_said h =
      let s : SoundParts entry_limit t = sound_parts entry_limit t h in
      let (layout, (entry_count, (rule_count, (policy_count, (size, _))))) = every_holds (header_conditions entry_limit t) s.header in
      record {
        layout = omega holding;
        entry_count = omega holding;
        rule_count = omega holding;
        policy_count = omega holding;
        size = omega holding;
        entry = λ i l. (right-entry (policies t) (entry_at t i) (octets-entry i)).0 (s.entry i l);
        rule = λ k l. (right-rule (rule_at t k) (octets-rule k)).0 (s.rule k l);
        policy = λ j l. (right-policy (policy_at t j)).0 (s.policy j l);
        entries_apart = λ i j l k. apart _ _ (Entry.prefix (entry_at t i)) (Entry.prefix (entry_at t j)) 16 (s.entry_apart i j l k);
        rules_apart = λ i j l k. apart _ _ (Rule.prefix (rule_at t i)) (Rule.prefix (rule_at t j)) 4 (s.rule_apart i j l k);
      }

  said_table : SoundTable t → sound t ≡ true
  unfolding header_sound same_entry_prefix same_rule_prefix
  said_table s =
      parts_sound entry_limit t
      record {
        header = holds-every (header_conditions entry_limit t) (omega meeting);
        entry = λ i l. (right-entry (policies t) (entry_at t i) (octets-entry i)).1 (s.entry i l);
        entry_apart = λ i j l k. unlike _ _ _ _ 16 (entries_one i j) (s.entries_apart i j l k);
        rule = λ k l. (right-rule (rule_at t k) (octets-rule k)).1 (s.rule k l);
        rule_apart = λ i j l k. unlike _ _ _ _ 4 (rules_one i j) (s.rules_apart i j l k);
        policy = λ j l. (right-policy (policy_at t j)).1 (s.policy j l);
      }

pub sound-table : (t : List ℕ) → Octets t → Exactly (sound t) (SoundTable t)
sound-table t o = (table_said t o, said_table t o)

-- and so a table has no fault exactly where SoundTable says that it is sound
pub fault-table : (t : List ℕ) → Octets t → (fault t ≡ 0 → SoundTable t) × (SoundTable t → fault t ≡ 0)
fault-table t o = (λ e. table_said t o (faultless_sound t e), λ s. sound_faultless t (said_table t o s))
