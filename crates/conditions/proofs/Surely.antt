-- That a record is sound, from what code tested of it.
use mathlib.Core.Path.{◌≡◌, refl, ◌∙◌}
use mathlib.Core.Bool.{Bool, true, false, ◌&&◌, ◌||◌}
use mathlib.Core.List.{List}
use Prim.Native.Nat.{ℕ, zero, suc, ◌+◌, ◌-◌, ◌*◌, ◌^◌, ◌%◌, ◌≤◌}
use native.Mathlib.Nat.{zero-add}
use native.Mathlib.Omega.{arith}
use native.Mathlib.Decide.{ℕ_discrete}
use lib.Dec.{eqb, leb, ltb}
use Rattle.rules.specs.Octets.{window, number}
use Rattle.rules.specs.Prefix.{clear}
use Rattle.rules.specs.Assigned.{end, end_m_gtp6e, end_m_gtp4e}
use Rattle.rules.specs.Entry as Entry
use Rattle.rules.specs.Policy as Policy
use Rattle.rules.specs.Sound.{where_used, uses_session, uses_policy, uses_start, uses_places, behaviour_known, direction_known}
use Rattle.rules.specs.Sound.{session_known}
use Rattle.rules.specs.Sound.{start_within, prefix_before_args, p_within, q_within, prefix_before_address, reserved_clear}
use Rattle.rules.specs.Sound.{every, entry_conditions, entry_marks, entry_sound, rule_prefix_clear, sid_prefix_clear, source_prefix_clear}
use Rattle.rules.specs.Sound.{rule_conditions, rule_sound}
use Rattle.rules.specs.Sound.{policy_conditions, policy_sound}
use Rattle.rules.proofs.Conditions.{and_left, and_right, and_both, Holds, holds-every, ◌also◌}
use Rattle.rules.proofs.Windows.{octet-window}
use Rattle.numbers.proofs.Words.{number_parts}
use Rattle.conditions.specs.Results.{Front, Single}

-- A PREFIX IN A RECORD, READ IN TWO WORDS

number-window : (s : List ℕ) (i n m : ℕ) → m ≤ n → number (window s i n) 0 m ≡ number s i m
unfolding number
number-window s i n zero h = refl
number-window s i n (suc m) h = rw (number-window s i n m (omega arith), zero-add m, octet-window s i n m (omega arith)) refl

pub clear-words : (s : List ℕ) (i b : ℕ) {r : Bool} {high low : ℕ} → r ≡ eqb ((high * 2 ^ 64 + low) % 2 ^ (128 - b)) 0
    → high ≡ number s i 8 → low ≡ number s (i + 8) 8 → r ≡ clear 16 (window s i 16) b
unfolding clear
clear-words s i b {r} {high} {low} e h l =
    let w : number (window s i 16) 0 16 ≡ high * 2 ^ 64 + low =
    number-window s i 16 16 (omega arith) ∙ number_parts s i 8 8 ∙ rw (h, l) refl in
    rw w e

-- AN ENTRY

used : (u c : Bool) → c ≡ true → where_used u c ≡ true
used true c h = h
used false c h = refl

module _ (n : ℕ) (e : List ℕ) (f : Front e) where
  -- octet 9 is reserved
  sound-reserved : uses_policy e ≡ false → Holds (entry_conditions n e) → entry_sound n e ≡ true
  unfolding entry_sound
  sound-reserved u h =
      and_both (every (entry_conditions n e)) _ (holds-every (entry_conditions n e) h) (holds-every (entry_marks e) (rw u refl also tt))

  reserved : uses_policy e ≡ false → eqb (Entry.zero_checksum e) 0 ≡ true → uses_policy e || reserved_clear (Entry.zero_checksum e) ≡ true
  reserved u z = rw (u, z)

  pub sound-end : Entry.behaviour e ≡ end → eqb (Entry.zero_checksum e) 0 ≡ true → entry_sound n e ≡ true
  sound-end b z =
      let u : uses_policy e ≡ false = rw b in
      sound-reserved u
      (rw b refl also f.bits also f.clear also f.hopLimit also rw b refl also rw b refl also rw b refl also rw b refl also rw b refl
      also rw b refl also rw b refl also rw b refl also reserved u z also tt)

  module _ (d : direction_known (Entry.direction e) ≡ true) (s : session_known (Entry.session e) ≡ true) where
    -- octet 9 is a mark
    sound_named : behaviour_known e ≡ true → uses_policy e ≡ true → uses_start e ≡ false → uses_places e ≡ false
        → leb (Entry.zero_checksum e) 1 && ltb (Entry.policy e) n ≡ true → entry_sound n e ≡ true
    unfolding entry_sound
    sound_named k u a b p =
        let mark = and_left (leb (Entry.zero_checksum e) 1) _ p in
        let named = and_right (leb (Entry.zero_checksum e) 1) _ p in
        and_both (every (entry_conditions n e)) _
        (holds-every (entry_conditions n e)
        (k also f.bits also f.clear also f.hopLimit also used (uses_session e) _ d also used (uses_session e) _ s
        also used (uses_policy e) _ named also rw a refl also rw a refl also rw b refl also rw b refl also rw b refl also rw u refl also
        tt))
        (holds-every (entry_marks e) (used (uses_policy e) _ mark also tt))

    -- the behaviours of D and Di are neighbours
    pub sound_gtp6d : 69 ≤ Entry.behaviour e → Entry.behaviour e ≤ 70 → leb (Entry.zero_checksum e) 1 && ltb (Entry.policy e) n ≡ true
        → entry_sound n e ≡ true
    sound_gtp6d least most p = pick (ℕ_discrete (Entry.behaviour e) 69)
      where
        pick : Dec (Entry.behaviour e ≡ 69) → entry_sound n e ≡ true
        pick (yes b) = sound_named (rw b refl) (rw b refl) (rw b refl) (rw b refl) p
        pick (no a) = let b : Entry.behaviour e ≡ 70 = omega arith in sound_named (rw b refl) (rw b refl) (rw b refl) (rw b refl) p

    pub sound-e6 : Entry.behaviour e ≡ end_m_gtp6e
        → eqb (Entry.zero_checksum e) 0 && (start_within (Entry.start e) && prefix_before_args e) ≡ true
        → entry_sound n e ≡ true
    sound-e6 b g =
        let h = and_right (eqb (Entry.zero_checksum e) 0) _ g in
        let u : uses_policy e ≡ false = rw b in
        sound-reserved u
        (rw b refl also f.bits also f.clear also f.hopLimit also used (uses_session e) _ d also used (uses_session e) _ s also rw b refl
        also used (uses_start e) _ (and_left (start_within (Entry.start e)) _ h)
        also used (uses_start e) _ (and_right (start_within (Entry.start e)) _ h)
        also rw b refl also rw b refl also rw b refl also reserved u (and_left (eqb (Entry.zero_checksum e) 0) _ g) also tt)

    pub sound-e4 : Entry.behaviour e ≡ end_m_gtp4e
        → eqb (Entry.zero_checksum e) 0 && (p_within (Entry.p e) && (q_within (Entry.q e) && prefix_before_address e)) ≡ true
        → entry_sound n e ≡ true
    sound-e4 b g =
        let h = and_right (eqb (Entry.zero_checksum e) 0) _ g in
        let u : uses_policy e ≡ false = rw b in
        let r = and_right (p_within (Entry.p e)) (q_within (Entry.q e) && prefix_before_address e) h in
        sound-reserved u
        (rw b refl also f.bits also f.clear also f.hopLimit also used (uses_session e) _ d also used (uses_session e) _ s
        also rw b refl also rw b refl also rw b refl
        also used (uses_places e) _ (and_left (p_within (Entry.p e)) _ h)
        also used (uses_places e) _ (and_left (q_within (Entry.q e)) _ r)
        also used (uses_places e) _ (and_right (q_within (Entry.q e)) _ r)
        also reserved u (and_left (eqb (Entry.zero_checksum e) 0) _ g) also tt)

-- A RULE AND A POLICY

pub sound-rule : (r : List ℕ) → Single r → rule_prefix_clear r ≡ true → sid_prefix_clear r ≡ true → source_prefix_clear r ≡ true
    → rule_sound r ≡ true
unfolding rule_sound
sound-rule r o a b c =
    holds-every (rule_conditions r)
    (o.bits also a also o.hopLimit also o.direction also o.session also o.p also o.q also b also c also o.waypoints
    also o.reserved also tt)

pub sound-policy : (policy : List ℕ) → leb 1 (Policy.sid_count policy) ≡ true → leb (Policy.sid_count policy) 8 ≡ true
    → start_within (Policy.start policy) ≡ true → reserved_clear (Policy.reserved policy) ≡ true
    → policy_sound policy ≡ true
unfolding policy_sound
sound-policy policy least most s r = holds-every (policy_conditions policy) (rw (least, most) refl also s also r also tt)
