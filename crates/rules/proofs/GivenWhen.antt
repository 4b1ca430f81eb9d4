-- Each number of each call applies exactly where Refused.antt says that it is given.
use mathlib.Core.Path.{◌≡◌, refl, sym, ap, ◌∙◌, subst}
use mathlib.Core.Bool.{Bool, true, false, not, ◌||◌, true≢false}
use mathlib.Core.List.{List, [], ◌∷◌, ◌++◌}
use Prim.Native.Nat.{ℕ, ◌+◌, ◌-◌, ◌*◌, ◌≤◌, ◌<◌}
use native.Mathlib.Omega.{arith}
use native.Mathlib.Decide.{ℕ_discrete}
use lib.Dec.{ltb}
use lib.ListN.{length, drop}
use borrow.Author.Tests.{eqb-true, eq-eqb}
use Rattle.rules.specs.Exactly.{Exactly}
use Rattle.rules.specs.Octets.{Octets}
use Rattle.rules.specs.Prefix.{under, first_bits}
use Rattle.rules.specs.Table.{entries, rules, entry_at, rule_at, policy_at}
use Rattle.rules.specs.Entry as Entry
use Rattle.rules.specs.Rule as Rule
use Rattle.rules.specs.Policy as Policy
use Rattle.rules.specs.Ipv6 as Ipv6
use Rattle.rules.specs.Ipv4 as Ipv4
use Rattle.rules.specs.Gtpu as Gtpu
use Rattle.rules.specs.Match.{entry_matches, entry_bits, rule_matches, rule_bits, match_entry, match_rule}
use Rattle.rules.specs.Sound.{sound, entry_limit}
use Rattle.rules.specs.SoundTable.{SoundTable}
use Rattle.rules.specs.Answer.{Row, row, room_row, place, applies, Decision, in_room}
use Rattle.rules.specs.Header.{header, malformed}
use Rattle.rules.specs.Datagram.{inner_rows, message_rows, g_pdu_rows}
use Rattle.rules.specs.Carried.{carried_by, carried6, carried4}
use Rattle.rules.specs.Srv6.{past_waypoints_payload}
use Rattle.rules.specs.Waypoint.{forwarded, waypoint_rows, step_rows, decide_waypoint}
use Rattle.rules.specs.Echo.{echo_rows, echo_reply6, echo_reply4}
use Rattle.rules.specs.Gtp6D.{gtp6_rows, rows_gtp6d, rows_echo6, decide_g_pdu6, decide_echo6, decide_gtp6d}
use Rattle.rules.specs.D.{last_with_args, d_path, d_packet, decide_d}
use Rattle.rules.specs.Di.{di_path, di_packet, decide_di}
use Rattle.rules.specs.E6.{e6_carried, e6_packet, e6_rows, rows_e6, decide_e6}
use Rattle.rules.specs.E4.{e4_carried, e4_packet, e4_rows, rows_e4, decide_e4}
use Rattle.rules.specs.D4.{d4_packet, gtp4_rows, rows_d4, rows_echo4, decide_g_pdu4, decide_echo4, decide_d4}
use Rattle.rules.specs.Header4.{header4, malformed4, bad_header4}
use Rattle.rules.specs.Calls.{unsound_row, nothing, decide_entry, decide_found_entry, decide_found_rule}
use Rattle.rules.specs.Calls.{front_rows6, front_rows4, rows6, rows4}
use Rattle.rules.specs.Refused.{upper, upper_at, behind, NoEntry, NoRule, Echo, Other, GivenWaypoint, GivenGtp6D}
use Rattle.rules.specs.Refused.{GivenE6, GivenE4, GivenD4, GivenAtEntry, Given6, Given4}
use Rattle.std.specs.Prelude.{Option, Some, None}
use Rattle.rules.proofs.SoundTables.{sound-table}
use Rattle.rules.proofs.Windows.{window-length, octets-drop}
use Rattle.rules.proofs.Longest.{Best, longest-best}
use Rattle.rules.proofs.Tables.{found-d, found-di, found-rule}
use Rattle.rules.proofs.NearGtp6D.{carried6_valid}
use Rattle.rules.proofs.NearD4.{carried4_valid}
use Rattle.rules.proofs.Paths.{addresses_at-length}
use Rattle.rules.proofs.PathFields.{path_length, d_written, di_written}
use Rattle.rules.proofs.D4Fields.{d4_written}
use Rattle.rules.proofs.Smallest.{early}
use Rattle.rules.proofs.AnswerTable.{entry_tabled}
use Rattle.rules.proofs.Exact.{only, only_not, over}
use Rattle.rules.proofs.FarE6.{e6-length}
use Rattle.rules.proofs.FarE4.{e4-length}
use Rattle.rules.proofs.SentFields.{e6_carried_valid, e4_carried_valid}
use Rattle.rules.proofs.Fields.{waypoint_written}
use Rattle.rules.proofs.Refusals.{row_2, row_2_ipv4, row_3, row_5, row_5_e6, row_6, row_7, row_7_e6, row_7_waypoint, row_8_waypoint}
use Rattle.rules.proofs.Refusals.{row_8_session}
use Rattle.rules.proofs.DatagramRefusals.{row_8, row_9, row_10, row_11, row_17, row_12, row_13, row_14}
use Rattle.rules.proofs.DatagramRefusals.{row_18}
use Rattle.rules.proofs.Echoes.{echo_decides6, other_decides6, echo_decides4, other_decides4, reply6-size, reply4-size}

-- a limit and a number said otherwise
over_as : (a b c : ℕ) → b ≡ c → Exactly (ltb a b || false) (a < c)
over_as a b c e = subst (λ (n : ℕ). Exactly (ltb a b || false) (a < n)) e (over a b)

-- a statement that is made under a condition: where that holds, and where it does not
where_true : {C P : Type 0} {b : Bool} → C → Exactly b P → Exactly b (C × P)
where_true {C} {P} c (f, g) = (λ h. (c, f h), λ (s : C × P). g s.1)

where_false : {C P : Type 0} → (C → ⊥) → Exactly false (C × P)
where_false {C} {P} n = (λ h. absurd (true≢false (sym h)), λ (s : C × P). absurd (n s.0))

-- rows 1, 2 and 4, those of an entry, and row 16
module _ (p t : List ℕ) (room : ℕ) where
  abbrev rows_with : Decision → List Row
  rows_with d = unsound_row t ∷ row (malformed (header p)) 2 ∷ row (false ∷ []) 4 ∷ (in_room room d).rows

  waypoint-given : GivenWaypoint p room (λ n. applies n (rows_with (decide_waypoint p)))
  unfolding waypoint_rows step_rows header
  waypoint-given = record {
    row5 = row_5 p;
    row6 = row_6 p;
    row7 = row_7_waypoint p;
    row8 = row_8_waypoint p;
    row16 = λ h. over_as room (length (forwarded p)) (length p) (waypoint_written p (omega arith)).size;
    never = (refl, (refl, (refl, (refl, (refl, (refl, (refl, (refl, (refl, (refl, tt))))))))));
  }

  -- D and Di, for an Echo Request, for any other message, and by its type
  echo6-given : (e : List ℕ) (segments : ℕ) → Octets p → Echo (behind p)
      → GivenGtp6D e p segments room (λ n. applies n (rows_with (decide_echo6 e p)))
  unfolding rows_echo6 gtp6_rows message_rows echo_rows header echo_reply6
  echo6-given e segments o t =
      let u = behind p in
      record {
        row5 = row_5 p;
        row7 = row_7 p;
        row8 = row_8 u (upper p);
        row18 = λ h. row_18 e p u o (octets-drop p (upper_at p) o) h;
        datagram = record {
          row9 = row_9 u;
          row10 = row_10 u;
          row17 = where_true t (row_17 u);
          row11 = where_false (λ n. n t);
          row12 = where_false (λ n. n t);
          row13 = where_false (λ n. n t);
          row14 = where_false (λ n. n t);
        };
        row15 = where_false (λ n. n t);
        row16 = λ n. absurd (n t);
        row16_echo = λ h. over_as room (length (echo_reply6 e p)) 62 (reply6-size e p);
        never = (refl, (refl, tt));
      }

  g_pdu6_given : (e made : List ℕ) (path : List (List ℕ)) (segments : ℕ) → Octets p → Other (behind p) → length path ≡ segments
      → length made ≡ 40 + (8 + 16 * segments + length (carried6 p).inner)
      → GivenGtp6D e p segments room (λ n. applies n (rows_with (decide_g_pdu6 e path made p)))
  unfolding rows_gtp6d gtp6_rows message_rows g_pdu_rows inner_rows header carried6 carried_by
  g_pdu6_given e made path segments o other hl hm =
      let u = behind p in
      let inner = Gtpu.inner_of u in
      record {
        row5 = row_5 p;
        row7 = row_7 p;
        row8 = row_8 u (upper p);
        row18 = λ h. row_18 e p u o (octets-drop p (upper_at p) o) h;
        datagram = record {
          row9 = row_9 u;
          row10 = row_10 u;
          row17 = where_false other;
          row11 = where_true other (row_11 u);
          row12 = where_true other (row_12 u);
          row13 = where_true other (row_13 u (Entry.direction e));
          row14 = where_true other (row_14 (Entry.session e) inner);
        };
        row15 = where_true other (over_as 65535 (8 + 16 * length path + length inner) (8 + 16 * segments + length inner) (omega arith));
        row16 = λ n. over_as room (length made) (48 + 16 * segments + length inner) (omega arith);
        row16_echo = λ t. absurd (other t);
        never = (refl, (refl, tt));
      }

  gtp6_given : (e made : List ℕ) (path : List (List ℕ)) (segments : ℕ) → Octets p → length path ≡ segments
      → length made ≡ 40 + (8 + 16 * segments + length (carried6 p).inner)
      → GivenGtp6D e p segments room (λ n. applies n (rows_with (decide_gtp6d e path made p)))
  unfolding header
  gtp6_given e made path segments o hl hm = go (ℕ_discrete (Gtpu.message_type (behind p)) 1)
    where
      there : (d : Decision) → decide_gtp6d e path made p ≡ d → GivenGtp6D e p segments room (λ n. applies n (rows_with d))
          → GivenGtp6D e p segments room (λ n. applies n (rows_with (decide_gtp6d e path made p)))
      there d q h = subst (λ (d : Decision). GivenGtp6D e p segments room (λ n. applies n (rows_with d))) (sym q) h

      go : Dec (Echo (behind p)) → GivenGtp6D e p segments room (λ n. applies n (rows_with (decide_gtp6d e path made p)))
      go (yes t) = there (decide_echo6 e p) (echo_decides6 e path made p t) (echo6-given e segments o t)
      go (no n) = there (decide_g_pdu6 e path made p) (other_decides6 e path made p n) (g_pdu6_given e made path segments o n hl hm)

  e6-given : (e : List ℕ) → Octets p → GivenE6 e p room (λ n. applies n (rows_with (decide_e6 e p)))
  unfolding rows_e6 e6_rows header e6_carried
  e6-given e o = record {
    row5 = row_5_e6 p;
    row7 = row_7_e6 p;
    row8 = row_8_session (Entry.session e) (upper p);
    row15 = over 65535 (24 + length (behind p));
    row16 =
        let c = e6_carried e p in
        over_as room (length (e6_packet e c)) (64 + length (behind p)) (e6-length e c (e6_carried_valid e p o));
    never = (refl, (refl, (refl, (refl, (refl, (refl, (refl, (refl, (refl, (refl, tt))))))))));
  }

  e4-given : (e : List ℕ) → Octets p → GivenE4 e p room (λ n. applies n (rows_with (decide_e4 e p)))
  unfolding rows_e4 e4_rows header e4_carried
  e4-given e o = record {
    row5 = row_5 p;
    row7 = row_7 p;
    row8 = row_8_session (Entry.session e) (upper p);
    row15 = over 65535 (44 + length (behind p));
    row16 =
        let c = e4_carried e p in
        let l = window-length (Ipv6.source p) (Entry.q e) 4 in
        over_as room (length (e4_packet e c)) (44 + length (behind p)) (e4-length e c (e4_carried_valid e p o) l);
    never = (refl, (refl, (refl, (refl, (refl, (refl, (refl, (refl, (refl, (refl, tt))))))))));
  }

  -- the rows of the call, where an entry is found
  rows_found : (i : ℕ) (d : Decision) → match_entry t (Ipv6.destination p) ≡ Some i → decide_entry t (entry_at t i) p ≡ d
      → rows6 p t room ≡ rows_with d
  unfolding rows6 front_rows6 decide_found_entry
  rows_found i d m e = ap rows_at m ∙ ap rows_with e
    where
      rows_at : Option ℕ → List Row
      rows_at f = let d = decide_found_entry t p f in (front_rows6 t (header p) ++ d.rows) ++ room_row room d.packet ∷ []

  module _ (o : Octets p) (i : ℕ) (s : sound t ≡ true) (m : match_entry t (Ipv6.destination p) ≡ Some i) where
    there : (P : (ℕ → Bool) → Type 0) (d : Decision) → decide_entry t (entry_at t i) p ≡ d
        → P (λ n. applies n (rows_with d)) → P (λ n. applies n (rows6 p t room))
    there P d e h = subst (λ (rs : List Row). P (λ n. applies n rs)) (sym (rows_found i d m e)) h

    entry-given : GivenAtEntry t (entry_at t i) p room (λ n. applies n (rows6 p t room))
    unfolding decide_entry d_path di_path
    entry-given =
        let e = entry_at t i in
        let y = policy_at t (Entry.policy e) in
        let n = Policy.sid_count y in
        let c = carried6 p in
        let v = carried6_valid p o in
        let to = Ipv6.destination p in
        record {
          waypoint = λ b. there (GivenWaypoint p room) (decide_waypoint p) (rw b) waypoint-given;
          d = λ b.
              let q = (found-d entry_limit t to i s m b).policy in
              let l = path_length y 16 (n - 1) (last_with_args y c.args) [] in
              let w = d_written e y c v q.least q.start in
              there (GivenGtp6D e p n room) (decide_d e y p) (rw b)
              (gtp6_given e (d_packet e y c) (d_path y c) n o (l ∙ omega (arith, q.least)) w.ipv6.size);
          di = λ b.
              let q = (found-di entry_limit t to i s m b).policy in
              let l = path_length y 16 (n - 1) (last_with_args y c.args) (c.destination ∷ []) in
              let w = di_written e y c v q.least q.start in
              there (GivenGtp6D e p (n + 1) room) (decide_di e y p) (rw b)
              (gtp6_given e (di_packet e y c) (di_path y c) (n + 1) o (l ∙ omega (arith, q.least)) w.ipv6.size);
          e6 = λ b. there (GivenE6 e p room) (decide_e6 e p) (rw b) (e6-given e o);
          e4 = λ b. there (GivenE4 e p room) (decide_e4 e p) (rw b) (e4-given e o);
        }

-- ROW 4

best-entry : (t to : List ℕ) → Best (entry_matches t to) (entry_bits t) (entries t) (match_entry t to)
unfolding match_entry
best-entry t to = longest-best (entry_matches t to) (entry_bits t) (entries t)

best-rule : (t to : List ℕ) → Best (rule_matches t to) (rule_bits t) (rules t) (match_rule t to)
unfolding match_rule
best-rule t to = longest-best (rule_matches t to) (rule_bits t) (rules t)

row_4 : (p t : List ℕ) (found : Option ℕ) → Best (entry_matches t (Ipv6.destination p)) (entry_bits t) (entries t) found
    → Exactly (nothing found) (NoEntry p t)
unfolding under first_bits
row_4 p t None b = (λ h i l e. b i l (eq-eqb _ _ e), λ h. refl)
row_4 p t (Some i) b = (λ h. absurd (true≢false (sym h)), λ n. absurd (n i b.below (eqb-true _ _ b.hit)))

row_4_ipv4 : (p t : List ℕ) (found : Option ℕ) → Best (rule_matches t (Ipv4.destination p)) (rule_bits t) (rules t) found
    → Exactly (nothing found) (NoRule p t)
unfolding under first_bits
row_4_ipv4 p t None b = (λ h k l e. b k l (eq-eqb _ _ e), λ h. refl)
row_4_ipv4 p t (Some k) b = (λ h. absurd (true≢false (sym h)), λ n. absurd (n k b.below (eqb-true _ _ b.hit)))

-- row 1
row_1 : (t : List ℕ) → Octets t → Exactly (not (sound t) || false) (SoundTable t → ⊥)
row_1 t o = only_not (sound t) (SoundTable t) (sound-table t o)

only_nothing : (found : Option ℕ) (P : Type 0) → Exactly (nothing found) P → Exactly (nothing found || false) P
only_nothing found P (f, g) = only (nothing found) P f g

-- THE CALLS

pub given_when6 : (p t : List ℕ) (room : ℕ) → Octets p → Octets t → Given6 p t room (λ n. applies n (rows6 p t room))
unfolding rows6 front_rows6 decide_found_entry place
given_when6 p t room op ot =
    let to = Ipv6.destination p in
    let f = match_entry t to in
    record {
      row1 = row_1 t ot;
      row2 = row_2 p;
      never = (third f, tt);
      row4 = fourth f (best-entry t to);
      matched = λ s i m. entry-given p t room op i ((sound-table t ot).1 s) m;
    }
  where
    third : (f : Option ℕ) → applies 3 ((decide_found_entry t p f).rows ++ room_row room (decide_found_entry t p f).packet ∷ []) ≡ false
    third None = refl
    third (Some i) = early (in_room room (decide_entry t (entry_at t i) p)).rows 4 3 (entry_tabled p t room (entry_at t i)).order
        (omega arith)

    fourth : (f : Option ℕ) → Best (entry_matches t (Ipv6.destination p)) (entry_bits t) (entries t) f
        → Exactly (applies 4 ((decide_found_entry t p f).rows ++ room_row room (decide_found_entry t p f).packet ∷ [])) (NoEntry p t)
    fourth None b = only_nothing None (NoEntry p t) (row_4 p t None b)
    fourth (Some i) b = only_nothing (Some i) (NoEntry p t) (row_4 p t (Some i) b)

-- OVER IPV4

past_payload : (ws : List (List ℕ)) (inner : List ℕ) (n : ℕ) → length ws ≡ n → 0 < n
    → past_waypoints_payload ws inner ≡ 8 + 16 * (n + 1) + length inner
past_payload [] inner n e h = absurd (omega arith)
past_payload (w ∷ ws) inner n e h = omega arith

plain_payload : (ws : List (List ℕ)) (inner : List ℕ) → length ws ≡ 0 → past_waypoints_payload ws inner ≡ length inner
plain_payload [] inner e = refl
plain_payload (w ∷ ws) inner e = absurd (omega arith)

module _ (r p t : List ℕ) (room : ℕ) where
  abbrev rows_with4 : Decision → List Row
  rows_with4 d =
      unsound_row t ∷ row (malformed4 (header4 p)) 2 ∷ row (bad_header4 (header4 p)) 3 ∷ row (false ∷ []) 4 ∷ (in_room room d).rows

  echo4-given : Echo (drop 20 p) → GivenD4 r p room (λ n. applies n (rows_with4 (decide_echo4 r p)))
  unfolding rows_echo4 gtp4_rows message_rows echo_rows header4 echo_reply4
  echo4-given t =
      let u = drop 20 p in
      record {
        row8 = row_8 u (Ipv4.protocol p);
        datagram = record {
          row9 = row_9 u;
          row10 = row_10 u;
          row17 = where_true t (row_17 u);
          row11 = where_false (λ n. n t);
          row12 = where_false (λ n. n t);
          row13 = where_false (λ n. n t);
          row14 = where_false (λ n. n t);
        };
        row15_past = λ h. where_false (λ n. n t);
        row16_past = λ n h. absurd (n t);
        row15_plain = λ h. where_false (λ n. n t);
        row16_plain = λ n h. absurd (n t);
        row16_echo = λ h. over_as room (length (echo_reply4 r p)) 42 (reply4-size r p);
        never = (refl, (refl, (refl, (refl, tt))));
      }

  g_pdu4_given : Other (drop 20 p) → Octets p → Rule.p r ≤ 7 → Rule.q r ≤ 12
      → GivenD4 r p room (λ n. applies n (rows_with4 (decide_g_pdu4 r p)))
  unfolding rows_d4 gtp4_rows message_rows g_pdu_rows inner_rows header4 carried4 carried_by
  g_pdu4_given other o hp hq =
      let u = drop 20 p in
      let inner = Gtpu.inner_of u in
      let n = Rule.waypoint_count r in
      let c = carried4 p in
      let w = d4_written r c (carried4_valid p o) (window-length p 12 4) hp hq in
      let ws = Rule.waypoints r in
      let payload = past_waypoints_payload ws inner in
      let ln = addresses_at-length r 48 n in
      record {
        row8 = row_8 u (Ipv4.protocol p);
        datagram = record {
          row9 = row_9 u;
          row10 = row_10 u;
          row17 = where_false other;
          row11 = where_true other (row_11 u);
          row12 = where_true other (row_12 u);
          row13 = where_true other (row_13 u (Rule.direction r));
          row14 = where_true other (row_14 (Rule.session r) inner);
        };
        row15_past = λ h. where_true other (over_as 65535 payload (8 + 16 * (n + 1) + length inner) (past_payload ws inner n ln h));
        row16_past = λ e h. over_as room (length (d4_packet r c)) (48 + 16 * (n + 1) + length inner) ((w.past h).ipv6.size ∙ omega arith);
        row15_plain = λ h. where_true other (over_as 65535 payload (length inner) (plain_payload ws inner (ln ∙ h)));
        row16_plain = λ e h. over_as room (length (d4_packet r c)) (40 + length inner) (w.plain h).ipv6.size;
        row16_echo = λ t. absurd (other t);
        never = (refl, (refl, (refl, (refl, tt))));
      }

  d4_given : Octets p → Rule.p r ≤ 7 → Rule.q r ≤ 12 → GivenD4 r p room (λ n. applies n (rows_with4 (decide_d4 r p)))
  d4_given o hp hq = go (ℕ_discrete (Gtpu.message_type (drop 20 p)) 1)
    where
      there : (d : Decision) → decide_d4 r p ≡ d → GivenD4 r p room (λ n. applies n (rows_with4 d))
          → GivenD4 r p room (λ n. applies n (rows_with4 (decide_d4 r p)))
      there d q h = subst (λ (d : Decision). GivenD4 r p room (λ n. applies n (rows_with4 d))) (sym q) h

      go : Dec (Echo (drop 20 p)) → GivenD4 r p room (λ n. applies n (rows_with4 (decide_d4 r p)))
      go (yes t) = there (decide_echo4 r p) (echo_decides4 r p t) (echo4-given t)
      go (no n) = there (decide_g_pdu4 r p) (other_decides4 r p n) (g_pdu4_given n o hp hq)

pub given_when4 : (p t : List ℕ) (room : ℕ) → Octets p → Octets t → Given4 p t room (λ n. applies n (rows4 p t room))
unfolding rows4 front_rows4 decide_found_rule
given_when4 p t room op ot =
    let to = Ipv4.destination p in
    record {
      row1 = row_1 t ot;
      row2 = row_2_ipv4 p;
      row3 = row_3 p op;
      row4 = fourth (match_rule t to) (best-rule t to);
      matched = λ s k m.
          let q = found-rule entry_limit t to k ((sound-table t ot).1 s) m in
          let g = d4_given (rule_at t k) p t room op q.p q.q in
          subst (λ (rs : List Row). GivenD4 (rule_at t k) p room (λ n. applies n rs)) (sym (found k m)) g;
    }
  where
    fourth : (f : Option ℕ) → Best (rule_matches t (Ipv4.destination p)) (rule_bits t) (rules t) f
        → Exactly (applies 4 ((decide_found_rule t p f).rows ++ room_row room (decide_found_rule t p f).packet ∷ [])) (NoRule p t)
    fourth None b = only_nothing None (NoRule p t) (row_4_ipv4 p t None b)
    fourth (Some k) b = only_nothing (Some k) (NoRule p t) (row_4_ipv4 p t (Some k) b)

    found : (k : ℕ) → match_rule t (Ipv4.destination p) ≡ Some k → rows4 p t room
        ≡ rows_with4 (rule_at t k) p t room (decide_d4 (rule_at t k) p)
    found k m = ap rows_at m
      where
        rows_at : Option ℕ → List Row
        rows_at f = let d = decide_found_rule t p f in (front_rows4 t (header4 p) ++ d.rows) ++ room_row room d.packet ∷ []
