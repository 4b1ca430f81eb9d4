-- Every packet that a call sends has the fields of "What is written", and fits the room.
use mathlib.Core.Path.{◌≡◌, refl, sym, ◌∙◌}
use mathlib.Core.Bool.{true}
use mathlib.Core.List.{List, [], ◌∷◌}
use Prim.Native.Nat.{ℕ, ◌+◌, ◌*◌, ◌/◌, ◌≤◌, ◌<◌}
use native.Mathlib.Omega.{arith}
use lib.Dec.{ltb}
use lib.ListN.{length}
use borrow.Author.Tests.{not-false}
use Rattle.rules.specs.Octets.{Octets}
use Rattle.rules.specs.Table.{policies, entry_at, rule_at, policy_at}
use Rattle.rules.specs.Entry as Entry
use Rattle.rules.specs.Rule as Rule
use Rattle.rules.specs.Ipv6 as Ipv6
use Rattle.rules.specs.Ipv4 as Ipv4
use Rattle.rules.specs.Srh as Srh
use Rattle.rules.specs.Gtpu as Gtpu
use Rattle.rules.specs.Args.{args_at}
use Rattle.rules.specs.Sound.{sound, entry_limit, entry_sound, behaviour_known, direction_known}
use Rattle.rules.specs.Match.{match_entry, match_rule}
use Rattle.rules.specs.Answer.{Decision, Sent, unless, outcome, in_room, room_row, length_row}
use Rattle.rules.specs.Header.{header, malformed, has_srh, bad_chain}
use Rattle.rules.specs.Carried.{carried6, carried4}
use Rattle.rules.specs.Gtp6D.{decide_gtp6d}
use Rattle.rules.specs.Waypoint.{forwarded, underway, waypoint_rows, step_rows, at_waypoint}
use Rattle.rules.specs.D.{d_path, d_packet, at_d}
use Rattle.rules.specs.Di.{di_path, di_packet, at_di}
use Rattle.rules.specs.E6.{e6_carried, e6_payload, e6_packet, e6_rows, rows_e6, at_e6}
use Rattle.rules.specs.E4.{start_behind, e4_carried, e4_total_length, e4_packet, e4_rows, rows_e4, at_e4}
use Rattle.rules.specs.D4.{d4_packet, rows_d4, at_d4}
use Rattle.rules.specs.Header4.{header4}
use Rattle.rules.specs.Calls.{front_rows6, front_rows4, at_found_entry, at_found_rule, decide6}
use Rattle.rules.specs.Calls.{decide4, rows6, rows4, translate6, translate4}
use Rattle.rules.specs.Refused.{behind}
use Rattle.rules.specs.Written.{WrittenWaypoint, WrittenD, WrittenDi, WrittenE6, WrittenE4, WrittenEcho6}
use Rattle.rules.specs.Sent.{Taken, SentAtEntry, SentAtRule}
use Rattle.std.specs.Prelude.{Option, Some, None}
use Rattle.rules.proofs.Windows.{window-length, octets-window}
use Rattle.rules.proofs.Conditions.{and_left, conjunct}
use Rattle.rules.proofs.Rows.{Clear, read, none_back, unless-sent, sent-settle}
use Rattle.rules.proofs.SoundTables.{octets-entry}
use Rattle.rules.proofs.Tables.{found-entry, found-d, found-di, found-e6, found-rule}
use Rattle.rules.specs.SoundRecord.{SoundPolicy}
use Rattle.rules.proofs.Deciding.{settled6, settled4, at_found-entry, at_found-rule, at_no_entry, at_no_rule}
use Rattle.rules.proofs.Entries.{at_waypoint_lem, at_d_lem, at_di_lem, at_e6_lem, at_e4_lem}
use Rattle.rules.proofs.Sids.{Fits}
use Rattle.rules.proofs.FarE6.{Valid}
use Rattle.rules.proofs.E6Checksums.{e6_carried-octets, direction_small}
use Rattle.rules.proofs.NearGtp6D.{sent_passed, carried6_valid}
use Rattle.rules.proofs.NearD4.{carried4_valid, carried4-source, g_pdu_at_d4}
use Rattle.rules.proofs.Echoes.{taken6, taken4, echo_sent6, echo_sent4, echo6_written, echo4_written}
use Rattle.rules.proofs.Fields.{e6_written, e4_written, waypoint_written}
use Rattle.rules.proofs.PathFields.{d_written, di_written}
use Rattle.rules.proofs.D4Fields.{d4_written}

-- WHAT E6 AND E4 READ

args_fits : (sid : List ℕ) (start : ℕ) → Fits (args_at sid start)
unfolding args_at
args_fits sid start = record { flow = omega arith; bit = omega arith; tunnel = window-length sid (start / 8 + 1) 4 }

pub e6_carried_valid : (e p : List ℕ) → Octets p → Valid 16 (e6_carried e p)
unfolding e6_carried Srh.segment
e6_carried_valid e p o = record {
  octet = omega (arith, o 1);
  to = window-length p 48 16;
  args = args_fits (Ipv6.destination p) (Entry.start e);
}

pub e4_carried_valid : (e p : List ℕ) → Octets p → Valid 4 (e4_carried e p)
unfolding e4_carried
e4_carried_valid e p o = record {
  octet = omega (arith, o 1);
  to = window-length (Ipv6.destination p) (Entry.p e) 4;
  args = args_fits (Ipv6.destination p) (start_behind (Entry.p e));
}

-- AT EACH BEHAVIOUR

waypoint-sent : (p x : List ℕ) → at_waypoint p ≡ Sent x → WrittenWaypoint p x
unfolding at_waypoint waypoint_rows step_rows header
waypoint-sent p x h =
    let (n, k) = unless-sent (waypoint_rows (header p)) (Sent (forwarded p)) x h in
    let u : underway (Srh.segments_left p) (header p) ≡ true = not-false (underway (Srh.segments_left p) (header p)) n.1.1.1.0.0 in
    let s : has_srh (header p) ≡ true = and_left (has_srh (header p)) (ltb 0 (Srh.segments_left p)) u in
    let c : Clear (bad_chain (header p)) = n.0 in
    let b = rw s at c in
    let q : forwarded p ≡ x = cc in
    rw q at (waypoint_written p (omega (read, b)))

module _ (e y p x : List ℕ) (o : Octets p) (s : SoundPolicy y) (front : Clear (malformed (header p))) where
  d-sent : Gtpu.message_type (behind p) ≡ 255 → at_d e y p ≡ Sent x → WrittenD e y (carried6 p) x
  unfolding at_d header
  d-sent t h =
      let (n, q) = sent_passed e (d_path y (carried6 p)) (d_packet e y (carried6 p)) p x t front h in
      rw q at (d_written e y (carried6 p) (carried6_valid p o) s.least s.start)

  di-sent : Gtpu.message_type (behind p) ≡ 255 → at_di e y p ≡ Sent x → WrittenDi e y (carried6 p) x
  unfolding at_di header
  di-sent t h =
      let (n, q) = sent_passed e (di_path y (carried6 p)) (di_packet e y (carried6 p)) p x t front h in
      rw q at (di_written e y (carried6 p) (carried6_valid p o) s.least s.start)

-- Echo Requests at D and Di, along whatever path
module _ (e : List ℕ) (path : List (List ℕ)) (made p x : List ℕ) (h : outcome (decide_gtp6d e path made p) ≡ Sent x) where
  taken-behind : Taken (behind p)
  unfolding header
  taken-behind = taken6 e path made p x h

  echo6-sent : Octets p → Gtpu.message_type (behind p) ≡ 1 → WrittenEcho6 e p (behind p) x
  unfolding header
  echo6-sent o t = rw (echo_sent6 e path made p x t h) at (echo6_written e p o)

e6-sent : (e p x : List ℕ) → Octets p → Octets e → direction_known (Entry.direction e) ≡ true → at_e6 e p ≡ Sent x
    → WrittenE6 e (e6_carried e p) x
unfolding at_e6 rows_e6
e6-sent e p x o oe d h =
    let (n, k) = unless-sent (rows_e6 e p) (Sent (e6_packet e (e6_carried e p))) x h in
    let m = none_back (e6_rows e (header p)) (length_row (e6_payload (e6_carried e p).inner) ∷ []) n in
    let q : e6_packet e (e6_carried e p) ≡ x = cc in
    rw q at
    (e6_written e (e6_carried e p) (e6_carried_valid e p o) (e6_carried-octets e p o) oe (direction_small (Entry.direction e) d)
    (omega (read, m)))

e4-sent : (e p x : List ℕ) → Octets p → Entry.hop_limit e < 256 → at_e4 e p ≡ Sent x → WrittenE4 e (e4_carried e p) x
unfolding at_e4 rows_e4 e4_carried
e4-sent e p x o ttl h =
    let (n, k) = unless-sent (rows_e4 e p) (Sent (e4_packet e (e4_carried e p))) x h in
    let m = none_back (e4_rows e (header p)) (length_row (e4_total_length (e4_carried e p).inner) ∷ []) n in
    let q : e4_packet e (e4_carried e p) ≡ x = cc in
    let from = Ipv6.source p in
    let to = Ipv6.destination p in
    rw q at
    (e4_written e (e4_carried e p) (e4_carried_valid e p o) (window-length from (Entry.q e) 4)
    (octets-window from (Entry.q e) 4 (octets-window p 8 16 o)) (octets-window to (Entry.p e) 4 (octets-window p 24 16 o)) ttl
    (omega (read, m)))

d4_sent : (r p x : List ℕ) → Octets p → Rule.p r ≤ 7 → Rule.q r ≤ 12 → Rule.hop_limit r < 256 → at_d4 r p ≡ Sent x → SentAtRule r p x
unfolding at_d4
d4_sent r p x o hp hq ttl h = record {
  taken = taken4 r p x h;
  d4 = λ t.
      let (n, k) = unless-sent (rows_d4 r p) (Sent (d4_packet r (carried4 p))) x (sym (g_pdu_at_d4 r p t) ∙ h) in
      let q : d4_packet r (carried4 p) ≡ x = cc in
      rw q at (d4_written r (carried4 p) (carried4_valid p o) (rw (carried4-source p) (window-length p 12 4)) hp hq);
  echo = λ t. rw (echo_sent4 r p x t h) at (echo4_written r p o ttl);
}

-- THE CALLS

entry_known : (policies : ℕ) (e : List ℕ) → entry_sound policies e ≡ true → behaviour_known e ≡ true
unfolding entry_sound
entry_known policies e h = search conjunct depth 20

entry-ttl : (t : List ℕ) (i : ℕ) → Octets t → Entry.hop_limit (entry_at t i) < 256
unfolding entry_at
entry-ttl t i o = octets-window t (16 + 64 * i) 64 o 2

rule-ttl : (t : List ℕ) (k : ℕ) → Octets t → Rule.hop_limit (rule_at t k) < 256
unfolding rule_at
rule-ttl t k o = octets-window t _ 160 o 1

pub sent6_written : (p t : List ℕ) (room : ℕ) (x : List ℕ) → Octets p → Octets t → translate6 p t room ≡ Sent x
    → (i : ℕ) × ((match_entry t (Ipv6.destination p) ≡ Some i) × SentAtEntry t (entry_at t i) p x)
unfolding front_rows6 at_d at_di
sent6_written p t room x op ot h =
    let to = Ipv6.destination p in
    let rest = at_found_entry t p (match_entry t to) in
    let rows = front_rows6 t (header p) in
    let (n, k) = unless-sent rows rest x (sent-settle room (unless rows rest) x (sym (settled6 p t room) ∙ h)) in
    found (not-false (sound t) n.0.0) n.1.0 (match_entry t to) refl k
  where
    found : sound t ≡ true → Clear (malformed (header p)) → (f : Option ℕ) → match_entry t (Ipv6.destination p) ≡ f
        → at_found_entry t p f ≡ Sent x
        → (i : ℕ) × ((match_entry t (Ipv6.destination p) ≡ Some i) × SentAtEntry t (entry_at t i) p x)
    found s front None m h = let no = sym (at_no_entry t p) ∙ h in let z : ◌≡◌ {A = ℕ} 0 1 = cc in absurd (omega arith)
    found s front (Some i) m h =
        let k = sym (at_found-entry t p i) ∙ h in
        let to = Ipv6.destination p in
        let e = entry_at t i in
        let y = policy_at t (Entry.policy e) in
        let c = carried6 p in (
          i,
          (
            m,
            record {
              known = entry_known (policies t) e (found-entry entry_limit t to i s m);
              waypoint = λ b. waypoint-sent p x (sym (at_waypoint_lem t e p b) ∙ k);
              d = λ b q. d-sent e y p x op (found-d entry_limit t to i s m b).policy front q (sym (at_d_lem t e p b) ∙ k);
              di = λ b q. di-sent e y p x op (found-di entry_limit t to i s m b).policy front q (sym (at_di_lem t e p b) ∙ k);
              e6 = λ b.
                  e6-sent e p x op (octets-entry t ot i) (found-e6 entry_limit t to i s m b).direction (sym (at_e6_lem t e p b) ∙ k);
              e4 = λ b. e4-sent e p x op (entry-ttl t i ot) (sym (at_e4_lem t e p b) ∙ k);
              taken_d = λ b. taken-behind e (d_path y c) (d_packet e y c) p x (sym (at_d_lem t e p b) ∙ k);
              taken_di = λ b. taken-behind e (di_path y c) (di_packet e y c) p x (sym (at_di_lem t e p b) ∙ k);
              echo_d = λ b. echo6-sent e (d_path y c) (d_packet e y c) p x (sym (at_d_lem t e p b) ∙ k) op;
              echo_di = λ b. echo6-sent e (di_path y c) (di_packet e y c) p x (sym (at_di_lem t e p b) ∙ k) op;
            },
          ),
        )

pub sent4_written : (p t : List ℕ) (room : ℕ) (x : List ℕ) → Octets p → Octets t → translate4 p t room ≡ Sent x
    → (k : ℕ) × ((match_rule t (Ipv4.destination p) ≡ Some k) × SentAtRule (rule_at t k) p x)
unfolding front_rows4
sent4_written p t room x op ot h =
    let to = Ipv4.destination p in
    let rest = at_found_rule t p (match_rule t to) in
    let rows = front_rows4 t (header4 p) in
    let (n, k) = unless-sent rows rest x (sent-settle room (unless rows rest) x (sym (settled4 p t room) ∙ h)) in
    found (not-false (sound t) n.0.0) (match_rule t to) refl k
  where
    found : sound t ≡ true → (f : Option ℕ) → match_rule t (Ipv4.destination p) ≡ f → at_found_rule t p f ≡ Sent x
        → (k : ℕ) × ((match_rule t (Ipv4.destination p) ≡ Some k) × SentAtRule (rule_at t k) p x)
    found s None m h = let no = sym (at_no_rule t p) ∙ h in let z : ◌≡◌ {A = ℕ} 0 1 = cc in absurd (omega arith)
    found s (Some j) m h =
        let good = found-rule entry_limit t (Ipv4.destination p) j s m in
        (j, (m, d4_sent (rule_at t j) p x op good.p good.q (rule-ttl t j ot) (sym (at_found-rule t p j) ∙ h)))

-- THE ROOM

room_size : (room : ℕ) (d : Decision) (x : List ℕ) → outcome (in_room room d) ≡ Sent x → length x ≤ room
room_size room d x h =
    let (n, k) = unless-sent (in_room room d).rows (Sent d.packet) x h in
    let m = none_back d.rows (room_row room d.packet ∷ []) n in
    let q : d.packet ≡ x = cc in
    let l : length d.packet ≤ room = omega (read, m) in
    rw q at l

pub sent6_size : (p t : List ℕ) (room : ℕ) (x : List ℕ) → translate6 p t room ≡ Sent x → length x ≤ room
unfolding translate6 rows6
sent6_size p t room x h = room_size room (decide6 p t) x h

pub sent4_size : (p t : List ℕ) (room : ℕ) (x : List ℕ) → translate4 p t room ≡ Sent x → length x ≤ room
unfolding translate4 rows4
sent4_size p t room x h = room_size room (decide4 p t) x h
