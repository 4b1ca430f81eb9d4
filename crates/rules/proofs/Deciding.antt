-- What a call decides by its one list of rows is what it decides part by part: rows in front, the record that is found, the room.
use mathlib.Core.Path.{◌≡◌, refl, sym, ap, ◌∙◌}
use mathlib.Core.List.{List, [], ◌∷◌}
use Prim.Native.Nat.{ℕ}
use Rattle.rules.specs.Table.{entry_at, rule_at}
use Rattle.rules.specs.Ipv6 as Ipv6
use Rattle.rules.specs.Ipv4 as Ipv4
use Rattle.rules.specs.Match.{match_entry, match_rule}
use Rattle.rules.specs.Answer.{plain, room_row, verdict, Decision, Sent, Refused, after, unless, outcome, in_room, settle, Verdict}
use Rattle.rules.specs.Header.{header}
use Rattle.rules.specs.D4.{at_d4}
use Rattle.rules.specs.Header4.{header4}
use Rattle.rules.specs.Calls.{at_entry, decide_found_entry, decide_found_rule, at_found_entry, at_found_rule, front_rows6}
use Rattle.rules.specs.Calls.{front_rows4, decide6, decide4, rows6, rows4, translate6, translate4}
use Rattle.std.specs.Prelude.{Some, None, Ok, Err}
use Rattle.rules.proofs.Judging.{unless-append}

-- row 16 behind the others
pub settle-outcome : (room : ℕ) (d : Decision) → settle room (outcome d) ≡ outcome (in_room room d)
unfolding settle
settle-outcome room d = go (verdict d.rows) ∙ sym (unless-append d.rows (room_row room d.packet ∷ []) (Sent d.packet))
  where
    go : (v : Verdict) → settle room (after v (Sent d.packet)) ≡ after v (unless (room_row room d.packet ∷ []) (Sent d.packet))
    go (Ok tt) = refl
    go (Err r) = refl

-- the calls
pub settled6 : (p t : List ℕ) (room : ℕ)
    → translate6 p t room ≡ settle room (unless (front_rows6 t (header p)) (at_found_entry t p (match_entry t (Ipv6.destination p))))
unfolding translate6 rows6 at_found_entry
settled6 p t room =
    let d = decide_found_entry t p (match_entry t (Ipv6.destination p)) in
    sym (settle-outcome room (decide6 p t)) ∙ ap (settle room) (unless-append (front_rows6 t (header p)) d.rows (Sent d.packet))

pub settled4 : (p t : List ℕ) (room : ℕ)
    → translate4 p t room ≡ settle room (unless (front_rows4 t (header4 p)) (at_found_rule t p (match_rule t (Ipv4.destination p))))
unfolding translate4 rows4 at_found_rule
settled4 p t room =
    let d = decide_found_rule t p (match_rule t (Ipv4.destination p)) in
    sym (settle-outcome room (decide4 p t)) ∙ ap (settle room) (unless-append (front_rows4 t (header4 p)) d.rows (Sent d.packet))

-- the record that is found
pub at_found-entry : (t p : List ℕ) (i : ℕ) → at_found_entry t p (Some i) ≡ at_entry t (entry_at t i) p
unfolding at_found_entry decide_found_entry at_entry verdict
at_found-entry t p i = refl

pub at_found-rule : (t p : List ℕ) (k : ℕ) → at_found_rule t p (Some k) ≡ at_d4 (rule_at t k) p
unfolding at_found_rule decide_found_rule at_d4 verdict
at_found-rule t p k = refl

pub at_no_entry : (t p : List ℕ) → at_found_entry t p None ≡ Refused (plain 4)
unfolding at_found_entry decide_found_entry verdict
at_no_entry t p = refl

pub at_no_rule : (t p : List ℕ) → at_found_rule t p None ≡ Refused (plain 4)
unfolding at_found_rule decide_found_rule verdict
at_no_rule t p = refl
