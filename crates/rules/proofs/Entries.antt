-- A call that comes to its entry.
use mathlib.Core.Path.{◌≡◌, sym, ap, ◌∙◌}
use mathlib.Core.Bool.{true}
use mathlib.Core.List.{List}
use Prim.Native.Nat.{ℕ, ◌≤◌}
use lib.ListN.{length}
use Rattle.rules.specs.Assigned.{end, end_m_gtp6d, end_m_gtp6d_di, end_m_gtp6e, end_m_gtp4e}
use Rattle.rules.specs.Table.{entry_at, policy_at}
use Rattle.rules.specs.Entry as Entry
use Rattle.rules.specs.Ipv6 as Ipv6
use Rattle.rules.specs.Sound.{sound}
use Rattle.rules.specs.Match.{match_entry}
use Rattle.rules.specs.Answer.{Sent, unless, settle}
use Rattle.rules.specs.Header.{header, malformed}
use Rattle.rules.specs.Waypoint.{at_waypoint}
use Rattle.rules.specs.D.{at_d}
use Rattle.rules.specs.Di.{at_di}
use Rattle.rules.specs.E6.{at_e6}
use Rattle.rules.specs.E4.{at_e4}
use Rattle.rules.specs.Calls.{decide_entry, at_entry, at_found_entry, front_rows6, translate6}
use Rattle.rules.specs.Trip.{Stop, call}
use Rattle.rules.specs.Demand3.{AtEntry}
use Rattle.std.specs.Prelude.{Option, Some}
use Rattle.rules.proofs.Rows.{Clear, unless-none, unless-sent, settle-sent, sent-settle}
use Rattle.rules.proofs.Deciding.{settled6, at_found-entry}
use Rattle.rules.proofs.Trips.{call_v6}

module _ (t e p : List ℕ) where
  pub at_waypoint_lem : Entry.behaviour e ≡ end → at_entry t e p ≡ at_waypoint p
  unfolding at_entry decide_entry at_waypoint
  at_waypoint_lem h = rw h

  pub at_d_lem : Entry.behaviour e ≡ end_m_gtp6d → at_entry t e p ≡ at_d e (policy_at t (Entry.policy e)) p
  unfolding at_entry decide_entry at_d
  at_d_lem h = rw h

  pub at_di_lem : Entry.behaviour e ≡ end_m_gtp6d_di → at_entry t e p ≡ at_di e (policy_at t (Entry.policy e)) p
  unfolding at_entry decide_entry at_di
  at_di_lem h = rw h

  pub at_e6_lem : Entry.behaviour e ≡ end_m_gtp6e → at_entry t e p ≡ at_e6 e p
  unfolding at_entry decide_entry at_e6
  at_e6_lem h = rw h

  pub at_e4_lem : Entry.behaviour e ≡ end_m_gtp4e → at_entry t e p ≡ at_e4 e p
  unfolding at_entry decide_entry at_e4
  at_e4_lem h = rw h

-- where rows 1 and 2 pass, the call is decided at the entry that is found
pub decide_entry_lem : (t p : List ℕ) (room i : ℕ) → sound t ≡ true → Clear (malformed (header p)) → match_entry t (Ipv6.destination p)
    ≡ Some i
    → translate6 p t room ≡ settle room (at_entry t (entry_at t i) p)
unfolding front_rows6
decide_entry_lem t p room i hs hm hf =
    settled6 p t room
    ∙ ap (settle room)
    (unless-none (front_rows6 t (header p)) (at_found_entry t p (match_entry t (Ipv6.destination p))) ((rw hs, tt), (hm, tt))
    ∙ ap (λ (f : Option ℕ). at_found_entry t p f) hf ∙ at_found-entry t p i)

module _ (s : Stop) (p d x : List ℕ) (b i : ℕ) (a : AtEntry s d b i) (hd : Ipv6.destination p ≡ d) where
  found_at : match_entry s.table (Ipv6.destination p) ≡ Some i
  found_at = rw hd a.matches

  -- where the entry decides to send, and there is room, the call sends
  pub entry_sends : Clear (malformed (header p)) → at_entry s.table (entry_at s.table i) p ≡ Sent x → length x ≤ length s.buffer
      → call s p ≡ Sent x
  entry_sends hm he hr =
      let room = length s.buffer in
      call_v6 s p a.call
      ∙ decide_entry_lem s.table p room i a.sound hm found_at
      ∙ settle-sent room (at_entry s.table (entry_at s.table i) p) x he hr

  -- and what the call sent passed rows 1 and 2, and was decided at the entry
  pub sent-entry : call s p ≡ Sent x → Clear (malformed (header p)) × (at_entry s.table (entry_at s.table i) p ≡ Sent x)
  unfolding front_rows6
  sent-entry hc =
      let t = s.table in
      let room = length s.buffer in
      let o = unless (front_rows6 t (header p)) (at_found_entry t p (match_entry t (Ipv6.destination p))) in
      let k₁ = sent-settle room o x (sym (settled6 p t room) ∙ sym (call_v6 s p a.call) ∙ hc) in
      let (n, k₂) = unless-sent (front_rows6 t (header p)) (at_found_entry t p (match_entry t (Ipv6.destination p))) x k₁ in
      (n.1.0, sym (ap (λ (f : Option ℕ). at_found_entry t p f) found_at ∙ at_found-entry t p i) ∙ k₂)
