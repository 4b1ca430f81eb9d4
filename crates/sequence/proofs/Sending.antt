-- A G-PDU that D, Di or D4 sends on passed the rows that are asked here, so that its number is found exactly where S is set.
use Rattle.std.proofs.Common.{Option, Ok, Some, None}
use mathlib.Core.Path.{◌≡◌, refl, sym, ap, ◌∙◌}
use mathlib.Core.Logic.{◌⊎◌, inl, inr}
use mathlib.Core.List.{List, [], ◌∷◌}
use Prim.Native.Nat.{ℕ}
use native.Mathlib.Omega.{arith}
use Rattle.rules.specs.Octets.{number}
use Rattle.rules.specs.Assigned.{end_m_gtp6d, end_m_gtp6d_di, g_pdu}
use Rattle.rules.specs.Table.{entry_at, rule_at, policy_at}
use Rattle.rules.specs.Entry as Entry
use Rattle.rules.specs.Rule as Rule
use Rattle.rules.specs.Ipv6 as Ipv6
use Rattle.rules.specs.Ipv4 as Ipv4
use Rattle.rules.specs.Match.{match_entry, match_rule}
use Rattle.rules.specs.Gtpu as Gtpu
use Rattle.rules.specs.Answer.{Row, row, verdict, Decision, Sent, outcome}
use Rattle.rules.specs.Header.{header, malformed}
use Rattle.rules.specs.Datagram.{datagram, message_rows, g_pdu_rows}
use Rattle.rules.specs.Carried.{carried_by, carried6, carried4, datagram_in6, datagram_in4}
use Rattle.rules.specs.Gtp6D.{gtp6_rows, checksum_rows, gtp6d_rows, rows_gtp6d, decide_gtp6d}
use Rattle.rules.specs.D.{d_path, d_packet, at_d}
use Rattle.rules.specs.Di.{di_path, di_packet, at_di}
use Rattle.rules.specs.D4.{gtp4_rows, d4_rows, rows_d4, d4_packet}
use Rattle.rules.specs.Header4.{header4, malformed4, bad_header4}
use Rattle.rules.specs.Calls.{at_entry, at_found_entry, at_found_rule, front_rows6, front_rows4, translate6, translate4}
use Rattle.rules.proofs.Rows.{Clear, None as NoneApplies, none_pass, pass_none, none-append, none_parts, unless-sent, sent-settle}
use Rattle.rules.proofs.Deciding.{settled6, settled4, at_found-entry, at_found-rule, at_no_rule}
use Rattle.rules.proofs.Entries.{at_d_lem, at_di_lem}
use Rattle.rules.proofs.NearGtp6D.{g_pdu_decides}
use Rattle.rules.proofs.NearD4.{g_pdu_at_d4}
use Rattle.sequence.specs.Sequence.{not_g_pdu, rows9_to11, g_pdu_rows6, g_pdu_rows4, teid, sequence6, sequence4, ByFlag}
use Rattle.sequence.proofs.Numbering.{passed_flag}

-- THE ROWS

-- row 2 and those of D and Di, at every entry and along every path
pub gtp6d_passes : (e : List ℕ) (path : List (List ℕ)) (p : List ℕ)
    → verdict (row (malformed (header p)) 2 ∷ rows_gtp6d e path p) ≡ Ok tt → verdict (g_pdu_rows6 p) ≡ Ok tt
unfolding rows_gtp6d g_pdu_rows6 message_rows g_pdu_rows
gtp6d_passes e path p v =
    let n = pass_none (row (malformed (header p)) 2 ∷ rows_gtp6d e path p) v in
    let g = datagram (datagram_in6 p) in
    let tunnel = gtp6_rows (header p) g in
    let last = gtp6d_rows e path (carried6 p).inner in
    let (a, (b, (c, d))) = none_parts tunnel (message_rows (checksum_rows e p) g) (g_pdu_rows (Entry.direction e) g) last n.1 in
    let type : List Row = row (not_g_pdu g) 11 ∷ [] in
    none_pass (g_pdu_rows6 p) (n.0, none-append tunnel (rows9_to11 g) a (none-append (message_rows [] g) type (b.0, b.1.1) (c.0, tt)))

-- rows 2 and 3 and those of D4, at every rule
pub d4_passes : (r p : List ℕ) → verdict (row (malformed4 (header4 p)) 2 ∷ row (bad_header4 (header4 p)) 3 ∷ rows_d4 r p) ≡ Ok tt
    → verdict (g_pdu_rows4 p) ≡ Ok tt
unfolding rows_d4 g_pdu_rows4 g_pdu_rows
d4_passes r p v =
    let n = pass_none (row (malformed4 (header4 p)) 2 ∷ row (bad_header4 (header4 p)) 3 ∷ rows_d4 r p) v in
    let g = datagram (datagram_in4 p) in
    let tunnel = gtp4_rows (header4 p) g in
    let last = d4_rows r (carried4 p).inner in
    let (a, (b, (c, d))) = none_parts tunnel (message_rows [] g) (g_pdu_rows (Rule.direction r) g) last n.1.1 in
    none_pass (g_pdu_rows4 p) (n.0, (n.1.0, none-append tunnel (rows9_to11 g) a (none-append (message_rows [] g) _ b (c.0, tt))))

-- THE CALLS

-- an entry of D or Di
abbrev pub NearGtp6D : (e : List ℕ) → Type 0
NearGtp6D e = (Entry.behaviour e ≡ end_m_gtp6d) ⊎ (Entry.behaviour e ≡ end_m_gtp6d_di)

module _ (p t : List ℕ) (room : ℕ) (x : List ℕ) where
  -- the IPv6 call, where the entry that matches is one of them
  pub sent_passes6 : (i : ℕ) → Gtpu.message_type (datagram_in6 p) ≡ g_pdu → translate6 p t room ≡ Sent x
      → match_entry t (Ipv6.destination p) ≡ Some i → NearGtp6D (entry_at t i) → verdict (g_pdu_rows6 p) ≡ Ok tt
  unfolding front_rows6 at_d at_di
  sent_passes6 i type h m b =
      let found = at_found_entry t p (match_entry t (Ipv6.destination p)) in
      let (n, k) = unless-sent (front_rows6 t (header p)) found x (sent-settle room _ x (sym (settled6 p t room) ∙ h)) in
      go b n.1.0 (sym (ap (λ (f : Option ℕ). at_found_entry t p f) m ∙ at_found-entry t p i) ∙ k)
    where
      e : List ℕ
      e = entry_at t i

      y : List ℕ
      y = policy_at t (Entry.policy e)

      along : (path : List (List ℕ)) (made : List ℕ) → Clear (malformed (header p)) → outcome (decide_gtp6d e path made p) ≡ Sent x
          → verdict (g_pdu_rows6 p) ≡ Ok tt
      along path made front k =
          let here = sym (ap (λ (d : Decision). outcome d) (g_pdu_decides e path made p type)) ∙ k in
          let n = (unless-sent (rows_gtp6d e path p) (Sent made) x here).0 in
          gtp6d_passes e path p (none_pass (row (malformed (header p)) 2 ∷ rows_gtp6d e path p) (front, n))

      go : NearGtp6D e → Clear (malformed (header p)) → at_entry t e p ≡ Sent x → verdict (g_pdu_rows6 p) ≡ Ok tt
      go (inl d) front k = along (d_path y (carried6 p)) (d_packet e y (carried6 p)) front (sym (at_d_lem t e p d) ∙ k)
      go (inr d) front k = along (di_path y (carried6 p)) (di_packet e y (carried6 p)) front (sym (at_di_lem t e p d) ∙ k)

  pub sent_flag6 : (i : ℕ) → Gtpu.message_type (datagram_in6 p) ≡ g_pdu → translate6 p t room ≡ Sent x
      → match_entry t (Ipv6.destination p) ≡ Some i → NearGtp6D (entry_at t i) → ByFlag (datagram_in6 p) (sequence6 p)
  unfolding sequence6
  sent_flag6 i type h m b = passed_flag (g_pdu_rows6 p) (datagram_in6 p) (sent_passes6 i type h m b)

  -- the IPv4 call: whatever it sends, D4 sends
  pub sent_passes4 : Gtpu.message_type (datagram_in4 p) ≡ g_pdu → translate4 p t room ≡ Sent x → verdict (g_pdu_rows4 p) ≡ Ok tt
  unfolding front_rows4
  sent_passes4 type h =
      let match = match_rule t (Ipv4.destination p) in
      let (n, k) = unless-sent (front_rows4 t (header4 p)) (at_found_rule t p match) x (sent-settle room _ x (sym (settled4 p t room)
      ∙ h)) in
      go match n.1 k
    where
      go : (f : Option ℕ) → NoneApplies (row (malformed4 (header4 p)) 2 ∷ row (bad_header4 (header4 p)) 3 ∷ [])
          → at_found_rule t p f ≡ Sent x
          → verdict (g_pdu_rows4 p) ≡ Ok tt
      go None front k =
          let q = sym (at_no_rule t p) ∙ k in
          let z : ◌≡◌ {A = ℕ} 0 1 = cc in
          absurd (omega arith)
      go (Some i) front k =
          let r = rule_at t i in
          let here = sym (g_pdu_at_d4 r p type) ∙ sym (at_found-rule t p i) ∙ k in
          let n = (unless-sent (rows_d4 r p) (Sent (d4_packet r (carried4 p))) x here).0 in
          d4_passes r p
          (none_pass (row (malformed4 (header4 p)) 2 ∷ row (bad_header4 (header4 p)) 3 ∷ rows_d4 r p) (front.0, (front.1.0, n)))

  pub sent_flag4 : Gtpu.message_type (datagram_in4 p) ≡ g_pdu → translate4 p t room ≡ Sent x → ByFlag (datagram_in4 p) (sequence4 p)
  unfolding sequence4
  sent_flag4 type h = passed_flag (g_pdu_rows4 p) (datagram_in4 p) (sent_passes4 type h)

-- the TEID that is found is the one that goes into Args
pub teid-carried6 : (p : List ℕ) → teid (datagram_in6 p) ≡ number (carried6 p).args.teid 0 4
unfolding carried6 carried_by
teid-carried6 p = refl

pub teid-carried4 : (p : List ℕ) → teid (datagram_in4 p) ≡ number (carried4 p).args.teid 0 4
unfolding carried4 carried_by
teid-carried4 p = refl
