-- What a call knows of the record that it found, and the call from there.
use mathlib.Core.Path.{◌≡◌, refl, sym, ap, ◌∙◌}
use mathlib.Core.Bool.{Bool, true, false, ◌||◌, or-false}
use mathlib.Core.List.{List}
use Prim.Native.Nat.{ℕ, ◌<◌}
use lib.Dec.{eqb}
use lib.ListN.{length}
use borrow.Author.Tests.{eqb-true}
use Rattle.rules.specs.Octets.{window}
use Rattle.rules.specs.Assigned.{end, end_m_gtp6d, end_m_gtp6d_di, end_m_gtp6e, end_m_gtp4e}
use Rattle.rules.specs.Table.{policies, entry_at, policy_at}
use Rattle.rules.specs.Entry as Entry
use Rattle.rules.specs.Ipv6 as Ipv6
use Rattle.rules.specs.Ipv4 as Ipv4
use Rattle.rules.specs.Match.{match_entry, match_rule}
use Rattle.rules.specs.Sound.{behaviour_known, entry_sound, entry_limit, sound}
use Rattle.rules.specs.Answer.{plain, any, verdict, Refused, settle}
use Rattle.rules.specs.Header.{header, header_of, malformed, WellFormed}
use Rattle.rules.specs.Header4.{header4, header4_of, malformed4, bad_header4, WellFormed4}
use Rattle.rules.specs.Calls.{at_entry, at_found_entry, at_found_rule, front_rows6, front_rows4, translate6, translate4}
use Rattle.rules.specs.declared.Header.{Header}
use Rattle.rules.specs.declared.Header4.{Header4}
use Rattle.rules.proofs.Conditions.{conjunct}
use Rattle.rules.proofs.Rows.{Clear, any-clear, read}
use Rattle.rules.proofs.Deciding.{settled6, settled4}
use Rattle.rules.proofs.Entries.{at_d_lem, at_di_lem}
use Rattle.rules.proofs.Tables.{found-entry, found-d, found-di}
use Rattle.rules.proofs.Plans.{d_tail, di_tail}
use Rattle.rules.specs.SoundRecord.{SoundGtp6D}
use Rattle.rules.specs.Plan.{tail_at, at_gtp6d}
use Rattle.std.specs.Prelude.{Some}
use Rattle.answer.proofs.Settling.{refuse_settles, pass_settles}

-- THE FRONT OF A PACKET

pub header_front : (p : List ℕ) (n : ℕ) → header_of (window p 0 48) n ≡ header_of p n
unfolding window
header_front p n = refl

pub header4_front : (p : List ℕ) (n : ℕ) → header4_of (window p 0 20) n ≡ header4_of p n
unfolding window
header4_front p n = refl

-- AN ENTRY THAT WAS FOUND

-- D and Di are what is left of the behaviours that a sound table may name
module _ (policies : ℕ) (e : List ℕ) (h : entry_sound policies e ≡ true)
    (h₁ : eqb (Entry.behaviour e) end ≡ false) (h₂ : eqb (Entry.behaviour e) end_m_gtp6e
    ≡ false) (h₃ : eqb (Entry.behaviour e) end_m_gtp4e ≡
    false) where
  pub gtp6d_cases : (P : Type 0) → (Entry.behaviour e ≡ end_m_gtp6d → P)
      → (Entry.behaviour e ≡ end_m_gtp6d_di → tail_at (Entry.behaviour e) ≡ 2
      → P) → P
  unfolding entry_sound
  gtp6d_cases P d di = go (eqb (Entry.behaviour e) end_m_gtp6d) refl
    where
      known : behaviour_known e ≡ true
      known = search conjunct depth 20

      go : (b : Bool) → eqb (Entry.behaviour e) end_m_gtp6d ≡ b → P
      go true q = d (eqb-true (Entry.behaviour e) end_m_gtp6d q)
      go false q =
          let k : (eqb (Entry.behaviour e) end_m_gtp6d_di || false) ≡ true = rw (h₁, q, h₂, h₃) at known in
          di (eqb-true (Entry.behaviour e) end_m_gtp6d_di (sym (or-false _) ∙ k)) (rw q)

  pub at_gtp6d_entry : (t p : List ℕ) → at_gtp6d (tail_at (Entry.behaviour e)) e (policy_at t (Entry.policy e)) p ≡ at_entry t e p
  at_gtp6d_entry t p =
      let y = policy_at t (Entry.policy e) in
      gtp6d_cases _
      (λ b. ap (λ (k : ℕ). at_gtp6d (tail_at k) e y p) b ∙ d_tail e y p ∙ sym (at_d_lem t e p b))
      (λ b k. ap (λ (n : ℕ). at_gtp6d n e y p) k ∙ di_tail e y p ∙ sym (at_di_lem t e p b))

pub found_at_gtp6d : (t to : List ℕ) (i : ℕ) → sound t ≡ true → match_entry t to ≡ Some i
    → eqb (Entry.behaviour (entry_at t i)) end ≡ false → eqb (Entry.behaviour (entry_at t i)) end_m_gtp6e ≡ false
    → eqb (Entry.behaviour (entry_at t i)) end_m_gtp4e ≡ false → SoundGtp6D t (entry_at t i)
found_at_gtp6d t to i s m h₁ h₂ h₃ =
    gtp6d_cases (policies t) (entry_at t i) (found-entry entry_limit t to i s m) h₁ h₂ h₃ _
    (λ b. found-d entry_limit t to i s m b) (λ b k. found-di entry_limit t to i s m b)

-- THE FRONT ROWS

module _ (p t : List ℕ) (room : ℕ) where
  pub unsound6 : sound t ≡ false → translate6 p t room ≡ Refused (plain 1)
  unsound6 h = settled6 p t room ∙ refuse_settles room (front_rows6 t (header p)) _ (plain 1) (unfold front_rows6 verdict in rw h)

  pub unsound4 : sound t ≡ false → translate4 p t room ≡ Refused (plain 1)
  unsound4 h = settled4 p t room ∙ refuse_settles room (front_rows4 t (header4 p)) _ (plain 1) (unfold front_rows4 verdict in rw h)

  module _ (s : sound t ≡ true) where
    pub malformed6 : any (malformed (header p)) ≡ true → translate6 p t room ≡ Refused (plain 2)
    malformed6 h = settled6 p t room ∙ refuse_settles room (front_rows6 t (header p)) _ (plain 2) (unfold front_rows6 verdict in rw (s, h))

    pub matched6 : any (malformed (header p)) ≡ false → settle room (at_found_entry t p (match_entry t (Ipv6.destination p)))
        ≡ translate6 p t
        room
    matched6 h = sym (settled6 p t room ∙ pass_settles room (front_rows6 t (header p)) _ (unfold front_rows6 verdict in rw (s, h)))

    pub malformed_4 : any (malformed4 (header4 p)) ≡ true → translate4 p t room ≡ Refused (plain 2)
    malformed_4 h = settled4 p t room ∙ refuse_settles room (front_rows4 t (header4 p)) _ (plain 2)
        (unfold front_rows4 verdict in rw (s, h))

    pub bad_4 : any (malformed4 (header4 p)) ≡ false → any (bad_header4 (header4 p)) ≡ true → translate4 p t room ≡ Refused (plain 3)
    bad_4 h b = settled4 p t room ∙ refuse_settles room (front_rows4 t (header4 p)) _ (plain 3) (unfold front_rows4 verdict in rw (s, h, b))

    pub matched4 : any (malformed4 (header4 p)) ≡ false → any (bad_header4 (header4 p)) ≡ false
        → settle room (at_found_rule t p (match_rule t
        (Ipv4.destination p))) ≡ translate4 p t room
    matched4 h b = sym (settled4 p t room ∙ pass_settles room (front_rows4 t (header4 p)) _ (unfold front_rows4 verdict in rw (s, h, b)))

-- a packet that passed row 2, over IPv4 row 3 too
pub well_formed : (p : List ℕ) (h : Header) → h ≡ header p → any (malformed h) ≡ false → h.payloadLength < 65536 → WellFormed p h
well_formed p h e m l =
    let c : Clear (malformed h) = any-clear (malformed h) m in
    let z : h.size ≡ length p = ap (λ (h : Header). h.size) e ∙ unfold header in refl in
    record { view = e; long = omega (read, c.0, z); short = omega (read, c.1.1.0, z, l) }

pub well_formed4 : (p : List ℕ) (h : Header4) → h ≡ header4 p → any (malformed4 h) ≡ false → h.totalLength < 65536 → WellFormed4 p h
well_formed4 p h e m l =
    let c : Clear (malformed4 h) = any-clear (malformed4 h) m in
    let z : h.size ≡ length p = ap (λ (h : Header4). h.size) e ∙ unfold header4 in refl in
    record { view = e; long = omega (read, c.0, z); short = omega (read, c.1.1.0, z, l) }
