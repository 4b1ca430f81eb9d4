-- The tests of rows 2 to 8 that ask of headers hold exactly where Refused.antt says that the number is given.
use mathlib.Core.Path.{◌≡◌, sym, ap, ◌∙◌, subst}
use mathlib.Core.Logic.{◌≢◌}
use mathlib.Core.Bool.{Bool, true, false, not, ◌&&◌, ◌||◌}
use mathlib.Core.List.{List, [], ◌∷◌}
use Prim.Native.Nat.{ℕ, ◌+◌, ◌*◌, ◌%◌, ◌<◌}
use native.Mathlib.Omega.{arith}
use native.Mathlib.Decide.{ℕ_discrete}
use lib.Dec.{eqb, leb, ltb}
use lib.ListN.{length, get_or}
use borrow.Author.Tests.{ltb-true, leb-true, eqb-true, not-true, lt-ltb, le-leb, eq-eqb, ne_eqb, le-ltb, ltb-false}
use Rattle.rules.specs.Exactly.{Exactly}
use Rattle.rules.specs.Octets.{read16, Octets}
use Rattle.rules.specs.Ipv6 as Ipv6
use Rattle.rules.specs.Srh as Srh
use Rattle.rules.specs.Ipv4 as Ipv4
use Rattle.rules.specs.Answer.{differs, given, any}
use Rattle.rules.specs.Header.{header, malformed, has_srh, bad_srh, bad_chain, beyond_held, segments_remain}
use Rattle.rules.specs.Session.{accepts}
use Rattle.rules.specs.Waypoint.{underway}
use Rattle.rules.specs.Header4.{header4, malformed4, bad_header4}
use Rattle.rules.specs.Refused.{Malformed6, Malformed4, BadIpv4, BadChain, BadChainE6, HopLimitSpent, SegmentsRemain, BadLeftE6}
use Rattle.rules.specs.Refused.{BadLeftWaypoint, OfSession, NotUnderway}
use Rattle.rules.proofs.Conditions.{and_left, and_right, ◌also◌}
use Rattle.rules.proofs.Exact.{and_not, differs_true, ne_differs, only, only_not, Leads, leads-given, any-leads, or_leads}
use Rattle.rules.proofs.Exact.{any_at, any-from, any-under}

-- a test holds, from arithmetic
pub ruleset hold = (arith, lt-ltb, le-leb, eq-eqb, ne_differs)

-- ROWS 2 AND 3

module _ (p : List ℕ) where
  pub row_2 : Exactly (any (malformed (header p))) (Malformed6 p)
  unfolding header
  row_2 = (any-leads (Malformed6 p) (malformed (header p)) leads, back)
    where
      leads : Leads (Malformed6 p) (malformed (header p))
      leads =
          (λ h. Malformed6.short (ltb-true _ _ h))
          also (λ h. Malformed6.version (differs_true _ _ h))
          also (λ h. Malformed6.length_field (differs_true _ _ h))
          also tt

      back : Malformed6 p → any (malformed (header p)) ≡ true
      back (Malformed6.short h) = any_at (malformed (header p)) 0 (omega (hold, h))
      back (Malformed6.version h) = any_at (malformed (header p)) 1 (omega (hold, h))
      back (Malformed6.length_field h) = any_at (malformed (header p)) 2 (omega (hold, h))

  pub row_2_ipv4 : Exactly (any (malformed4 (header4 p))) (Malformed4 p)
  unfolding header4
  row_2_ipv4 = (any-leads (Malformed4 p) (malformed4 (header4 p)) leads, back)
    where
      leads : Leads (Malformed4 p) (malformed4 (header4 p))
      leads =
          (λ h. Malformed4.short (ltb-true _ _ h))
          also (λ h. Malformed4.version (differs_true _ _ h))
          also (λ h. Malformed4.length_field (differs_true _ _ h))
          also tt

      back : Malformed4 p → any (malformed4 (header4 p)) ≡ true
      back (Malformed4.short h) = any_at (malformed4 (header4 p)) 0 (omega (hold, h))
      back (Malformed4.version h) = any_at (malformed4 (header4 p)) 1 (omega (hold, h))
      back (Malformed4.length_field h) = any_at (malformed4 (header4 p)) 2 (omega (hold, h))

  module _ (o : Octets p) where
    -- the low fourteen bits are More Fragments and the offset
    more : Ipv4.more_fragments p ≢ 0 → read16 p 6 % 0x4000 ≢ 0
    more h e = h (omega (arith, o 7))

    offset : Ipv4.fragment_offset p ≢ 0 → read16 p 6 % 0x4000 ≢ 0
    offset h e = h (omega (arith, o 7))

    part : Ipv4.more_fragments p ≡ 0 → read16 p 6 % 0x4000 ≢ 0 → Ipv4.fragment_offset p ≢ 0
    part e h f = h (omega (arith, o 7))

    pub row_3 : Exactly (any (bad_header4 (header4 p))) (BadIpv4 p)
    unfolding header4
    row_3 = (any-leads (BadIpv4 p) (bad_header4 (header4 p)) leads, back)
      where
        leads : Leads (BadIpv4 p) (bad_header4 (header4 p))
        leads =
            (λ h. BadIpv4.header_length (differs_true _ _ h))
            also (λ h. BadIpv4.checksum (differs_true _ _ h))
            also (λ h. BadIpv4.fragment (more (differs_true _ _ h)))
            also (λ h. BadIpv4.fragment (offset (differs_true _ _ h)))
            also tt

        one : (h : read16 p 6 % 0x4000 ≢ 0) → Dec (Ipv4.more_fragments p ≡ 0) → any (bad_header4 (header4 p)) ≡ true
        one h (yes e) = any_at (bad_header4 (header4 p)) 3 (ne_differs _ _ (part e h))
        one h (no d) = any_at (bad_header4 (header4 p)) 2 (ne_differs _ _ d)

        back : BadIpv4 p → any (bad_header4 (header4 p)) ≡ true
        back (BadIpv4.header_length h) = any_at (bad_header4 (header4 p)) 0 (ne_differs _ _ h)
        back (BadIpv4.checksum h) = any_at (bad_header4 (header4 p)) 1 (ne_differs _ _ h)
        back (BadIpv4.fragment h) = one h (ℕ_discrete (Ipv4.more_fragments p) 0)

-- ROW 5

module _ (p : List ℕ) where
  -- an SRH is there
  there : Ipv6.next_header p ≡ 43 → has_srh (header p) ≡ true
  unfolding header
  there h = eq-eqb (Ipv6.next_header p) 43 h

  -- what is asked of it, in its own fields
  asked : List Bool
  asked =
      ltb (length p) 48 ∷ differs (Srh.routing_type p) 4 ∷ ltb (length p) (48 + 8 * Srh.units p)
      ∷ eqb (Srh.next_header p) 0 ∷ eqb (Srh.next_header p) 44 ∷ eqb (Srh.next_header p) 60 ∷ eqb (Srh.next_header p) 43 ∷ []

  srh_asked : Ipv6.next_header p ≡ 43 → bad_srh (header p) ≡ asked
  unfolding header asked
  srh_asked h = rw (eq-eqb (Ipv6.next_header p) 43 h)

  behind-leads : Ipv6.next_header p ≡ 43 → Leads (BadChain p) asked
  unfolding asked
  behind-leads h =
      (λ e. BadChain.srh_short h (ltb-true _ _ e))
      also (λ e. BadChain.routing_type h (differs_true _ _ e))
      also (λ e. BadChain.srh_cut_short h (ltb-true _ _ e))
      also (λ e. BadChain.hop_by_hop_behind h (eqb-true _ _ e))
      also (λ e. BadChain.fragment_behind h (eqb-true _ _ e))
      also (λ e. BadChain.destination_options_behind h (eqb-true _ _ e))
      also (λ e. BadChain.routing_behind h (eqb-true _ _ e))
      also tt

  pub row_5 : Exactly (any (bad_chain (header p))) (BadChain p)
  unfolding header asked
  row_5 = (any-leads (BadChain p) (bad_chain (header p)) leads, back)
    where
      held : has_srh (header p) ≡ true → Leads (BadChain p) (bad_srh (header p))
      held c = let h = eqb-true _ _ c in subst (Leads (BadChain p)) (sym (srh_asked h)) (behind-leads h)

      leads : Leads (BadChain p) (bad_chain (header p))
      leads =
          (λ e. BadChain.hop_by_hop (eqb-true _ _ e))
          also (λ e. BadChain.fragment (eqb-true _ _ e))
          also (λ e. BadChain.destination_options (eqb-true _ _ e))
          also leads-given (BadChain p) (has_srh (header p)) (bad_srh (header p)) held

      under : (h : Ipv6.next_header p ≡ 43) (k : ℕ) → get_or asked k false ≡ true → any (bad_chain (header p)) ≡ true
      under h k e =
          let a : any (bad_srh (header p)) ≡ true = ap any (srh_asked h) ∙ any_at asked k e in
          any-from (bad_chain (header p)) 3 (any-under (has_srh (header p)) (bad_srh (header p)) (there h) a)

      back : BadChain p → any (bad_chain (header p)) ≡ true
      back (BadChain.hop_by_hop h) = any_at (bad_chain (header p)) 0 (eq-eqb _ _ h)
      back (BadChain.fragment h) = any_at (bad_chain (header p)) 1 (eq-eqb _ _ h)
      back (BadChain.destination_options h) = any_at (bad_chain (header p)) 2 (eq-eqb _ _ h)
      back (BadChain.srh_short h e) = under h 0 (lt-ltb _ _ e)
      back (BadChain.routing_type h e) = under h 1 (ne_differs _ _ e)
      back (BadChain.srh_cut_short h e) = under h 2 (lt-ltb _ _ e)
      back (BadChain.hop_by_hop_behind h e) = under h 3 (eq-eqb _ _ e)
      back (BadChain.fragment_behind h e) = under h 4 (eq-eqb _ _ e)
      back (BadChain.destination_options_behind h e) = under h 5 (eq-eqb _ _ e)
      back (BadChain.routing_behind h e) = under h 6 (eq-eqb _ _ e)

  pub row_5_e6 : Exactly (any (not (has_srh (header p)) ∷ bad_chain (header p))) (BadChainE6 p)
  unfolding header
  row_5_e6 = (
    or_leads (BadChainE6 p) (not (has_srh (header p))) (any (bad_chain (header p))) none (λ e. BadChainE6.chain (row_5.0 e)),
    back,
  )
    where
      none : not (has_srh (header p)) ≡ true → BadChainE6 p
      none e = BadChainE6.no_srh (differs_true _ _ e)

      back : BadChainE6 p → any (not (has_srh (header p)) ∷ bad_chain (header p)) ≡ true
      back (BadChainE6.no_srh h) = any_at (not (has_srh (header p)) ∷ bad_chain (header p)) 0 (ne_differs _ _ h)
      back (BadChainE6.chain h) = any-from (not (has_srh (header p)) ∷ bad_chain (header p)) 1 (row_5.1 h)

-- ROWS 6, 7 AND 8

-- arithmetic, from tests that hold
ruleset told = (arith, ltb-true, leb-true, eqb-true)

module _ (p : List ℕ) where
  -- a segment is left
  on : Ipv6.next_header p ≡ 43 → 0 < Srh.segments_left p → underway (Srh.segments_left p) (header p) ≡ true
  unfolding header
  on h l = rw (eq-eqb (Ipv6.next_header p) 43 h, lt-ltb 0 (Srh.segments_left p) l)

  has : underway (Srh.segments_left p) (header p) ≡ true → Ipv6.next_header p ≡ 43
  unfolding header
  has c = eqb-true _ _ (and_left (has_srh (header p)) (ltb 0 (Srh.segments_left p)) c)

  some : underway (Srh.segments_left p) (header p) ≡ true → 0 < Srh.segments_left p
  some c = ltb-true _ _ (and_right (has_srh (header p)) (ltb 0 (Srh.segments_left p)) c)

  pub row_6 : Exactly (any (given (underway (Srh.segments_left p) (header p)) (leb (Ipv6.hop_limit p) 1 ∷ []))) (HopLimitSpent p)
  row_6 = (any-leads (HopLimitSpent p) (given u ts) (leads-given (HopLimitSpent p) u ts leads), back)
    where
      u : Bool
      u = underway (Srh.segments_left p) (header p)

      ts : List Bool
      ts = leb (Ipv6.hop_limit p) 1 ∷ []

      leads : u ≡ true → Leads (HopLimitSpent p) ts
      leads c = (λ e. HopLimitSpent.spent (has c) (some c) (omega (told, e)), tt)

      back : HopLimitSpent p → any (given u ts) ≡ true
      back (HopLimitSpent.spent h l k) = any-under u ts (on h l) (any_at ts 0 (omega (hold, k)))

  pub row_7 : Exactly (any (segments_remain (header p))) (SegmentsRemain p)
  unfolding header
  row_7 = (any-leads (SegmentsRemain p) (segments_remain (header p)) (leads-given (SegmentsRemain p) (has_srh (header p)) ts leads), back)
    where
      ts : List Bool
      ts = differs (Srh.segments_left p) 0 ∷ []

      leads : has_srh (header p) ≡ true → Leads (SegmentsRemain p) ts
      leads c = (λ e. SegmentsRemain.remain (eqb-true _ _ c) (differs_true _ _ e), tt)

      back : SegmentsRemain p → any (segments_remain (header p)) ≡ true
      back (SegmentsRemain.remain h k) = any-under (has_srh (header p)) ts (eq-eqb _ _ h) (any_at ts 0 (ne_differs _ _ k))

  pub row_7_e6 : Exactly (any (differs (Srh.segments_left p) 1 ∷ beyond_held (header p) ∷ [])) (BadLeftE6 p)
  unfolding header
  row_7_e6 = (any-leads (BadLeftE6 p) ts leads, back)
    where
      ts : List Bool
      ts = differs (Srh.segments_left p) 1 ∷ beyond_held (header p) ∷ []

      leads : Leads (BadLeftE6 p) ts
      leads = (λ e. BadLeftE6.not_one (differs_true _ _ e)) also (λ e. BadLeftE6.beyond_held (omega (told, e))) also tt

      back : BadLeftE6 p → any ts ≡ true
      back (BadLeftE6.not_one h) = any_at ts 0 (ne_differs _ _ h)
      back (BadLeftE6.beyond_held h) = any_at ts 1 (omega (hold, h))

  pub row_7_waypoint : Exactly
      (any (given (underway (Srh.segments_left p) (header p)) (beyond_held (header p) ∷ ltb (Srh.last_entry p + 1) (Srh.segments_left p) ∷
      [])))
      (BadLeftWaypoint p)
  unfolding header
  row_7_waypoint = (any-leads (BadLeftWaypoint p) (given u ts) (leads-given (BadLeftWaypoint p) u ts leads), back)
    where
      u : Bool
      u = underway (Srh.segments_left p) (header p)

      ts : List Bool
      ts = beyond_held (header p) ∷ ltb (Srh.last_entry p + 1) (Srh.segments_left p) ∷ []

      leads : u ≡ true → Leads (BadLeftWaypoint p) ts
      leads c =
          (λ e. BadLeftWaypoint.beyond_held (has c) (some c) (omega (told, e)))
          also (λ e. BadLeftWaypoint.beyond_last (has c) (some c) (omega (told, e)))
          also tt

      back : BadLeftWaypoint p → any (given u ts) ≡ true
      back (BadLeftWaypoint.beyond_held h l k) = any-under u ts (on h l) (any_at ts 0 (omega (hold, k)))
      back (BadLeftWaypoint.beyond_last h l k) = any-under u ts (on h l) (any_at ts 1 (omega (hold, k)))

  pub row_8_waypoint : Exactly (any (not (underway (Srh.segments_left p) (header p)) ∷ [])) (NotUnderway p)
  unfolding header
  row_8_waypoint = only (not u) (NotUnderway p) (λ e. to (ℕ_discrete (Ipv6.next_header p) 43) (not-true u e)) back
    where
      u : Bool
      u = underway (Srh.segments_left p) (header p)

      to : Dec (Ipv6.next_header p ≡ 43) → u ≡ false → NotUnderway p
      to (yes h) e = NotUnderway.arrived (omega (arith, ltb-false, rw (eq-eqb (Ipv6.next_header p) 43 h) at e))
      to (no d) e = NotUnderway.no_srh d

      back : NotUnderway p → not u ≡ true
      back (NotUnderway.no_srh h) = rw (ne_eqb (Ipv6.next_header p) 43 h)
      back (NotUnderway.arrived h) = rw (le-ltb 0 (Srh.segments_left p) (omega (arith, h))) (and_not (has_srh (header p)))

-- E6 and E4
module _ (session next : ℕ) where
  is : (a b c d : ℕ) → eqb a b && eqb c d ≡ true → (a ≡ b) × (c ≡ d)
  is a b c d h = (eqb-true a b (and_left (eqb a b) (eqb c d) h), eqb-true c d (and_right (eqb a b) (eqb c d) h))

  accepted : accepts session next ≡ true → OfSession session next
  unfolding accepts
  accepted h =
      or_leads S as4 (as6 || (as_ethernet || as_either)) (λ e. let (a, b) = is session 1 next 4 e in OfSession.ipv4 a b)
      (or_leads S as6 (as_ethernet || as_either) (λ e. let (a, b) = is session 2 next 41 e in OfSession.ipv6 a b)
      (or_leads S as_ethernet as_either (λ e. let (a, b) = is session 5 next 143 e in OfSession.ethernet a b) either)) h
    where
      S : Type 0
      S = OfSession session next

      as4 : Bool
      as4 = eqb session 1 && eqb next 4

      as6 : Bool
      as6 = eqb session 2 && eqb next 41

      as_ethernet : Bool
      as_ethernet = eqb session 5 && eqb next 143

      as_either : Bool
      as_either = eqb session 3 && (eqb next 4 || eqb next 41)

      either : as_either ≡ true → S
      either e =
          let a = eqb-true session 3 (and_left (eqb session 3) (eqb next 4 || eqb next 41) e) in
          or_leads S (eqb next 4) (eqb next 41) (λ k. OfSession.ipv4v6_as4 a (eqb-true _ _ k))
          (λ k. OfSession.ipv4v6_as6 a (eqb-true _ _ k))
          (and_right (eqb session 3) (eqb next 4 || eqb next 41) e)

  of_session : OfSession session next → accepts session next ≡ true
  unfolding accepts
  of_session (OfSession.ipv4 h k) = rw (h, k)
  of_session (OfSession.ipv6 h k) = rw (h, k)
  of_session (OfSession.ethernet h k) = rw (h, k)
  of_session (OfSession.ipv4v6_as4 h k) = rw (h, k)
  of_session (OfSession.ipv4v6_as6 h k) = rw (h, k)

  pub row_8_session : Exactly (any (not (accepts session next) ∷ [])) (OfSession session next → ⊥)
  row_8_session = only_not (accepts session next) (OfSession session next) (accepted, of_session)
