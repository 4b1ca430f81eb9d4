-- Row 23 from the octets of a packet, and the call from what the IPv6 call decides with an output of no octets.
use mathlib.Core.Path.{◌≡◌, refl, sym, ap, ◌∙◌}
use mathlib.Core.Bool.{Bool, true, false, not, cond, ◌&&◌, ◌||◌}
use mathlib.Core.List.{List}
use Prim.Native.Nat.{ℕ, ◌/◌, ◌%◌}
use native.Mathlib.Omega.{arith}
use lib.Dec.{leb, ltb, eqb}
use lib.ListN.{length}
use borrow.Author.Tests.{ltb-true, ltb-false, le-leb, lt-leb, eqb-true}
use Rattle.rules.specs.Octets.{Octets, octet, window, number}
use Rattle.rules.specs.Ipv6 as Ipv6
use Rattle.rules.specs.Table.{entry_at}
use Rattle.rules.specs.Sound.{sound}
use Rattle.rules.specs.Match.{match_entry}
use Rattle.rules.specs.Answer.{given, any, plain, verdict, Outcome, Sent, Refused, outcome, settle, packed}
use Rattle.rules.specs.Header.{header}
use Rattle.rules.specs.Calls.{front_rows6, decide6, rows6, translate6}
use Rattle.rules.specs.Refused.{upper_at}
use Rattle.rules.specs.Given.{icmp, without_icmp, with_icmp, Listed}
use Rattle.rules.specs.declared.Header.{Header}
use Rattle.rules.specs.declared.Refusal.{Refusal}
use Rattle.std.specs.Prelude.{nat_eq, Option, Some, None}
use Rattle.std.specs.Int.{w128, from_be_bytes}
use Rattle.rules.proofs.Deciding.{settle-outcome}
use Rattle.rules.proofs.Judging.{any-given, any_last}
use Rattle.rules.proofs.Given.{listed6}
use Rattle.answer.proofs.Settling.{room_short, room_enough}
use Rattle.icmp.specs.Icmp.{icmp_packet}
use Rattle.report.specs.Report.{is_unspecified, has_type, is_error_or_redirect, none_due, report_of, icmp6}

-- THE TESTS

pub unspecified_read : (s : List ℕ) (n : ℕ) → n ≡ from_be_bytes w128 s → nat_eq n 0 ≡ is_unspecified s
unfolding number
unspecified_read s n e = let whole : n ≡ number s 0 16 = e ∙ omega arith in ap (λ (k : ℕ). eqb k 0) whole

-- answered with another number than 6, 7 or 8
pub outside : (n : ℕ) (rest : Bool) → (ltb n 6 || (ltb 8 n || rest)) ≡ (not (leb 6 n && leb n 8) || rest)
outside n rest = go (ltb n 6) refl (ltb 8 n) refl
  where
    go : (a : Bool) → ltb n 6 ≡ a → (b : Bool) → ltb 8 n ≡ b → (ltb n 6 || (ltb 8 n || rest)) ≡ (not (leb 6 n && leb n 8) || rest)
    go true e b f = rw (e, lt-leb 6 n (ltb-true n 6 e)) refl
    go false e true f = rw (e, f, le-leb 6 n (ltb-false n 6 e), lt-leb n 8 (ltb-true 8 n f)) refl
    go false e false f = rw (e, f, le-leb 6 n (ltb-false n 6 e), le-leb n 8 (ltb-false 8 n f)) refl

pub none_due_read : (n : ℕ) (p : List ℕ) (h : Header) (source : List ℕ) (kind to : ℕ) (u e : Bool) → h ≡ header p → source ≡ Ipv6.source p
    → kind ≡ octet p h.upperAt → to ≡ octet p 24 → u ≡ is_unspecified source → e ≡ any (given (has_type h) (is_error_or_redirect kind))
    → (ltb n 6 || (ltb 8 n || (eqb (octet source 0) 0xff || (u || (eqb to 0xff || e))))) ≡ any (none_due n p)
unfolding none_due window
none_due_read n p h source kind to u e hh hs hk ht hu he =
    let k : kind ≡ octet p (header p).upperAt = hk ∙ ap (λ (h : Header). octet p h.upperAt) hh in
    let x : e ≡ any (given (has_type (header p)) (is_error_or_redirect (octet p (header p).upperAt))) =
    he ∙ (λ i. any (given (has_type (hh i)) (is_error_or_redirect (k i)))) in
    let v : u ≡ is_unspecified (Ipv6.source p) = hu ∙ ap is_unspecified hs in
    outside n _
    ∙ (λ i. not (leb 6 n && leb n 8) || (eqb (octet (hs i) 0) 0xff || (v i || (eqb (ht i) 0xff || x i))))

-- an error message or a Redirect
pub error_read : (h : Header) (kind : ℕ) → (has_type h && (ltb kind 128 || eqb kind 137))
    ≡ any (given (has_type h) (is_error_or_redirect kind))
error_read h kind =
    ap (λ (b : Bool). has_type h && (ltb kind 128 || b)) (sym (any_last (eqb kind 137)))
    ∙ any-given (has_type h) (is_error_or_redirect kind)

-- WHAT IS REPORTED

pub report_none : (t p : List ℕ) (f : Option ℕ) (r : Refusal) → any (none_due r.number p) ≡ true
    → report_of t p f (Refused r) ≡ Refused (plain 23)
unfolding report_of verdict
report_none t p (Some i) r h = rw h refl
report_none t p None r h = refl

pub report_nowhere : (t p : List ℕ) (o : Outcome) → report_of t p None o ≡ Refused (plain 23)
unfolding report_of
report_nowhere t p o = refl

pub report_of_sent : (t p : List ℕ) (f : Option ℕ) (x : List ℕ) → report_of t p f (Sent x) ≡ Refused (plain 23)
unfolding report_of
report_of_sent t p (Some i) x = refl
report_of_sent t p None x = refl

pub report_sent : (t p : List ℕ) (i : ℕ) (r : Refusal) → any (none_due r.number p) ≡ false
    → report_of t p (Some i) (Refused r) ≡ Sent (icmp_packet (entry_at t i) r p)
unfolding report_of verdict
report_sent t p i r h = rw h refl

-- a refusal is not changed by the room
pub settle-refused : (room : ℕ) (o : Outcome) (r : Refusal) → o ≡ Refused r → settle room o ≡ Refused r
unfolding settle
settle-refused room o r e = ap (settle room) e

-- a number outside of 6 to 8
otherwise : (t p : List ℕ) (f : Option ℕ) (r : Refusal) → (leb 6 r.number && leb r.number 8) ≡ false
    → report_of t p f (Refused r) ≡ Refused (plain 23)
unfolding none_due
otherwise t p f r h = report_none t p f r (rw h refl)

-- FROM THE ANSWER OF THE IPV6 CALL

abbrev pub refusal_in : (answer : ℕ) → Refusal
refusal_in answer = record {
  number = answer % 0x100;
  icmpType = answer / 0x100 % 0x100;
  icmpCode = answer / 0x10000 % 0x100;
  pointer = answer / 0x1000000 % 0x10000;
}

with_number : (at n : ℕ) → (with_icmp at n).number ≡ n
with_number at n = go (eqb n 6) refl (eqb n 7) refl (eqb n 8) refl
  where
    go : (a : Bool) → eqb n 6 ≡ a → (b : Bool) → eqb n 7 ≡ b → (c : Bool) → eqb n 8 ≡ c
        → (cond a (icmp 6 3 0 0) (cond b (icmp 7 4 0 43) (cond c (icmp 8 4 4 at) (without_icmp n)))).number ≡ n
    go true e b f c g = sym (eqb-true n 6 e)
    go false e true f c g = sym (eqb-true n 7 f)
    go false e false f true g = sym (eqb-true n 8 g)
    go false e false f false g = refl

module _ (p t : List ℕ) where
  pub decides : (room : ℕ) → translate6 p t room ≡ settle room (outcome (decide6 p t))
  unfolding translate6 rows6
  decides room = sym (settle-outcome room (decide6 p t))

  module _ (op : Octets p) where
    -- a refusal has the ICMP fields of its number, and they are read from the answer
    told : (r : Refusal) → translate6 p t 0 ≡ Refused r
        → (r ≡ with_icmp (upper_at p) r.number) × (refusal_in (packed (translate6 p t 0)) ≡ r)
    told r e = go (listed6 p t 0 op)
      where
        go : Listed (with_icmp (upper_at p)) (translate6 p t 0)
            → (r ≡ with_icmp (upper_at p) r.number) × (refusal_in (packed (translate6 p t 0)) ≡ r)
        go (Listed.sent x f b) = let z : ◌≡◌ {A = ℕ} 0 1 = cc in absurd (omega arith)
        go (Listed.refused n l m f b) =
            let q : with_icmp (upper_at p) n ≡ r = cc in
            let k = b.number ∙ sym (with_number (upper_at p) n) in
            let h : n ≡ r.number = sym (with_number (upper_at p) n) ∙ ap (λ (r : Refusal). r.number) q in (
              sym q ∙ ap (with_icmp (upper_at p)) h,
              (λ i. record { number = k i; icmpType = b.icmpType i; icmpCode = b.icmpCode i; pointer = b.pointer i }) ∙ q,
            )

    pub refusal_fields : (r : Refusal) → translate6 p t 0 ≡ Refused r → r ≡ with_icmp (upper_at p) r.number
    refusal_fields r e = (told r e).0

    -- what the call answers where it would send: 0 or 16
    read-sent : (x : List ℕ) → outcome (decide6 p t) ≡ Sent x
        → (leb 6 (packed (translate6 p t 0) % 0x100) && leb (packed (translate6 p t 0) % 0x100) 8) ≡ false
    unfolding packed
    read-sent x e = go (ltb 0 (length x)) refl
      where
        go : (b : Bool) → ltb 0 (length x) ≡ b
            → (leb 6 (packed (translate6 p t 0) % 0x100) && leb (packed (translate6 p t 0) % 0x100) 8) ≡ false
        go true f =
            let q : translate6 p t 0 ≡ Refused (plain 16) = decides 0 ∙ ap (settle 0) e ∙ room_short 0 x (ltb-true 0 (length x) f) in
            rw q refl
        go false f =
            let q : translate6 p t 0 ≡ Sent x = decides 0 ∙ ap (settle 0) e ∙ room_enough 0 x (ltb-false 0 (length x) f) in
            let z : packed (Sent x) % 0x100 ≡ 0 = omega arith in
            rw (q, z) refl

    -- a message about what is read there is one about what was decided
    asked : (f : Option ℕ) → report_of t p f (Refused (refusal_in (packed (translate6 p t 0)))) ≡ report_of t p f (outcome (decide6 p t))
    asked f = go (outcome (decide6 p t)) refl
      where
        r : Refusal
        r = refusal_in (packed (translate6 p t 0))

        go : (o : Outcome) → outcome (decide6 p t) ≡ o → report_of t p f (Refused r) ≡ report_of t p f (outcome (decide6 p t))
        go (Sent x) e = otherwise t p f r (read-sent x e) ∙ sym (report_of_sent t p f x) ∙ ap (report_of t p f) (sym e)
        go (Refused ρ) e =
            ap (λ (r : Refusal). report_of t p f (Refused r)) (told ρ (decides 0 ∙ settle-refused 0 _ ρ e)).1
            ∙ ap (report_of t p f) (sym e)

    pub reported : (r : Refusal) (answer : ℕ) → answer ≡ packed (translate6 p t 0) → r ≡ refusal_in answer → (room : ℕ)
        → settle room (report_of t p (match_entry t (Ipv6.destination p)) (Refused r)) ≡ icmp6 p t room
    unfolding icmp6
    reported r answer e q room =
        let f = match_entry t (Ipv6.destination p) in
        ap (λ (r : Refusal). settle room (report_of t p f (Refused r))) (q ∙ ap refusal_in e) ∙ ap (settle room) (asked f)

  unsound_refused : sound t ≡ false → outcome (decide6 p t) ≡ Refused (plain 1)
  unfolding front_rows6 verdict
  unsound_refused s = rw s refl

  pub unsound_none : (room : ℕ) → sound t ≡ false → icmp6 p t room ≡ Refused (plain 23)
  unfolding icmp6
  unsound_none room s =
      let f = match_entry t (Ipv6.destination p) in
      settle-refused room _ (plain 23) (ap (report_of t p f) (unsound_refused s) ∙ otherwise t p f (plain 1) refl)
