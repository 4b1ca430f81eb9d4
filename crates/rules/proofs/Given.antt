-- The two calls: of the numbers that apply the first is given; every answer is one of the list (docs/RULES.md, Answers); what the output
-- holds afterwards.
use mathlib.Core.Path.{◌≡◌, refl, sym, ap, ◌∙◌, subst}
use mathlib.Core.Bool.{Bool, true, false, cond}
use mathlib.Core.List.{List, [], ◌∷◌}
use Prim.Native.Nat.{ℕ, ◌+◌, ◌*◌, ◌≤◌, ◌<◌}
use native.Mathlib.Omega.{arith}
use native.Mathlib.Decide.{ℕ_discrete}
use lib.Dec.{eqb}
use lib.ListN.{length}
use borrow.Author.Tests.{ne_eqb}
use Rattle.rules.specs.Octets.{Octets, window, splice}
use Rattle.rules.specs.Ipv6 as Ipv6
use Rattle.rules.specs.Srh as Srh
use Rattle.rules.specs.Answer.{Row, verdict, applies, Decision, Outcome, Sent, Refused, after, outcome, in_room, overlay, packed, Verdict}
use Rattle.rules.specs.Calls.{decide6, decide4, rows6, rows4, translate6, translate4}
use Rattle.rules.specs.Refused.{upper_at}
use Rattle.rules.specs.Given.{GoesBy, Smallest, icmp, without_icmp, with_icmp, ReadBack, Listed, Leaves}
use Rattle.rules.specs.declared.Refusal.{Refusal}
use Rattle.std.specs.Prelude.{Ok, Err}
use Rattle.rules.proofs.Smallest.{after-refused, goes_by, smaller_before, checksum_before}
use Rattle.rules.proofs.AnswerTable.{Proper, EachProper, Tabled, verdict_proper, tabled6, tabled4}
use Rattle.rules.proofs.Splices.{splice-length, splice-window, splice-other}
use Rattle.rules.proofs.SentFields.{sent6_size, sent4_size}

-- THE FIRST NUMBER THAT APPLIES

pub given6 : (p t : List ℕ) (room : ℕ) → GoesBy (λ n. applies n (rows6 p t room)) (translate6 p t room)
unfolding translate6 rows6
given6 p t room = goes_by (in_room room (decide6 p t)) (tabled6 p t room).order

pub given4 : (p t : List ℕ) (room : ℕ) → GoesBy (λ n. applies n (rows4 p t room)) (translate4 p t room)
unfolding translate4 rows4
given4 p t room = goes_by (in_room room (decide4 p t)) (tabled4 p t room).order

-- THE SMALLEST

-- no row has the number 0
no_row_0 : (refusal_of : ℕ → Refusal) (rs : List Row) → EachProper refusal_of rs → applies 0 rs ≡ false
no_row_0 refusal_of [] each = refl
no_row_0 refusal_of (r ∷ rs) each =
    rw (ne_eqb 0 r.refusal.number (λ e. omega (arith, each.0.least, e))) (no_row_0 refusal_of rs each.1)

smallest : (refusal_of : ℕ → Refusal) (d : Decision) → Tabled refusal_of 0 d.rows → Smallest (λ n. applies n d.rows) (outcome d)
smallest refusal_of d t = record {
  none = λ r h n l b c. pick r h n l b c (ℕ_discrete n 0);
  checksum = λ r h l m. ((goes_by d t.order).refused r h).before 18 (checksum_before r.number l m);
}
  where
    proper : (r : Refusal) → outcome d ≡ Refused r → Proper refusal_of r
    proper r h = verdict_proper refusal_of d.rows r t.each (after-refused (verdict d.rows) d.packet r h)

    pick : (r : Refusal) → outcome d ≡ Refused r → (n : ℕ) → n < r.number → (r.number ≡ 17 → n ≤ 10) → (r.number ≡ 18 → n ≤ 9)
        → Dec (n ≡ 0) → applies n d.rows ≡ false
    pick r h n l b c (yes e) = ap (λ (m : ℕ). applies m d.rows) e ∙ no_row_0 refusal_of d.rows t.each
    pick r h n l b c (no z) =
        ((goes_by d t.order).refused r h).before n (smaller_before n r.number (omega arith) l (proper r h).most b c)

pub smallest6 : (p t : List ℕ) (room : ℕ) → Smallest (λ n. applies n (rows6 p t room)) (translate6 p t room)
unfolding translate6 rows6
smallest6 p t room = smallest (with_icmp (upper_at p)) (in_room room (decide6 p t)) (tabled6 p t room)

pub smallest4 : (p t : List ℕ) (room : ℕ) → Smallest (λ n. applies n (rows4 p t room)) (translate4 p t room)
unfolding translate4 rows4
smallest4 p t room = smallest without_icmp (in_room room (decide4 p t)) (tabled4 p t room)

-- THE LIST OF ANSWERS

-- number, ICMP fields and length, from the answer in one number
pub sent-read : (x : List ℕ) → ReadBack (packed (Sent x)) 0 0 0 0 (length x)
unfolding packed
sent-read x = record { number = omega arith; icmpType = omega arith; icmpCode = omega arith; pointer = omega arith; size = omega arith }

pub refused-read : (r : Refusal) → r.number < 256 → r.icmpType < 256 → r.icmpCode < 256 → r.pointer < 65536
    → ReadBack (packed (Refused r)) r.number r.icmpType r.icmpCode r.pointer 0
unfolding packed
refused-read r hn ht hc hp = record {
  number = omega arith;
  icmpType = omega arith;
  icmpCode = omega arith;
  pointer = omega arith;
  size = omega arith;
}

-- ICMP fields that fit their octets
abbrev pub Fits : Refusal → Type 0
Fits r = (r.icmpType < 256) × ((r.icmpCode < 256) × (r.pointer < 65536))

pub upper_fits : (p : List ℕ) → Octets p → upper_at p < 65536
upper_fits p o = go (eqb (Ipv6.next_header p) 43)
  where
    go : (b : Bool) → cond b (48 + 8 * Srh.units p) 40 < 65536
    go true = omega (arith, o 41)
    go false = omega arith

pub icmp-fits : (at n : ℕ) → at < 65536 → Fits (with_icmp at n)
icmp-fits at n h = go (eqb n 6) (eqb n 7) (eqb n 8)
  where
    go : (is6 is7 is8 : Bool) → Fits (cond is6 (icmp 6 3 0 0) (cond is7 (icmp 7 4 0 43) (cond is8 (icmp 8 4 4 at) (without_icmp n))))
    go true is7 is8 = omega arith
    go false true is8 = omega arith
    go false false true = omega arith
    go false false false = omega arith

listed : (refusal_of : ℕ → Refusal) → ((n : ℕ) → Fits (refusal_of n)) → (d : Decision) → EachProper refusal_of d.rows
    → Listed refusal_of (outcome d)
listed refusal_of fits d each = go (verdict d.rows) refl
  where
    go : (v : Verdict) → verdict d.rows ≡ v → Listed refusal_of (after v (Sent d.packet))
    go (Ok tt) e = Listed.sent d.packet refl (sent-read d.packet)
    go (Err r) e =
        let q = verdict_proper refusal_of d.rows r each e in
        let (ht, (hc, hp)) = subst Fits (sym q.fields) (fits r.number) in
        let l = refused-read r (omega (arith, q.most)) ht hc hp in
        Listed.refused r.number q.least q.most (ap Refused q.fields)
        (subst (λ (ρ : Refusal). ReadBack (packed (Refused r)) r.number ρ.icmpType ρ.icmpCode ρ.pointer 0) q.fields l)

pub listed6 : (p t : List ℕ) (room : ℕ) → Octets p → Listed (with_icmp (upper_at p)) (translate6 p t room)
unfolding translate6 rows6
listed6 p t room o =
    let at = upper_at p in
    listed (with_icmp at) (λ n. icmp-fits at n (upper_fits p o)) (in_room room (decide6 p t)) (tabled6 p t room).each

pub listed4 : (p t : List ℕ) (room : ℕ) → Listed without_icmp (translate4 p t room)
unfolding translate4 rows4
listed4 p t room = listed without_icmp (λ n. omega arith) (in_room room (decide4 p t)) (tabled4 p t room).each

-- THE OUTPUT

pub leaves : (o : Outcome) (b : List ℕ) → ((x : List ℕ) → o ≡ Sent x → length x ≤ length b) → Leaves o b (overlay o b)
unfolding overlay
leaves (Sent y) b room =
    let h = room y refl in
    let l : 0 + length y ≤ length b = omega arith in
    record {
      size = splice-length b 0 y (length y) refl l;
      refused = λ r e. let z : ◌≡◌ {A = ℕ} 0 1 = cc in absurd (omega arith);
      sent = λ x e.
          let q : y ≡ x = cc in
          subst (λ (w : List ℕ). window (splice b 0 y) 0 (length w) ≡ w) q (splice-window b 0 y (length y) refl l);
      others = λ x e i h. let q : length x ≡ length y = cc in splice-other b 0 y (length y) refl l i (λ k. omega arith);
    }
leaves (Refused r) b room = record {
  size = refl;
  refused = λ r e. refl;
  sent = λ x e. let z : ◌≡◌ {A = ℕ} 0 1 = cc in absurd (omega arith);
  others = λ x e i h. refl;
}

pub leaves6 : (p t b : List ℕ) → Leaves (translate6 p t (length b)) b (overlay (translate6 p t (length b)) b)
leaves6 p t b = leaves (translate6 p t (length b)) b (sent6_size p t (length b))

pub leaves4 : (p t b : List ℕ) → Leaves (translate4 p t (length b)) b (overlay (translate4 p t (length b)) b)
leaves4 p t b = leaves (translate4 p t (length b)) b (sent4_size p t (length b))
