-- What the IPv6 call answers a packet in every room, from what it decides; and the entry to which a packet has come that it answers 6 or
-- above.
use mathlib.Core.Path.{◌≡◌, refl, sym, ap, ◌∙◌, subst}
use mathlib.Core.Bool.{Bool, true, false, not, cond, ◌&&◌}
use mathlib.Core.List.{List, [], ◌∷◌}
use Prim.Native.Nat.{ℕ, ◌≤◌}
use native.Mathlib.Omega.{arith}
use native.Mathlib.Decide.{ℕ_discrete}
use lib.Dec.{leb}
use lib.ListN.{length}
use borrow.Author.Tests.{le-leb, leb-true}
use Rattle.rules.specs.Exactly.{Exactly}
use Rattle.rules.specs.Ipv6 as Ipv6
use Rattle.rules.specs.Sound.{sound}
use Rattle.rules.specs.Match.{match_entry}
use Rattle.rules.specs.Header.{header, malformed}
use Rattle.rules.specs.Answer.{any, plain, verdict, Outcome, Sent, Refused, outcome, after, unless}
use Rattle.rules.specs.Calls.{at_found_entry, decide_found_entry, front_rows6, decide6, translate6}
use Rattle.rules.specs.declared.Refusal.{Refusal}
use Rattle.std.specs.Prelude.{Option, Some, None, Ok, Err}
use Rattle.rules.proofs.Conditions.{and_left, and_right}
use Rattle.rules.proofs.Rows.{settle-sent}
use Rattle.rules.proofs.Judging.{unless-append}
use Rattle.rules.proofs.Deciding.{at_no_entry}
use Rattle.report.specs.Due.{Answers, Answered678}
use Rattle.report.proofs.Laws.{decides, settle-refused}

module _ (p t : List ℕ) where
  pub decided_refused : (r : Refusal) → outcome (decide6 p t) ≡ Refused r → (room : ℕ) → translate6 p t room ≡ Refused r
  decided_refused r e room = decides p t room ∙ settle-refused room _ r e

  pub decided_answers : (r : Refusal) → outcome (decide6 p t) ≡ Refused r → Answers p t r.number
  decided_answers r e room = (r, (decided_refused r e room, refl))

  -- what is answered in every room was decided
  answers_decided : (n : ℕ) → Answers p t n → (r : Refusal) × ((outcome (decide6 p t) ≡ Refused r) × (r.number ≡ n))
  answers_decided n a = go (outcome (decide6 p t)) refl
    where
      go : (o : Outcome) → outcome (decide6 p t) ≡ o → (r : Refusal) × ((outcome (decide6 p t) ≡ Refused r) × (r.number ≡ n))
      go (Sent x) e =
          let (r, (f, g)) = a (length x) in
          let q : translate6 p t (length x) ≡ Sent x = decides p t (length x) ∙ settle-sent (length x) _ x e (omega arith) in
          let z : ◌≡◌ {A = ℕ} 0 1 = cc in absurd (omega arith)
      go (Refused r) e =
          let (ρ, (f, g)) = a 0 in
          let q = decided_refused r e 0 in
          let h : r ≡ ρ = cc in
          (r, (e, ap (λ (r : Refusal). r.number) h ∙ g))

  -- as a test of the number
  pub reported : (r : Refusal) → outcome (decide6 p t) ≡ Refused r → Exactly (leb 6 r.number && leb r.number 8) (Answered678 p t)
  reported r e = (forth, back)
    where
      at : (n : ℕ) → r.number ≡ n → Answers p t n
      at n q = subst (Answers p t) q (decided_answers r e)

      forth : (leb 6 r.number && leb r.number 8) ≡ true → Answered678 p t
      forth h = go (ℕ_discrete r.number 6) (ℕ_discrete r.number 7)
        where
          go : Dec (r.number ≡ 6) → Dec (r.number ≡ 7) → Answered678 p t
          go (yes q) d = Answered678.hop_limit (at 6 q)
          go (no q) (yes d) = Answered678.segments_left (at 7 d)
          go (no q) (no d) =
              let l = leb-true 6 r.number (and_left (leb 6 r.number) (leb r.number 8) h) in
              let m = leb-true r.number 8 (and_right (leb 6 r.number) (leb r.number 8) h) in
              Answered678.upper_layer (at 8 (omega (arith, l, m, q, d)))

      within : (n : ℕ) → 6 ≤ n → n ≤ 8 → Answers p t n → (leb 6 r.number && leb r.number 8) ≡ true
      within n l m a =
          let (ρ, (f, g)) = answers_decided n a in
          let q : ρ ≡ r = cc in
          let k : r.number ≡ n = ap (λ (r : Refusal). r.number) (sym q) ∙ g in
          rw (le-leb 6 r.number (omega (arith, k, l)), le-leb r.number 8 (omega (arith, k, m))) refl

      back : Answered678 p t → (leb 6 r.number && leb r.number 8) ≡ true
      back (Answered678.hop_limit a) = within 6 (omega arith) (omega arith) a
      back (Answered678.segments_left a) = within 7 (omega arith) (omega arith) a
      back (Answered678.upper_layer a) = within 8 (omega arith) (omega arith) a

  -- a packet that is sent on is not
  pub sent-otherwise : (x : List ℕ) → outcome (decide6 p t) ≡ Sent x → Answered678 p t → ⊥
  sent-otherwise x e = go
    where
      none : (n : ℕ) → Answers p t n → ⊥
      none n a = let (r, (f, g)) = answers_decided n a in let z : ◌≡◌ {A = ℕ} 0 1 = cc in omega arith

      go : Answered678 p t → ⊥
      go (Answered678.hop_limit a) = none 6 a
      go (Answered678.segments_left a) = none 7 a
      go (Answered678.upper_layer a) = none 8 a

  front : outcome (decide6 p t) ≡ unless (front_rows6 t (header p)) (at_found_entry t p (match_entry t (Ipv6.destination p)))
  unfolding at_found_entry
  front =
      let d = decide_found_entry t p (match_entry t (Ipv6.destination p)) in
      unless-append (front_rows6 t (header p)) d.rows (Sent d.packet)

  -- where none matches, the number is at most 4
  low : (r : Refusal) → unless (front_rows6 t (header p)) (Refused (plain 4)) ≡ Refused r → r.number ≤ 4
  unfolding front_rows6 verdict
  low r = go (any (not (sound t) ∷ [])) (any (malformed (header p)))
    where
      go : (b c : Bool) → after (cond b (Err (plain 1)) (cond c (Err (plain 2)) (Ok tt))) (Refused (plain 4)) ≡ Refused r → r.number ≤ 4
      go true c h = let q : r.number ≡ 1 = cc in omega (arith, q)
      go false true h = let q : r.number ≡ 2 = cc in omega (arith, q)
      go false false h = let q : r.number ≡ 4 = cc in omega (arith, q)

  -- so a packet that is answered 6, 7 or 8 has come to an entry
  pub at_entry : (r : Refusal) → outcome (decide6 p t) ≡ Refused r → 6 ≤ r.number → (i : ℕ) × (match_entry t (Ipv6.destination p) ≡ Some i)
  at_entry r e l = go (match_entry t (Ipv6.destination p)) refl
    where
      go : (f : Option ℕ) → match_entry t (Ipv6.destination p) ≡ f → (i : ℕ) × (match_entry t (Ipv6.destination p) ≡ Some i)
      go (Some i) m = (i, m)
      go None m =
          let q = sym front ∙ e in
          let k = ap (λ (f : Option ℕ). unless (front_rows6 t (header p)) (at_found_entry t p f)) m ∙ ap (unless (front_rows6 t (header p)))
          (at_no_entry t p) in
          absurd (omega (arith, l, low r (sym k ∙ q)))
