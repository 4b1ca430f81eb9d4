-- The call goes by what Due.antt says: 23 exactly where none is due, then 16 exactly where the room is short, else the message.
use mathlib.Core.Path.{◌≡◌, refl, sym, ap, ◌∙◌, subst}
use mathlib.Core.Logic.{◌⊎◌, inl, inr}
use mathlib.Core.Bool.{Bool, true, false, not, ◌&&◌, ◌||◌, true≢false}
use mathlib.Core.List.{List, [], ◌∷◌}
use Prim.Native.Nat.{ℕ, ◌≤◌, ◌<◌}
use native.Mathlib.Omega.{arith}
use native.Mathlib.Decide.{ℕ_discrete}
use lib.Dec.{leb, ltb}
use lib.ListN.{length, drop}
use lib.Seq.{get_or-drop}
use borrow.Author.Tests.{ltb-true, ltb-false, leb-true, not-true, not-false}
use Rattle.rules.specs.Exactly.{Exactly}
use Rattle.rules.specs.Octets.{Octets, octet}
use Rattle.rules.specs.Table.{entry_at}
use Rattle.rules.specs.Ipv6 as Ipv6
use Rattle.rules.specs.Match.{match_entry}
use Rattle.rules.specs.Answer.{any, plain, room_row, Outcome, Sent, Refused, outcome, settle, overlay}
use Rattle.rules.specs.Calls.{decide6}
use Rattle.rules.specs.Given.{Leaves}
use Rattle.rules.specs.declared.Refusal.{Refusal}
use Rattle.std.specs.Prelude.{Some}
use Rattle.rules.proofs.Conditions.{and_left, and_right}
use Rattle.rules.proofs.Exact.{or_leads}
use Rattle.rules.proofs.Rows.{read, any-clear, unless-sent}
use Rattle.rules.proofs.SoundTables.{octets-entry}
use Rattle.rules.proofs.Given.{refused-read, sent-read, leaves}
use Rattle.answer.proofs.Settling.{room_short, room_enough}
use Rattle.icmp.specs.Icmp.{icmp_packet}
use Rattle.icmp.specs.Message.{Quotes, WrittenIcmp}
use Rattle.icmp.proofs.Messages.{icmp_written}
use Rattle.report.specs.Report.{exceptions, none_due, report_of, icmp6}
use Rattle.report.specs.Due.{Answered678, Exempt, NoneDue, Short, Reports, Listed}
use Rattle.report.proofs.Laws.{settle-refused, refusal_fields, report_none, report_of_sent, report_sent}
use Rattle.report.proofs.Exempts.{exempt-exactly}
use Rattle.report.proofs.Answering.{decided_refused, decided_answers, reported, sent-otherwise, at_entry}

or_true : (b : Bool) → (b || true) ≡ true
or_true true = refl
or_true false = refl

module _ (p t : List ℕ) where
  -- row 23
  none_due_exactly : (r : Refusal) → outcome (decide6 p t) ≡ Refused r → Exactly (any (none_due r.number p)) (NoneDue p t)
  unfolding none_due
  none_due_exactly r e = (or_leads (NoneDue p t) (not within) (any (exceptions p)) other exception, back)
    where
      within : Bool
      within = leb 6 r.number && leb r.number 8

      other : not within ≡ true → NoneDue p t
      other h = NoneDue.otherwise (λ a. true≢false (sym ((reported p t r e).1 a) ∙ not-true within h))

      exception : any (exceptions p) ≡ true → NoneDue p t
      exception h = NoneDue.exempt ((exempt-exactly p).0 h)

      go : (b : Bool) → within ≡ b → (Answered678 p t → ⊥) → (not within || any (exceptions p)) ≡ true
      go true h n = absurd (n ((reported p t r e).0 h))
      go false h n = rw h refl

      back : NoneDue p t → (not within || any (exceptions p)) ≡ true
      back (NoneDue.otherwise n) = go within refl n
      back (NoneDue.exempt x) = rw ((exempt-exactly p).1 x) (or_true (not within))

  module _ (room : ℕ) where
    pub sent-none : (x : List ℕ) → outcome (decide6 p t) ≡ Sent x → icmp6 p t room ≡ Refused (plain 23)
    unfolding icmp6
    sent-none x e =
        let f = match_entry t (Ipv6.destination p) in
        settle-refused room _ (plain 23) (ap (report_of t p f) e ∙ report_of_sent t p f x)

    refused_none : (r : Refusal) → outcome (decide6 p t) ≡ Refused r → any (none_due r.number p) ≡ true
        → icmp6 p t room ≡ Refused (plain 23)
    unfolding icmp6
    refused_none r e h =
        let f = match_entry t (Ipv6.destination p) in
        settle-refused room _ (plain 23) (ap (report_of t p f) e ∙ report_none t p f r h)

    due_settles : (r : Refusal) → outcome (decide6 p t) ≡ Refused r → any (none_due r.number p) ≡ false
        → (i : ℕ) → match_entry t (Ipv6.destination p) ≡ Some i → icmp6 p t room ≡ settle room (Sent (icmp_packet (entry_at t i) r p))
    unfolding icmp6
    due_settles r e h i m =
        (λ k. settle room (report_of t p (m k) (e k))) ∙ ap (settle room) (report_sent t p i r h)

    -- none is due where the packet is exempt
    pub exempt-none : Exempt p → icmp6 p t room ≡ Refused (plain 23)
    exempt-none x = go (outcome (decide6 p t)) refl
      where
        go : (o : Outcome) → outcome (decide6 p t) ≡ o → icmp6 p t room ≡ Refused (plain 23)
        go (Sent y) e = sent-none y e
        go (Refused r) e = refused_none r e ((none_due_exactly r e).1 (NoneDue.exempt x))

-- numbers that are reported
within_6_8 : (n : ℕ) (p : List ℕ) → any (none_due n p) ≡ false → (6 ≤ n) × (n ≤ 8)
unfolding none_due
within_6_8 n p h =
    let w = not-false (leb 6 n && leb n 8) (any-clear (none_due n p) h).0 in
    (leb-true 6 n (and_left (leb 6 n) (leb n 8) w), leb-true n 8 (and_right (leb 6 n) (leb n 8) w))

one_of : (n : ℕ) → 6 ≤ n → n ≤ 8 → (n ≡ 6) ⊎ ((n ≡ 7) ⊎ (n ≡ 8))
one_of n l m = go (ℕ_discrete n 6) (ℕ_discrete n 7)
  where
    go : Dec (n ≡ 6) → Dec (n ≡ 7) → (n ≡ 6) ⊎ ((n ≡ 7) ⊎ (n ≡ 8))
    go (yes a) b = inl a
    go (no a) (yes b) = inr (inl b)
    go (no a) (no b) = inr (inr (omega (arith, l, m, a, b)))

-- the room that a message takes
short_or : (e : List ℕ) (n : ℕ) (p x : List ℕ) → WrittenIcmp e n p x → (room : ℕ)
    → ((room < length x) × Short p room) ⊎ ((length x ≤ room) × (Short p room → ⊥))
short_or e n p x w room = go (ltb room (length x)) refl
  where
    q : Quotes p x
    q = w.quotes

    is-short : room < length x → (b : Bool) → ltb 1232 (length p) ≡ b → Short p room
    is-short l true h = let k = ltb-true 1232 (length p) h in Short.cut (omega arith) (omega (arith, l, q.cut (omega arith)))
    is-short l false h = let k = ltb-false 1232 (length p) h in Short.all k (omega (arith, l, q.all k))

    not_short : length x ≤ room → Short p room → ⊥
    not_short l (Short.all h r) = omega (arith, l, r, q.all h)
    not_short l (Short.cut h r) = omega (arith, l, r, q.cut h)

    go : (b : Bool) → ltb room (length x) ≡ b → ((room < length x) × Short p room) ⊎ ((length x ≤ room) × (Short p room → ⊥))
    go true h = let l = ltb-true room (length x) h in inl (l, is-short l (ltb 1232 (length p)) refl)
    go false h = let l = ltb-false room (length x) h in inr (l, not_short l)

-- a message is an error message
error_exempt : (p t x : List ℕ) → Reports p t x → Exempt x
error_exempt p t x r = Exempt.error_message (rw next refl) (rw next (long (ltb 1232 (length p)) refl)) (rw next (type r.among))
  where
    w : WrittenIcmp (entry_at t r.index) r.number p x
    w = r.written

    next : Ipv6.next_header x ≡ 58
    next = w.nextHeader

    long : (b : Bool) → ltb 1232 (length p) ≡ b → 40 < length x
    long true h = let k = ltb-true 1232 (length p) h in omega (arith, w.quotes.cut (omega arith))
    long false h = let k = ltb-false 1232 (length p) h in omega (arith, w.quotes.all k)

    first : octet (drop 40 x) 0 ≡ octet x 40
    first = get_or-drop 40 x 0 0

    type : (r.number ≡ 6) ⊎ ((r.number ≡ 7) ⊎ (r.number ≡ 8)) → octet x 40 < 128
    type (inl a) = omega (arith, first, (w.says.hopLimit a).0)
    type (inr (inl a)) = omega (arith, first, (w.says.segmentsLeft a).0)
    type (inr (inr a)) = omega (arith, first, (w.says.upper_layer a).0)

module _ (p t : List ℕ) (op : Octets p) (ot : Octets t) (room : ℕ) where
  -- the call, by every way that it can go
  pub listed_icmp : Listed p t room (icmp6 p t room)
  listed_icmp = go (outcome (decide6 p t)) refl
    where
      none : icmp6 p t room ≡ Refused (plain 23) → NoneDue p t → Listed p t room (icmp6 p t room)
      none e n = Listed.none e n (rw e (refused-read (plain 23) (omega arith) (omega arith) (omega arith) (omega arith)))

      due : (r : Refusal) → outcome (decide6 p t) ≡ Refused r → any (none_due r.number p) ≡ false → Listed p t room (icmp6 p t room)
      due r e h = settles (short_or (entry_at t i) n p x written room)
        where
          n : ℕ
          n = r.number

          within : (6 ≤ n) × (n ≤ 8)
          within = within_6_8 n p h

          found : (i : ℕ) × (match_entry t (Ipv6.destination p) ≡ Some i)
          found = at_entry p t r e within.0

          i : ℕ
          i = found.0

          x : List ℕ
          x = icmp_packet (entry_at t i) r p

          written : WrittenIcmp (entry_at t i) n p x
          written = icmp_written (entry_at t i) r p (octets-entry t ot i) op (refusal_fields p t op r (decided_refused p t r e 0))

          is_due : NoneDue p t → ⊥
          is_due d = true≢false (sym ((none_due_exactly p t r e).1 d) ∙ h)

          made : icmp6 p t room ≡ settle room (Sent x)
          made = due_settles p t room r e h i found.1

          settles : ((room < length x) × Short p room) ⊎ ((length x ≤ room) × (Short p room → ⊥)) → Listed p t room (icmp6 p t room)
          settles (inl (l, s)) =
              let q = made ∙ room_short room x l in
              Listed.short q is_due s (rw q (refused-read (plain 16) (omega arith) (omega arith) (omega arith) (omega arith)))
          settles (inr (l, s)) =
              let q = made ∙ room_enough room x l in
              Listed.sent x q is_due s record {
                number = n;
                index = i;
                among = one_of n within.0 within.1;
                answered = decided_answers p t r e;
                matched = found.1;
                written = written;
              } (rw q (sent-read x))

      by_tests : (r : Refusal) → outcome (decide6 p t) ≡ Refused r → (b : Bool) → any (none_due r.number p) ≡ b
          → Listed p t room (icmp6 p t room)
      by_tests r e true h = none (refused_none p t room r e h) ((none_due_exactly p t r e).0 h)
      by_tests r e false h = due r e h

      go : (o : Outcome) → outcome (decide6 p t) ≡ o → Listed p t room (icmp6 p t room)
      go (Sent x) e = none (sent-none p t room x e) (NoneDue.otherwise (sent-otherwise p t x e))
      go (Refused r) e = by_tests r e (any (none_due r.number p)) refl

  -- WHICH ANSWER IS GIVEN

  apart : Refused (plain 16) ≡ Refused (plain 23) → ⊥
  apart e = let q : plain 16 ≡ plain 23 = cc in omega (arith, ap (λ (r : Refusal). r.number) q)

  pub given_23 : (icmp6 p t room ≡ Refused (plain 23) → NoneDue p t) × (NoneDue p t → icmp6 p t room ≡ Refused (plain 23))
  given_23 = (forth listed_icmp, back listed_icmp)
    where
      forth : Listed p t room (icmp6 p t room) → icmp6 p t room ≡ Refused (plain 23) → NoneDue p t
      forth (Listed.none e n b) q = n
      forth (Listed.short e d s b) q = absurd (apart (sym e ∙ q))
      forth (Listed.sent x e d s r b) q = let z : ◌≡◌ {A = ℕ} 0 1 = cc in absurd (omega arith)

      back : Listed p t room (icmp6 p t room) → NoneDue p t → icmp6 p t room ≡ Refused (plain 23)
      back (Listed.none e n b) q = e
      back (Listed.short e d s b) q = absurd (d q)
      back (Listed.sent x e d s r b) q = absurd (d q)

  pub given_16 : (icmp6 p t room ≡ Refused (plain 16) → (NoneDue p t → ⊥) × Short p room)
      × ((NoneDue p t → ⊥) → Short p room → icmp6 p t room ≡ Refused (plain 16))
  given_16 = (forth listed_icmp, back listed_icmp)
    where
      forth : Listed p t room (icmp6 p t room) → icmp6 p t room ≡ Refused (plain 16) → (NoneDue p t → ⊥) × Short p room
      forth (Listed.none e n b) q = absurd (apart (sym q ∙ e))
      forth (Listed.short e d s b) q = (d, s)
      forth (Listed.sent x e d s r b) q = let z : ◌≡◌ {A = ℕ} 0 1 = cc in absurd (omega arith)

      back : Listed p t room (icmp6 p t room) → (NoneDue p t → ⊥) → Short p room → icmp6 p t room ≡ Refused (plain 16)
      back (Listed.none e n b) d s = absurd (d n)
      back (Listed.short e d s b) _ _ = e
      back (Listed.sent x e d s r b) _ k = absurd (s k)

  -- whatever is sent is the message
  pub sent-reports : (x : List ℕ) → icmp6 p t room ≡ Sent x → Reports p t x
  sent-reports x q = go listed_icmp
    where
      go : Listed p t room (icmp6 p t room) → Reports p t x
      go (Listed.none e n b) = let z : ◌≡◌ {A = ℕ} 0 1 = cc in absurd (omega arith)
      go (Listed.short e d s b) = let z : ◌≡◌ {A = ℕ} 0 1 = cc in absurd (omega arith)
      go (Listed.sent y e d s r b) = let k : y ≡ x = cc in subst (Reports p t) k r

  -- and no message is built about it, by whatever table
  pub message-ends : (x : List ℕ) → icmp6 p t room ≡ Sent x → (t' : List ℕ) (room' : ℕ) → icmp6 x t' room' ≡ Refused (plain 23)
  message-ends x q t' room' = exempt-none x t' room' (error_exempt p t x (sent-reports x q))

-- the output: as many octets as before; a refusal changes none, a message only its own
settled_size : (room : ℕ) (o : Outcome) (x : List ℕ) → settle room o ≡ Sent x → length x ≤ room
unfolding settle
settled_size room (Sent y) x e =
    let (n, q) = unless-sent (room_row room y ∷ []) (Sent y) x e in
    let k : length y ≡ length x = cc in
    let l : length y ≤ room = omega (read, n) in
    omega (arith, k, l)
settled_size room (Refused r) x e = let z : ◌≡◌ {A = ℕ} 0 1 = cc in absurd (omega arith)

pub leaves_icmp : (p t b : List ℕ) → Leaves (icmp6 p t (length b)) b (overlay (icmp6 p t (length b)) b)
unfolding icmp6
leaves_icmp p t b = leaves (icmp6 p t (length b)) b (settled_size (length b) _)
