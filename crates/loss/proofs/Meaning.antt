-- What the counts of a report mean: numbers in order lose nothing, a jump over k numbers loses k, a new number at once again is one repeat.
use Rattle.std.proofs.Common.{◌≡◌, ℕ, zero, suc, ◌+◌, ◌%◌, ◌^◌, ◌<◌, ◌≤◌, true, ◌⊎◌, List, [], ◌∷◌, sym, refl, ap, ◌∙◌, subst, inl, inr}
use Rattle.std.proofs.Common.{⊎_elim, mod-eq_of_lt, eq-or-lt_of_le, arith, eq-eqb}
use borrow.Author.Tests.{eqb-false}
use Rattle.loss.specs.Loss.{New, counted, started}
use Rattle.loss.specs.Loss.{row_at, no_row, of_teid, offered, offer}
use Rattle.loss.specs.History.{Offer, history, Numbers, AllFree, own_offers, in_order}
use Rattle.loss.specs.declared.Row.{Row}
use Rattle.loss.proofs.Telling.{new_is, repeated-is}
use Rattle.loss.proofs.Offers.{served_row}
use Rattle.loss.proofs.Histories.{Kept, offered-free, offered-full, offered-counted, fine-history, free-fine}
use Rattle.loss.proofs.Histories.{new-fits, lost_fits}
use Rattle.loss.proofs.Alone.{own_parts, own-after, lone_offer, own_offers_alone, own_serves_next}

-- NUMBERS IN ORDER

-- a row after k numbers in order, which the number `next` follows; it counts to 4,294,967,295 and no further
abbrev Counting : (r : Row) (next k : ℕ) → Type 0
Counting r next k =
    ((r.seen ≡ k) × (k < 4294967295) × (r.highest < 65536) × (next ≡ (r.highest + 1) % 65536))
    ⊎ ((r.seen ≡ 4294967295) × (4294967295 ≤ k))

record Clean (teid : ℕ) (r : Row) (next k : ℕ) : Type 0 where
  own : of_teid teid r ≡ true
  none_lost : r.lost ≡ 0
  none-repeated : r.repeated ≡ 0
  none-late : r.late ≡ 0
  counting : Counting r next k

-- whether it goes on counting
counts_on : (r : Row) (next k : ℕ) → r.seen ≡ k → k ≤ 4294967295 → r.highest < 65536 → next ≡ (r.highest + 1) % 65536 → Counting r next k
counts_on r next k e l h n = ⊎_elim (λ m. inr (e ∙ m, omega arith)) (λ less. inl (e, less, h, n)) (eq-or-lt_of_le l)

module _ (teid : ℕ) where
  clean_first : (number : ℕ) → number < 65536 → Clean teid (started teid number) ((number + 1) % 65536) 1
  unfolding started
  clean_first number small = record {
    own = eq-eqb teid teid refl;
    none_lost = refl;
    none-repeated = refl;
    none-late = refl;
    counting = inl (refl, omega arith, small, refl);
  }

  -- the next number in order is new, and passes over none
  clean_next : (r : Row) (next k : ℕ) → next < 65536 → Clean teid r next k
      → Clean teid (offered r teid next).1 ((next + 1) % 65536) (k + 1)
  unfolding counted
  clean_next r next k small clean = ⊎_elim counts whole clean.counting
    where
      used : r.seen ≡ 0 → ⊥
      used e = eqb-false r.seen 0 (own_parts teid r clean.own).0 e

      counts : (r.seen ≡ k) × (k < 4294967295) × (r.highest < 65536) × (next ≡ (r.highest + 1) % 65536)
          → Clean teid (offered r teid next).1 ((next + 1) % 65536) (k + 1)
      counts h =
          let e = h.0 in
          let l = h.1 in
          let n = h.3 in
          let is-new = new_is next r.highest small h.2 0 (omega arith) (omega arith) in
          let row : (offered r teid next).1 ≡ counted r next (New 0) =
          ap (λ (o : ℕ × Row). o.1) (offered-counted r teid next used (λ f. omega arith)) ∙ ap (counted r next) is-new in
          let zero-lost = clean.none_lost in
          subst (λ (x : Row). Clean teid x ((next + 1) % 65536) (k + 1)) (sym row) (record {
            own = subst (λ (x : Row). of_teid teid x ≡ true) row (own-after teid next r (inl clean.own));
            none_lost = omega arith;
            none-repeated = clean.none-repeated;
            none-late = clean.none-late;
            counting = counts_on (counted r next (New 0)) ((next + 1) % 65536) (k + 1) (omega arith) (omega arith) small refl;
          })

      whole : (r.seen ≡ 4294967295) × (4294967295 ≤ k) → Clean teid (offered r teid next).1 ((next + 1) % 65536) (k + 1)
      whole h =
          let row : (offered r teid next).1 ≡ r = ap (λ (o : ℕ × Row). o.1) (offered-full r teid next h.0) in
          subst (λ (x : Row). Clean teid x ((next + 1) % 65536) (k + 1)) (sym row) (record {
            own = clean.own;
            none_lost = clean.none_lost;
            none-repeated = clean.none-repeated;
            none-late = clean.none-late;
            counting = inr (h.0, let m = h.1 in omega arith);
          })

  clean_run : (n : ℕ) (r : Row) (next k : ℕ) → next < 65536 → Clean teid r next k
      → (last : ℕ) × Clean teid (row_at (history (r ∷ []) (in_order teid next n)) 0) last (k + n)
  unfolding history in_order
  clean_run zero r next k small clean = (next, subst (Clean teid r next) (let e : k ≡ k + 0 = omega arith in e) clean)
  clean_run (suc n) r next k small clean =
      let rest = clean_run n (offered r teid next).1 ((next + 1) % 65536) (k + 1) (omega arith) (clean_next r next k small clean) in (
        rest.0,
        subst (λ (l : List Row). Clean teid (row_at (history l (in_order teid ((next + 1) % 65536) n)) 0) rest.0 (k + suc n))
            (sym (lone_offer teid r next (inl clean.own)))
            (subst (Clean teid _ rest.0) (let e : k + 1 + n ≡ k + suc n = omega arith in e) rest.1),
      )

  -- what a run in order leaves: nothing lost, repeated or late, and each seen, as far as a row counts
  pub record InOrder (r : Row) (n : ℕ) : Type 0 where
    pub lost : r.lost ≡ 0
    pub repeated : r.repeated ≡ 0
    pub late : r.late ≡ 0
    pub seen : n ≤ 4294967295 → r.seen ≡ n

  pub in_order_lem : (n : ℕ) (lone : Row) (number : ℕ) → 1 ≤ n → lone.seen ≡ 0 → number < 65536
      → InOrder (row_at (history (lone ∷ []) (in_order teid number n)) 0) n
  unfolding history in_order
  in_order_lem zero lone number some empty small = absurd (omega arith)
  in_order_lem (suc n) lone number some empty small =
      let run = (clean_run n (started teid number) ((number + 1) % 65536) 1 (omega arith) (clean_first number small)).1 in
      let first : (offer (lone ∷ []) teid number).1 ≡ started teid number ∷ [] =
      lone_offer teid lone number (inr (eq-eqb lone.seen 0 empty))
      ∙ ap (λ (o : ℕ × Row). o.1 ∷ []) (offered-free lone teid number empty) in
      subst (λ (l : List Row). InOrder (row_at (history l (in_order teid ((number + 1) % 65536) n)) 0) (suc n)) (sym first) (record {
        lost = run.none_lost;
        repeated = run.none-repeated;
        late = run.none-late;
        seen = λ h. ⊎_elim (λ c. let e = c.0 in omega arith) (λ c. let e = c.0 in let l = c.1 in omega arith) run.counting;
      })

-- in any history from free rows, whatever other TEIDs offer in between
pub in_order_among_others : (rows : List Row) (xs : List Offer) (teid i number n : ℕ) → AllFree rows → number < 65536 → 1 ≤ n
    → own_offers teid xs ≡ in_order teid number n → of_teid teid (row_at (history rows xs) i) ≡ true
    → InOrder teid (row_at (history rows xs) i) n
in_order_among_others rows xs teid i number n empty small some e own =
    subst (λ (r : Row). InOrder teid r n)
    (sym (own_offers_alone rows xs teid i empty own no_row refl ∙ ap (λ (l : List Offer). row_at (history (no_row ∷ []) l) 0) e))
    (in_order_lem teid n no_row number some refl small)

-- A JUMP, AND A NUMBER TWICE

module _ (rows : List Row) (xs : List Offer) (teid i : ℕ) (empty : AllFree rows) (numbers : Numbers xs)
    (own : of_teid teid (row_at (history rows xs) i) ≡ true) where
  abbrev h : List Row
  h = history rows xs

  abbrev r : Row
  r = row_at h i

  used : r.seen ≡ 0 → ⊥
  used e = eqb-false r.seen 0 (own_parts teid r own).0 e

  kept : Kept r
  kept = ⊎_elim (λ e. absurd (used e)) (λ k. k) (fine-history rows xs (free-fine rows empty) numbers i)

  -- the row after k numbers were passed over
  abbrev jumped : (k : ℕ) → Row
  jumped k = record {
    teid = r.teid;
    first = r.first;
    highest = (r.highest + k + 1) % 65536;
    seen = r.seen + 1;
    new = r.new + 1;
    repeated = r.repeated;
    late = r.late;
    lost = r.lost + k;
  }

  pub jump : (k : ℕ) → k ≤ 32766 → r.seen < 4294967295 → row_at (offer h teid ((r.highest + k + 1) % 65536)).1 i ≡ jumped k
  unfolding counted
  jump k small room =
      let number = (r.highest + k + 1) % 65536 in
      let fits : number < 65536 = omega arith in
      served_row h teid number i (own_serves_next rows xs teid i empty own)
      ∙ ap (λ (o : ℕ × Row). o.1) (offered-counted r teid number used (λ f. omega arith))
      ∙ ap (counted r number) (new_is number r.highest fits kept.highest_small k small refl)
      ∙ rw (new-fits r kept number room fits, lost_fits r kept number room fits k small) refl

  -- its highest number at once again
  abbrev repeats : Row
  repeats = record {
    teid = r.teid;
    first = r.first;
    highest = r.highest;
    seen = r.seen + 1;
    new = r.new;
    repeated = r.repeated + 1;
    late = r.late;
    lost = r.lost;
  }

  pub again : r.seen < 4294967295 → row_at (offer h teid r.highest).1 i ≡ repeats
  unfolding counted
  again room =
      let t = kept.total in
      let fits : (r.repeated + 1) % 2 ^ 32 ≡ r.repeated + 1 = mod-eq_of_lt (omega arith) in
      served_row h teid r.highest i (own_serves_next rows xs teid i empty own)
      ∙ ap (λ (o : ℕ × Row). o.1) (offered-counted r teid r.highest used (λ f. omega arith))
      ∙ ap (counted r r.highest) (repeated-is r.highest r.highest kept.highest_small kept.highest_small refl)
      ∙ rw fits refl
