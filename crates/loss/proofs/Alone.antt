-- A TEID's row is what its own offers alone would have made it: the offers of other TEIDs in between change nothing of it.
use Rattle.std.proofs.Common.{◌≡◌, ℕ, suc, ◌+◌, ◌<◌, Bool, true, false, cond, not, ◌&&◌, eqb, ◌⊎◌, List, [], ◌∷◌, length, sym, refl, ap}
use Rattle.std.proofs.Common.{◌∙◌, subst, inl, inr, ⊎_elim, true≢false, arith, eq-eqb, ne_eqb, eqb-true}
use borrow.Author.Tests.{eqb-false}
use Rattle.std.proofs.Common.{Option, Some, None}
use Rattle.loss.specs.Loss.{Arrival, New, Repeated, Late, arrival_of, distance, counted, started}
use Rattle.loss.specs.Loss.{row_at, no_row, free, of_teid, used_of, or_else, lowest, serving, offered, offer}
use Rattle.loss.specs.History.{Offer, history, AllFree, own_offers}
use Rattle.loss.specs.declared.Row.{Row}
use Rattle.std.proofs.lemmas.Bool.{cases_eq}
use Rattle.loss.proofs.Lowest.{is-lowest, lowest_at, lowest-none}
use Rattle.loss.proofs.Searching.{NoneBefore}
use Rattle.loss.proofs.Offers.{Fit, served_place, stores, refuses, served_row, other_row, other-teid, same_length}
use Rattle.loss.proofs.Histories.{by_case, offered-free}

-- TESTS OF A ROW

pub own_parts : (teid : ℕ) (r : Row) → of_teid teid r ≡ true → (free r ≡ false) × (r.teid ≡ teid)
own_parts teid r e = go (free r) (eqb r.teid teid) refl refl e
  where
    go : (z w : Bool) → free r ≡ z → eqb r.teid teid ≡ w → (not z && w) ≡ true → (free r ≡ false) × (r.teid ≡ teid)
    go false true p q e = (p, eqb-true r.teid teid q)
    go false false p q e = absurd (true≢false (sym e))
    go true w p q e = absurd (true≢false (sym e))

own_of : (teid : ℕ) (r : Row) → free r ≡ false → r.teid ≡ teid → of_teid teid r ≡ true
own_of teid r p q = rw (p, eq-eqb r.teid teid q)

apart : (teid other : ℕ) (r : Row) → of_teid other r ≡ true → (other ≡ teid → ⊥) → of_teid teid r ≡ false
apart teid other r e differ = go (of_teid teid r) refl
  where
    go : (z : Bool) → of_teid teid r ≡ z → z ≡ false
    go true p = absurd (differ (sym (own_parts other r e).1 ∙ (own_parts teid r p).1))
    go false p = refl

-- A ROW THAT SERVED IS OF THE TEID

counted-teid : (r : Row) (number : ℕ) (a : Arrival) → (counted r number a).teid ≡ r.teid
unfolding counted
counted-teid r number (New k) = refl
counted-teid r number Repeated = refl
counted-teid r number Late = refl

counted-used : (r : Row) (number : ℕ) (a : Arrival) → free (counted r number a) ≡ false
unfolding counted
counted-used r number (New k) = ne_eqb (r.seen + 1) 0 (λ e. omega arith)
counted-used r number Repeated = ne_eqb (r.seen + 1) 0 (λ e. omega arith)
counted-used r number Late = ne_eqb (r.seen + 1) 0 (λ e. omega arith)

fit-own : (teid : ℕ) (r : Row) → Fit teid r → (r.seen ≡ 0 → ⊥) → of_teid teid r ≡ true
fit-own teid r fit n = ⊎_elim (λ own. own) (λ empty. absurd (n (eqb-true r.seen 0 empty))) fit

begun : (teid number : ℕ) → of_teid teid (started teid number) ≡ true
unfolding started
begun teid number = eq-eqb teid teid refl

pub own-after : (teid number : ℕ) (r : Row) → Fit teid r → of_teid teid (offered r teid number).1 ≡ true
own-after teid number r fit =
    by_case r teid number (λ (o : ℕ × Row). of_teid teid o.1 ≡ true)
    (λ _. begun teid number)
    (λ e. fit-own teid r fit (λ z. omega arith))
    (λ n _. let a = arrival_of (distance number r.highest) in
    own_of teid (counted r number a) (counted-used r number a) (counted-teid r number a ∙ (own_parts teid r (fit-own teid r fit n)).1))

-- PLACES

abbrev place : Option ℕ → ℕ → ℕ
place (Some k) d = k
place None d = d

place_of : (j k : ℕ) → Some j ≡ Some k → j ≡ k
place_of j k e = ap (λ (f : Option ℕ). place f 0) e

nothing_at : (j : ℕ) → None ≡ Some j → ⊥
nothing_at j e = let h : suc j ≡ j = ap (λ (f : Option ℕ). place f (suc j)) e in omega arith

module _ (rows : List Row) (teid : ℕ) where
  abbrev n : ℕ
  n = used_of (length rows)

  own-place : (i : ℕ) → i < n → of_teid teid (row_at rows i) ≡ true → NoneBefore (of_teid teid) rows i → serving rows teid ≡ Some i
  unfolding serving
  own-place i h e none = rw (is-lowest (of_teid teid) rows n (Some i) (h, e, none))

  free-place : (k : ℕ) → NoneBefore (of_teid teid) rows n → lowest free rows n ≡ Some k → serving rows teid ≡ Some k
  unfolding serving
  free-place k none e = rw (is-lowest (of_teid teid) rows n None none, e)

  no_place : NoneBefore (of_teid teid) rows n → lowest free rows n ≡ None → serving rows teid ≡ None
  unfolding serving
  no_place none e = rw (is-lowest (of_teid teid) rows n None none, e)

-- ONE ROW BY ITSELF

module _ (teid : ℕ) where
  pub lone_serves : (r : Row) → Fit teid r → serving (r ∷ []) teid ≡ Some 0
  unfolding serving used_of lowest
  lone_serves r fit = go (free r) (eqb r.teid teid) fit
    where
      go : (z w : Bool) → ((not z && w) ≡ true) ⊎ (z ≡ true) → or_else (cond (not z && w) (Some 0) None) (cond z (Some 0) None) ≡ Some 0
      go true w fit = refl
      go false true fit = refl
      go false false fit = absurd (⊎_elim (λ e. true≢false (sym e)) (λ e. true≢false (sym e)) fit)

  pub lone_offer : (r : Row) (number : ℕ) → Fit teid r → (offer (r ∷ []) teid number).1 ≡ (offered r teid number).1 ∷ []
  lone_offer r number fit = ap (λ (o : ℕ × List Row). o.1) (stores (r ∷ []) teid number 0 (lone_serves r fit))

  -- what the rows are to the TEID, whose row alone would be a
  data State (rows : List Row) (a : Row) : Type 0 where
    served : (i : ℕ) → i < used_of (length rows) → of_teid teid (row_at rows i) ≡ true
        → ((j : ℕ) → of_teid teid (row_at rows j) ≡ true → j ≡ i) → row_at rows i ≡ a → State rows a
    awaited : ((j : ℕ) → of_teid teid (row_at rows j) ≡ false) → free a ≡ true → State rows a
    shut_out : ((j : ℕ) → of_teid teid (row_at rows j) ≡ false) → ((j : ℕ) → j < used_of (length rows) → free (row_at rows j) ≡ false)
        → State rows a

  abbrev AfterOffer : (rows : List Row) (other number : ℕ) → List Row
  AfterOffer rows other number = (offer rows other number).1

  same-used : (rows : List Row) (other number : ℕ) → used_of (length (AfterOffer rows other number)) ≡ used_of (length rows)
  same-used rows other number = ap used_of (same_length rows other number)

  -- an offer by which a row is served, at any place: either that row, or one as before
  at_place : (rows : List Row) (other number : ℕ) (P : Row → Type 0) (j : ℕ)
      → (serving rows other ≡ Some j → P (offered (row_at rows j) other number).1) → P (row_at rows j)
      → P (row_at (AfterOffer rows other number) j)
  at_place rows other number P j this else = go (serving rows other) refl
    where
      go : (f : Option ℕ) → serving rows other ≡ f → P (row_at (AfterOffer rows other number) j)
      go (Some k) e =
          ⊎_elim (λ same. let q = e ∙ ap Some (sym same) in subst P (sym (served_row rows other number j q)) (this q))
          (λ n. subst P (sym (other_row rows other number j (λ q. n (place_of j k (sym q ∙ e))))) else) (cases_eq j k)
      go None e = subst P (sym (other_row rows other number j (λ q. nothing_at j (sym e ∙ q)))) else

  -- the TEID's own offer
  own-step : (rows : List Row) (a : Row) (number : ℕ) → State rows a → State (AfterOffer rows teid number) (offered a teid number).1
  own-step rows a number (State.served i below own only same) =
      let here : serving rows teid ≡ Some i = own-place rows teid i below own
      (λ j h. not_own j (λ e. let q = only j e in omega arith)) in
      State.served i (subst (λ (k : ℕ). i < k) (sym (same-used rows teid number)) below)
      (subst (λ (r : Row). of_teid teid r ≡ true) (sym (served_row rows teid number i here))
      (own-after teid number (row_at rows i) (inl own)))
      (λ j e. ⊎_elim (λ q. q)
      (λ n. only j (subst (λ (r : Row). of_teid teid r ≡ true)
      (other_row rows teid number j (λ q. n (place_of j i (sym q ∙ here)))) e)) (cases_eq j i))
      (served_row rows teid number i here ∙ ap (λ (r : Row). (offered r teid number).1) same)
    where
      not_own : (j : ℕ) → (of_teid teid (row_at rows j) ≡ true → ⊥) → of_teid teid (row_at rows j) ≡ false
      not_own j n = go (of_teid teid (row_at rows j)) refl
        where
          go : (z : Bool) → of_teid teid (row_at rows j) ≡ z → z ≡ false
          go true e = absurd (n e)
          go false e = refl
  own-step rows a number (State.awaited none empty) = go (lowest free rows (used_of (length rows))) refl
    where
      n : ℕ
      n = used_of (length rows)

      begins : (offered a teid number).1 ≡ started teid number
      begins = ap (λ (o : ℕ × Row). o.1) (offered-free a teid number (eqb-true a.seen 0 empty))

      go : (f : Option ℕ) → lowest free rows n ≡ f → State (AfterOffer rows teid number) (offered a teid number).1
      go (Some k) e =
          let p = lowest_at free rows n k e in
          let here : serving rows teid ≡ Some k = free-place rows teid k (λ j h. none j) e in
          let first = offered-free (row_at rows k) teid number (eqb-true _ 0 p.1) in
          let row = served_row rows teid number k here ∙ ap (λ (o : ℕ × Row). o.1) first in
          State.served k (subst (λ (m : ℕ). k < m) (sym (same-used rows teid number)) p.0)
          (subst (λ (r : Row). of_teid teid r ≡ true) (sym row) (begun teid number))
          (λ j q. ⊎_elim (λ same. same)
          (λ differ. absurd (true≢false
          (sym q ∙ ap (of_teid teid) (other_row rows teid number j (λ z. differ (place_of j k (sym z ∙ here)))) ∙ none j)))
          (cases_eq j k))
          (row ∙ sym begins)
      go None e =
          let shut : serving rows teid ≡ None = no_place rows teid (λ j h. none j) e in
          let rows_stay = ap (λ (o : ℕ × List Row). o.1) (refuses rows teid number shut) in
          subst (λ (l : List Row). State l (offered a teid number).1) (sym rows_stay)
          (State.shut_out none (λ j h. lowest-none free rows n e j h))
  own-step rows a number (State.shut_out none busy) =
      let no-free = is-lowest free rows (used_of (length rows)) None busy in
      let shut : serving rows teid ≡ None = no_place rows teid (λ j h. none j) no-free in
      let rows_stay = ap (λ (o : ℕ × List Row). o.1) (refuses rows teid number shut) in
      subst (λ (l : List Row). State l (offered a teid number).1) (sym rows_stay) (State.shut_out none busy)

  -- an offer of another TEID
  module _ (rows : List Row) (a : Row) (other number : ℕ) (differ : other ≡ teid → ⊥) where
    -- a row that the offer is served by is the other's
    others : (j : ℕ) → serving rows other ≡ Some j → of_teid other (offered (row_at rows j) other number).1 ≡ true
    others j q = own-after other number (row_at rows j) (served_place rows other j q).1

    never-own : (j : ℕ) → of_teid teid (row_at rows j) ≡ false → of_teid teid (row_at (AfterOffer rows other number) j) ≡ false
    never-own j e =
        at_place rows other number (λ (r : Row). of_teid teid r ≡ false) j
        (λ q. apart teid other (offered (row_at rows j) other number).1 (others j q) differ) e

    other_step : State rows a → State (AfterOffer rows other number) a
    other_step (State.served i below own only same) =
        let stays = other-teid rows other number i teid own (λ e. differ (sym e)) in
        State.served i (subst (λ (k : ℕ). i < k) (sym (same-used rows other number)) below)
        (subst (λ (r : Row). of_teid teid r ≡ true) (sym stays) own)
        (λ j e. earlier j e (of_teid teid (row_at rows j)) refl)
        (stays ∙ same)
      where
        earlier : (j : ℕ) → of_teid teid (row_at (AfterOffer rows other number) j) ≡ true → (z : Bool) → of_teid teid (row_at rows j) ≡ z
            → j ≡ i
        earlier j e true q = only j q
        earlier j e false q = absurd (true≢false (sym e ∙ never-own j q))
    other_step (State.awaited none empty) = State.awaited (λ j. never-own j (none j)) empty
    other_step (State.shut_out none busy) =
        State.shut_out (λ j. never-own j (none j))
        (λ j h. at_place rows other number (λ (r : Row). free r ≡ false) j
        (λ q. (own_parts other (offered (row_at rows j) other number).1 (others j q)).0)
        (busy j (subst (λ (k : ℕ). j < k) (same-used rows other number) h)))

  -- OVER A HISTORY

  -- what the TEID's own offers make of a lone row
  abbrev alone : Row → List Offer → Row
  alone r [] = r
  alone r (x ∷ xs) = cond (eqb x.teid teid) (alone (offered r teid x.number).1 xs) (alone r xs)

  state-after : (rows : List Row) (a : Row) (xs : List Offer) → State rows a → State (history rows xs) (alone a xs)
  unfolding history
  state-after rows a [] state = state
  state-after rows a (x ∷ xs) state =
      go (eqb x.teid teid) refl (state-after (AfterOffer rows teid x.number) (offered a teid x.number).1 xs)
      (state-after (AfterOffer rows x.teid x.number) a xs)
    where
      go : (z : Bool) → eqb x.teid teid ≡ z
          → (State (AfterOffer rows teid x.number) (offered a teid x.number).1
          → State (history (AfterOffer rows teid x.number) xs) (alone (offered a teid x.number).1 xs))
          → (State (AfterOffer rows x.teid x.number) a → State (history (AfterOffer rows x.teid x.number) xs) (alone a xs))
          → State (history (AfterOffer rows x.teid x.number) xs) (cond z (alone (offered a teid x.number).1 xs) (alone a xs))
      go true e own other =
          let q = eqb-true x.teid teid e in
          subst (λ (k : ℕ). State (history (AfterOffer rows k x.number) xs) (alone (offered a teid x.number).1 xs)) (sym q)
          (own (own-step rows a x.number state))
      go false e own other = other (other_step rows a x.teid x.number (eqb-false x.teid teid e) state)

  lone_history : (r : Row) (xs : List Offer) → Fit teid r → history (r ∷ []) (own_offers teid xs) ≡ alone r xs ∷ []
  unfolding history own_offers
  lone_history r [] fit = refl
  lone_history r (x ∷ xs) fit =
      go (eqb x.teid teid) refl (lone_history (offered r teid x.number).1 xs (inl (own-after teid x.number r fit)))
      (lone_history r xs fit)
    where
      go : (z : Bool) → eqb x.teid teid ≡ z
          → history ((offered r teid x.number).1 ∷ []) (own_offers teid xs) ≡ alone (offered r teid x.number).1 xs ∷ []
          → history (r ∷ []) (own_offers teid xs) ≡ alone r xs ∷ []
          → history (r ∷ []) (cond z (x ∷ own_offers teid xs) (own_offers teid xs))
          ≡ cond z (alone (offered r teid x.number).1 xs) (alone r xs) ∷ []
      go true e own other =
          ap (λ (k : ℕ). history (offer (r ∷ []) k x.number).1 (own_offers teid xs)) (eqb-true x.teid teid e)
          ∙ ap (λ (l : List Row). history l (own_offers teid xs)) (lone_offer r x.number fit) ∙ own
      go false e own other = other

module _ (rows : List Row) (xs : List Offer) (teid i : ℕ) (empty : AllFree rows)
    (own : of_teid teid (row_at (history rows xs) i) ≡ true) where
  at_first : (lone : Row) → free lone ≡ true → State teid rows lone
  at_first lone fresh = State.awaited (λ j. rw (eq-eqb (row_at rows j).seen 0 (empty j))) fresh

  -- From free rows: a row that serves a TEID is what a lone free row is after the TEID's own offers alone.
  pub own_offers_alone : (lone : Row) → lone.seen ≡ 0 → row_at (history rows xs) i ≡ row_at (history (lone ∷ []) (own_offers teid xs)) 0
  own_offers_alone lone e =
      go (state-after teid rows lone xs (at_first lone fresh))
      ∙ ap (λ (l : List Row). row_at l 0) (sym (lone_history teid lone xs (inr fresh)))
    where
      fresh : free lone ≡ true
      fresh = eq-eqb lone.seen 0 e

      go : State teid (history rows xs) (alone teid lone xs) → row_at (history rows xs) i ≡ alone teid lone xs
      go (State.served k below here only same) = ap (row_at (history rows xs)) (only i own) ∙ same
      go (State.awaited none _) = absurd (true≢false (sym own ∙ none i))
      go (State.shut_out none _) = absurd (true≢false (sym own ∙ none i))

  -- and it is the row that serves: no other is of the TEID
  pub own_serves_next : serving (history rows xs) teid ≡ Some i
  own_serves_next = go (state-after teid rows no_row xs (at_first no_row refl))
    where
      go : State teid (history rows xs) (alone teid no_row xs) → serving (history rows xs) teid ≡ Some i
      go (State.served k below here only same) =
          let q = only i own in
          own-place (history rows xs) teid i (subst (λ (j : ℕ). j < used_of (length (history rows xs))) (sym q) below) own
          (λ j h. not_own j (λ e. let z = only j e in omega arith))
        where
          not_own : (j : ℕ) → (of_teid teid (row_at (history rows xs) j) ≡ true → ⊥) → of_teid teid (row_at (history rows xs) j) ≡ false
          not_own j n = cases (of_teid teid (row_at (history rows xs) j)) refl
            where
              cases : (z : Bool) → of_teid teid (row_at (history rows xs) j) ≡ z → z ≡ false
              cases true e = absurd (n e)
              cases false e = refl
      go (State.awaited none _) = absurd (true≢false (sym own ∙ none i))
      go (State.shut_out none _) = absurd (true≢false (sym own ∙ none i))
