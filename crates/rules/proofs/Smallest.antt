-- The first row that applies is given, whatever the list, where its rows stand in their places.
use mathlib.Core.Path.{◌≡◌, refl, sym, ap, ◌∙◌}
use mathlib.Core.Bool.{Bool, true, false, not, cond, ◌||◌, true≢false}
use mathlib.Core.List.{List, [], ◌∷◌}
use Prim.Native.Nat.{ℕ, suc, ◌≤◌, ◌<◌}
use native.Mathlib.Omega.{arith}
use native.Mathlib.Decide.{ℕ_discrete, dec_lt}
use lib.Dec.{eqb, leb, ltb}
use borrow.Author.Tests.{leb-true, ltb-true, le-leb, eq-eqb, ne_eqb}
use Rattle.rules.specs.Answer.{Row, any, verdict, place, in_place, applies, Decision, Sent, Refused, after, outcome, Verdict}
use Rattle.rules.specs.Sound.{all, where_used}
use Rattle.rules.specs.Given.{First, GoesBy}
use Rattle.rules.specs.declared.Refusal.{Refusal}
use Rattle.std.specs.Prelude.{Ok, Err}
use Rattle.rules.proofs.Conditions.{and_left, and_right, all_at, where_used_lem}

-- a row's number, and the first place behind its own
abbrev own : Row → ℕ
own r = r.refusal.number

abbrev past : Row → ℕ
past r = suc (place (own r))

-- THE ROW IN FRONT

module _ (r : Row) (rs : List Row) where
  here : applies (own r) (r ∷ rs) ≡ any r.tests
  here = rw (eq-eqb (own r) (own r) refl)

  further : (n : ℕ) → (n ≡ own r → ⊥) → applies n (r ∷ rs) ≡ applies n rs
  further n h = rw (ne_eqb n (own r) h)

  module _ (k : ℕ) (o : in_place k (r ∷ rs) ≡ true) where
    at_least : k ≤ place (own r)
    at_least = leb-true _ _ (and_left (leb k (place (own r))) (in_place (past r) rs) o)

    rest : in_place (past r) rs ≡ true
    rest = and_right (leb k (place (own r))) (in_place (past r) rs) o

apart : (m n : ℕ) → place m < place n → n ≡ m → ⊥
apart m n l e = let q : place n ≡ place m = ap place e in omega arith

apart' : (m n : ℕ) → place m < place n → m ≡ n → ⊥
apart' m n l e = let q : place m ≡ place n = ap place e in omega arith

-- a number whose place is before all of a list has no row there
pub early : (rs : List Row) (k n : ℕ) → in_place k rs ≡ true → place n < k → applies n rs ≡ false
early [] k n o l = refl
early (r ∷ rs) k n o l =
    let g = at_least r rs k o in
    further r rs n (apart' n (own r) (omega arith)) ∙ early rs (past r) n (rest r rs k o) (omega arith)

late : (rs : List Row) (k n : ℕ) → in_place k rs ≡ true → applies n rs ≡ true → k ≤ place n
late rs k n o h = go (dec_lt (place n) k)
  where
    go : Dec (place n < k) → k ≤ place n
    go (yes l) = absurd (true≢false (sym h ∙ early rs k n o l))
    go (no d) = omega arith

-- A LIST OF ROWS

-- a refusal has the first number that applies
refused-first : (rs : List Row) (k : ℕ) (ρ : Refusal) → in_place k rs ≡ true → verdict rs ≡ Err ρ → First (λ n. applies n rs) ρ.number
unfolding verdict
refused-first [] k ρ o h = let z : ◌≡◌ {A = ℕ} 0 1 = cc in absurd (omega arith)
refused-first (r ∷ rs) k ρ o h = go (any r.tests) refl h (λ e. refused-first rs (past r) ρ (rest r rs k o) e)
  where
    go : (b : Bool) → any r.tests ≡ b → cond b (Err r.refusal) (verdict rs) ≡ Err ρ
        → (verdict rs ≡ Err ρ → First (λ n. applies n rs) ρ.number) → First (λ n. applies n (r ∷ rs)) ρ.number
    go true e h ih =
        let q : own r ≡ ρ.number = cc in
        rw (← q) (record {
          itself = here r rs ∙ e;
          before = λ n l. further r rs n (apart' n (own r) l) ∙ early rs (past r) n (rest r rs k o) (omega arith);
        })
    go false e h ih =
        let f = ih h in
        let l = late rs (past r) ρ.number (rest r rs k o) f.itself in
        record {
          itself = further r rs ρ.number (apart (own r) ρ.number l) ∙ f.itself;
          before = λ n m. pick (f.before n m) (ℕ_discrete n (own r));
        }
      where
        pick : {n : ℕ} → applies n rs ≡ false → Dec (n ≡ own r) → applies n (r ∷ rs) ≡ false
        pick g (yes q) = ap (λ (m : ℕ). applies m (r ∷ rs)) q ∙ here r rs ∙ e
        pick g (no d) = further r rs _ d ∙ g

-- and the first number that applies is refused with
first-refused : (rs : List Row) (k n : ℕ) → in_place k rs ≡ true → First (λ n. applies n rs) n
    → (ρ : Refusal) × ((verdict rs ≡ Err ρ) × (ρ.number ≡ n))
unfolding verdict
first-refused [] k n o f = absurd (true≢false (sym f.itself))
first-refused (r ∷ rs) k n o f =
    go (any r.tests) refl (ℕ_discrete n (own r)) (first-refused rs (past r) n (rest r rs k o))
  where
    -- a later number than the row's own, though the row applies
    not_first : any r.tests ≡ true → (n ≡ own r → ⊥) → ⊥
    not_first e d =
        let l = late rs (past r) n (rest r rs k o) (sym (further r rs n d) ∙ f.itself) in
        true≢false (sym e ∙ sym (here r rs) ∙ f.before (own r) l)

    behind : (n ≡ own r → ⊥) → First (λ n. applies n rs) n
    behind d = record { itself = sym (further r rs n d) ∙ f.itself; before = λ m l. pick m (f.before m l) (ℕ_discrete m (own r)) }
      where
        pick : (m : ℕ) → applies m (r ∷ rs) ≡ false → Dec (m ≡ own r) → applies m rs ≡ false
        pick m g (yes q) = let p : place m ≡ place (own r) = ap place q in early rs (past r) m (rest r rs k o) (omega arith)
        pick m g (no c) = sym (further r rs m c) ∙ g

    go : (b : Bool) → any r.tests ≡ b → Dec (n ≡ own r)
        → (First (λ n. applies n rs) n → (ρ : Refusal) × ((verdict rs ≡ Err ρ) × (ρ.number ≡ n)))
        → (ρ : Refusal) × ((cond b (Err r.refusal) (verdict rs) ≡ Err ρ) × (ρ.number ≡ n))
    go true e (yes q) ih = (r.refusal, (refl, sym q))
    go true e (no d) ih = absurd (not_first e d)
    go false e (yes q) ih = absurd (true≢false (sym f.itself ∙ ap (λ (m : ℕ). applies m (r ∷ rs)) q ∙ here r rs ∙ e))
    go false e (no d) ih = ih (behind d)

-- where every row passes no number applies
passed_none : (rs : List Row) → verdict rs ≡ Ok tt → (n : ℕ) → applies n rs ≡ false
unfolding verdict
passed_none [] h n = refl
passed_none (r ∷ rs) h n = go (any r.tests) refl h (λ e. passed_none rs e n)
  where
    go : (b : Bool) → any r.tests ≡ b → cond b (Err r.refusal) (verdict rs) ≡ Ok tt → (verdict rs ≡ Ok tt → applies n rs ≡ false)
        → applies n (r ∷ rs) ≡ false
    go true e h ih = let z : ◌≡◌ {A = ℕ} 0 1 = cc in absurd (omega arith)
    go false e h ih = pick (ℕ_discrete n (own r))
      where
        pick : Dec (n ≡ own r) → applies n (r ∷ rs) ≡ false
        pick (yes q) = ap (λ (m : ℕ). applies m (r ∷ rs)) q ∙ here r rs ∙ e
        pick (no d) = further r rs n d ∙ ih h

-- and where no number applies every row passes
none_passed : (rs : List Row) (k : ℕ) → in_place k rs ≡ true → ((n : ℕ) → applies n rs ≡ false) → verdict rs ≡ Ok tt
unfolding verdict
none_passed [] k o h = refl
none_passed (r ∷ rs) k o h =
    rw (sym (here r rs) ∙ h (own r)) (none_passed rs (past r) (rest r rs k o) (λ n. pick n (ℕ_discrete n (own r))))
  where
    pick : (n : ℕ) → Dec (n ≡ own r) → applies n rs ≡ false
    pick n (yes q) = let p : place n ≡ place (own r) = ap place q in early rs (past r) n (rest r rs k o) (omega arith)
    pick n (no d) = sym (further r rs n d) ∙ h n

-- A DECISION

pub after-refused : (v : Verdict) (x : List ℕ) (r : Refusal) → after v (Sent x) ≡ Refused r → v ≡ Err r
after-refused (Ok tt) x r h = let z : ◌≡◌ {A = ℕ} 0 1 = cc in absurd (omega arith)
after-refused (Err ρ) x r h = cc

after-sent : (v : Verdict) (x y : List ℕ) → after v (Sent x) ≡ Sent y → v ≡ Ok tt
after-sent (Ok tt) x y h = refl
after-sent (Err ρ) x y h = let z : ◌≡◌ {A = ℕ} 0 1 = cc in absurd (omega arith)

pub goes_by : (d : Decision) → in_place 0 d.rows ≡ true → GoesBy (λ n. applies n d.rows) (outcome d)
goes_by d o = record {
  refused = λ r h. refused-first d.rows 0 r o (after-refused (verdict d.rows) d.packet r h);
  given = λ n f. let (ρ, (v, q)) = first-refused d.rows 0 n o f in (ρ, (ap (λ (v : Verdict). after v (Sent d.packet)) v, q));
  sent = λ x h. passed_none d.rows (after-sent (verdict d.rows) d.packet x h);
  free = λ h. (d.packet, ap (λ (v : Verdict). after v (Sent d.packet)) (none_passed d.rows 0 o h));
}

-- BY SIZE

-- of two numbers the smaller has the earlier place; but only the numbers up to 10 stand before 17, and those up to 9 before 18
in_order : (m n : ℕ) → Bool
in_order m n =
    where_used (leb 1 m) (where_used (not (eqb n 17) || leb m 10) (where_used (not (eqb n 18) || leb m 9) (ltb (place m) (place n))))

all_in_order : all (λ n. all (λ m. in_order m n) n) 19 ≡ true
unfolding all place in_order
all_in_order = refl

pub smaller_before : (m n : ℕ) → 1 ≤ m → m < n → n ≤ 18 → (n ≡ 17 → m ≤ 10) → (n ≡ 18 → m ≤ 9) → place m < place n
unfolding in_order
smaller_before m n l h b c d =
    let o = all_at (λ m. in_order m n) n m (all_at (λ n. all (λ m. in_order m n) n) 19 n all_in_order (omega arith)) h in
    ltb-true _ _ (where_used_lem _ _ (where_used_lem _ _ (where_used_lem _ _ o (le-leb 1 m l)) (named 17 10 c)) (named 18 9 d))
  where
    named : (k most : ℕ) → (n ≡ k → m ≤ most) → not (eqb n k) || leb m most ≡ true
    named k most c = go (ℕ_discrete n k)
      where
        go : Dec (n ≡ k) → not (eqb n k) || leb m most ≡ true
        go (yes e) = rw (eq-eqb n k e, le-leb m most (c e))
        go (no d) = rw (ne_eqb n k d)

-- 18 stands before the numbers from 10 to 17
from_ten : (n : ℕ) → Bool
from_ten n = where_used (leb 10 n) (ltb (place 18) (place n))

all-from-ten : all from_ten 18 ≡ true
unfolding all place from_ten
all-from-ten = refl

pub checksum_before : (n : ℕ) → 10 ≤ n → n ≤ 17 → place 18 < place n
unfolding from_ten
checksum_before n l m = ltb-true _ _ (where_used_lem _ _ (all_at from_ten 18 n all-from-ten (omega arith)) (le-leb 10 n l))
