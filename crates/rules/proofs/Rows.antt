-- Rows of the answer table: a packet is sent exactly where none applies, and then what is known is that every test failed.
use mathlib.Core.Path.{◌≡◌, refl, ap, ◌∙◌}
use mathlib.Core.List.{List, [], ◌∷◌, ◌++◌}
use mathlib.Core.Bool.{Bool, true, false, cond, true≢false}
use Prim.Native.Nat.{ℕ, ◌≤◌}
use native.Mathlib.Omega.{arith}
use lib.Dec.{eqb}
use lib.ListN.{length}
use borrow.Author.Tests.{le-ltb, lt-leb, eq-eqb, ne_eqb, eqb-true, not-false, ltb-false, leb-false}
use Rattle.rules.specs.Answer.{Row, differs, any, verdict, Outcome, Sent, Refused, after, unless, settle, room_row, Verdict}
use Rattle.std.specs.Prelude.{Ok, Err}

-- each test of a row fails; so for each row
abbrev pub Clear : List Bool → Type 0
Clear [] = Unit {0}
Clear (b ∷ bs) = (b ≡ false) × Clear bs

abbrev pub None : List Row → Type 0
None [] = Unit {0}
None (r ∷ rs) = Clear r.tests × None rs

pub clear-any : (bs : List Bool) → Clear bs → any bs ≡ false
clear-any [] n = refl
clear-any (b ∷ bs) n = rw n.0 (clear-any bs n.1)

pub any-clear : (bs : List Bool) → any bs ≡ false → Clear bs
any-clear [] e = tt
any-clear (true ∷ bs) e = absurd (true≢false e)
any-clear (false ∷ bs) e = (refl, any-clear bs e)

pub none_pass : (rs : List Row) → None rs → verdict rs ≡ Ok tt
unfolding verdict
none_pass [] n = refl
none_pass (r ∷ rs) n = rw (clear-any r.tests n.0) (none_pass rs n.1)

pub pass_none : (rs : List Row) → verdict rs ≡ Ok tt → None rs
unfolding verdict
pass_none [] e = tt
pass_none (r ∷ rs) e = let (q, f) = first (any r.tests) e in (any-clear r.tests q, pass_none rs f)
  where
    first : (b : Bool) → cond b (Err r.refusal) (verdict rs) ≡ Ok tt → (b ≡ false) × (verdict rs ≡ Ok tt)
    first true f = let z : ◌≡◌ {A = ℕ} 0 1 = cc in absurd (omega arith)
    first false f = (refl, f)

-- rows one after the other
pub none-append : (xs ys : List Row) → None xs → None ys → None (xs ++ ys)
none-append [] ys n m = m
none-append (x ∷ xs) ys n m = (n.0, none-append xs ys n.1 m)

pub none_front : (xs ys : List Row) → None (xs ++ ys) → None xs
none_front [] ys n = tt
none_front (x ∷ xs) ys n = (n.0, none_front xs ys n.1)

pub none_back : (xs ys : List Row) → None (xs ++ ys) → None ys
none_back [] ys n = n
none_back (x ∷ xs) ys n = none_back xs ys n.1

-- four lists of rows, as at D, Di and D4
pub none_parts : (a b c d : List Row) → None (a ++ (b ++ (c ++ d))) → None a × (None b × (None c × None d))
none_parts a b c d n =
    let m = none_back a (b ++ (c ++ d)) n in
    let l = none_back b (c ++ d) m in
    (none_front a (b ++ (c ++ d)) n, (none_front b (c ++ d) m, (none_front c d l, none_back c d l)))

pub parts_none : (a b c d : List Row) → None a → None b → None c → None d → None (a ++ (b ++ (c ++ d)))
parts_none a b c d na nb nc nd = none-append a (b ++ (c ++ d)) na (none-append b (c ++ d) nb (none-append c d nc nd))

-- where no row applies, the outcome is what it would be
pub unless-none : (rs : List Row) (o : Outcome) → None rs → unless rs o ≡ o
unless-none rs o n = rw (none_pass rs n)

pub after-sent : (v : Verdict) (o : Outcome) (x : List ℕ) → after v o ≡ Sent x → (v ≡ Ok tt) × (o ≡ Sent x)
after-sent (Ok tt) o x e = (refl, e)
after-sent (Err r) o x e = let z : ◌≡◌ {A = ℕ} 0 1 = cc in absurd (omega arith)

-- what is sent was refused by no row
pub unless-sent : (rs : List Row) (o : Outcome) (x : List ℕ) → unless rs o ≡ Sent x → None rs × (o ≡ Sent x)
unless-sent rs o x e = let (p, q) = after-sent (verdict rs) o x e in (pass_none rs p, q)

-- a decision to send, with room
pub settle-sent : (room : ℕ) (o : Outcome) (x : List ℕ) → o ≡ Sent x → length x ≤ room → settle room o ≡ Sent x
unfolding settle
settle-sent room o x e h = ap (settle room) e ∙ unless-none (room_row room x ∷ []) (Sent x) ((le-ltb room (length x) h, tt), tt)

pub sent-settle : (room : ℕ) (o : Outcome) (x : List ℕ) → settle room o ≡ Sent x → o ≡ Sent x
unfolding settle
sent-settle room (Sent y) x e = (unless-sent (room_row room y ∷ []) (Sent y) x e).1
sent-settle room (Refused r) x e = let z : ◌≡◌ {A = ℕ} 0 1 = cc in absurd (omega arith)

pub eq_differs : (a b : ℕ) → a ≡ b → differs a b ≡ false
eq_differs a b h = rw (eq-eqb a b h)

pub differs_eq : (a b : ℕ) → differs a b ≡ false → a ≡ b
differs_eq a b h = eqb-true a b (not-false (eqb a b) h)

-- a test that computes
pub closed : 0 ≤ 0 → false ≡ false
closed h = refl

-- tests fail, from arithmetic; and arithmetic, from tests that failed
pub ruleset clear = (arith, closed, le-ltb, lt-leb, ne_eqb, eq_differs)

pub ruleset read = (arith, ltb-false, leb-false, differs_eq)
