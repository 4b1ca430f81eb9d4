-- Laws of a burst: one packet more at its end, the counts, row 19, a table that is not sound.
use mathlib.Core.Path.{◌≡◌, refl, sym, ap, ◌∙◌}
use mathlib.Core.Bool.{true, false}
use mathlib.Core.List.{List, [], ◌∷◌, ◌++◌, append_assoc, append-nil}
use Prim.Native.Nat.{ℕ, zero, suc, ◌+◌, ◌-◌, ◌≤◌}
use native.Mathlib.Omega.{arith}
use lib.ListN.{length, take, drop, replicate, length-append}
use lib.Seq.{drop-drop}
use Rattle.rules.specs.Octets.{splice}
use Rattle.rules.specs.Sound.{sound}
use Rattle.rules.specs.Answer.{plain, any, verdict, Outcome, Sent, Refused, packed}
use Rattle.rules.specs.Header.{header}
use Rattle.rules.specs.Header4.{header4}
use Rattle.rules.specs.Calls.{front_rows6, front_rows4}
use Rattle.rules.specs.Trip.{Version, v4, v6, translate}
use Rattle.rules.proofs.Rows.{any-clear, read}
use Rattle.rules.proofs.Deciding.{settled6, settled4}
use Rattle.answer.specs.Answered.{answer_of}
use Rattle.answer.proofs.Settling.{refuse_settles}
use Rattle.burst.specs.Burst.{sum, cut, result, outcomes, results, answers, unfit, Fit, burst, answered}

-- ONE PACKET MORE

pub sum_snoc : (ns : List ℕ) (n : ℕ) → sum (ns ++ n ∷ []) ≡ sum ns + n
unfolding sum
sum_snoc [] n = omega arith
sum_snoc (m ∷ ns) n = let e = sum_snoc ns n in omega arith

pub sum-take : (ns : List ℕ) (k : ℕ) → sum (take k ns) ≤ sum ns
unfolding sum
sum-take [] zero = omega arith
sum-take [] (suc k) = omega arith
sum-take (n ∷ ns) zero = omega arith
sum-take (n ∷ ns) (suc k) = let e = sum-take ns k in omega arith

pub cut_snoc : (ns : List ℕ) (n : ℕ) (p : List ℕ) → cut (ns ++ n ∷ []) p ≡ cut ns p ++ take n (drop (sum ns) p) ∷ []
unfolding cut sum
cut_snoc [] n p = refl
cut_snoc (m ∷ ns) n p =
    ap (λ (l : List (List ℕ)). take m p ∷ l)
    (cut_snoc ns n (drop m p) ∙ ap (λ (l : List ℕ). cut ns (drop m p) ++ take n l ∷ []) (drop-drop (sum ns) m p))

pub results_snoc : (os : List Outcome) (o : Outcome) → results (os ++ o ∷ []) ≡ results os ++ result o
unfolding results
results_snoc [] o = append-nil (result o)
results_snoc (a ∷ os) o = ap (λ (l : List ℕ). result a ++ l) (results_snoc os o) ∙ sym (append_assoc (result a) (results os) (result o))

pub answers_snoc : (os : List Outcome) (o : Outcome) → answers (os ++ o ∷ []) ≡ answers os ++ packed o ∷ []
unfolding answers
answers_snoc [] o = refl
answers_snoc (a ∷ os) o = ap (λ (l : List ℕ). packed a ∷ l) (answers_snoc os o)

pub sub-none : (a : ℕ) → a - 0 ≡ a
sub-none a = omega arith

pub sub-sub : (a b c : ℕ) → a - b - c ≡ a - (b + c)
sub-sub a b c = omega arith

-- the room then left is what all results before it leave
pub outcomes_snoc : (v : Version) (t : List ℕ) (ps : List (List ℕ)) (p : List ℕ) (room : ℕ)
    → outcomes v t (ps ++ p ∷ []) room ≡ outcomes v t ps room ++ translate v p t (room - length (results (outcomes v t ps room))) ∷ []
unfolding outcomes results
outcomes_snoc v t [] p room = ap (λ (k : ℕ). translate v p t k ∷ []) (sym (sub-none room))
outcomes_snoc v t (q ∷ ps) p room =
    let o : Outcome = translate v q t room in
    let left : ℕ = room - length (result o) in
    let os : List Outcome = outcomes v t ps left in
    ap (λ (l : List Outcome). o ∷ l)
    (outcomes_snoc v t ps p left
    ∙ ap (λ (k : ℕ). os ++ translate v p t k ∷ [])
    (sub-sub room (length (result o)) (length (results os)) ∙ ap (λ (k : ℕ). room - k) (sym (length-append (result o) (results os)))))

-- COUNTS

pub cut-length : (ns p : List ℕ) → length (cut ns p) ≡ length ns
unfolding cut
cut-length [] p = refl
cut-length (n ∷ ns) p = ap suc (cut-length ns (drop n p))

pub outcomes-length : (v : Version) (t : List ℕ) (ps : List (List ℕ)) (room : ℕ) → length (outcomes v t ps room) ≡ length ps
unfolding outcomes
outcomes-length v t [] room = refl
outcomes-length v t (p ∷ ps) room = ap suc (outcomes-length v t ps (room - length (result (translate v p t room))))

pub answers-length : (os : List Outcome) → length (answers os) ≡ length os
unfolding answers
answers-length [] = refl
answers-length (o ∷ os) = ap suc (answers-length os)

pub result-size : (o : Outcome) → length (result o) ≡ (answer_of o).size
unfolding result
result-size (Sent x) = refl
result-size (Refused r) = refl

-- ROW 19

pub fit : (ls p : List ℕ) (places : ℕ) → any (unfit ls p places) ≡ false → Fit ls p places
fit ls p places h =
    let c = any-clear (unfit ls p places) h in
    record { few = omega (read, c.0); adds = omega (read, c.1.0); placed = omega (read, c.1.1.0) }

-- the burst as a whole, where it refuses and where it does not
module _ (v : Version) (ls p t : List ℕ) (room : ℕ) where
  pub burst-refused : (places : ℕ) → any (unfit ls p places) ≡ true → burst v ls p t room places ≡ Refused (plain 19)
  unfolding burst verdict
  burst-refused places h = rw h

  pub burst-sent : (places : ℕ) → any (unfit ls p places) ≡ false
      → burst v ls p t room places ≡ Sent (results (outcomes v t (cut ls p) room))
  unfolding burst verdict
  burst-sent places h = rw h

  pub answered_kept : (before : List ℕ) → any (unfit ls p (length before)) ≡ true → answered v ls p t room before ≡ before
  unfolding answered
  answered_kept before h = rw h

  pub answered-told : (before : List ℕ) → any (unfit ls p (length before)) ≡ false
      → answered v ls p t room before ≡ splice before 0 (answers (outcomes v t (cut ls p) room))
  unfolding answered
  answered-told before h = rw h

-- A TABLE THAT IS NOT SOUND

unsound : (v : Version) (p t : List ℕ) (room : ℕ) → sound t ≡ false → translate v p t room ≡ Refused (plain 1)
unsound v6 p t room h =
    settled6 p t room ∙ refuse_settles room (front_rows6 t (header p)) _ (plain 1) (unfold front_rows6 verdict in rw h)
unsound v4 p t room h =
    settled4 p t room ∙ refuse_settles room (front_rows4 t (header4 p)) _ (plain 1) (unfold front_rows4 verdict in rw h)

module _ (v : Version) (t : List ℕ) (h : sound t ≡ false) where
  -- each packet is refused with 1, and nothing is sent
  pub outcomes_unsound : (ps : List (List ℕ)) (room : ℕ) → outcomes v t ps room ≡ replicate (length ps) (Refused (plain 1))
  unfolding outcomes result
  outcomes_unsound [] room = refl
  outcomes_unsound (p ∷ ps) room =
      ap (λ (o : Outcome). o ∷ outcomes v t ps (room - length (result o))) (unsound v p t room h)
      ∙ ap (λ (l : List Outcome). Refused (plain 1) ∷ l) (outcomes_unsound ps (room - 0))

pub results-refused : (n : ℕ) → results (replicate n (Refused (plain 1))) ≡ []
unfolding results result
results-refused zero = refl
results-refused (suc n) = results-refused n

pub answers-refused : (n : ℕ) → answers (replicate n (Refused (plain 1))) ≡ replicate n (packed (Refused (plain 1)))
unfolding answers
answers-refused zero = refl
answers-refused (suc n) = ap (λ (l : List ℕ). packed (Refused (plain 1)) ∷ l) (answers-refused n)
