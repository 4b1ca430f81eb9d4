-- A burst is what Alone.antt says of it, packet by packet: its outcomes both ways, its answers, the output, and row 19 both ways.
use mathlib.Core.Path.{◌≡◌, refl, sym, ap, ◌∙◌}
use mathlib.Core.Bool.{Bool, true, false, true≢false, or-true}
use mathlib.Core.List.{List, [], ◌∷◌, ◌++◌, append_assoc}
use Prim.Native.Nat.{ℕ, zero, suc, ◌+◌, ◌-◌, ◌*◌, ◌/◌, ◌≤◌, ◌<◌}
use native.Mathlib.Nat.{add-sub_of_le}
use native.Mathlib.Omega.{arith}
use lib.ListN.{length, take, drop, get_or, length-append, get_or-append}
use lib.Seq.{drop-drop, take-append_seam, drop-append_seam, drop-append-add, get_or-append-add, get_or-drop}
use borrow.Author.Tests.{lt-ltb, ne_eqb, ltb-true}
use lib.Dec.{ltb}
use Rattle.rules.specs.Octets.{Octets, splice}
use Rattle.rules.specs.Given.{Listed, with_icmp, without_icmp}
use Rattle.rules.specs.Refused.{upper_at}
use Rattle.rules.specs.Answer.{plain, any, differs, Outcome, Sent, Refused, overlay, packed}
use Rattle.rules.specs.Trip.{Version, v4, v6, translate}
use Rattle.rules.specs.declared.Refusal.{Refusal}
use Rattle.rules.proofs.Windows.{octets-drop}
use Rattle.rules.proofs.Rows.{eq_differs}
use Rattle.rules.proofs.Given.{listed6, listed4}
use Rattle.copying.proofs.Laws.{splice_front, splice-length}
use Rattle.burst.specs.Burst.{most, sum, cut, result, outcomes, results, answers, unfit, burst, answered}
use Rattle.burst.specs.Alone.{packet, size, sizes, outcome_at, sent_before, Alone, lengths_in, Told, Laid}
use Rattle.burst.specs.Alone.{BadBurst, over32, unequal, few_places}
use Rattle.burst.proofs.Laws.{sub-none, sub-sub, cut-length, outcomes-length, answers-length, fit}
use Rattle.burst.proofs.Laws.{burst-refused, burst-sent, answered_kept, answered-told}
use Rattle.burst.proofs.Room.{call_within}

-- EACH OUTCOME IS THAT OF A CALL BY ITSELF

size-result : (o : Outcome) → size o ≡ length (result o)
unfolding result
size-result (Sent x) = refl
size-result (Refused r) = refl

each : (v : Version) (t ls p : List ℕ) (room i : ℕ) → i < length ls
    → let os = outcomes v t (cut ls p) room in outcome_at os i ≡ translate v (packet ls p i) t (room - sent_before os i)
unfolding outcomes cut sum sizes
each v t [] p room i h = absurd (omega arith)
each v t (n ∷ ns) p room zero h = ap (translate v (take n p) t) (sym (sub-none room))
each v t (n ∷ ns) p room (suc i) h =
    let o : Outcome = translate v (take n p) t room in
    let os : List Outcome = outcomes v t (cut ns (drop n p)) (room - length (result o)) in
    each v t ns (drop n p) (room - length (result o)) i (omega arith)
    ∙ ap (λ (l : List ℕ). translate v (take (get_or ns i 0) l) t (room - length (result o) - sent_before os i))
    (drop-drop (sum (take i ns)) n p)
    ∙ ap (translate v (take (get_or ns i 0) (drop (n + sum (take i ns)) p)) t)
    (sub-sub room (length (result o)) (sent_before os i) ∙ ap (λ (k : ℕ). room - (k + sent_before os i)) (sym (size-result o)))

pub outcomes-alone : (v : Version) (ls p t : List ℕ) (room : ℕ) → Alone v ls p t room (outcomes v t (cut ls p) room)
outcomes-alone v ls p t room = record {
  count = outcomes-length v t (cut ls p) room ∙ cut-length ls p;
  each = λ i h. each v t ls p room i h;
}

-- and nothing else is
pub alone-outcomes : (v : Version) (ls p t : List ℕ) (room : ℕ) (os : List Outcome) → Alone v ls p t room os
    → os ≡ outcomes v t (cut ls p) room
unfolding outcomes cut sum sizes
alone-outcomes v [] p t room [] a = refl
alone-outcomes v [] p t room (o ∷ os) a = let z = a.count in absurd (omega arith)
alone-outcomes v (n ∷ ns) p t room [] a = let z = a.count in absurd (omega arith)
alone-outcomes v (n ∷ ns) p t room (o ∷ os) a =
    let first : o ≡ translate v (take n p) t room = a.each 0 (omega arith) ∙ ap (translate v (take n p) t) (sub-none room) in
    let rest : Alone v ns (drop n p) t (room - length (result o)) os = record {
      count = let z = a.count in omega arith;
      each = λ i h.
          a.each (suc i) (omega arith)
          ∙ ap (λ (l : List ℕ). translate v (take (get_or ns i 0) l) t (room - (size o + sent_before os i)))
          (sym (drop-drop (sum (take i ns)) n p))
          ∙ ap (translate v (packet ns (drop n p) i) t)
          (ap (λ (k : ℕ). room - (k + sent_before os i)) (size-result o) ∙ sym (sub-sub room (length (result o)) (sent_before os i)));
    } in
    let tail = alone-outcomes v ns (drop n p) t (room - length (result o)) os rest in
    (λ i. first i ∷ tail i)
    ∙ ap (λ (o : Outcome). translate v (take n p) t room ∷ outcomes v t (cut ns (drop n p)) (room - length (result o))) first

-- THE ANSWERS

answer_at : (os : List Outcome) (i : ℕ) → i < length os → get_or (answers os) i 0 ≡ packed (outcome_at os i)
unfolding answers
answer_at [] i h = absurd (omega arith)
answer_at (o ∷ os) zero h = refl
answer_at (o ∷ os) (suc i) h = answer_at os i (omega arith)

pub answers-told : (v : Version) (ls p t : List ℕ) (room : ℕ) (before : List ℕ) → any (unfit ls p (length before)) ≡ false
    → Told (outcomes v t (cut ls p) room) before (answered v ls p t room before)
answers-told v ls p t room before h =
    let os : List Outcome = outcomes v t (cut ls p) room in
    let n : length (answers os) ≡ length os = answers-length os in
    let k : length os ≡ length ls = (outcomes-alone v ls p t room).count in
    let f = fit ls p (length before) h in
    let e : answered v ls p t room before ≡ answers os ++ drop (length (answers os)) before =
    answered-told v ls p t room before h ∙ splice_front before (answers os) in
    record {
      count = ap length (answered-told v ls p t room before h) ∙ splice-length before 0 (answers os) (omega (arith, f.placed));
      each = λ i z. ap (λ (l : List ℕ). get_or l i 0) e ∙ get_or-append (answers os) _ 0 i (omega arith) ∙ answer_at os i z;
      past = λ i z.
          let up : length (answers os) + (i - length (answers os)) ≡ i = add-sub_of_le (omega arith) in
          ap (λ (l : List ℕ). get_or l i 0) e
          ∙ ap (λ (j : ℕ). get_or (answers os ++ drop (length (answers os)) before) j 0) (sym up)
          ∙ get_or-append-add (answers os) (drop (length (answers os)) before) (i - length (answers os)) 0
          ∙ get_or-drop (length (answers os)) before (i - length (answers os)) 0
          ∙ ap (λ (j : ℕ). get_or before j 0) up;
    }

-- the length in the answer to a packet of octets is that of what is sent
length-told : (v : Version) (p t : List ℕ) (room : ℕ) → Octets p
    → packed (translate v p t room) / 0x10000000000 ≡ size (translate v p t room)
length-told v6 p t room h = go (listed6 p t room h)
  where
    go : Listed (with_icmp (upper_at p)) (translate v6 p t room)
        → packed (translate v6 p t room) / 0x10000000000 ≡ size (translate v6 p t room)
    go (Listed.sent x e r) = r.size ∙ sym (ap size e)
    go (Listed.refused n a b e r) = r.size ∙ sym (ap size e)
length-told v4 p t room h = go (listed4 p t room)
  where
    go : Listed without_icmp (translate v4 p t room) → packed (translate v4 p t room) / 0x10000000000 ≡ size (translate v4 p t room)
    go (Listed.sent x e r) = r.size ∙ sym (ap size e)
    go (Listed.refused n a b e r) = r.size ∙ sym (ap size e)

octets-take : (n : ℕ) (p : List ℕ) → Octets p → Octets (take n p)
octets-take zero p h i = omega arith
octets-take (suc n) [] h i = omega arith
octets-take (suc n) (x ∷ p) h zero = h 0
octets-take (suc n) (x ∷ p) h (suc i) = octets-take n p (λ j. h (suc j)) i

-- so the answers tell where each result lies
pub lengths-told : (v : Version) (t ls p : List ℕ) (room : ℕ) → Octets p
    → let os = outcomes v t (cut ls p) room in lengths_in (answers os) ≡ sizes os
unfolding outcomes cut answers lengths_in sizes
lengths-told v t [] p room h = refl
lengths-told v t (n ∷ ns) p room h =
    λ i. length-told v (take n p) t room (octets-take n p h) i
    ∷ lengths-told v t ns (drop n p) (room - length (result (translate v (take n p) t room))) (octets-drop p n h) i

-- THE OUTPUT

sizes-sum : (os : List Outcome) → sum (sizes os) ≡ length (results os)
unfolding sum sizes results
sizes-sum [] = refl
sizes-sum (o ∷ os) = (λ i. size-result o i + sizes-sum os i) ∙ sym (length-append (result o) (results os))

-- what is sent lies within the output
pub results_within : (v : Version) (t : List ℕ) (ps : List (List ℕ)) (room : ℕ) → length (results (outcomes v t ps room)) ≤ room
unfolding outcomes results result
results_within v t [] room = omega arith
results_within v t (p ∷ ps) room = go (λ k. results_within v t ps k) (translate v p t room) refl
  where
    go : ((k : ℕ) → length (results (outcomes v t ps k)) ≤ k) → (o : Outcome) → translate v p t room ≡ o
        → length (results (outcomes v t (p ∷ ps) room)) ≤ room
    go ih (Sent x) e =
        let h = call_within v p t room x e in
        let rest = ih (room - length x) in
        let l = length-append x (results (outcomes v t ps (room - length x))) in
        rw e (omega arith)
    go ih (Refused r) e = let rest = ih (room - 0) in rw e (omega arith)

result_at : (os : List Outcome) (behind : List ℕ) (i : ℕ) (x : List ℕ) → i < length os → outcome_at os i ≡ Sent x
    → take (length x) (drop (sent_before os i) (results os ++ behind)) ≡ x
unfolding results sizes sum
result_at [] behind i x h e = absurd (omega arith)
result_at (o ∷ os) behind zero x h e =
    ap (λ (l : List ℕ). take (length x) l)
    (append_assoc (result o) (results os) behind ∙ ap (λ (o : Outcome). result o ++ (results os ++ behind)) e)
    ∙ unfold result in take-append_seam x (results os ++ behind)
result_at (o ∷ os) behind (suc i) x h e =
    ap (λ (l : List ℕ). take (length x) (drop (size o + sent_before os i) l)) (append_assoc (result o) (results os) behind)
    ∙ ap (λ (k : ℕ). take (length x) (drop (k + sent_before os i) (result o ++ (results os ++ behind)))) (size-result o)
    ∙ ap (λ (l : List ℕ). take (length x) l) (drop-append-add (result o) (results os ++ behind) (sent_before os i))
    ∙ result_at os behind i x (omega arith) e

-- results that lie within a buffer, laid over it
pub results_laid : (os : List Outcome) (buffer : List ℕ) → length (results os) ≤ length buffer
    → Laid os buffer (splice buffer 0 (results os))
results_laid os buffer h =
    let e : splice buffer 0 (results os) ≡ results os ++ drop (length (results os)) buffer = splice_front buffer (results os) in
    record {
      count = splice-length buffer 0 (results os) (omega arith);
      each = λ i x k q.
          ap (λ (l : List ℕ). take (length x) (drop (sent_before os i) l)) e ∙ result_at os (drop (length (results os)) buffer) i x k q;
      past =
          ap (λ (l : List ℕ). drop (sum (sizes os)) l) e
          ∙ ap (λ (k : ℕ). drop k (results os ++ drop (length (results os)) buffer)) (sizes-sum os)
          ∙ drop-append_seam (results os) (drop (length (results os)) buffer)
          ∙ ap (λ (k : ℕ). drop k buffer) (sym (sizes-sum os));
    }

-- the burst answers the sum of the lengths sent, and its output holds each packet at its place
pub burst_laid : (v : Version) (ls p t buffer : List ℕ) (places : ℕ) → any (unfit ls p places) ≡ false
    → let os = outcomes v t (cut ls p) (length buffer) in let o = burst v ls p t (length buffer) places in
    (packed o ≡ sum (sizes os) * 0x10000000000) × Laid os buffer (overlay o buffer)
unfolding overlay packed
burst_laid v ls p t buffer places h =
    let os : List Outcome = outcomes v t (cut ls p) (length buffer) in
    let b : burst v ls p t (length buffer) places ≡ Sent (results os) = burst-sent v ls p t (length buffer) places h in
    let n = sizes-sum os in (
      ap packed b ∙ omega arith,
      rw b (results_laid os buffer (results_within v t (cut ls p) (length buffer))),
    )

-- ROW 19

pub unfit_bad : (ls p : List ℕ) (places : ℕ) → any (unfit ls p places) ≡ true → BadBurst ls p places
unfit_bad ls p places h = go (ltb most (length ls)) refl
  where
    third : ltb most (length ls) ≡ false → differs (sum ls) (length p) ≡ false → (b : Bool) → ltb places (length ls) ≡ b
        → BadBurst ls p places
    third e f true g = few_places (ltb-true places (length ls) g)
    third e f false g = let z : false ≡ true = rw (e, f, g) at h in absurd (true≢false (sym z))

    second : ltb most (length ls) ≡ false → (b : Bool) → differs (sum ls) (length p) ≡ b → BadBurst ls p places
    second e true f = unequal (λ q. true≢false (sym f ∙ eq_differs (sum ls) (length p) q))
    second e false f = third e f (ltb places (length ls)) refl

    go : (b : Bool) → ltb most (length ls) ≡ b → BadBurst ls p places
    go true e = let h = ltb-true most (length ls) e in over32 (omega arith)
    go false e = second e (differs (sum ls) (length p)) refl

pub bad_unfit : (ls p : List ℕ) (places : ℕ) → BadBurst ls p places → any (unfit ls p places) ≡ true
bad_unfit ls p places (over32 h) = rw (lt-ltb most (length ls) (omega arith))
bad_unfit ls p places (unequal h) = rw (ne_eqb (sum ls) (length p) h, or-true)
bad_unfit ls p places (few_places h) = rw (lt-ltb places (length ls) h, or-true, or-true)

pub given_19 : (v : Version) (ls p t : List ℕ) (room places : ℕ) → BadBurst ls p places → burst v ls p t room places ≡ Refused (plain 19)
given_19 v ls p t room places h = burst-refused v ls p t room places (bad_unfit ls p places h)

pub when_19 : (v : Version) (ls p t : List ℕ) (room places : ℕ) (r : Refusal) → burst v ls p t room places ≡ Refused r
    → BadBurst ls p places
when_19 v ls p t room places r e = unfit_bad ls p places (go (any (unfit ls p places)) refl)
  where
    go : (b : Bool) → any (unfit ls p places) ≡ b → b ≡ true
    go true q = refl
    go false q =
        let z : Sent (results (outcomes v t (cut ls p) room)) ≡ Refused r = sym (burst-sent v ls p t room places q) ∙ e in
        let n : ◌≡◌ {A = ℕ} 0 1 = cc in
        absurd (omega arith)

-- and then nothing is written
pub kept_19 : (v : Version) (ls p t buffer places : List ℕ) → BadBurst ls p (length places)
    → (overlay (burst v ls p t (length buffer) (length places)) buffer ≡ buffer) × (answered v ls p t (length buffer) places ≡ places)
unfolding overlay
kept_19 v ls p t buffer places h = (
  ap (λ (o : Outcome). overlay o buffer) (given_19 v ls p t (length buffer) (length places) h),
  answered_kept v ls p t (length buffer) places (bad_unfit ls p (length places) h),
)
