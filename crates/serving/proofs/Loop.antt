-- The state of the loop over the packets of a burst: what the first i of them made of the output and of the answers.
use mathlib.Core.Path.{◌≡◌, refl, sym, ap, ◌∙◌}
use mathlib.Core.List.{List, [], ◌∷◌, ◌++◌}
use Prim.Native.Nat.{ℕ, suc, ◌+◌, ◌-◌, ◌*◌, ◌/◌, ◌≤◌, ◌<◌}
use native.Mathlib.Nat.{zero-add}
use native.Mathlib.Omega.{arith}
use lib.ListN.{length, take, drop, get_or, set, length-append, length-drop, length-set}
use lib.Seq.{length-take-le, take-suc, take_all, sets-eq}
use Rattle.rules.specs.Octets.{splice}
use Rattle.rules.specs.Answer.{Outcome, packed}
use Rattle.rules.specs.Trip.{Version, translate}
use Rattle.copying.specs.Run.{Run}
use Rattle.copying.proofs.Laws.{first, next, run_as, chain, splice-nil}
use Rattle.burst.specs.Burst.{sum, cut, result, outcomes, results, answers, Fit}
use Rattle.serving.specs.Serving.{PacksAt, Served}
use Rattle.burst.proofs.Laws.{sum_snoc, sum-take, cut_snoc, results_snoc, answers_snoc, outcomes_snoc, cut-length}
use Rattle.burst.proofs.Laws.{outcomes-length, answers-length}

-- what comes of the first i packets
abbrev pub so_far : Version → (ls p t : List ℕ) (room i : ℕ) → List Outcome
so_far v ls p t room i = outcomes v t (cut (take i ls) p) room

pub record Serving (v : Version) (ls p t out₀ places₀ out places : List ℕ) (i place used : ℕ) : Type 0 where
  pub here : i ≤ length ls
  pub at : place ≡ sum (take i ls)
  pub done : Run out₀ 0 used (results (so_far v ls p t (length out₀) i)) out
  pub told : places ≡ splice places₀ 0 (answers (so_far v ls p t (length out₀) i))
  pub same : length out ≡ length out₀
  pub kept : length places ≡ length places₀
  pub within : used ≤ length out₀
  pub few : used ≤ 65700 * i

pub serving-start : (v : Version) (ls p t out₀ places₀ : List ℕ) → Serving v ls p t out₀ places₀ out₀ places₀ 0 0 0
unfolding cut outcomes results answers sum
serving-start v ls p t out₀ places₀ = record {
  here = omega arith;
  at = refl;
  done = first out₀ 0 [] 0 (sym (splice-nil out₀ 0)) refl;
  told = sym (splice-nil places₀ 0);
  same = refl;
  kept = refl;
  within = omega arith;
  few = omega arith;
}

-- a writer keeps the length of a buffer, so what it wrote lies within
run_within : (o : List ℕ) (a n : ℕ) (x o' : List ℕ) → Run o a n x o' → a ≤ length o → length o' ≡ length o → a + n ≤ length o
unfolding splice
run_within o a n x o' w h e =
    let l : length o' ≡ length (take a o) + length x + (length o - (a + length x)) =
    ap length w.holds ∙ rw (length-append, length-append, length-drop) refl in
    let k = length-take-le a o h in
    let c = w.count in
    omega arith

-- one element that is stored
pub set-splice : (l : List ℕ) (i x : ℕ) → i < length l → set l i x ≡ splice l i (x ∷ [])
unfolding splice
set-splice l i x h = sets-eq (x ∷ []) l i (omega arith)

-- one packet more
pub serving_next : (v : Version) (ls p t out₀ places₀ out places out' : List ℕ) (i place used answer : ℕ)
    → Serving v ls p t out₀ places₀ out places i place used → i < length ls → length ls ≤ length places₀
    → PacksAt used (translate v (take (get_or ls i 0) (drop place p)) t (length out - used)) out answer out' → length out' ≡ length out
    → Serving v ls p t out₀ places₀ out' (set places i answer) (suc i) (place + get_or ls i 0) (used + answer / 0x10000000000)
serving_next v ls p t out₀ places₀ out places out' i place used answer s h g w k =
    let n : ℕ = get_or ls i 0 in
    let front : List ℕ = take i ls in
    let before : List Outcome = so_far v ls p t (length out₀) i in
    let o : Outcome = translate v (take n (drop place p)) t (length out - used) in
    let more : take (suc i) ls ≡ front ++ n ∷ [] = take-suc ls i 0 h in
    -- its place and its room are those of the definition
    let o-as : translate v (take n (drop (sum front) p)) t (length out₀ - length (results before)) ≡ o =
    λ j. translate v (take n (drop (sym s.at j) p)) t (sym s.same j - s.done.count j) in
    let after : so_far v ls p t (length out₀) (suc i) ≡ before ++ o ∷ [] =
    ap (λ (l : List ℕ). outcomes v t (cut l p) (length out₀)) more
    ∙ ap (λ (l : List (List ℕ)). outcomes v t l (length out₀)) (cut_snoc front n p)
    ∙ outcomes_snoc v t (cut front p) (take n (drop (sum front) p)) (length out₀)
    ∙ ap (λ (z : Outcome). before ++ z ∷ []) o-as in
    let count : length (answers before) ≡ i =
    answers-length before ∙ outcomes-length v t (cut front p) (length out₀) ∙ cut-length front p ∙ length-take-le i ls s.here in
    let stored : set places i answer ≡ splice places i (packed o ∷ []) =
    ap (set places i) w.tells ∙ set-splice places i (packed o) (omega (arith, s.kept)) in
    let within = run_within out used (answer / 0x10000000000) (result o) out' w.holds (omega (arith, s.within, s.same)) k in
    record {
      here = omega arith;
      at = ap (λ (j : ℕ). j + n) s.at ∙ sym (ap sum more ∙ sum_snoc front n);
      done = run_as (next s.done (result o) _ w.holds.holds w.holds.count (sym (zero-add used)) (omega arith))
          (sym (ap results after ∙ results_snoc before o));
      told = chain places₀ 0 (answers before) (packed o ∷ []) s.told stored
          (sym (zero-add (length (answers before)) ∙ count)) (omega arith)
          ∙ ap (λ (l : List ℕ). splice places₀ 0 l) (sym (ap answers after ∙ answers_snoc before o));
      same = k ∙ s.same;
      kept = length-set places i answer ∙ s.kept;
      within = omega (arith, within, s.same);
      few = let a = w.small in let b = s.few in omega arith;
    }

-- the loop has come to its end
pub serving-end : (v : Version) (ls p t out₀ places₀ out places : List ℕ) (i place used : ℕ)
    → Serving v ls p t out₀ places₀ out places i place used → length ls ≤ i → Fit ls p (length places₀)
    → Served v ls p t out₀ places₀ used out places
serving-end v ls p t out₀ places₀ out places i place used s h f =
    let all : take i ls ≡ ls = take_all i ls h in
    record {
      holds = run_as s.done (ap (λ (l : List ℕ). results (outcomes v t (cut l p) (length out₀))) all);
      tells = s.told ∙ ap (λ (l : List ℕ). splice places₀ 0 (answers (outcomes v t (cut l p) (length out₀)))) all;
      small = let a = s.few in let b = s.here in let c = f.few in omega arith;
    }

-- the next packet ends within the octets lent
pub place_next : (ls p : List ℕ) (places i place : ℕ) → Fit ls p places → i < length ls → place ≡ sum (take i ls) → place + get_or ls i 0 ≤
    length p
place_next ls p places i place f h e =
    let m : sum (take (suc i) ls) ≡ sum (take i ls) + get_or ls i 0 = ap sum (take-suc ls i 0 h) ∙ sum_snoc (take i ls) (get_or ls i 0) in
    let k = sum-take ls (suc i) in
    omega (arith, f.adds)
