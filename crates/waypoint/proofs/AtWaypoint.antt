-- The waypoint from its views: its rows and its head are those of its plan.
use mathlib.Core.Path.{◌≡◌, refl, sym, ap, ◌∙◌}
use mathlib.Core.Bool.{true, false}
use mathlib.Core.List.{List, [], ◌∷◌}
use Prim.Native.Nat.{ℕ, ◌+◌, ◌-◌, ◌*◌}
use native.Mathlib.Omega.{arith}
use lib.ListN.{length}
use Rattle.rules.specs.Octets.{window, splice}
use Rattle.rules.specs.Srh as Srh
use Rattle.rules.specs.Answer.{plain, any, verdict}
use Rattle.rules.specs.Header.{header, bad_chain, WellFormed}
use Rattle.rules.specs.Waypoint.{Routing, routing, step, with_routing, step_rows, waypoint_rows}
use Rattle.rules.specs.Plan.{waypoint_plan}
use Rattle.rules.specs.declared.Header.{Header}
use Rattle.std.specs.Prelude.{Err}
use Rattle.rules.proofs.Judging.{row_yes, row_no}
use Rattle.rules.proofs.Plans.{passes_long}
use Rattle.answer.proofs.Calling.{Judged}
use Rattle.copying.specs.Run.{Run}
use Rattle.copying.proofs.Laws.{splice_inside, splice-length}

-- three pieces put over a front are those of the front
pub front_put : (o f : List ℕ) (s : Routing) (d o₁ o₂ o₃ o₄ : List ℕ) → length f ≡ 48 → length d ≡ 16 → d ≡ s.destination
    → o₁ ≡ splice o 0 f → o₂ ≡ splice o₁ 7 (s.hopLimit ∷ []) → o₃ ≡ splice o₂ 24 d → o₄ ≡ splice o₃ 43 (s.segmentsLeft ∷ [])
    → Run o 0 48 (with_routing f s) o₄
unfolding with_routing
front_put o f s d o₁ o₂ o₃ o₄ hf ld ed e₁ e₂ e₃ e₄ =
    let hd : length s.destination ≡ 16 = ap length (sym ed) ∙ ld in
    let hops = s.hopLimit ∷ [] in
    let left = s.segmentsLeft ∷ [] in
    let f₁ = splice f 7 hops in
    let f₂ = splice f₁ 24 s.destination in
    let l₁ : length f₁ ≡ length f = splice-length f 7 hops (omega arith) in
    let l₂ : length f₂ ≡ length f = splice-length f₁ 24 s.destination (omega arith) ∙ l₁ in
    let l₃ : length (splice f₂ 43 left) ≡ length f₂ = splice-length f₂ 43 left (omega arith) in
    let g₂ : o₂ ≡ splice o 0 f₁ = e₂ ∙ ap (λ (l : List ℕ). splice l 7 hops) e₁ ∙ splice_inside o f 7 hops (omega arith) in
    let g₃ : o₃ ≡ splice o 0 f₂ = e₃ ∙ (λ i. splice (g₂ i) 24 (ed i)) ∙ splice_inside o f₁ 24 s.destination (omega arith) in
    record {
      holds = e₄ ∙ ap (λ (l : List ℕ). splice l 43 left) g₃ ∙ splice_inside o f₂ 43 left (omega arith);
      count = l₃ ∙ l₂ ∙ hf;
    }

-- its length
pub front_size : (f : List ℕ) (s : Routing) → length f ≡ 48 → length s.destination ≡ 16 → length (with_routing f s) ≡ 48
unfolding with_routing
front_size f s hf hd =
    let f₁ = splice f 7 (s.hopLimit ∷ []) in
    let f₂ = splice f₁ 24 s.destination in
    let l₁ : length f₁ ≡ length f = splice-length f 7 (s.hopLimit ∷ []) (omega arith) in
    let l₂ : length f₂ ≡ length f = splice-length f₁ 24 s.destination (omega arith) ∙ l₁ in
    splice-length f₂ 43 (s.segmentsLeft ∷ []) (omega arith) ∙ l₂ ∙ hf

module _ (p : List ℕ) (h : Header) (s : WellFormed p h) where
  -- row 5
  pub chain_judged : any (bad_chain h) ≡ true → Judged (waypoint_plan p) p 48 (length p - 40) (Err (plain 5))
  unfolding waypoint_plan waypoint_rows
  chain_judged e = record {
    rows = row_yes (bad_chain (header p)) (plain 5) (step_rows (header p).segmentsLeft (header p).hopLimit (header p))
        (ap (λ (h : Header). any (bad_chain h)) (sym s.view) ∙ e);
    at = refl;
    within = λ q. let z : ◌≡◌ {A = ℕ} 0 1 = cc in absurd (omega arith);
    fits = λ q. let z : ◌≡◌ {A = ℕ} 0 1 = cc in absurd (omega arith);
  }

  module _ (clean : any (bad_chain h) ≡ false) (front segment : List ℕ) (here : front ≡ window p 0 48)
      (named : segment ≡ window p (48 + 16 * (h.segmentsLeft - 1)) 16) where
    front_state : routing front ≡ routing p
    unfolding window
    front_state = ap routing here

    -- rows 6 to 8 behind it
    step-verdict : verdict (step_rows (routing front).segmentsLeft (routing front).hopLimit h) ≡ verdict (waypoint_plan p).rows
    unfolding waypoint_plan waypoint_rows header
    step-verdict =
        (λ i. verdict (step_rows (front_state i).segmentsLeft (front_state i).hopLimit (s.view i)))
        ∙ row_no (bad_chain (header p)) (plain 5) (step_rows (header p).segmentsLeft (header p).hopLimit (header p)) _
        (ap (λ (h : Header). any (bad_chain h)) (sym s.view) ∙ clean) refl

    pub step_judged : Judged (waypoint_plan p) p 48 (length p - 40) (verdict (step_rows (routing front).segmentsLeft
        (routing front).hopLimit h))
    unfolding waypoint_plan
    step_judged = record {
      rows = step-verdict;
      at = refl;
      within = λ q. passes_long p (sym step-verdict ∙ q);
      fits = λ q. omega (arith, s.short);
    }

    -- the next state in the front that is read again
    pub step_head : (next : Routing) (again : List ℕ) → next ≡ step (routing front) segment → again ≡ window p 0 48
        → with_routing again next ≡ (waypoint_plan p).head
    unfolding waypoint_plan Srh.segment header
    step_head next again stepped once =
        let at = named ∙ ap (λ (h : Header). window p (48 + 16 * (h.segmentsLeft - 1)) 16) s.view in
        let n = stepped ∙ (λ i. step (front_state i) (at i)) in
        λ i. with_routing (once i) (n i)
