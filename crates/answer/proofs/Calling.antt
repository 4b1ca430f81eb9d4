-- A call at a behaviour, from the behaviour's plan: what the rows say, where the arriving octets follow, and the head in front of them.
use mathlib.Core.Path.{◌≡◌, sym, ap, ◌∙◌}
use mathlib.Core.List.{List, ◌++◌}
use Prim.Native.Nat.{ℕ, ◌≤◌, ◌<◌}
use lib.ListN.{length}
use Rattle.rules.specs.Answer.{Row, verdict, Outcome, Sent, unless, settle, Verdict}
use Rattle.rules.specs.Plan.{Plan, sent_by, carry_out}
use Rattle.rules.specs.declared.Refusal.{Refusal}
use Rattle.std.specs.Prelude.{Result, Ok, Err}
use Rattle.rules.proofs.Judging.{unless-append}
use Rattle.copying.specs.Run.{Run}
use Rattle.answer.specs.Answered.{Settled, Placed}
use Rattle.answer.proofs.Settling.{settled-refused, settled_as, refuse_settles, pass_settles}
use Rattle.answer.proofs.Placing.{placed_refused, placed_sent}

-- what a verdict says of a plan: it is that of the plan's rows, and where it passes the arriving octets and the length field fit
pub record Judged (plan : Plan) (p : List ℕ) (place field : ℕ) (v : Verdict) : Type 0 where
  pub rows : v ≡ verdict plan.rows
  pub at : place ≡ plan.place
  pub within : v ≡ Ok tt → place ≤ length p
  pub fits : v ≡ Ok tt → field < 65536

module _ (plan : Plan) (p : List ℕ) (o : Outcome) (is : carry_out plan p ≡ o) {place field : ℕ} {v : Verdict} (j : Judged plan p place field
    v) where
  pub plan_refused : (ρ : Refusal) (b : List ℕ) (e : Result ℕ Refusal) → v ≡ Err ρ → e ≡ Err ρ → Settled (settle (length b) o) b e b
  plan_refused ρ b e q h =
      settled-refused _ ρ b e (ap (settle (length b)) (sym is) ∙ refuse_settles (length b) plan.rows _ ρ (sym j.rows ∙ q)) h

  module _ (pass : v ≡ Ok tt) {before : ℕ} {b b' : List ℕ} {e : Result ℕ Refusal} (r : Placed before place p b e b') {head : List ℕ} (same :
      head ≡ plan.head) where
    passed : settle (length b) (Sent (sent_by head place p)) ≡ settle (length b) o
    passed =
        (λ i. settle (length b) (Sent (sent_by (same i) (j.at i) p)))
        ∙ sym (pass_settles (length b) plan.rows _ (sym j.rows ∙ pass))
        ∙ ap (settle (length b)) is

    pub plan_no_room : {ρ : Refusal} → e ≡ Err ρ → length head ≡ before → Settled (settle (length b) o) b e b'
    plan_no_room {ρ} n l = settled_as _ _ _ _ _ passed (placed_refused before place p b b' e r head ρ n l)

    pub plan_sent : {n : ℕ} → e ≡ Ok n → {b'' : List ℕ} → Run b' 0 before head b'' → Settled (settle (length b) o) b e b''
    plan_sent {n} q {b''} w = settled_as _ _ _ _ _ passed (placed_sent before place p b b' e r head n q b'' w)

-- a plan that another function carries out from some of its rows on, where those in front pass
pub plan_replied : (plan : Plan) (p : List ℕ) (o : Outcome) (front rest : List Row) (wanted : List ℕ) → carry_out plan p ≡ o
    → plan.rows ≡ front ++ rest → verdict front ≡ Ok tt → sent_by plan.head plan.place p ≡ wanted
    → {b : List ℕ} {e : Result ℕ Refusal} {b' : List ℕ}
    → Settled (settle (length b) (unless rest (Sent wanted))) b e b' → Settled (settle (length b) o) b e b'
plan_replied plan p o front rest wanted is joined pass whole {b} h =
    let made = Sent (sent_by plan.head plan.place p) in
    settled_as _ _ _ _ _
    (ap (λ (x : List ℕ). settle (length b) (unless rest (Sent x))) (sym whole)
    ∙ sym (pass_settles (length b) front (unless rest made) pass)
    ∙ ap (settle (length b)) (sym (unless-append front rest made) ∙ ap (λ (rs : List Row). unless rs made) (sym joined) ∙ is)) h
