-- What is sent, from its head and the place from which the arriving octets follow.
use mathlib.Core.Path.{◌≡◌, sym, ap, ◌∙◌}
use mathlib.Core.List.{List, ◌++◌}
use Prim.Native.Nat.{ℕ, ◌+◌, ◌-◌}
use native.Mathlib.Omega.{arith}
use lib.ListN.{length, drop, length-append, length-drop}
use Rattle.std.specs.Prelude.{Result, Ok, Err}
use Rattle.rules.specs.Answer.{plain, Sent, settle, overlay}
use Rattle.rules.specs.Plan.{sent_by}
use Rattle.copying.specs.Run.{Run}
use Rattle.copying.proofs.Laws.{chain_prev}
use Rattle.rules.specs.declared.Refusal.{Refusal}
use Rattle.answer.specs.Answered.{Settled, Placed}
use Rattle.answer.proofs.Settling.{settled-refused, settled-sent, room_short, room_enough}

module _ (before place : ℕ) (p o o' : List ℕ) (e : Result ℕ Refusal) (r : Placed before place p o e o') (head : List ℕ) where
  -- row 16 refuses whatever the head is, so long as it has that length
  pub placed_refused : (ρ : Refusal) → e ≡ Err ρ → length head ≡ before → Settled (settle (length o) (Sent (sent_by head place p))) o e o'
  placed_refused ρ n l =
      let m : length (head ++ drop place p) ≡ before + (length p - place) = length-append head (drop place p) ∙ (λ i. l i + length-drop
      place p i) in
      rw (r.kept ρ n)
      (settled-refused _ (plain 16) o e (room_short (length o) (head ++ drop place p) (rw m (r.refused ρ n)))
      (n ∙ ap Err (r.refusal ρ n)))

  -- with the head written in front
  pub placed_sent : (n : ℕ) → e ≡ Ok n → (o'' : List ℕ) → Run o' 0 before head o''
      → Settled (settle (length o) (Sent (sent_by head place p))) o e o''
  unfolding overlay
  placed_sent n q o'' w =
      let d : length (drop place p) ≡ length p - place = length-drop place p in
      let m : length (head ++ drop place p) ≡ before + (length p - place) = length-append head (drop place p) ∙ (λ i. w.count i + d i) in
      settled-sent _ (head ++ drop place p) o o'' n e
      (room_enough (length o) (head ++ drop place p) (rw m (r.room n q))) q (r.sent n q ∙ sym m) (rw (r.sent n q) r.small)
      (chain_prev o 0 head (drop place p) (r.placed n q) w.holds (omega (arith, w.count)) (omega (arith, w.count, r.room n q)))
