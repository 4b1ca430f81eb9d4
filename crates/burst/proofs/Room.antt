-- A call with another room: what is sent with some room is sent with any that is as long as the packet, and what is refused is refused with
-- less.
use mathlib.Core.Path.{◌≡◌, refl, sym, ◌∙◌}
use mathlib.Core.Bool.{Bool, true, false}
use mathlib.Core.List.{List}
use Prim.Native.Nat.{ℕ, ◌≤◌, ◌<◌}
use native.Mathlib.Omega.{arith}
use lib.Dec.{ltb}
use lib.ListN.{length}
use borrow.Author.Tests.{ltb-true, ltb-false}
use Rattle.rules.specs.Answer.{Outcome, Sent, Refused, settle}
use Rattle.rules.specs.Trip.{Version, v4, v6, translate}
use Rattle.rules.specs.declared.Refusal.{Refusal}
use Rattle.rules.proofs.Rows.{settle-sent, sent-settle}
use Rattle.rules.proofs.SentFields.{sent6_size, sent4_size}
use Rattle.rules.proofs.Deciding.{settled6, settled4}
use Rattle.answer.proofs.Settling.{room_short, room_enough}

-- what is decided, and what its length is held against
settled : (v : Version) (p t : List ℕ) → (o : Outcome) × ((room : ℕ) → translate v p t room ≡ settle room o)
settled v6 p t = (_, settled6 p t)
settled v4 p t = (_, settled4 p t)

refused_less : (room less : ℕ) (o : Outcome) (r : Refusal) → settle room o ≡ Refused r → less ≤ room → settle less o ≡ Refused r
refused_less room less (Sent y) r e h = go (ltb room (length y)) refl
  where
    go : (b : Bool) → ltb room (length y) ≡ b → settle less (Sent y) ≡ Refused r
    go true q =
        let short : room < length y = ltb-true room (length y) q in
        room_short less y (omega arith) ∙ sym (room_short room y short) ∙ e
    go false q =
        let z : Sent y ≡ Refused r = sym (room_enough room y (ltb-false room (length y) q)) ∙ e in
        let n : ◌≡◌ {A = ℕ} 0 1 = cc in
        absurd (omega arith)
refused_less room less (Refused ρ) r e h = unfold settle in e

pub call_within : (v : Version) (p t : List ℕ) (room : ℕ) (x : List ℕ) → translate v p t room ≡ Sent x → length x ≤ room
call_within v6 p t room x e = sent6_size p t room x e
call_within v4 p t room x e = sent4_size p t room x e

module _ (v : Version) (p t : List ℕ) (room : ℕ) where
  pub sent_also : (x : List ℕ) (other : ℕ) → translate v p t room ≡ Sent x → length x ≤ other → translate v p t other ≡ Sent x
  sent_also x other e h =
      let (o, s) = settled v p t in s other ∙ settle-sent other o x (sent-settle room o x (sym (s room) ∙ e)) h

  pub refused_also : (r : Refusal) (less : ℕ) → translate v p t room ≡ Refused r → less ≤ room → translate v p t less ≡ Refused r
  refused_also r less e h =
      let (o, s) = settled v p t in s less ∙ refused_less room less o r (sym (s room) ∙ e) h
