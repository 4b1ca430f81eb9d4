-- Row 17 from the octets of a packet, and a reply that was put together and sent.
use mathlib.Core.Path.{◌≡◌, refl, sym, ap, ◌∙◌}
use mathlib.Core.Bool.{Bool, true, false, ◌||◌}
use mathlib.Core.List.{List, [], ◌++◌}
use Prim.Native.Nat.{ℕ, ◌+◌, ◌-◌, ◌/◌, ◌%◌, ◌≤◌}
use native.Mathlib.Omega.{arith}
use Rattle.std.specs.Int.{from_be_bytes, w32}
use lib.ListN.{length, take, drop, length-append}
use lib.Seq.{get_or-drop, drop-drop, drop-append-add, length-take-le}
use Rattle.rules.specs.Octets.{octet, window, number, splice}
use Rattle.rules.specs.Answer.{differs, any, plain, Sent, unless, settle}
use Rattle.rules.specs.Datagram.{datagram}
use Rattle.rules.specs.Echo.{bad_echo, echo_rows}
use Rattle.rules.specs.Plan.{sent_by}
use Rattle.rules.specs.declared.Datagram.{Datagram}
use Rattle.rules.specs.declared.Refusal.{Refusal}
use Rattle.std.specs.Prelude.{Result, Ok, Err}
use Rattle.rules.proofs.Windows.{window-drop, window-length}
use Rattle.rules.proofs.Splices.{splice-window}
use Rattle.rules.proofs.Judging.{any_last, row_yes, row_no, row-none}
use Rattle.rules.proofs.Plans.{all_head}
use Rattle.copying.specs.Run.{Run}
use Rattle.copying.proofs.Laws.{splice_front}
use Rattle.answer.specs.Answered.{Settled, Placed}
use Rattle.answer.proofs.Settling.{settled_as, settled_named, refuse_settles, pass_settles}
use Rattle.answer.proofs.Placing.{placed_refused, placed_sent}

-- four octets as one number
teid_number : (s : List ℕ) → from_be_bytes w32 s ≡ number s 0 4
unfolding number
teid_number s = omega arith

-- flags and TEID of the datagram that begins at octet `at`
pub bad_read : (p : List ℕ) (at flags n : ℕ) (teid : List ℕ) → flags ≡ octet p (at + 8) → teid ≡ window p (at + 12) 4
    → n ≡ from_be_bytes w32 teid → (differs (flags / 2 % 2) 1 || differs n 0) ≡ any (bad_echo (datagram (drop at p)))
unfolding datagram
bad_read p at flags n teid hf ht hn =
    let u = drop at p in
    let f : flags ≡ octet u 8 = hf ∙ sym (get_or-drop at p 8 0) in
    let t : teid ≡ window u 12 4 = ht ∙ sym (window-drop p at 12 4) in
    let k : n ≡ number (window u 12 4) 0 4 = hn ∙ teid_number teid ∙ ap (λ (s : List ℕ). number s 0 4) t in
    ap (λ (b : Bool). differs (flags / 2 % 2) 1 || b) (sym (any_last _)) ∙ (λ i. differs (f i / 2 % 2) 1 || (differs (k i) 0 || false))

-- row 17 applies, and is passed
module _ (g : Datagram) (x b : List ℕ) where
  pub echo-refused : (r : Refusal) → any (bad_echo g) ≡ true → r ≡ plain 17
      → Settled (settle (length b) (unless (echo_rows g) (Sent x))) b (Err r) b
  unfolding echo_rows
  echo-refused r e named =
      settled_named _ (plain 17) r b
      (refuse_settles (length b) (echo_rows g) (Sent x) (plain 17) (sym (row_yes (bad_echo g) (plain 17) [] e))) named

  pub echo_passed : (e : Result ℕ Refusal) (b' : List ℕ) → any (bad_echo g) ≡ false → Settled (settle (length b) (Sent x)) b e b'
      → Settled (settle (length b) (unless (echo_rows g) (Sent x))) b e b'
  unfolding echo_rows
  echo_passed e b' q h =
      settled_as _ _ _ _ _
      (sym (pass_settles (length b) (echo_rows g) (Sent x) (sym (row_no (bad_echo g) (plain 17) [] (Ok tt) q row-none)))) h

-- a reply is all head: no octet of the packet p follows
module _ (wanted p : List ℕ) {before : ℕ} {b b' : List ℕ} {e : Result ℕ Refusal} (r : Placed before (length p) p b e b') {head : List ℕ}
    (same : head ≡ wanted) where
  sent_as : settle (length b) (Sent (sent_by head (length p) p)) ≡ settle (length b) (Sent wanted)
  sent_as = ap (λ (x : List ℕ). settle (length b) (Sent x)) (all_head head p ∙ same)

  pub reply_no_room : {ρ : Refusal} → e ≡ Err ρ → length head ≡ before → Settled (settle (length b) (Sent wanted)) b e b'
  reply_no_room {ρ} n l = settled_as _ _ _ _ _ sent_as (placed_refused before (length p) p b b' e r head ρ n l)

  pub reply_sent : {n : ℕ} → e ≡ Ok n → {b'' : List ℕ} → Run b' 0 before head b'' → Settled (settle (length b) (Sent wanted)) b e b''
  reply_sent {n} q {b''} w = settled_as _ _ _ _ _ sent_as (placed_sent before (length p) p b b' e r head n q b'' w)

-- octets that a head covers, which is written later
covers : (o : List ℕ) (a : ℕ) (x head : List ℕ) → a + length x ≤ length head → length head ≤ length o
    → splice (splice o a x) 0 head ≡ splice o 0 head
unfolding splice
covers o a x head h l =
    let t = take a o ++ x in
    let n : length t ≡ a + length x = length-append (take a o) x ∙ ap (λ (k : ℕ). k + length x) (length-take-le a o (omega arith)) in
    let m : length head ≡ length t + (length head - (a + length x)) = omega (arith, n) in
    let k : a + length x + (length head - (a + length x)) ≡ length head = omega arith in
    splice_front (splice o a x) head
    ∙ ap (λ (r : List ℕ). head ++ r)
    (ap (λ (j : ℕ). drop j (t ++ drop (a + length x) o)) m
    ∙ drop-append-add t (drop (a + length x) o) (length head - (a + length x))
    ∙ drop-drop (length head - (a + length x)) (a + length x) o
    ∙ ap (λ (j : ℕ). drop j o) k)
    ∙ sym (splice_front o head)

-- addresses that were copied into a buffer from octet 12 on, read there, and a head written over them
module _ (o o' p : List ℕ) (put : o' ≡ splice o 12 (window p 16 4 ++ window p 12 4)) (long : 42 ≤ length o) where
  both : window o' 12 8 ≡ window p 16 4 ++ window p 12 4
  unfolding window
  both = ap (λ (l : List ℕ). window l 12 8) put
      ∙ splice-window o 12 (window p 16 4 ++ window p 12 4) 8 refl (omega arith)

  pub copied_source : window o' 12 4 ≡ window p 16 4
  unfolding window
  copied_source = ap (λ (l : List ℕ). take 4 l) both

  pub copied_destination : window o' 16 4 ≡ window p 12 4
  unfolding window
  copied_destination = ap (λ (l : List ℕ). drop 4 l) both

  pub written_over : {head o'' : List ℕ} → Run o' 0 42 head o'' → Run o 0 42 head o''
  written_over {head} r =
      let z = window p 16 4 ++ window p 12 4 in
      let n : length z ≡ 8 = length-append (window p 16 4) (window p 12 4) ∙ (λ i. window-length p 16 4 i + window-length p 12 4 i) in
      record {
        holds = r.holds ∙ ap (λ (l : List ℕ). splice l 0 head) put ∙ covers o 12 z head (omega (arith, n, r.count)) (omega (
          arith,
          r.count,
        ));
        count = r.count;
      }
