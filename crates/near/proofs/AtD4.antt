-- D4 from its views: the addresses that it builds; its rows, its head and the place of the inner packet are those of the plan.
use mathlib.Core.Path.{◌≡◌, refl, sym, ap, ◌∙◌, subst}
use mathlib.Core.Bool.{Bool, true, false, cond}
use mathlib.Core.List.{List, [], ◌∷◌, ◌++◌, append_assoc}
use Prim.Native.Nat.{ℕ, zero, suc, ◌+◌, ◌-◌, ◌*◌, ◌≤◌}
use native.Mathlib.Nat.{zero-add}
use native.Mathlib.Omega.{arith}
use lib.Dec.{eqb}
use lib.ListN.{length, take, drop, replicate, length-append, length-drop}
use lib.Seq.{take-take, length-take-le}
use borrow.Author.Tests.{ne_eqb}
use Rattle.rules.specs.Octets.{octet, window, splice}
use Rattle.rules.specs.Rule as Rule
use Rattle.rules.specs.Gtpu as Gtpu
use Rattle.rules.specs.Table.{addresses_at}
use Rattle.rules.specs.Args.{Args, with_args}
use Rattle.rules.specs.Ipv6.{ipv6}
use Rattle.rules.specs.Answer.{Row, verdict, Sent, unless, settle, Verdict}
use Rattle.rules.specs.Header4.{header4, WellFormed4}
use Rattle.rules.specs.Datagram.{datagram, message_rows}
use Rattle.rules.specs.Echo.{is_echo, echo_rows, echo_reply4}
use Rattle.rules.specs.Session.{inner_protocol}
use Rattle.rules.specs.Srv6.{past_waypoints_payload}
use Rattle.rules.specs.Carried.{carried_by, carried4, datagram_in4}
use Rattle.rules.specs.E4.{start_behind}
use Rattle.rules.specs.D4.{address_behind, d4_sid, d4_source, gtp4_rows, rows_d4, rows_echo4, at_d4}
use Rattle.rules.specs.Plan.{carry_out, head_along, inner_at, d4_head, echo_plan4, g_pdu_plan4}
use Rattle.rules.specs.declared.Header4.{Header4}
use Rattle.rules.specs.declared.Datagram.{Datagram}
use Rattle.rules.specs.declared.Refusal.{Refusal}
use Rattle.std.specs.Prelude.{Result, Ok, Err}
use Rattle.rules.proofs.Judging.{refused-first}
use Rattle.rules.proofs.Paths.{addresses_at-length}
use Rattle.rules.proofs.Plans.{inner_4, all_head, echo4_carried_out, g_pdu4_carried_out}
use Rattle.copying.specs.Run.{Run}
use Rattle.copying.proofs.Laws.{splice_front, chain, run_as}
use Rattle.octets.proofs.Windows.{window_part}
use Rattle.answer.specs.Answered.{Settled}
use Rattle.answer.proofs.Settling.{settled_as, settled-refused, refuse_settles}
use Rattle.answer.proofs.Calling.{Judged, plan_refused, plan_replied}
use Rattle.echo.specs.Reply.{reply_to4}
use Rattle.path.proofs.Heads.{head_length}
use Rattle.path.specs.ByType.{type_rows}
use Rattle.path.proofs.Judged.{GpduRead, gpdu-place, echo-verdict, gpdu-verdict, gpdu_bounds}

-- ADDRESSES

drop-zeros : (k n : ℕ) → drop {A = ℕ} k (replicate {A = ℕ} n 0) ≡ replicate (n - k) 0
drop-zeros zero n = ap (λ (j : ℕ). replicate {A = ℕ} j 0) {x = n} {y = n - 0} (omega arith)
drop-zeros (suc k) zero = ap (λ (j : ℕ). replicate {A = ℕ} j 0) {x = 0} {y = 0 - suc k} (omega arith)
drop-zeros (suc k) (suc n) = drop-zeros k n ∙ ap (λ (j : ℕ). replicate {A = ℕ} j 0) {x = n - k} {y = suc n - suc k} (omega arith)

-- two pieces at the front of sixteen zeros
pub behind_built : (r : List ℕ) (at n : ℕ) (address a₁ a₂ : List ℕ) → at + 16 ≤ length r → n ≤ 12 → length address ≡ 4
    → a₁ ≡ splice (replicate 16 0) 0 (take n (drop at r)) → a₂ ≡ splice a₁ n address → a₂ ≡ address_behind (window r at 16) n address
behind_built r at n address a₁ a₂ hr hn ha e₁ e₂ =
    let x = take n (drop at r) in
    let w : window r at 16 ≡ take 16 (drop at r) = window_part r at 16 hr in
    let lx : length x ≡ n = length-take-le n (drop at r) (rw (length-drop at r) (omega arith)) in
    let c : a₂ ≡ splice (replicate 16 0) 0 (x ++ address) = chain (replicate 16 0) 0 x address e₁ e₂ (rw (zero-add (length x)) (sym lx))
    (omega arith) in
    let l : length (x ++ address) ≡ n + 4 = length-append x address ∙ (λ i. lx i + ha i) in
    let z : drop {A = ℕ} (n + 4) (replicate {A = ℕ} 16 0) ≡ replicate (12 - n) 0 = drop-zeros (n + 4) 16 ∙ ap (λ (j : ℕ). replicate {A = ℕ}
    j 0) {x = 16 - (n + 4)} {y = 12 - n} (omega arith) in
    let f : x ≡ take n (window r at 16) = sym (take-take n 16 (drop at r) (omega arith)) ∙ ap (take n) (sym w) in
    c ∙ splice_front (replicate 16 0) (x ++ address)
    ∙ ap (λ (k : ℕ). x ++ address ++ drop {A = ℕ} k (replicate {A = ℕ} 16 0)) l
    ∙ ap (λ (l : List ℕ). x ++ address ++ l) z
    ∙ append_assoc x address (replicate (12 - n) 0)
    ∙ ap (λ (l : List ℕ). l ++ (address ++ replicate (12 - n) 0)) f

-- PAST WAYPOINTS

-- with none of them, and with some
pub head_none : (r : List ℕ) (w class upper : ℕ) (source sid : List ℕ) (size : ℕ) → w ≡ Rule.waypoint_count r → w ≡ 0
    → d4_head r class upper source sid size ≡ ipv6 class size upper (Rule.hop_limit r) source sid []
unfolding d4_head
head_none r w class upper source sid size hw e = rw (sym hw ∙ e)

pub head_some : (r : List ℕ) (w class upper : ℕ) (source sid : List ℕ) (size : ℕ) → w ≡ Rule.waypoint_count r → (w ≡ 0 → ⊥)
    → d4_head r class upper source sid size ≡ head_along class upper (Rule.hop_limit r) source r 48 w 1 sid sid size
unfolding d4_head
head_some r w class upper source sid size hw n = rw (← hw, ne_eqb w 0 n)

-- a head that was written
module _ (r : List ℕ) (w class upper : ℕ) (source sid : List ℕ) (size : ℕ) (o o' : List ℕ) (hw : w ≡ Rule.waypoint_count r) where
  pub put_none : w ≡ 0 → Run o 0 40 (ipv6 class size upper (Rule.hop_limit r) source sid []) o'
      → Run o 0 (cond (eqb w 0) 40 (48 + 16 * (w + 1))) (d4_head r class upper source sid size) o'
  put_none e run =
      let k : 40 ≡ cond (eqb w 0) 40 (48 + 16 * (w + 1)) = rw e in
      subst (λ (n : ℕ). Run o 0 n (d4_head r class upper source sid size) o') k (run_as run (sym (head_none r w class upper source sid size
      hw e)))

  pub put_some : (w ≡ 0 → ⊥) → Run o 0 (48 + 16 * (w + 1)) (head_along class upper (Rule.hop_limit r) source r 48 w 1 sid sid size) o'
      → Run o 0 (cond (eqb w 0) 40 (48 + 16 * (w + 1))) (d4_head r class upper source sid size) o'
  put_some n run =
      let k : 48 + 16 * (w + 1) ≡ cond (eqb w 0) 40 (48 + 16 * (w + 1)) = rw (ne_eqb w 0 n) in
      subst (λ (n : ℕ). Run o 0 n (d4_head r class upper source sid size) o') k (run_as run (sym (head_some r w class upper source sid size
      hw n)))

payload_past : (r : List ℕ) (w : ℕ) (inner : List ℕ)
    → cond (eqb w 0) (length inner) (24 + 16 * w + length inner) ≡ past_waypoints_payload (addresses_at r 48 w) inner
unfolding addresses_at
payload_past r zero inner = refl
payload_past r (suc w) inner =
    let k : 24 + 16 * suc w + length inner ≡ 8 + 16 * (suc (length (addresses_at r (48 + 16) w)) + 1) + length inner =
    rw (addresses_at-length r (48 + 16) w) (omega arith) in
    rw (ne_eqb (suc w) 0 (λ (e : suc w ≡ 0). absurd (omega (arith, e)))) k

-- THE PLAN

module _ (r p : List ℕ) (h : Header4) (arrived : WellFormed4 p h) (g : Datagram) (place size first w : ℕ) (read : GpduRead p 20 g place
    size first)
    (hw : w ≡ Rule.waypoint_count r) where
  g_pdu4_place : place ≡ (g_pdu_plan4 r p).place
  unfolding g_pdu_plan4
  g_pdu4_place = gpdu-place p 20 g place size first read

  inner-here : drop place p ≡ (carried4 p).inner
  unfolding g_pdu_plan4
  inner-here = ap (λ (k : ℕ). drop k p) g_pdu4_place ∙ inner_4 p

  -- what the rows say
  module _ (v : Verdict) (field : ℕ) (hl : field ≡ cond (eqb w 0) size (24 + 16 * w + size))
      (judged : v ≡ verdict (gtp4_rows h g ++ (message_rows [] g ++ type_rows (Rule.direction r) (Rule.session r) g size first field)))
    where
      front_here : gtp4_rows h g ≡ gtp4_rows (header4 p) (datagram (datagram_in4 p))
      front_here = λ i. gtp4_rows (arrived.view i) (read.view i)

      -- of an Echo Request, before row 17
      abbrev echo_front : List Row
      echo_front = gtp4_rows (header4 p) (datagram (datagram_in4 p)) ++ message_rows [] (datagram (datagram_in4 p))

      echo4_front : is_echo (datagram (datagram_in4 p)) ≡ true → v ≡ verdict echo_front
      echo4_front t = echo-verdict p 20 g place size first read (gtp4_rows h g) [] (Rule.direction r) (Rule.session r) field v judged t _
          front_here

      echo4_rows : (echo_plan4 r p).rows ≡ echo_front ++ echo_rows (datagram (datagram_in4 p))
      unfolding echo_plan4 rows_echo4
      echo4_rows = sym (append_assoc (gtp4_rows (header4 p) (datagram (datagram_in4 p))) _ _)

      -- of any other message
      g_pdu4_judged : is_echo (datagram (datagram_in4 p)) ≡ false → Judged (g_pdu_plan4 r p) p place field v
      unfolding g_pdu_plan4 rows_d4
      g_pdu4_judged t =
          let z : size ≡ length (carried4 p).inner = read.holds ∙ sym (length-drop place p) ∙ ap length inner-here in
          let f : field ≡ past_waypoints_payload (Rule.waypoints r) (carried4 p).inner =
          hl ∙ (λ i. cond (eqb (hw i) 0) (z i) (24 + 16 * hw i + z i)) ∙ payload_past r (Rule.waypoint_count r) (carried4 p).inner in
          let bounds = gpdu_bounds p 20 g place size first read (gtp4_rows h g) [] (Rule.direction r) (Rule.session r) field v judged t in
          record {
            rows = gpdu-verdict p 20 g place size first read (gtp4_rows h g) [] (Rule.direction r) (Rule.session r) field v judged t
                (carried4 p).inner inner-here _ front_here _ f;
            at = g_pdu4_place;
            within = λ q. (bounds q).0;
            fits = λ q. omega (arith, (bounds q).1);
          }

      -- a refusal, whatever the message is
      pub d4_refused : (ρ : Refusal) (b : List ℕ) (k : Result ℕ Refusal) → v ≡ Err ρ → k ≡ Err ρ
          → Settled (settle (length b) (at_d4 r p)) b k b
      d4_refused ρ b k q h = go (is_echo (datagram (datagram_in4 p))) refl
        where
          go : (echo : Bool) → is_echo (datagram (datagram_in4 p)) ≡ echo → Settled (settle (length b) (at_d4 r p)) b k b
          go true t =
              settled-refused _ ρ b k
              (ap (settle (length b)) (sym (echo4_carried_out r p t))
              ∙ refuse_settles (length b) (echo_plan4 r p).rows _ ρ
              (ap verdict echo4_rows ∙ sym (refused-first echo_front (echo_rows (datagram (datagram_in4 p))) v ρ (echo4_front t) q))) h
          go false t = plan_refused (g_pdu_plan4 r p) p _ (g_pdu4_carried_out r p t) (g_pdu4_judged t) ρ b k q h

      -- from the view: what is sent where the message is no Echo Request
      type-here : (echo : Bool) → is_echo g ≡ echo → is_echo (datagram (datagram_in4 p)) ≡ echo
      type-here echo t = ap (λ (g : Datagram). is_echo g) (sym read.view) ∙ t

      pub other4_judged : is_echo g ≡ false → Judged (g_pdu_plan4 r p) p place field v
      other4_judged t = g_pdu4_judged (type-here false t)

      pub other4_carried_out : is_echo g ≡ false → carry_out (g_pdu_plan4 r p) p ≡ at_d4 r p
      other4_carried_out t = g_pdu4_carried_out r p (type-here false t)

      -- an Echo Request, from row 17 on
      pub echo4-answered : is_echo g ≡ true → v ≡ Ok tt → (tos : ℕ) → tos ≡ octet p 1 → {b : List ℕ} {k : Result ℕ Refusal} {b' : List ℕ}
          → Settled (settle (length b) (unless (echo_rows (datagram (drop 20 p))) (Sent (reply_to4 p 20 tos (Rule.hop_limit r))))) b k b'
          → Settled (settle (length b) (at_d4 r p)) b k b'
      unfolding echo_plan4 echo_reply4
      echo4-answered t q tos ht {b} h =
          let is = type-here true t in
          plan_replied (echo_plan4 r p) p _ echo_front (echo_rows (datagram (datagram_in4 p))) (echo_reply4 r p) (echo4_carried_out r p is)
          echo4_rows (sym (echo4_front is) ∙ q) (all_head (echo_reply4 r p) p)
          (settled_as _ _ _ _ _
          (λ i. settle (length b) (unless (echo_rows (datagram (drop 20 p))) (Sent (reply_to4 p 20 (ht i) (Rule.hop_limit r))))) h)

  -- what is written before the inner packet
  module _ (x : Args) (class : ℕ) (from to source sid : List ℕ)
      (hx : x ≡ record { qfi = Gtpu.qfi (drop 20 p); reflective = Gtpu.reflective (drop 20 p); teid = Gtpu.teid (drop 20 p) })
      (hc : class ≡ octet p 1) (hf : from ≡ window p 12 4) (ht : to ≡ window p 16 4)
      (hs : source ≡ address_behind (Rule.source_prefix r) (Rule.q r) from)
      (hd : sid ≡ with_args (address_behind (Rule.sid_prefix r) (Rule.p r) to) (start_behind (Rule.p r)) x) where
    pub d4_head_lem : d4_head r class (inner_protocol (Rule.session r) (first ∷ [])) source sid size ≡ (g_pdu_plan4 r p).head
    unfolding g_pdu_plan4 d4_source d4_sid carried4 carried_by
    d4_head_lem =
        let f : first ≡ octet p (inner_at p 20) = read.starts ∙ ap (octet p) g_pdu4_place in
        let z : size ≡ length p - inner_at p 20 = read.holds ∙ ap (λ (k : ℕ). length p - k) g_pdu4_place in
        let u = ap (λ (k : ℕ). inner_protocol (Rule.session r) (k ∷ [])) f in
        let s = hs ∙ ap (address_behind (Rule.source_prefix r) (Rule.q r)) hf in
        let d = hd ∙ (λ i. with_args (address_behind (Rule.sid_prefix r) (Rule.p r) (ht i)) (start_behind (Rule.p r)) (hx i)) in
        λ i. d4_head r (hc i) (u i) (s i) (d i) (z i)

  pub d4_size : (class upper : ℕ) (source sid : List ℕ) → length source ≡ 16 → length sid ≡ 16
      → length (d4_head r class upper source sid size) ≡ cond (eqb w 0) 40 (48 + 16 * (w + 1))
  d4_size class upper source sid ls ld = go w refl
    where
      go : (k : ℕ) → w ≡ k → length (d4_head r class upper source sid size) ≡ cond (eqb w 0) 40 (48 + 16 * (w + 1))
      go zero e = ap length (head_none r w class upper source sid size hw e) ∙ rw e (simp length-append (omega (arith, ls, ld)))
      go (suc k) e =
          let n : w ≡ 0 → ⊥ = λ (z : w ≡ 0). absurd (omega (arith, z, e)) in
          ap length (head_some r w class upper source sid size hw n)
          ∙ head_length class upper (Rule.hop_limit r) source r 48 w 1 sid sid size ls ld ld (omega arith) (omega arith)
          ∙ rw (ne_eqb w 0 n)
