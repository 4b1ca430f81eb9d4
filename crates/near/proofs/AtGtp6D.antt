-- D and Di from their views: their rows, their head and the place of the inner packet are those of the plan.
use mathlib.Core.Path.{◌≡◌, refl, sym, ap, ◌∙◌, subst}
use mathlib.Core.Bool.{Bool, true, false, cond}
use mathlib.Core.List.{List, [], ◌∷◌, ◌++◌, append_assoc}
use Prim.Native.Nat.{ℕ, ◌+◌, ◌-◌, ◌*◌, ◌≤◌, ◌<◌}
use native.Mathlib.Omega.{arith}
use lib.Dec.{eqb}
use lib.ListN.{length, drop, length-append, length-drop}
use Rattle.rules.specs.Octets.{octet, window}
use Rattle.rules.specs.Assigned.{routing_header}
use Rattle.rules.specs.Entry as Entry
use Rattle.rules.specs.Policy as Policy
use Rattle.rules.specs.Ipv6 as Ipv6
use Rattle.rules.specs.Srh as Srh
use Rattle.rules.specs.Gtpu as Gtpu
use Rattle.rules.specs.Args.{Args}
use Rattle.rules.specs.Answer.{Row, row, verdict, Sent, unless, settle, Verdict}
use Rattle.rules.specs.Header.{header}
use Rattle.rules.specs.Datagram.{datagram, bad_udp, message_rows}
use Rattle.rules.specs.Echo.{is_echo, echo_rows, echo_reply6}
use Rattle.rules.specs.Session.{inner_protocol}
use Rattle.rules.specs.Carried.{carried_by, carried6, datagram_in6}
use Rattle.rules.specs.Gtp6D.{gtp6_rows, checksum_rows, rows_gtp6d, rows_echo6}
use Rattle.rules.specs.D.{last_with_args}
use Rattle.rules.specs.Plan.{carry_out, tail_of, head_along, gtp6d_path, at_gtp6d, echo_plan6, g_pdu_plan6, inner_at}
use Rattle.rules.specs.declared.Header.{Header}
use Rattle.rules.specs.declared.Datagram.{Datagram}
use Rattle.rules.specs.declared.Refusal.{Refusal}
use Rattle.std.specs.Prelude.{Result, Ok, Err}
use Rattle.rules.proofs.Windows.{window-length}
use Rattle.rules.proofs.Rows.{pass_none, read}
use Rattle.rules.proofs.Judging.{refused-first}
use Rattle.rules.proofs.Paths.{addresses_at-length}
use Rattle.rules.proofs.Sids.{with_args-length}
use Rattle.rules.proofs.Messages.{carried_by-fits}
use Rattle.rules.proofs.Plans.{tail_length, inner_6, all_head, echo6_carried_out, g_pdu6_carried_out}
use Rattle.answer.specs.Answered.{Settled}
use Rattle.answer.proofs.Settling.{settled_as, settled-refused, refuse_settles}
use Rattle.answer.proofs.Calling.{Judged, plan_refused, plan_replied}
use Rattle.echo.specs.Reply.{reply_to6}
use Rattle.path.specs.declared.PathPlan.{PathPlan}
use Rattle.path.specs.Fits.{Ready, head_of}
use Rattle.path.proofs.Heads.{head_length}
use Rattle.path.specs.ByType.{type_rows}
use Rattle.path.proofs.Judged.{GpduRead, gpdu-place, echo-verdict, gpdu-verdict, gpdu_bounds}
use Rattle.near.specs.Asked.{Gtp6DAsked}
use Rattle.near.specs.Gtp6DPlan.{path_plan}

-- a plan that was made: it can be carried out where there is room for its head, which is the one that is to be written
pub record Planned (plan : PathPlan) (holder wanted : List ℕ) (octets : ℕ) : Type 0 where
  pub count : 48 + 16 * (plan.waypoints + plan.tail) ≡ octets
  pub ready : (room : ℕ) → octets ≤ room → Ready plan holder room
  pub head : head_of plan holder ≡ wanted
  pub size : length (head_of plan holder) ≡ octets

-- where the upper layer begins
pub upper_least : (p : List ℕ) (h : Header) → h ≡ header p → 40 ≤ h.upperAt
unfolding header
upper_least p h e = rw e (go (eqb (Ipv6.next_header p) routing_header))
  where
    go : (b : Bool) → 40 ≤ cond b (48 + 8 * Srh.units p) 40
    go true = omega arith
    go false = omega arith

-- row 9 passed
pub udp_long : (p : List ℕ) (at : ℕ) (g : Datagram) (v : Verdict) → g ≡ datagram (drop at p) → v ≡ verdict (row (bad_udp g) 9 ∷ [])
    → v ≡ Ok tt → at + 8 ≤ length p
unfolding datagram
udp_long p at g v view e q =
    let n = pass_none (row (bad_udp g) 9 ∷ []) (sym e ∙ q) in
    let s : g.size ≡ length p - at = ap (λ (g : Datagram). g.size) view ∙ length-drop at p in
    omega (read, n.0.0)

module _ (e policy : List ℕ) (tail : ℕ) (p : List ℕ) (h : Header) (asked : Gtp6DAsked e policy tail p h) where
  upper-here : h.upperAt ≡ (header p).upperAt
  upper-here = ap (λ (h : Header). h.upperAt) asked.arrived.view

  path_count : length (gtp6d_path tail policy (carried6 p)) ≡ Policy.sid_count policy - 1 + tail
  unfolding gtp6d_path
  path_count =
      let sid = last_with_args policy (carried6 p).args in
      let end = (carried6 p).destination in
      length-append (Policy.waypoints policy) (tail_of tail sid end)
      ∙ (λ i. addresses_at-length policy 16 (Policy.sid_count policy - 1) i + tail_length tail sid end asked.one asked.two i)

  module _ (g : Datagram) (place size first n : ℕ) (r : GpduRead p h.upperAt g place size first) (hn : n ≡ Policy.sid_count policy) where
    here : GpduRead p (header p).upperAt g place size first
    here = subst (λ (k : ℕ). GpduRead p k g place size first) upper-here r

    g_pdu6_place : place ≡ (g_pdu_plan6 tail e policy p).place
    unfolding g_pdu_plan6
    g_pdu6_place = gpdu-place p (header p).upperAt g place size first here

    inner-here : drop place p ≡ (carried6 p).inner
    unfolding g_pdu_plan6
    inner-here = ap (λ (k : ℕ). drop k p) g_pdu6_place ∙ inner_6 p

    -- what the rows say
    module _ (v : Verdict)
        (judged : v ≡ verdict (gtp6_rows h g ++ (message_rows (checksum_rows e p) g
        ++ type_rows (Entry.direction e) (Entry.session e) g size first (8 + 16 * (n - 1 + tail) + size)))) where
      front_here : gtp6_rows h g ≡ gtp6_rows (header p) (datagram (datagram_in6 p))
      front_here = λ i. gtp6_rows (asked.arrived.view i) (here.view i)

      -- of an Echo Request, before row 17
      abbrev echo_front : List Row
      echo_front = gtp6_rows (header p) (datagram (datagram_in6 p)) ++ message_rows (checksum_rows e p) (datagram (datagram_in6 p))

      echo6_front : is_echo (datagram (datagram_in6 p)) ≡ true → v ≡ verdict echo_front
      echo6_front t = echo-verdict p (header p).upperAt g place size first here (gtp6_rows h g) (checksum_rows e p) (Entry.direction e)
          (Entry.session e) _ v
          judged t _ front_here

      echo6_rows : (echo_plan6 e p).rows ≡ echo_front ++ echo_rows (datagram (datagram_in6 p))
      unfolding echo_plan6 rows_echo6
      echo6_rows = sym (append_assoc (gtp6_rows (header p) (datagram (datagram_in6 p))) _ _)

      -- of any other message
      g_pdu6_judged : is_echo (datagram (datagram_in6 p)) ≡ false
          → Judged (g_pdu_plan6 tail e policy p) p place (8 + 16 * (n - 1 + tail) + size) v
      unfolding g_pdu_plan6 rows_gtp6d
      g_pdu6_judged t =
          let path = gtp6d_path tail policy (carried6 p) in
          let k : n - 1 + tail ≡ length path = ap (λ (j : ℕ). j - 1 + tail) hn ∙ sym path_count in
          let z : size ≡ length (carried6 p).inner = here.holds ∙ sym (length-drop place p) ∙ ap length inner-here in
          let bounds = gpdu_bounds p (header p).upperAt g place size first here (gtp6_rows h g) (checksum_rows e p) (Entry.direction e)
          (Entry.session e) _ v
          judged t in
          record {
            rows = gpdu-verdict p (header p).upperAt g place size first here (gtp6_rows h g) (checksum_rows e p) (Entry.direction e)
                (Entry.session e) _ v
                judged
                t (carried6 p).inner inner-here _ front_here _ (λ i. 8 + 16 * k i + z i);
            at = g_pdu6_place;
            within = λ q. (bounds q).0;
            fits = λ q. omega (arith, (bounds q).1);
          }

      -- a refusal, whatever the message is
      pub gtp6d_refused : (ρ : Refusal) (b : List ℕ) (k : Result ℕ Refusal) → v ≡ Err ρ → k ≡ Err ρ
          → Settled (settle (length b) (at_gtp6d tail e policy p)) b k b
      gtp6d_refused ρ b k q h = go (is_echo (datagram (datagram_in6 p))) refl
        where
          go : (echo : Bool) → is_echo (datagram (datagram_in6 p)) ≡ echo → Settled (settle (length b) (at_gtp6d tail e policy p)) b k b
          go true t =
              settled-refused _ ρ b k
              (ap (settle (length b)) (sym (echo6_carried_out tail e policy p asked.one asked.two t))
              ∙ refuse_settles (length b) (echo_plan6 e p).rows _ ρ
              (ap verdict echo6_rows ∙ sym (refused-first echo_front (echo_rows (datagram (datagram_in6 p))) v ρ (echo6_front t) q))) h
          go false t = plan_refused (g_pdu_plan6 tail e policy p) p _ (g_pdu6_carried_out tail e policy p asked.one asked.two t)
              (g_pdu6_judged t) ρ b k q h

      -- from the view: what is sent where the message is no Echo Request
      type-here : (echo : Bool) → is_echo g ≡ echo → is_echo (datagram (datagram_in6 p)) ≡ echo
      type-here echo t = ap (λ (g : Datagram). is_echo g) (sym here.view) ∙ t

      pub other6_judged : is_echo g ≡ false → Judged (g_pdu_plan6 tail e policy p) p place (8 + 16 * (n - 1 + tail) + size) v
      other6_judged t = g_pdu6_judged (type-here false t)

      pub other6_carried_out : is_echo g ≡ false → carry_out (g_pdu_plan6 tail e policy p) p ≡ at_gtp6d tail e policy p
      other6_carried_out t = g_pdu6_carried_out tail e policy p asked.one asked.two (type-here false t)

      -- an Echo Request, from row 17 on
      pub echo6-answered : is_echo g ≡ true → v ≡ Ok tt → {b : List ℕ} {k : Result ℕ Refusal} {b' : List ℕ}
          → Settled (settle (length b) (unless (echo_rows (datagram (drop h.upperAt p)))
          (Sent (reply_to6 p h.upperAt h.trafficClass (Entry.hop_limit e))))) b k b'
          → Settled (settle (length b) (at_gtp6d tail e policy p)) b k b'
      unfolding echo_plan6 echo_reply6 header
      echo6-answered t q {b} h =
          let is = type-here true t in
          let view = asked.arrived.view in
          plan_replied (echo_plan6 e p) p _ echo_front (echo_rows (datagram (datagram_in6 p))) (echo_reply6 e p)
          (echo6_carried_out tail e policy p asked.one asked.two is) echo6_rows (sym (echo6_front is) ∙ q)
          (all_head (echo_reply6 e p) p)
          (settled_as _ _ _ _ _
          (λ i. settle (length b) (unless (echo_rows (datagram (drop (view i).upperAt p)))
          (Sent (reply_to6 p (view i).upperAt (view i).trafficClass (Entry.hop_limit e))))) h)

    -- what is written before the inner packet
    module _ (x : Args) (to : List ℕ)
        (hx : x ≡ record {
          qfi = Gtpu.qfi (drop h.upperAt p);
          reflective = Gtpu.reflective (drop h.upperAt p);
          teid = Gtpu.teid
              (drop h.upperAt p);
        })
        (ht : to ≡ window p 24 16) where
      x_here : x ≡ (carried6 p).args
      unfolding carried6 carried_by
      x_here = hx ∙ ap (λ (k : ℕ). record {
        qfi = Gtpu.qfi (drop k p);
        reflective = Gtpu.reflective (drop k p);
        teid = Gtpu.teid (drop k p);
      }) upper-here

      gtp6d_head : head_of (path_plan tail e policy h.trafficClass x first to place size) policy ≡ (g_pdu_plan6 tail e policy p).head
      unfolding g_pdu_plan6 path_plan carried6 carried_by header
      gtp6d_head =
          let f : first ≡ octet p (inner_at p (header p).upperAt) = here.starts ∙ ap (octet p) g_pdu6_place in
          let z : size ≡ length p - inner_at p (header p).upperAt = here.holds ∙ ap (λ (k : ℕ). length p - k) g_pdu6_place in
          λ i. head_along (asked.arrived.view i).trafficClass (inner_protocol (Entry.session e) (f i ∷ [])) (Entry.hop_limit e)
          (Entry.source e)
          policy 16 (Policy.sid_count policy - 1) tail (last_with_args policy (x_here i)) (ht i) (z i)

      sid_length : length (last_with_args policy x) ≡ 16
      sid_length =
          let fits = carried_by-fits (Ipv6.traffic_class p) [] (Ipv6.destination p) (datagram_in6 p) in
          let last = Policy.last_sid policy in
          rw x_here (with_args-length last (Policy.start policy) (carried6 p).args (window-length policy _ 16) asked.sound.start
          (unfold carried6 in fits))

      gtp6d_size : length (head_of (path_plan tail e policy h.trafficClass x first to place size) policy) ≡ 48 + 16 * (n - 1 + tail)
      unfolding path_plan
      gtp6d_size =
          let upper = inner_protocol (Entry.session e) (first ∷ []) in
          let source = Entry.source e in
          head_length h.trafficClass upper (Entry.hop_limit e) source policy 16 (Policy.sid_count policy - 1) tail (last_with_args policy x)
          to size
          (window-length e 32 16) sid_length (rw ht (window-length p 24 16)) asked.one asked.two
          ∙ ap (λ (k : ℕ). 48 + 16 * (k - 1 + tail)) (sym hn)

      gtp6d_ready : (room : ℕ) → 8 + 16 * (n - 1 + tail) + size < 65536 → 48 + 16 * (n - 1 + tail) ≤ room
          → Ready (path_plan tail e policy h.trafficClass x first to place size) policy room
      unfolding path_plan
      gtp6d_ready room l k =
          let s = asked.sound in
          record {
            fits = record {
              held = omega (arith, s, asked);
              few = omega (arith, s);
              one = asked.one;
              two = asked.two;
              field = omega (arith, l, hn);
              spacious = omega (arith, k, hn);
            };
            source = window-length e 32 16;
            sid = sid_length;
            end = rw ht (window-length p 24 16);
          }

      -- of the plan that was made
      pub gtp6d_planned : {plan : PathPlan} → plan ≡ path_plan tail e policy h.trafficClass x first to place size
          → 8 + 16 * (n - 1 + tail) + size < 65536 → Planned plan policy (g_pdu_plan6 tail e policy p).head (48 + 16 * (n - 1 + tail))
      unfolding path_plan
      gtp6d_planned {plan} made l = record {
        count = ap (λ (z : PathPlan). 48 + 16 * (z.waypoints + z.tail)) made ∙ ap (λ (k : ℕ). 48 + 16 * (k - 1 + tail)) (sym hn);
        ready = λ room k. subst (λ (z : PathPlan). Ready z policy room) (sym made) (gtp6d_ready room l k);
        head = ap (λ (z : PathPlan). head_of z policy) made ∙ gtp6d_head;
        size = ap (λ (z : PathPlan). length (head_of z policy)) made ∙ gtp6d_size;
      }
