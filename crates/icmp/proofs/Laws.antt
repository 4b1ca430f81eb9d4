-- The checksum of a message from sums of its parts, and a message that was put together and sent.
use mathlib.Core.Path.{◌≡◌, refl, sym, ap, ◌∙◌}
use mathlib.Core.Bool.{Bool, true, false}
use mathlib.Core.List.{List, [], ◌++◌, append_assoc}
use Prim.Native.Nat.{ℕ, ◌+◌, ◌-◌, ◌%◌, ◌<◌}
use native.Mathlib.Omega.{arith}
use lib.Dec.{ltb}
use lib.ListN.{length, take}
use lib.Seq.{length-take-le, take_all}
use borrow.Author.Tests.{ltb-true, ltb-false}
use Rattle.rules.specs.Octets.{Octets}
use Rattle.rules.specs.Assigned.{icmpv6_protocol}
use Rattle.rules.specs.Entry as Entry
use Rattle.rules.specs.Ipv6 as Ipv6
use Rattle.rules.specs.Ipv6.{ipv6}
use Rattle.rules.specs.Answer.{Sent, settle}
use Rattle.rules.specs.Plan.{sent_by}
use Rattle.rules.specs.declared.Refusal.{Refusal}
use Rattle.rules.proofs.UdpChecksums.{sum_with, pseudo_fold}
use Rattle.rules.proofs.Plans.{ipv6_before}
use Rattle.copying.specs.Run.{Run}
use Rattle.std.specs.Prelude.{Result, Ok, Err}
use Rattle.answer.specs.Answered.{Settled, Placed}
use Rattle.answer.proofs.Settling.{settled_as}
use Rattle.answer.proofs.Placing.{placed_refused, placed_sent}
use Rattle.icmp.specs.Icmp.{quoted, icmp, checksum_of, icmp_packet}

-- what is sent for a message whose checksum field is 0
pub checksum-is : (s d m : List ℕ) → length s ≡ 16 → length d ≡ 16 → length m < 65536 → Octets s → Octets d → Octets m
    → checksum_of s d m ≡ (65535 - sum_with s d icmpv6_protocol m % 65535) % 65535
unfolding checksum_of
checksum-is s d m hs hd hm os od om =
    let f = pseudo_fold s d icmpv6_protocol m hs hd (omega arith) hm os od om in
    omega arith

-- the quoted octets: as many as the packet has, 1,232 at most
pub quoted-length : (p : List ℕ) → length (quoted p) ≡ length p - (length p - 1232)
unfolding quoted
quoted-length p = go (ltb (length p) 1232) refl
  where
    go : (b : Bool) → ltb (length p) 1232 ≡ b → length (take 1232 p) ≡ length p - (length p - 1232)
    go true e = let l = ltb-true (length p) 1232 e in ap length (take_all 1232 p (omega arith)) ∙ omega arith
    go false e = let l = ltb-false (length p) 1232 e in length-take-le 1232 p (omega arith) ∙ omega arith

-- the part of the packet that is lent for them
pub quoted_part : (p : List ℕ) (n : ℕ) → n ≡ length p - (length p - 1232) → take n p ≡ quoted p
unfolding quoted
quoted_part p n h = go (ltb (length p) 1232) refl
  where
    go : (b : Bool) → ltb (length p) 1232 ≡ b → take n p ≡ take 1232 p
    go true e = let l = ltb-true (length p) 1232 e in take_all n p (omega arith) ∙ sym (take_all 1232 p (omega arith))
    go false e = let l = ltb-false (length p) 1232 e in let k : n ≡ 1232 = omega arith in ap (λ (m : ℕ). take m p) k

-- both headers, then the quoted octets
pub whole : (e : List ℕ) (r : Refusal) (p : List ℕ) → let s = Entry.source e in let d = Ipv6.source p in
    sent_by (ipv6 0 (8 + length (quoted p)) icmpv6_protocol (Entry.hop_limit e) s d [] ++ icmp r (checksum_of s d (icmp r 0 (quoted p)))
    []) 0
    (quoted p) ≡ icmp_packet e r p
unfolding icmp_packet
whole e r p =
    let s = Entry.source e in
    let d = Ipv6.source p in
    let k = checksum_of s d (icmp r 0 (quoted p)) in
    let h = ipv6 0 (8 + length (quoted p)) icmpv6_protocol (Entry.hop_limit e) s d [] in
    append_assoc h (icmp r k []) (quoted p)
    ∙ ipv6_before 0 (8 + length (quoted p)) icmpv6_protocol (Entry.hop_limit e) s d (icmp r k (quoted p))

-- sent behind its headers, or refused for the room
module _ (wanted q head : List ℕ) (same : sent_by head 0 q ≡ wanted) {b b' : List ℕ} {e : Result ℕ Refusal} (r : Placed 48 0 q b e b') where
  sent_as : settle (length b) (Sent (sent_by head 0 q)) ≡ settle (length b) (Sent wanted)
  sent_as = ap (λ (x : List ℕ). settle (length b) (Sent x)) same

  pub message_no_room : {ρ : Refusal} → e ≡ Err ρ → length head ≡ 48 → Settled (settle (length b) (Sent wanted)) b e b'
  message_no_room {ρ} n l = settled_as _ _ _ _ _ sent_as (placed_refused 48 0 q b b' e r head ρ n l)

  pub message-sent : {n : ℕ} → e ≡ Ok n → {b'' : List ℕ} → Run b' 0 48 head b'' → Settled (settle (length b) (Sent wanted)) b e b''
  message-sent {n} o {b''} w = settled_as _ _ _ _ _ sent_as (placed_sent 48 0 q b b' e r head n o b'' w)
