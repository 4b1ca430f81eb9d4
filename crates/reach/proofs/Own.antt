-- With which Args a SID comes under a prefix: with some exactly where it does with the prefix's own; and with all where the prefix ends
-- before Args.
use mathlib.Core.Path.{◌≡◌, refl, sym, ap, ◌∙◌}
use mathlib.Core.Bool.{Bool, true, false, cond}
use mathlib.Core.List.{List}
use Prim.Native.Nat.{ℕ, zero, suc, ◌+◌, ◌*◌, ◌^◌, ◌/◌, ◌%◌, ◌≤◌, ◌<◌}
use native.Mathlib.Nat.{div-one}
use native.Mathlib.Omega.{arith}
use lib.Dec.{eqb}
use lib.ListN.{length}
use borrow.Author.Tests.{eqb-false, ne_eqb}
use Rattle.rules.specs.Octets.{octet, Octets}
use Rattle.rules.specs.Prefix.{under}
use Rattle.rules.specs.Assigned.{downlink}
use Rattle.rules.specs.Args.{Args, args_octets, args_at, with_args}
use Rattle.rules.proofs.Windows.{window-length, octet-window, octets-window}
use Rattle.reach.specs.Reach.{Writable, own_args, reaches6}
use Rattle.reach.proofs.Agreeing.{beyond, more_dropped, under-agree, agree-under, same_front}
use Rattle.reach.proofs.Placing.{in_parts, before_args, in_args, behind_args, sid_octets}

-- THE PREFIX'S OWN ARGS

-- they can be written
pub own_writable : (direction : ℕ) (prefix : List ℕ) (start : ℕ) → Octets prefix → Writable direction (own_args direction prefix start)
unfolding args_at
own_writable direction prefix start o = record {
  qfi = omega arith;
  reflective = bit (eqb direction downlink) (octet prefix (start / 8) / 2 % 2) (omega arith);
  not_downlink = λ n. rw (ne_eqb direction downlink n) refl;
  size = window-length prefix (start / 8 + 1) 4;
  octets = octets-window prefix (start / 8 + 1) 4 o;
}
  where
    bit : (b : Bool) (x : ℕ) → x < 2 → cond b x 0 < 2
    bit true x l = l
    bit false x l = omega arith

-- the octet v of the prefix, where Args begin, has the first bits of x, the first octet of some Args; then the own Args' first octet has
-- them too: v without U, and in uplink without R
in_downlink_lem : (v x s : ℕ) → v < 256 → x % 2 ≡ 0 → x / 2 ^ s ≡ v / 2 ^ s → (v / 4 % 64 * 4 + v / 2 % 2 * 2) / 2 ^ s ≡ v / 2 ^ s
in_downlink_lem v x zero h e q =
    let even : v % 2 ≡ 0 = ap (λ (y : ℕ). y % 2) (sym (div-one v) ∙ sym q ∙ div-one x) ∙ e in
    let high : v / 4 % 64 ≡ v / 4 = omega arith in
    let half : v / 2 / 2 ≡ v / 4 = omega arith in
    ap (λ (y : ℕ). y / 1) (omega arith)
in_downlink_lem v x (suc s) h e q = more_dropped (v / 4 % 64 * 4 + v / 2 % 2 * 2) v 1 (suc s) (omega arith) (omega arith)

in_uplink_lem : (v x s : ℕ) → v < 256 → x % 4 ≡ 0 → x / 2 ^ s ≡ v / 2 ^ s → (v / 4 % 64 * 4 + 0 * 2) / 2 ^ s ≡ v / 2 ^ s
in_uplink_lem v x zero h e q =
    let fourth : v % 4 ≡ 0 = ap (λ (y : ℕ). y % 4) (sym (div-one v) ∙ sym q ∙ div-one x) ∙ e in
    ap (λ (y : ℕ). y / 1) (omega arith)
in_uplink_lem v x (suc zero) h e q =
    let p : x / 2 ≡ v / 2 = q in
    let even : x / 2 ≡ 2 * (x / 4) = omega arith in
    let half : v / 2 / 2 ≡ v / 4 = omega arith in
    let fourth : v / 2 ≡ 2 * (v / 4) = omega arith in
    let high : v / 4 % 64 ≡ v / 4 = omega arith in
    rw high (omega arith)
in_uplink_lem v x (suc (suc s)) h e q = more_dropped (v / 4 % 64 * 4 + 0 * 2) v 2 (suc (suc s)) (omega arith) (omega arith)

module _ (direction : ℕ) (sid : List ℕ) (start : ℕ) (x : Args) (hs : length sid ≡ 16) (hb : start ≤ 88) (os : Octets sid)
    (w : Writable direction x) (prefix : List ℕ) (op : Octets prefix) where
  -- the bits that an octet of some Args has of the prefix's, that of the own Args has
  own-octet : (k s : ℕ) → k < 5 → octet (args_octets x) k / 2 ^ s ≡ octet prefix (start / 8 + k) / 2 ^ s
      → octet (args_octets (own_args direction prefix start)) k / 2 ^ s ≡ octet prefix (start / 8 + k) / 2 ^ s
  unfolding args_at
  own-octet zero s l q = pick (eqb direction downlink) refl
    where
      v : ℕ
      v = octet prefix (start / 8)

      here : start / 8 + 0 ≡ start / 8
      here = omega arith

      first : (x.qfi * 4 + x.reflective * 2) / 2 ^ s ≡ octet prefix (start / 8) / 2 ^ s
      first = rw here at q

      pick : (b : Bool) → eqb direction downlink ≡ b
          → (octet prefix (start / 8) / 4 % 64 * 4 + cond b (octet prefix (start / 8) / 2 % 2) 0 * 2) / 2 ^ s
          ≡ octet prefix (start / 8 + 0) / 2 ^ s
      pick true e = rw here (in_downlink_lem (octet prefix (start / 8)) (x.qfi * 4 + x.reflective * 2) s (op (start / 8)) (omega arith)
          first)
      pick false e =
          let z : x.reflective ≡ 0 = w.not_downlink (eqb-false direction downlink e) in
          rw here (in_uplink_lem (octet prefix (start / 8)) (x.qfi * 4 + x.reflective * 2) s (op (start / 8)) (omega arith) first)
  own-octet (suc k) s l q =
      let e : start / 8 + 1 + k ≡ start / 8 + suc k = omega arith in
      ap (λ (y : ℕ). y / 2 ^ s) (octet-window prefix (start / 8 + 1) 4 k (omega arith) ∙ ap (octet prefix) e)

  -- under with some Args, under with the own
  pub some_reaches : (b : ℕ) → under 16 (with_args sid start x) prefix b ≡ true → reaches6 direction sid start prefix b ≡ true
  unfolding reaches6
  some_reaches b h =
      let y = own_args direction prefix start in
      let u = own_writable direction prefix start op in
      let g = under-agree (with_args sid start x) prefix (sid_octets sid start direction x hs hb os w) op b 16 h in
      agree-under (with_args sid start y) prefix (sid_octets sid start direction y hs hb os u) op b 16
      (in_parts (λ i v. i < 16 → v / 2 ^ beyond b i ≡ octet prefix i / 2 ^ beyond b i) (with_args sid start y) (start / 8) 5
      (λ i l k. rw (before_args sid start y hs hb u.size i l, ← before_args sid start x hs hb w.size i l) (g i k))
      (λ i l k. rw (in_args sid start y hs hb u.size i l)
      (own-octet i (beyond b (start / 8 + i)) l (rw (in_args sid start x hs hb w.size i l) at (g (start / 8 + i) k))))
      (λ i k. rw (behind_args sid start y hs hb u.size i, ← behind_args sid start x hs hb w.size i) (g (start / 8 + 5 + i) k)))

  -- and where the prefix ends before Args, under with the own, under with all
  pub reaches_every : (b : ℕ) → start % 8 ≡ 0 → b ≤ start → reaches6 direction sid start prefix b ≡ true
      → under 16 (with_args sid start x) prefix b ≡ true
  unfolding reaches6
  reaches_every b h0 l h =
      let y = own_args direction prefix start in
      let u = own_writable direction prefix start op in
      same_front (with_args sid start y) (with_args sid start x) prefix 16 (start / 8) b
      (sid_octets sid start direction y hs hb os u) (sid_octets sid start direction x hs hb os w) op (omega arith)
      (λ i k. before_args sid start y hs hb u.size i k ∙ sym (before_args sid start x hs hb w.size i k)) h
