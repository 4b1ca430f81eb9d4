-- The sum over a pseudo-header and an upper-layer packet, and the UDP checksum over IPv6, in plain numbers: what is sent adds up, both
-- ways to say so agree, and a change of one octet is seen.
use mathlib.Core.Path.{◌≡◌, refl, sym, ap, ◌∙◌}
use mathlib.Core.Logic.{◌≢◌, ◌⊎◌, inl, inr}
use mathlib.Core.Bool.{Bool, true, false}
use mathlib.Core.List.{List, [], ◌∷◌, ◌++◌}
use Prim.Native.Nat.{ℕ, zero, suc, ◌+◌, ◌-◌, ◌*◌, ◌/◌, ◌%◌, ◌≤◌, ◌<◌}
use native.Mathlib.Omega.{arith}
use native.Mathlib.Decide.{ℕ_discrete}
use lib.Dec.{ltb}
use lib.ListN.{length, length-append}
use borrow.Author.Tests.{ltb-true, ltb-false, eq-eqb, ne_eqb}
use Rattle.rules.specs.Octets.{Octets, octet, put16}
use Rattle.rules.specs.Assigned.{udp_protocol}
use Rattle.rules.specs.Checksum.{ones_sum, word_sum, with_pseudo_header}
use Rattle.rules.specs.Gtpu as Gtpu
use Rattle.rules.specs.UdpChecksum.{or_ffff, udp_checksum6, udp_sum6, bad_checksum}
use Rattle.rules.specs.Gtpu.{udp, gtpu}
use Rattle.rules.specs.AddsUp.{words_of, words, total, AddsUp, OneChanged}
use Rattle.rules.specs.Written.{TrueChecksum}
use Rattle.rules.proofs.Checksums.{word_sum-append, fold, ones_sum-fold, octets-append, octets-each}

-- SUMS OF WORDS, BY THEIR PLACE

module _ (a b : ℕ) (s : List ℕ) where
  words_front : (n : ℕ) → words_of (suc n) (a ∷ b ∷ s) ≡ a * 256 + b + words_of n s
  unfolding words_of
  words_front zero = omega arith
  words_front (suc n) =
      let e : 2 * suc n ≡ suc (suc (2 * n)) = omega arith in
      let f : 2 * suc n + 1 ≡ suc (suc (2 * n + 1)) = omega arith in
      let high : octet (a ∷ b ∷ s) (2 * suc n) ≡ octet s (2 * n) = ap (octet (a ∷ b ∷ s)) e in
      let low : octet (a ∷ b ∷ s) (2 * suc n + 1) ≡ octet s (2 * n + 1) = ap (octet (a ∷ b ∷ s)) f in
      let g = words_front n in
      omega arith

words-none : (n : ℕ) → words_of n [] ≡ 0
unfolding words_of
words-none zero = refl
words-none (suc n) = rw (words-none n) refl

words_one : (a n : ℕ) → words_of (suc n) (a ∷ []) ≡ a * 256
unfolding words_of
words_one a zero = omega arith
words_one a (suc n) =
    let e : 2 * suc n ≡ suc (2 * n + 1) = omega arith in
    let f : 2 * suc n + 1 ≡ suc (2 * n + 2) = omega arith in
    let high : octet (a ∷ []) (2 * suc n) ≡ 0 = ap (octet (a ∷ [])) e in
    let low : octet (a ∷ []) (2 * suc n + 1) ≡ 0 = ap (octet (a ∷ [])) f in
    let g = words_one a n in
    omega arith

pub words-sum : (s : List ℕ) (n : ℕ) → length s ≤ 2 * n → words_of n s ≡ word_sum s
unfolding word_sum
words-sum [] n h = words-none n
words-sum (a ∷ []) zero h = absurd (omega arith)
words-sum (a ∷ []) (suc n) h = words_one a n
words-sum (a ∷ b ∷ s) zero h = absurd (omega arith)
words-sum (a ∷ b ∷ s) (suc n) h = words_front a b s n ∙ ap (λ (k : ℕ). a * 256 + b + k) (words-sum s n (omega arith))

-- THE PSEUDO-HEADER AND AN UPPER-LAYER PACKET

-- what is summed, as a plain number
abbrev pub sum_with : (source destination : List ℕ) (next_header : ℕ) (upper : List ℕ) → ℕ
sum_with source destination next_header upper = word_sum source + word_sum destination + length upper + next_header + word_sum upper

module _ (s d : List ℕ) (next : ℕ) (u : List ℕ) (hs : length s ≡ 16) (hd : length d ≡ 16) (hn : next < 256) (hu : length u < 65536) where
  pseudo_sum_with : word_sum (with_pseudo_header s d next u) ≡ sum_with s d next u
  unfolding word_sum
  pseudo_sum_with =
      let n : ℕ = length u in
      let rest : List ℕ = put16 (n / 65536) (put16 (n % 65536) (0 ∷ 0 ∷ 0 ∷ next ∷ u)) in
      let a = word_sum-append s (d ++ rest) (omega arith) in
      let b = word_sum-append d rest (omega arith) in
      omega arith

  -- the words by their place
  pub words_with : words_of 8 s + words_of 8 d + length u + next + words u ≡ sum_with s d next u
  words_with =
      let a = words-sum s 8 (omega arith) in
      let b = words-sum d 8 (omega arith) in
      let c = words-sum u ((length u + 1) / 2) (omega arith) in
      omega arith

  module _ (os : Octets s) (od : Octets d) (ou : Octets u) where
    pseudo_octets : Octets (with_pseudo_header s d next u)
    pseudo_octets =
        let n : ℕ = length u in
        let middle : List ℕ = put16 (n / 65536) (put16 (n % 65536) (0 ∷ 0 ∷ 0 ∷ next ∷ [])) in
        octets-append s (d ++ (middle ++ u)) os
        (octets-append d (middle ++ u) od (octets-append middle u (octets-each middle (omega arith)) ou))

    -- the sum, its carries added at the end
    pub pseudo_fold : ones_sum (with_pseudo_header s d next u) ≡ fold (sum_with s d next u)
    pseudo_fold = ones_sum-fold (with_pseudo_header s d next u) pseudo_octets ∙ ap fold pseudo_sum_with

-- A DATAGRAM

-- what is summed, as a plain number
abbrev pub total_sum : (source destination u : List ℕ) → ℕ
total_sum source destination u = word_sum source + word_sum destination + length u + 17 + word_sum u

module _ (s d u : List ℕ) (hs : length s ≡ 16) (hd : length d ≡ 16) (hu : length u < 65536) where
  pub pseudo_sum : word_sum (with_pseudo_header s d udp_protocol u) ≡ total_sum s d u
  pseudo_sum = pseudo_sum_with s d udp_protocol u hs hd (omega arith) hu

  pub total-sum : total s d u ≡ total_sum s d u
  total-sum = words_with s d udp_protocol u hs hd (omega arith) hu

  module _ (os : Octets s) (od : Octets d) (ou : Octets u) where
    pub sum-fold : udp_sum6 s d u ≡ fold (total_sum s d u)
    unfolding udp_sum6
    sum-fold = pseudo_fold s d udp_protocol u hs hd (omega arith) hu os od ou

    pub sum_adds : udp_sum6 s d u ≡ 0xffff → AddsUp s d u
    sum_adds e = let f = sum-fold in let t = total-sum in omega arith

    pub adds_sum : AddsUp s d u → udp_sum6 s d u ≡ 0xffff
    adds_sum e = let f = sum-fold in let t = total-sum in omega arith

    -- what is sent for a datagram whose checksum field is 0
    pub checksum-is : udp_checksum6 s d u ≡ 65535 - total_sum s d u % 65535
    unfolding udp_checksum6 udp_sum6
    checksum-is = go (ℕ_discrete (65535 - udp_sum6 s d u) 0)
      where
        go : Dec (65535 - udp_sum6 s d u ≡ 0) → or_ffff (65535 - udp_sum6 s d u) ≡ 65535 - total_sum s d u % 65535
        go (yes e) = let f = sum-fold in rw (eq-eqb _ 0 e) (omega arith)
        go (no n) = let f = sum-fold in rw (ne_eqb _ 0 n) (omega arith)

-- WHAT IS SENT

-- a UDP header with some checksum, and what follows it
module _ (s d : List ℕ) (from to size : ℕ) (rest : List ℕ) (hs : length s ≡ 16) (hd : length d ≡ 16) (os : Octets s) (od : Octets d)
    (hf : from < 65536) (ht : to < 65536) (hz : size < 65536) (or : Octets rest) (hl : 8 + length rest < 65536) where
  written_octets : (k : ℕ) → k < 65536 → Octets (udp from to size k rest)
  written_octets k hk =
      let front : List ℕ = udp from to size k [] in
      octets-append front rest (octets-each front (omega arith)) or

  -- the checksum that is sent
  abbrev sent : ℕ
  sent = udp_checksum6 s d (udp from to size 0 rest)

  sent_is : sent ≡ 65535 - total_sum s d (udp from to size 0 rest) % 65535
  sent_is = checksum-is s d (udp from to size 0 rest) hs hd (omega arith) os od (written_octets 0 (omega arith))

  -- it adds itself to the sum of the words
  sent_more : total_sum s d (udp from to size sent rest) ≡ total_sum s d (udp from to size 0 rest) + sent
  unfolding word_sum
  sent_more = omega arith

  sent-sum : udp_sum6 s d (udp from to size sent rest) ≡ 0xffff
  sent-sum =
      let e = sent_is in
      let m = sent_more in
      let f = sum-fold s d (udp from to size sent rest) hs hd (omega arith) os od (written_octets sent (omega arith)) in
      omega arith

  pub sent_field : Gtpu.udp_checksum (udp from to size sent rest) ≡ sent
  sent_field = omega arith

  pub sent_true : TrueChecksum s d (udp from to size sent rest)
  sent_true =
      let e = sent_is in
      let f = sent_field in
      record {
        sent = λ z. omega (arith, e, f, z);
        small = omega arith;
        adds = sum_adds s d (udp from to size sent rest) hs hd (omega arith) os od (written_octets sent (omega arith)) sent-sum;
      }

  -- so that row 18 passes it, whether zero is allowed or not
  pub sent-passes : (allowed : Bool) → bad_checksum allowed s d (udp from to size sent rest) ≡ false
  sent-passes allowed = rw (ne_eqb _ 0 sent_true.sent, eq-eqb _ 0xffff sent-sum) refl

-- ONE OCTET CHANGED

-- an octet of the first n words that is larger by x
module _ (s t : List ℕ) (at x : ℕ) (more : octet t at ≡ octet s at + x) (same : (i : ℕ) → i ≢ at → octet t i ≡ octet s i) where
  before : (n : ℕ) → n + n ≤ at → words_of n t ≡ words_of n s
  unfolding words_of
  before zero h = refl
  before (suc n) h =
      let a = same (2 * n) (λ e. omega (arith, e)) in
      let b = same (2 * n + 1) (λ e. omega (arith, e)) in
      let c = before n (omega arith) in
      omega arith

  behind : (n : ℕ) → at < n + n → (words_of n t ≡ words_of n s + x) ⊎ (words_of n t ≡ words_of n s + x * 256)
  unfolding words_of
  behind zero h = absurd (omega arith)
  behind (suc n) h = go (ℕ_discrete at (2 * n)) (ℕ_discrete at (2 * n + 1)) (λ l. behind n l)
    where
      further : (octet t (2 * n) ≡ octet s (2 * n)) → (octet t (2 * n + 1) ≡ octet s (2 * n + 1))
          → (words_of n t ≡ words_of n s + x) ⊎ (words_of n t ≡ words_of n s + x * 256)
          → (words_of (suc n) t ≡ words_of (suc n) s + x) ⊎ (words_of (suc n) t ≡ words_of (suc n) s + x * 256)
      further b c (inl e) = inl (omega arith)
      further b c (inr e) = inr (omega arith)

      go : Dec (at ≡ 2 * n) → Dec (at ≡ 2 * n + 1)
          → (at < n + n → (words_of n t ≡ words_of n s + x) ⊎ (words_of n t ≡ words_of n s + x * 256))
          → (words_of (suc n) t ≡ words_of (suc n) s + x) ⊎ (words_of (suc n) t ≡ words_of (suc n) s + x * 256)
      go (yes e) q rec =
          let a = before n (omega arith) in
          let b : octet t (2 * n) ≡ octet s (2 * n) + x = rw (← e) more in
          let c = same (2 * n + 1) (λ f. omega (arith, e, f)) in
          inr (omega arith)
      go (no p) (yes e) rec =
          let a = before n (omega arith) in
          let b : octet t (2 * n + 1) ≡ octet s (2 * n + 1) + x = rw (← e) more in
          let c = same (2 * n) (λ f. omega (arith, e, f)) in
          inl (omega arith)
      go (no p) (no q) rec =
          further (same (2 * n) (λ f. p (sym f))) (same (2 * n + 1) (λ f. q (sym f))) (rec (omega arith))

below_or : (a b : ℕ) → (a < b) ⊎ (b ≤ a)
below_or a b = go (ltb a b) refl
  where
    go : (t : Bool) → ltb a b ≡ t → (a < b) ⊎ (b ≤ a)
    go true e = inl (ltb-true a b e)
    go false e = inr (ltb-false a b e)

-- two multiples of 65,535 are not nearer than that
apart : (m n y : ℕ) → m % 65535 ≡ 0 → n % 65535 ≡ 0 → n ≡ m + y → 0 < y → y < 65535 → ⊥
apart m n y e f h l k = go (below_or (m / 65535) (n / 65535))
  where
    go : (m / 65535 < n / 65535) ⊎ (n / 65535 ≤ m / 65535) → ⊥
    go (inl q) = omega (arith, q, e, f, h, l, k)
    go (inr q) = omega (arith, q, e, f, h, l, k)

larger_seen : (s t : List ℕ) (n rest at x : ℕ) → octet t at ≡ octet s at + x → ((i : ℕ) → i ≢ at → octet t i ≡ octet s i) → at < n + n
    → 0 < x → x < 256 → (words_of n s + rest) % 65535 ≡ 0 → (words_of n t + rest) % 65535 ≡ 0 → ⊥
larger_seen s t n rest at x more same l hx hy e f = go (behind s t at x more same n l)
  where
    go : (words_of n t ≡ words_of n s + x) ⊎ (words_of n t ≡ words_of n s + x * 256) → ⊥
    go (inl h) = apart (words_of n s + rest) (words_of n t + rest) x e f (omega (arith, h)) hx (omega (arith, hy))
    go (inr h) = apart (words_of n s + rest) (words_of n t + rest) (x * 256) e f (omega (arith, h)) (omega (arith, hx)) (omega (arith, hy))

changed_seen : (s t : List ℕ) (n rest : ℕ) (c : OneChanged s t) → Octets s → Octets t → c.at < n + n
    → (words_of n s + rest) % 65535 ≡ 0 → (words_of n t + rest) % 65535 ≡ 0 → ⊥
changed_seen s t n rest c os ot l e f = go (below_or (octet s c.at) (octet t c.at))
  where
    go : (octet s c.at < octet t c.at) ⊎ (octet t c.at ≤ octet s c.at) → ⊥
    go (inl h) =
        larger_seen s t n rest c.at (octet t c.at - octet s c.at) (omega arith) c.others l (omega arith)
        (omega (arith, ot c.at)) e f
    go (inr h) =
        let d : octet t c.at < octet s c.at = omega (arith, c.changed) in
        larger_seen t s n rest c.at (octet s c.at - octet t c.at) (omega arith) (λ i q. sym (c.others i q)) l (omega arith)
        (omega (arith, os c.at)) f e

-- Of addresses and datagram, ports, length and payload included, no one octet can be changed so that the checksum still fits; and so no
-- one bit.
module _ (s d u s' d' u' : List ℕ) (hs : length s ≡ 16) (hd : length d ≡ 16) (hu : length u < 65536)
    (hs' : length s' ≡ 16) (hd' : length d' ≡ 16) (hu' : length u' ≡ length u) where
  joined-sum : (a b c : List ℕ) → length a ≡ 16 → length b ≡ 16 → word_sum (a ++ (b ++ c)) ≡ word_sum a + word_sum b + word_sum c
  joined-sum a b c ha hb =
      let x = word_sum-append a (b ++ c) (omega arith) in
      let y = word_sum-append b c (omega arith) in
      omega arith

  joined_length : (a b c : List ℕ) → length a ≡ 16 → length b ≡ 16 → length (a ++ (b ++ c)) ≡ 32 + length c
  joined_length a b c ha hb = simp length-append (omega arith)

  pub change_seen : Octets (s ++ (d ++ u)) → Octets (s' ++ (d' ++ u')) → OneChanged (s ++ (d ++ u)) (s' ++ (d' ++ u'))
      → AddsUp s d u → AddsUp s' d' u' → ⊥
  change_seen o o' c e f =
      let x : List ℕ = s ++ (d ++ u) in
      let y : List ℕ = s' ++ (d' ++ u') in
      let n : ℕ = 16 + (length u + 1) / 2 in
      let lx = joined_length s d u hs hd in
      let ly = joined_length s' d' u' hs' hd' in
      let wx = words-sum x n (omega arith) ∙ joined-sum s d u hs hd in
      let wy = words-sum y n (omega arith) ∙ joined-sum s' d' u' hs' hd' in
      let tx = total-sum s d u hs hd hu in
      let ty = total-sum s' d' u' hs' hd' (omega arith) in
      let ex : words_of n x + (length u + 17) ≡ total s d u = omega arith in
      let ey : words_of n y + (length u + 17) ≡ total s' d' u' = omega arith in
      changed_seen x y n (length u + 17) c o o' (omega (arith, c.within)) (ap (λ (k : ℕ). k % 65535) ex ∙ e)
      (ap (λ (k : ℕ). k % 65535) ey ∙ f)
