-- What the functions of this crate are proved by: the Args that come through a container are a prefix's own, and an address lies under a
-- prefix where its octets do.
use mathlib.Core.Path.{◌≡◌, refl, sym, ap, ◌∙◌}
use mathlib.Core.Bool.{Bool, true, false, cond, ◌&&◌}
use mathlib.Core.List.{List}
use Prim.Native.Nat.{ℕ, ◌+◌, ◌*◌, ◌/◌, ◌%◌, ◌^◌, ◌<◌}
use native.Mathlib.Omega.{arith}
use native.Mathlib.Decide.{ℕ_discrete, dec_lt}
use lib.Dec.{eqb}
use lib.ListN.{length, get_or-eq_default}
use borrow.Author.Tests.{eqb-true, eq-eqb}
use Rattle.rules.specs.Octets.{octet, Octets}
use Rattle.rules.specs.Prefix.{under}
use Rattle.rules.specs.Assigned.{downlink}
use Rattle.rules.specs.Args.{Args, args_at}
use Rattle.rules.specs.Gtpu.{flow_octet}
use Rattle.rules.proofs.Conditions.{and_left, and_right, and_both}
use Rattle.reach.specs.Reach.{own_args}
use Rattle.reach.proofs.Agreeing.{beyond, Agree, under-agree, agree-under}

-- the octet of a container holds QFI and R
low_bits : (b : Bool) (qfi reflective : ℕ) → qfi < 64 → (cond b (reflective * 64) 0 + qfi) % 64 ≡ qfi
low_bits true qfi reflective l = omega arith
low_bits false qfi reflective l = omega arith

bit_above : (b : Bool) (qfi reflective : ℕ) → qfi < 64 → reflective < 2
    → cond b ((cond b (reflective * 64) 0 + qfi) / 64 % 2) 0 ≡ cond b reflective 0
bit_above true qfi reflective l k = omega arith
bit_above false qfi reflective l k = refl

pub through_container : (direction : ℕ) (prefix : List ℕ) (start flow : ℕ) (teid : List ℕ) (held : Args) → held ≡ args_at prefix start
    → flow ≡ flow_octet direction held.qfi held.reflective → teid ≡ held.teid
    → record { qfi = flow % 64; reflective = cond (eqb direction downlink) (flow / 64 % 2) 0; teid = teid }
    ≡ own_args direction prefix start
unfolding args_at
through_container direction prefix start flow teid held h f t =
    let same = t ∙ ap (λ (x : Args). x.teid) h in
    λ i. record { qfi = qfi i; reflective = reflective i; teid = same i }
  where
    v : ℕ
    v = octet prefix (start / 8)

    octets : flow ≡ cond (eqb direction downlink) (v / 2 % 2 * 64) 0 + v / 4 % 64
    octets = f ∙ ap (λ (x : Args). flow_octet direction x.qfi x.reflective) h

    qfi : flow % 64 ≡ v / 4 % 64
    qfi = ap (λ (n : ℕ). n % 64) octets ∙ low_bits (eqb direction downlink) (v / 4 % 64) (v / 2 % 2) (omega arith)

    reflective : cond (eqb direction downlink) (flow / 64 % 2) 0 ≡ cond (eqb direction downlink) (v / 2 % 2) 0
    reflective =
        ap (λ (n : ℕ). cond (eqb direction downlink) (n / 64 % 2) 0) octets
        ∙ bit_above (eqb direction downlink) (v / 4 % 64) (v / 2 % 2) (omega arith) (omega arith)

-- AN ADDRESS UNDER A PREFIX, OCTET BY OCTET

-- of the first i octets: that they are octets, and that `same` says whether they have the prefix's bits
pub record Looked (a p : List ℕ) (b i : ℕ) (same : Bool) : Type 0 where
  pub octets : (k : ℕ) → k < i → (octet a k < 256) × (octet p k < 256)
  pub agree : same ≡ true → Agree i a p b
  pub known : Agree i a p b → same ≡ true

pub none_looked : (a p : List ℕ) (b : ℕ) → Looked a p b 0 true
none_looked a p b = record { octets = λ k l. absurd (omega arith); agree = λ h k l. absurd (omega arith); known = λ g. refl }

pub one_looked : (a p : List ℕ) (b i : ℕ) (same new : Bool) → Looked a p b i same → octet a i < 256 → octet p i < 256
    → new ≡ eqb (octet a i / 2 ^ beyond b i) (octet p i / 2 ^ beyond b i) → Looked a p b (i + 1) (same && new)
one_looked a p b i same new s la lp e = record { octets = λ k l. bounds k l (ℕ_discrete k i); agree = agree; known = known }
  where
    bounds : (k : ℕ) → k < i + 1 → Dec (k ≡ i) → (octet a k < 256) × (octet p k < 256)
    bounds k l (yes q) = rw q (la, lp)
    bounds k l (no d) = s.octets k (omega arith)

    agree : same && new ≡ true → Agree (i + 1) a p b
    agree h k l = pick (ℕ_discrete k i)
      where
        pick : Dec (k ≡ i) → octet a k / 2 ^ beyond b k ≡ octet p k / 2 ^ beyond b k
        pick (yes q) = rw q (eqb-true _ _ (sym e ∙ and_right same new h))
        pick (no d) = s.agree (and_left same new h) k (omega arith)

    known : Agree (i + 1) a p b → same && new ≡ true
    known g = and_both same new (s.known (λ k l. g k (omega arith))) (e ∙ eq-eqb _ _ (g i (omega arith)))

all-octets : (s : List ℕ) → length s ≡ 16 → ((k : ℕ) → k < 16 → octet s k < 256) → Octets s
all-octets s n h i = pick (dec_lt i 16)
  where
    pick : Dec (i < 16) → octet s i < 256
    pick (yes l) = h i l
    pick (no d) = rw (get_or-eq_default s 0 {n = i} (omega arith)) (omega arith)

pub all_looked : (a p : List ℕ) (b : ℕ) (same : Bool) → length a ≡ 16 → length p ≡ 16 → Looked a p b 16 same → same ≡ under 16 a p b
all_looked a p b same na np s = pick same refl (under 16 a p b) refl
  where
    oa : Octets a
    oa = all-octets a na (λ k l. (s.octets k l).0)

    op : Octets p
    op = all-octets p np (λ k l. (s.octets k l).1)

    pick : (t : Bool) → same ≡ t → (u : Bool) → under 16 a p b ≡ u → t ≡ u
    pick true e u f = sym (agree-under a p oa op b 16 (s.agree e)) ∙ f
    pick false e true f = sym e ∙ s.known (under-agree a p oa op b 16 f)
    pick false e false f = refl
