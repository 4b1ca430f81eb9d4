-- The tests of rows 8 to 14, 17 and 18 that ask of a UDP datagram hold exactly where Refused.antt says that the number is given.
use mathlib.Core.Path.{◌≡◌, sym, ◌∙◌}
use mathlib.Core.Logic.{◌≢◌}
use mathlib.Core.Bool.{Bool, true, false, not, ◌&&◌, false≢true}
use mathlib.Core.List.{List, [], ◌∷◌}
use Prim.Native.Nat.{ℕ, ◌+◌, ◌*◌, ◌/◌, ◌%◌, ◌<◌}
use native.Mathlib.Nat.{div-div-eq-div-mul}
use native.Mathlib.Omega.{arith}
use native.Mathlib.Decide.{ℕ_discrete}
use lib.Dec.{eqb, leb, ltb}
use lib.ListN.{length, get_or}
use borrow.Author.Tests.{ltb-true, leb-true, eqb-true, not-true, lt-ltb, le-leb, eq-eqb, ne_eqb, le-ltb, ltb-false}
use Rattle.rules.specs.Exactly.{Exactly}
use Rattle.rules.specs.Octets.{Octets, octet, window, number}
use Rattle.rules.specs.Entry as Entry
use Rattle.rules.specs.Ipv6 as Ipv6
use Rattle.rules.specs.Gtpu as Gtpu
use Rattle.rules.specs.Answer.{differs, given, any}
use Rattle.rules.specs.Datagram.{datagram, not_gtpu, bad_udp, bad_gtpu, extended, bad_extensions, bad_container, bad_inner}
use Rattle.rules.specs.UdpChecksum.{udp_sum6, bad_checksum}
use Rattle.rules.specs.AddsUp.{AddsUp}
use Rattle.rules.specs.Refused.{NotGtpu, BadUdp, BadChecksum}
use Rattle.rules.specs.Echo.{bad_echo}
use Rattle.rules.specs.Refused.{BadGtpu, BadEcho, BadExtension, BadContainer, BadInner}
use Rattle.rules.proofs.Windows.{window-length, octets-window}
use Rattle.rules.proofs.UdpChecksums.{sum_adds, adds_sum}
use Rattle.rules.proofs.Conditions.{and_left, and_right, ◌also◌}
use Rattle.rules.proofs.Exact.{and_not, differs_true, ne_differs, only, Leads, leads-given, any-leads}
use Rattle.rules.proofs.Exact.{any_at, any-from, any-under}

-- E, S and PN are the low three bits
low_bits : (x : ℕ) → x % 8 ≡ x / 4 % 2 * 4 + x / 2 % 2 * 2 + x % 2
low_bits x =
    let a : x / 2 / 2 ≡ x / 4 = div-div-eq-div-mul x 2 2 in
    let b : x / 4 / 2 ≡ x / 8 = div-div-eq-div-mul x 4 2 in
    omega arith

last_flag : (x : ℕ) → x / 4 % 2 ≡ 0 → x / 2 % 2 ≡ 0 → 0 < x % 8 → x % 2 ≡ 1
last_flag x a b l = let e = low_bits x in omega arith

module _ (u : List ℕ) where
  pub row_8 : (protocol : ℕ) → Exactly (any (not_gtpu protocol (datagram u))) (NotGtpu protocol u)
  unfolding datagram
  row_8 protocol = (
    any-leads (NotGtpu protocol u) (not_gtpu protocol (datagram u))
        (λ e. NotGtpu.not_udp (differs_true _ _ e), leads-given (NotGtpu protocol u) (leb 8 (length u)) ts leads),
    back,
  )
    where
      ts : List Bool
      ts = differs (Gtpu.destination_port u) 2152 ∷ []

      leads : leb 8 (length u) ≡ true → Leads (NotGtpu protocol u) ts
      leads c = (λ e. NotGtpu.port (leb-true _ _ c) (differs_true _ _ e), tt)

      back : NotGtpu protocol u → any (not_gtpu protocol (datagram u)) ≡ true
      back (NotGtpu.not_udp h) = any_at (not_gtpu protocol (datagram u)) 0 (ne_differs _ _ h)
      back (NotGtpu.port l h) =
          any-from (not_gtpu protocol (datagram u)) 1 (any-under (leb 8 (length u)) ts (le-leb _ _ l) (any_at ts 0 (ne_differs _ _ h)))

  pub row_9 : Exactly (any (bad_udp (datagram u))) (BadUdp u)
  unfolding datagram
  row_9 = (any-leads (BadUdp u) (bad_udp (datagram u)) leads, back)
    where
      leads : Leads (BadUdp u) (bad_udp (datagram u))
      leads = (λ e. BadUdp.short (ltb-true _ _ e)) also (λ e. BadUdp.length_field (differs_true _ _ e)) also tt

      back : BadUdp u → any (bad_udp (datagram u)) ≡ true
      back (BadUdp.short h) = any_at (bad_udp (datagram u)) 0 (lt-ltb _ _ h)
      back (BadUdp.length_field h) = any_at (bad_udp (datagram u)) 1 (ne_differs _ _ h)

  pub row_10 : Exactly (any (bad_gtpu (datagram u))) (BadGtpu u)
  unfolding datagram
  row_10 = (any-leads (BadGtpu u) (bad_gtpu (datagram u)) leads, back)
    where
      flagged : Bool
      flagged = ltb 0 (octet u 8 % 8)

      ts : List Bool
      ts = ltb (length u) 20 ∷ []

      front : octet u 8 / 16 ≢ 3 → Dec (Gtpu.version u ≡ 1) → BadGtpu u
      front h (yes v) = BadGtpu.protocol_type (λ t. h (omega (arith, v, t)))
      front h (no d) = BadGtpu.version d

      long : 0 < octet u 8 % 8 → length u < 20 → Dec (Gtpu.extension_flag u ≡ 1) → Dec (Gtpu.sequence_flag u ≡ 1) → BadGtpu u
      long l h (yes e) s = BadGtpu.short_with_e e h
      long l h (no d) (yes s) = BadGtpu.short_with_s s h
      long l h (no d) (no c) = BadGtpu.short_with_pn (last_flag (octet u 8) (omega (arith, d)) (omega (arith, c)) l) h

      leads : Leads (BadGtpu u) (bad_gtpu (datagram u))
      leads =
          (λ e. BadGtpu.short (ltb-true _ _ e))
          also (λ e. front (differs_true _ _ e) (ℕ_discrete (Gtpu.version u) 1))
          also (λ e. BadGtpu.length_field (differs_true _ _ e))
          also leads-given (BadGtpu u) flagged ts (λ c. (λ e. unflagged (ltb-true _ _ c) (ltb-true _ _ e), tt))
        where
          unflagged : 0 < octet u 8 % 8 → length u < 20 → BadGtpu u
          unflagged l h = long l h (ℕ_discrete (Gtpu.extension_flag u) 1) (ℕ_discrete (Gtpu.sequence_flag u) 1)

      wide : 0 < octet u 8 % 8 → length u < 20 → any (bad_gtpu (datagram u)) ≡ true
      wide l h = any-from (bad_gtpu (datagram u)) 3 (any-under flagged ts (lt-ltb _ _ l) (any_at ts 0 (lt-ltb _ _ h)))

      back : BadGtpu u → any (bad_gtpu (datagram u)) ≡ true
      back (BadGtpu.short h) = any_at (bad_gtpu (datagram u)) 0 (lt-ltb _ _ h)
      back (BadGtpu.short_with_e f h) = wide (omega (arith, f)) h
      back (BadGtpu.short_with_s f h) = wide (omega (arith, f)) h
      back (BadGtpu.short_with_pn f h) = wide (omega (arith, f)) h
      back (BadGtpu.version h) = any_at (bad_gtpu (datagram u)) 1 (ne_differs (octet u 8 / 16) 3 (λ e. h (omega (arith, e))))
      back (BadGtpu.protocol_type h) = any_at (bad_gtpu (datagram u)) 1 (ne_differs (octet u 8 / 16) 3 (λ e. h (omega (arith, e))))
      back (BadGtpu.length_field h) = any_at (bad_gtpu (datagram u)) 2 (ne_differs _ _ h)

  pub row_11 : Exactly (any (differs (datagram u).messageType 255 ∷ [])) (Gtpu.message_type u ≢ 255)
  unfolding datagram
  row_11 = only (differs (Gtpu.message_type u) 255) (Gtpu.message_type u ≢ 255) (differs_true _ _) (ne_differs _ _)

  pub row_17 : Exactly (any (bad_echo (datagram u))) (BadEcho u)
  unfolding datagram window number
  row_17 = (any-leads (BadEcho u) ts leads, back)
    where
      ts : List Bool
      ts = differs (Gtpu.sequence_flag u) 1 ∷ differs (number u 12 4) 0 ∷ []

      leads : Leads (BadEcho u) ts
      leads =
          (λ e. BadEcho.no_sequence_number (omega (arith, differs_true (Gtpu.sequence_flag u) 1 e)))
          also (λ e. BadEcho.teid (differs_true _ _ e))
          also tt

      back : BadEcho u → any ts ≡ true
      back (BadEcho.no_sequence_number h) = any_at ts 0 (ne_differs (Gtpu.sequence_flag u) 1 (λ e. omega (arith, e, h)))
      back (BadEcho.teid h) = any_at ts 1 (ne_differs _ _ h)

  -- an extension is there
  is-extended : Gtpu.extension_flag u ≡ 1 → Gtpu.extension_type u ≢ 0 → extended (datagram u) ≡ true
  unfolding datagram
  is-extended f h = rw (eq-eqb (Gtpu.extension_flag u) 1 f, lt-ltb 0 (Gtpu.extension_type u) (omega (arith, h)))

  flag_set : extended (datagram u) ≡ true → Gtpu.extension_flag u ≡ 1
  unfolding datagram
  flag_set h = eqb-true _ _ (and_left (eqb (Gtpu.extension_flag u) 1) (ltb 0 (Gtpu.extension_type u)) h)

  type-set : extended (datagram u) ≡ true → Gtpu.extension_type u ≢ 0
  unfolding datagram
  type-set h e =
      let l = ltb-true 0 (Gtpu.extension_type u) (and_right (eqb (Gtpu.extension_flag u) 1) (ltb 0 (Gtpu.extension_type u)) h) in
      omega (arith, l, e)

  pub row_12 : Exactly (any (bad_extensions (datagram u))) (BadExtension u)
  unfolding datagram
  row_12 = (any-leads (BadExtension u) (bad_extensions (datagram u)) (leads-given (BadExtension u) x ts leads), back)
    where
      x : Bool
      x = extended (datagram u)

      ts : List Bool
      ts =
          differs (Gtpu.extension_type u) 0x85 ∷ eqb (Gtpu.extension_units u) 0 ∷ ltb (length u) (20 + 4 * Gtpu.extension_units u)
          ∷ differs (Gtpu.following_type u) 0 ∷ []

      follows : extended (datagram u) ≡ true → Gtpu.following_type u ≢ 0 → Dec (Gtpu.following_type u ≡ 0x85) → BadExtension u
      follows c h (yes e) = BadExtension.second (flag_set c) (type-set c) e
      follows c h (no d) = BadExtension.type_behind (flag_set c) (type-set c) h d

      leads : x ≡ true → Leads (BadExtension u) ts
      leads c =
          (λ e. BadExtension.type (flag_set c) (type-set c) (differs_true _ _ e))
          also (λ e. BadExtension.no_units (flag_set c) (type-set c) (eqb-true _ _ e))
          also (λ e. BadExtension.past_end (flag_set c) (type-set c) (ltb-true _ _ e))
          also (λ e. follows c (differs_true _ _ e) (ℕ_discrete (Gtpu.following_type u) 0x85))
          also tt

      at : Gtpu.extension_flag u ≡ 1 → Gtpu.extension_type u ≢ 0 → (k : ℕ) → get_or ts k false ≡ true → any (given x ts) ≡ true
      at f h k e = any-under x ts (is-extended f h) (any_at ts k e)

      back : BadExtension u → any (given x ts) ≡ true
      back (BadExtension.type f h k) = at f h 0 (ne_differs _ _ k)
      back (BadExtension.no_units f h k) = at f h 1 (eq-eqb _ _ k)
      back (BadExtension.past_end f h k) = at f h 2 (lt-ltb _ _ k)
      back (BadExtension.second f h k) = at f h 3 (ne_differs (Gtpu.following_type u) 0 (λ e. omega (arith, e, k)))
      back (BadExtension.type_behind f h k l) = at f h 3 (ne_differs _ _ k)

  pub row_13 : (direction : ℕ) → Exactly (any (bad_container direction (datagram u))) (BadContainer direction u)
  unfolding datagram
  row_13 direction = (
    any-leads (BadContainer direction u) ts
        (λ e. none (ℕ_discrete (Gtpu.extension_flag u) 1) (not-true x e), (λ e. BadContainer.direction (differs_true _ _ e), tt)),
    back,
  )
    where
      x : Bool
      x = extended (datagram u)

      ts : List Bool
      ts = bad_container direction (datagram u)

      none : Dec (Gtpu.extension_flag u ≡ 1) → x ≡ false → BadContainer direction u
      none (yes f) e = BadContainer.no_type (omega (arith, ltb-false, rw (eq-eqb (Gtpu.extension_flag u) 1 f) at e))
      none (no d) e = BadContainer.no_extension (omega (arith, d))

      back : BadContainer direction u → any ts ≡ true
      back (BadContainer.no_extension h) = any_at ts 0 (rw (ne_eqb (Gtpu.extension_flag u) 1 (λ e. omega (arith, e, h))))
      back (BadContainer.no_type h) =
          any_at ts 0 (rw (le-ltb 0 (Gtpu.extension_type u) (omega (arith, h))) (and_not (eqb (Gtpu.extension_flag u) 1)))
      back (BadContainer.direction h) = any_at ts 1 (ne_differs _ _ h)

pub row_14 : (session : ℕ) (inner : List ℕ) → Exactly (any (bad_inner session (length inner) (octet inner 0))) (BadInner session inner)
row_14 session inner = (
  any-leads (BadInner session inner) (bad_inner session (length inner) (octet inner 0))
      (leads-given (BadInner session inner) (eqb session 3) ts
      (λ c. (
        λ e. BadInner.empty (eqb-true _ _ c) (eqb-true _ _ e),
        (λ e. BadInner.nibble (eqb-true _ _ c) (differs_true _ _ (and_left not4 not6 e)) (differs_true _ _ (and_right not4 not6 e)), tt),
      ))),
  back,
)
  where
    not4 : Bool
    not4 = differs (octet inner 0 / 16) 4

    not6 : Bool
    not6 = differs (octet inner 0 / 16) 6

    ts : List Bool
    ts = eqb (length inner) 0 ∷ (not4 && not6) ∷ []

    back : BadInner session inner → any (given (eqb session 3) ts) ≡ true
    back (BadInner.empty h k) = any-under (eqb session 3) ts (eq-eqb _ _ h) (any_at ts 0 (eq-eqb _ _ k))
    back (BadInner.nibble h k l) =
        any-under (eqb session 3) ts (eq-eqb _ _ h) (any_at ts 1 (rw (ne_eqb (octet inner 0 / 16) 4 k, ne_eqb (octet inner 0 / 16) 6 l)))

-- row 18, between the addresses of a packet p
module _ (e p u : List ℕ) (op : Octets p) (ou : Octets u) (hu : length u < 65536) where
  bad : Bool
  bad = bad_checksum (Entry.zero_allowed e) (Ipv6.source p) (Ipv6.destination p) u

  fits : udp_sum6 (Ipv6.source p) (Ipv6.destination p) u ≡ 0xffff → AddsUp (Ipv6.source p) (Ipv6.destination p) u
  fits = sum_adds (Ipv6.source p) (Ipv6.destination p) u (window-length p 8 16) (window-length p 24 16) hu (octets-window p 8 16 op)
      (octets-window p 24 16 op) ou

  fitting : AddsUp (Ipv6.source p) (Ipv6.destination p) u → udp_sum6 (Ipv6.source p) (Ipv6.destination p) u ≡ 0xffff
  fitting = adds_sum (Ipv6.source p) (Ipv6.destination p) u (window-length p 8 16) (window-length p 24 16) hu (octets-window p 8 16 op)
      (octets-window p 24 16 op) ou

  there : bad ≡ true → Dec (Gtpu.udp_checksum u ≡ 0) → BadChecksum e p u
  unfolding bad
  there h (yes z) =
      let n : not (Entry.zero_allowed e) ≡ true = rw (eq-eqb (Gtpu.udp_checksum u) 0 z) at h in
      BadChecksum.zero z (λ a. false≢true (sym (not-true (Entry.zero_allowed e) n) ∙ eq-eqb _ 1 a))
  there h (no n) =
      let d : differs (udp_sum6 (Ipv6.source p) (Ipv6.destination p) u) 0xffff ≡ true = rw (ne_eqb (Gtpu.udp_checksum u) 0 n) at h in
      BadChecksum.wrong n (λ a. differs_true _ 0xffff d (fitting a))

  back : BadChecksum e p u → bad ≡ true
  unfolding bad
  back (BadChecksum.zero z a) = rw (eq-eqb (Gtpu.udp_checksum u) 0 z, ne_eqb (Entry.zero_checksum e) 1 a)
  back (BadChecksum.wrong n a) = rw (ne_eqb (Gtpu.udp_checksum u) 0 n) (ne_differs _ 0xffff (λ q. a (fits q)))

  pub row_18 : Exactly (any (bad_checksum (Entry.zero_allowed e) (Ipv6.source p) (Ipv6.destination p) u ∷ [])) (BadChecksum e p u)
  unfolding bad
  row_18 = only bad (BadChecksum e p u) (λ h. there h (ℕ_discrete (Gtpu.udp_checksum u) 0)) back
