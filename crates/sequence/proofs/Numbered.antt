-- What Numbered.antt says of a packet holds exactly where a number is found, and the number is that of its octets.
use mathlib.Core.Path.{◌≡◌, refl, sym, ap, ◌∙◌, subst}
use mathlib.Core.Logic.{◌≢◌}
use mathlib.Core.Bool.{true}
use mathlib.Core.List.{List}
use Prim.Native.Nat.{ℕ, ◌+◌, ◌*◌, ◌/◌, ◌%◌, ◌≤◌, ◌<◌}
use native.Mathlib.Omega.{arith}
use native.Mathlib.Decide.{ℕ_discrete}
use lib.ListN.{length, drop, length-drop}
use lib.Seq.{get_or-drop}
use borrow.Author.Tests.{le-leb, lt-ltb, eq-eqb, ne_eqb, eqb-true}
use Rattle.rules.specs.Octets.{octet, Octets, window, read16, number}
use Rattle.rules.specs.Checksum.{word_sum}
use Rattle.rules.specs.Ipv4 as Ipv4
use Rattle.rules.specs.Header.{header, malformed, bad_chain, segments_remain}
use Rattle.rules.specs.Datagram.{datagram, not_gtpu, message_rows}
use Rattle.rules.specs.Carried.{datagram_in6, datagram_in4}
use Rattle.rules.specs.Gtp6D.{gtp6_rows}
use Rattle.rules.specs.D4.{gtp4_rows}
use Rattle.rules.specs.Header4.{header4}
use Rattle.rules.proofs.Windows.{octets-window}
use Rattle.rules.proofs.Rows.{Clear, None, clear, read}
use Rattle.rules.proofs.Checksums.{fold, ones_sum-fold}
use Rattle.sequence.specs.Sequence.{rows9_to11, g_pdu_rows6, g_pdu_rows4, numbered, found_in, sequence6, sequence4}
use Rattle.sequence.specs.Numbered.{GPduAt, Whole6, SpentSrh, UdpAt, Numbered6, header_words, Numbered4, number_at, Gives6, Gives4}
use Rattle.sequence.proofs.Numbering.{passed_found, found_passed}

-- a number that cannot be other than 0 is 0
not_other : {n : ℕ} → (n ≢ 0 → ⊥) → n ≡ 0
not_other {n} h = go (ℕ_discrete n 0)
  where
    go : Dec (n ≡ 0) → n ≡ 0
    go (yes e) = e
    go (no d) = absurd (h d)

-- THE DATAGRAM

-- version 1 and PT 1 are the high four bits of the flags
high_bits : (x : ℕ) → x / 32 ≡ 1 → x / 16 % 2 ≡ 1 → x / 16 ≡ 3
high_bits x v t = omega arith

module _ (p : List ℕ) (at : ℕ) where
  abbrev here : List ℕ
  here = drop at p

  octet-here : (i : ℕ) → octet here i ≡ octet p (at + i)
  octet-here i = get_or-drop at p i 0

  read16-here : (i : ℕ) → read16 here i ≡ read16 p (at + i)
  read16-here i = let e : at + (i + 1) ≡ at + i + 1 = omega arith in rw (octet-here i, octet-here (i + 1), e)

  passed_at : (protocol : ℕ) → Clear (not_gtpu protocol (datagram here)) → None (rows9_to11 (datagram here)) → numbered here ≡ true
      → (protocol ≡ 17) × GPduAt p at
  unfolding datagram message_rows
  passed_at protocol t m s =
      let l = length-drop at p in
      let k : octet here 8 / 2 % 2 ≡ 1 = omega (arith, eqb-true) in
      let f = rw (lt-ltb 0 (octet here 8 % 8) (omega arith)) at m in
      let z : 8 ≤ length here = omega read in
      let q = rw (le-leb 8 (length here) z) at t in (
        omega read,
        record {
          size = omega read;
          destinationPort = omega (read, read16-here 2);
          udp_length = omega (read, read16-here 4);
          version = omega (read, octet-here 8);
          protocol_type = omega (read, octet-here 8);
          sequence_flag = omega (arith, octet-here 8);
          messageType = omega (read, octet-here 9);
          messageLength = omega (read, read16-here 10);
        },
      )

  at_passed : (protocol : ℕ) → protocol ≡ 17 → GPduAt p at
      → Clear (not_gtpu protocol (datagram here)) × (None (rows9_to11 (datagram here)) × (numbered here ≡ true))
  unfolding datagram message_rows
  at_passed protocol u g =
      let l = length-drop at p in
      let f = octet-here 8 in
      let z : 8 ≤ length here = omega (arith, l, g.size) in
      let v : octet here 8 / 16 ≡ 3 = rw f (high_bits (octet p (at + 8)) g.version g.protocol_type) in
      let k : octet here 8 / 2 % 2 ≡ 1 = omega (arith, f, g.sequence_flag) in (
        rw (le-leb 8 (length here) z) (omega (clear, u, read16-here 2, g.destinationPort)),
        (
          rw (lt-ltb 0 (octet here 8 % 8) (omega arith)) (omega (clear, l, v, octet-here 9, read16-here 4, read16-here 10)),
          omega (arith, eq-eqb, k),
        ),
      )

  found_here : found_in here ≡ number_at p at
  unfolding window number
  found_here = omega (arith, octet-here 12, octet-here 13, octet-here 14, octet-here 15, octet-here 16, octet-here 17)

-- OVER IPV6

module _ (p : List ℕ) where
  -- no row applies, from what is said of the packet
  upper-here : (at : ℕ) → UdpAt p at → at ≤ length p
      → ((header p).upper ≡ 17) × ((at ≡ (header p).upperAt) × (Clear (bad_chain (header p)) × Clear (segments_remain (header p))))
  unfolding header
  upper-here at (UdpAt.plain n e) l = let q = ne_eqb (octet p 6) 43 (λ h. omega (arith, h, n)) in rw q (n, (e, omega clear))
  upper-here at (UdpAt.behind_srh n s e) l = let q = eq-eqb (octet p 6) 43 n in rw q (s.nextHeader, (e, omega (clear, s)))

  whole_here : Whole6 p → Clear (malformed (header p))
  unfolding header
  whole_here h = omega (clear, h)

  pub numbered_6 : (at : ℕ) → Numbered6 p at → sequence6 p ≡ number_at p at
  unfolding sequence6 g_pdu_rows6 gtp6_rows
  numbered_6 at n =
      let (u, (e, (c, r))) = upper-here at n.upper (omega (arith, n.g_pdu.size)) in
      let (t, (m, s)) = at_passed p (header p).upperAt (header p).upper u (subst (GPduAt p) e n.g_pdu) in
      passed_found (g_pdu_rows6 p) (datagram_in6 p) (whole_here n.header, (c, (r, (t, m)))) s
      ∙ found_here p (header p).upperAt
      ∙ ap (number_at p) (sym e)

  passed_6 : None (g_pdu_rows6 p) → numbered (datagram_in6 p) ≡ true → (at : ℕ) × Numbered6 p at
  unfolding g_pdu_rows6 gtp6_rows header
  passed_6 n s = go (ℕ_discrete (octet p 6) 43)
    where
      whole : Whole6 p
      whole = record { size = omega (read, n.0); version = omega (read, n.0); payloadLength = omega (read, n.0) }

      go : Dec (octet p 6 ≡ 43) → (at : ℕ) × Numbered6 p at
      go (yes e) =
          let q = eq-eqb (octet p 6) 43 e in
          let m = rw q at n in
          let (u, g) = passed_at p (48 + 8 * octet p 41) (octet p 40) m.1.1.1.0 m.1.1.1.1 (rw q at s) in
          let s : SpentSrh p = record { nextHeader = u; routingType = omega (read, m); segmentsLeft = omega (read, m) } in
          (48 + 8 * octet p 41, record { header = whole; upper = UdpAt.behind_srh e s refl; g_pdu = g })
      go (no d) =
          let q = ne_eqb (octet p 6) 43 d in
          let m = rw q at n in
          let (u, g) = passed_at p 40 (octet p 6) m.1.1.1.0 m.1.1.1.1 (rw q at s) in
          (40, record { header = whole; upper = UdpAt.plain u refl; g_pdu = g })

  pub gives_6 : Gives6 p (sequence6 p)
  unfolding sequence6
  gives_6 = record {
    numbered = numbered_6;
    otherwise = λ f. not_other (λ h. let (at, n) = only h in f at n);
    only = only;
  }
    where
      only : sequence6 p ≢ 0 → (at : ℕ) × Numbered6 p at
      only h = let (n, s) = found_passed (g_pdu_rows6 p) (datagram_in6 p) h in passed_6 n s

-- OVER IPV4

-- a sum of words that is not 0 is FFFF, with its carries added, exactly where FFFF divides it
folded : (n : ℕ) → 0 < n → fold n ≡ 0xffff → n % 0xffff ≡ 0
folded n l h = omega arith

divided : (n : ℕ) → 0 < n → n % 0xffff ≡ 0 → fold n ≡ 0xffff
divided n l h = omega arith

module _ (p : List ℕ) (o : Octets p) where
  header-sum : Ipv4.header_sum p ≡ fold (header_words p)
  unfolding window word_sum
  header-sum = ones_sum-fold (window p 0 20) (octets-window p 0 20 o) ∙ omega arith

  pub numbered_4 : Numbered4 p → sequence4 p ≡ number_at p 20
  unfolding sequence4 g_pdu_rows4 gtp4_rows header4
  numbered_4 n =
      let (t, (m, s)) = at_passed p 20 (octet p 9) n.protocol n.g_pdu in
      let c : Ipv4.header_sum p ≡ 0xffff = header-sum ∙ divided (header_words p) (omega (arith, n.version)) n.checksum in
      let l = n.g_pdu.size in
      passed_found (g_pdu_rows4 p) (datagram_in4 p) (omega clear, (omega clear, (t, m))) s ∙ found_here p 20

  passed_4 : None (g_pdu_rows4 p) → numbered (datagram_in4 p) ≡ true → Numbered4 p
  unfolding g_pdu_rows4 gtp4_rows header4
  passed_4 n s =
      let (u, g) = passed_at p 20 (octet p 9) n.1.1.0 n.1.1.1 s in
      let v : octet p 0 / 16 ≡ 4 = omega (read, n.0) in
      let c : Ipv4.header_sum p ≡ 0xffff = omega (read, n.1.0) in
      record {
        version = v;
        headerLength = omega (read, n.1.0);
        totalLength = omega (read, n.0);
        fragment_high = omega (read, n.1.0);
        fragment_low = omega (read, n.1.0);
        protocol = u;
        checksum = folded (header_words p) (omega (arith, v)) (sym header-sum ∙ c);
        g_pdu = g;
      }

  pub gives_4 : Gives4 p (sequence4 p)
  unfolding sequence4
  gives_4 = record {
    numbered = numbered_4;
    otherwise = λ f. not_other (λ h. f (only h));
    only = only;
  }
    where
      only : sequence4 p ≢ 0 → Numbered4 p
      only h = let (n, s) = found_passed (g_pdu_rows4 p) (datagram_in4 p) h in passed_4 n s
