-- Every field of a message is as Message.antt says, whatever the entry, the packet and its refusal by the IPv6 call.
use mathlib.Core.Path.{◌≡◌, refl, sym, ap, ◌∙◌, subst}
use mathlib.Core.List.{List, [], ◌∷◌}
use Prim.Native.Nat.{ℕ, zero, suc, ◌+◌, ◌-◌, ◌%◌, ◌≤◌, ◌<◌}
use native.Mathlib.Omega.{arith}
use lib.ListN.{length, take}
use lib.Seq.{get_or-take}
use Rattle.rules.specs.Octets.{Octets, octet, number}
use Rattle.rules.specs.Assigned.{icmpv6_protocol}
use Rattle.rules.specs.Entry as Entry
use Rattle.rules.specs.Ipv6 as Ipv6
use Rattle.rules.specs.Checksum.{word_sum}
use Rattle.rules.specs.Refused.{upper_at}
use Rattle.rules.specs.Written.{Ipv6Fields}
use Rattle.rules.specs.Given.{icmp, with_icmp}
use Rattle.rules.specs.declared.Refusal.{Refusal}
use Rattle.rules.proofs.Windows.{window-length, octet-past, octets-window}
use Rattle.rules.proofs.Checksums.{octets-append, octets-each}
use Rattle.rules.proofs.UdpChecksums.{sum_with, words_with}
use Rattle.rules.proofs.Reading.{ipv6-length, ipv6-drop, ipv6-octet, ipv6-source, ipv6-destination}
use Rattle.rules.proofs.Fields.{ipv6_fields}
use Rattle.rules.proofs.Given.{Fits, upper_fits, icmp-fits}
use Rattle.icmp.specs.Icmp as Icmp
use Rattle.icmp.specs.Icmp.{quoted, checksum_of, icmp_packet}
use Rattle.icmp.specs.Message.{TrueChecksum, Says, Quotes, WrittenIcmp}
use Rattle.icmp.proofs.Laws.{checksum-is, quoted-length}

octets-take : (n : ℕ) (s : List ℕ) → Octets s → Octets (take n s)
octets-take zero s h i = omega arith
octets-take (suc n) [] h i = omega arith
octets-take (suc n) (x ∷ s) h zero = h 0
octets-take (suc n) (x ∷ s) h (suc i) = octets-take n s (λ i. h (suc i)) i

-- a message with any checksum
module _ (r : Refusal) (p : List ℕ) (fits : Fits r) (op : Octets p) where
  message-octets : (k : ℕ) → k < 65536 → Octets (Icmp.icmp r k (quoted p))
  unfolding quoted
  message-octets k h =
      let front : List ℕ = Icmp.icmp r k [] in
      octets-append front (quoted p) (octets-each front (omega (arith, fits))) (octets-take 1232 p op)

  message-length : (k : ℕ) → length (Icmp.icmp r k (quoted p)) ≡ 8 + length (quoted p)
  message-length k = omega arith

  quoted_small : length (quoted p) ≤ 1232
  quoted_small = omega (arith, quoted-length p)

  -- between two addresses, with the one that is sent
  module _ (s d : List ℕ) (hs : length s ≡ 16) (hd : length d ≡ 16) (os : Octets s) (od : Octets d) where
    abbrev sent : ℕ
    sent = checksum_of s d (Icmp.icmp r 0 (quoted p))

    sent_is : sent ≡ (65535 - sum_with s d icmpv6_protocol (Icmp.icmp r 0 (quoted p)) % 65535) % 65535
    sent_is = checksum-is s d (Icmp.icmp r 0 (quoted p)) hs hd (omega (arith, quoted_small)) os od (message-octets 0 (omega arith))

    -- it adds itself to the sum of the words
    sent_more : sum_with s d icmpv6_protocol (Icmp.icmp r sent (quoted p)) ≡ sum_with s d icmpv6_protocol (Icmp.icmp r 0 (quoted p)) + sent
    unfolding word_sum
    sent_more = omega arith

    pub message_true : TrueChecksum s d (Icmp.icmp r sent (quoted p))
    message_true =
        let e = sent_is in
        let m = sent_more in
        let w = words_with s d icmpv6_protocol (Icmp.icmp r sent (quoted p)) hs hd (omega arith) (omega (arith, quoted_small)) in
        record { small = omega (arith, e); adds = omega (arith, e, m, w) }

-- what it says
module _ (r : Refusal) (p : List ℕ) (fields : r ≡ with_icmp (upper_at p) r.number) (op : Octets p) (k : ℕ) (rest : List ℕ) where
  -- its three fields, for the refusal that it is about
  fields_of_lem : (n kind code at : ℕ) → r ≡ icmp n kind code at → at < 65536 → let m = Icmp.icmp r k rest in
      (Icmp.icmp_type m ≡ kind) × ((Icmp.icmp_code m ≡ code) × (Icmp.pointer m ≡ at))
  unfolding Icmp.pointer number
  fields_of_lem n kind code at q h =
      (ap (λ (r : Refusal). r.icmpType) q, (ap (λ (r : Refusal). r.icmpCode) q, omega (arith, h, ap (λ (r : Refusal). r.pointer) q)))

  pub message_says : Says r.number p (Icmp.icmp r k rest)
  message_says =
      record {
        hopLimit = λ h. fields_of_lem 6 3 0 0 (fields ∙ ap (with_icmp (upper_at p)) h) (omega arith);
        segmentsLeft = λ h. fields_of_lem 7 4 0 43 (fields ∙ ap (with_icmp (upper_at p)) h) (omega arith);
        upper_layer = λ h. fields_of_lem 8 4 4 (upper_at p) (fields ∙ ap (with_icmp (upper_at p)) h) (upper_fits p op);
      }

-- the whole
module _ (e : List ℕ) (r : Refusal) (p : List ℕ) (oe : Octets e) (op : Octets p) (fields : r ≡ with_icmp (upper_at p) r.number) where
  abbrev k : ℕ
  k = checksum_of (Entry.source e) (Ipv6.source p) (Icmp.icmp r 0 (quoted p))

  abbrev m : List ℕ
  m = Icmp.icmp r k (quoted p)

  hs : length (Entry.source e) ≡ 16
  hs = window-length e 32 16

  hd : length (Ipv6.source p) ≡ 16
  hd = window-length p 8 16

  icmp-length : length (icmp_packet e r p) ≡ 48 + length (quoted p)
  unfolding icmp_packet
  icmp-length =
      ipv6-length 0 (8 + length (quoted p)) icmpv6_protocol (Entry.hop_limit e) (Entry.source e) (Ipv6.source p) m hs hd ∙ omega arith

  icmp-octet : (i : ℕ) → octet (icmp_packet e r p) (48 + i) ≡ octet (quoted p) i
  unfolding icmp_packet
  icmp-octet i =
      let a : 48 + i ≡ 40 + (8 + i) = omega arith in
      ap (octet (icmp_packet e r p)) a
      ∙ ipv6-octet 0 (8 + length (quoted p)) icmpv6_protocol (Entry.hop_limit e) (Entry.source e) (Ipv6.source p) m hs hd (8 + i)
      ∙ octet-past (Icmp.icmp r k []) (quoted p) 8 i refl

  icmp_quotes : Quotes p (icmp_packet e r p)
  icmp_quotes =
      let l = icmp-length in
      let q = quoted-length p in
      record {
        all = λ h. omega (arith, l, q, h);
        cut = λ h. omega (arith, l, q, h);
        at_most = omega (arith, l, q);
        octets = λ i h. icmp-octet i ∙ unfold quoted in get_or-take 1232 p i 0 (omega (arith, l, q, h));
      }

  pub icmp_written : WrittenIcmp e r.number p (icmp_packet e r p)
  unfolding icmp_packet
  icmp_written =
      let n : ℕ = 8 + length (quoted p) in
      let hop = Entry.hop_limit e in
      let s = Entry.source e in
      let d = Ipv6.source p in
      let x = icmp_packet e r p in
      let size : n ≡ length x - 40 = omega (arith, icmp-length) in
      let behind = ipv6-drop 0 n icmpv6_protocol hop s d m hs hd 0 in
      let from = ipv6-source 0 n icmpv6_protocol hop s d m hs hd in
      let to = ipv6-destination 0 n icmpv6_protocol hop s d m hs hd in
      let fits : Fits r = subst Fits (sym fields) (icmp-fits (upper_at p) r.number (upper_fits p op)) in
      record {
        ipv6 = subst (λ (n : ℕ). Ipv6Fields x 0 n hop) size (ipv6_fields 0 n icmpv6_protocol hop s d m hs hd (omega arith) (omega arith));
        nextHeader = refl;
        source = from;
        destination = to;
        says = rw behind (message_says r p fields op k (quoted p));
        checksum = rw (from, to, behind) (message_true r p fits op s d hs hd (octets-window e 32 16 oe) (octets-window p 8 16 op));
        quotes = icmp_quotes;
      }
