-- The layouts as Layout.antt says them: each reader reads its field, and no other bits.
use mathlib.Core.Path.{◌≡◌, refl, ap}
use mathlib.Core.List.{List}
use Prim.Native.Nat.{ℕ, ◌+◌, ◌-◌, ◌*◌, ◌/◌, ◌%◌, ◌<◌}
use native.Mathlib.Nat.{div-div-eq-div-mul}
use native.Mathlib.Omega.{arith}
use lib.ListN.{length-drop}
use lib.Seq.{get_or-drop}
use borrow.Author.Tests.{eq-eqb, ne_eqb}
use Rattle.rules.specs.Octets.{octet, Octets, window, read16}
use Rattle.rules.specs.Args.{args_at}
use Rattle.rules.specs.Table as Table
use Rattle.rules.specs.Rule as Rule
use Rattle.rules.specs.Policy as Policy
use Rattle.rules.specs.Srh as Srh
use Rattle.rules.specs.Gtpu as Gtpu
use Rattle.rules.specs.Layout.{Number16, Part, Ipv6Octets, SrhOctets, Ipv4Octets, GtpuOctets, ArgsOctets}
use Rattle.rules.specs.Layout.{TableOctets, EntryOctets, RuleOctets, PolicyOctets}
use Rattle.rules.proofs.Windows.{window-length, octet-window}
use Rattle.rules.proofs.Paths.{addresses_at-length}
use Rattle.rules.proofs.PathFields.{addresses_at_at}

-- FIELDS IN GENERAL

number16 : (s : List ℕ) (i : ℕ) → Octets s → Number16 s i (read16 s i)
number16 s i o = record { high = omega (arith, o (i + 1)); low = omega (arith, o (i + 1)) }

part : (s : List ℕ) (i n : ℕ) → Part s i n (window s i n)
part s i n = record { size = window-length s i n; octets = octet-window s i n }

-- HEADERS

module _ (p : List ℕ) (o : Octets p) where
  pub ipv6-octets : Ipv6Octets p
  ipv6-octets = record {
    octet0 = omega (arith, o 1);
    octet1 = omega (arith, o 1, o 2, o 3);
    octets2and3 = record { high = omega (arith, o 2, o 3); low = omega (arith, o 2, o 3) };
    version = omega (arith, o 0);
    trafficClass = omega (arith, o 1);
    flow_label = omega (arith, o 2, o 3);
    payloadLength = number16 p 4 o;
    nextHeader = refl;
    hopLimit = refl;
    source = part p 8 16;
    destination = part p 24 16;
  }

  pub srh-octets : SrhOctets p
  unfolding Srh.segment
  srh-octets = record {
    nextHeader = refl;
    units = refl;
    routingType = refl;
    segmentsLeft = refl;
    lastEntry = refl;
    flags = refl;
    tag = number16 p 46 o;
    segment = λ k. part p (48 + 16 * k) 16;
  }

  pub ipv4-octets : Ipv4Octets p
  ipv4-octets = record {
    octet0 = omega arith;
    version = omega (arith, o 0);
    headerLength = omega arith;
    tos = refl;
    totalLength = number16 p 2 o;
    identification = number16 p 4 o;
    octet6 =
        let a : octet p 6 / 32 / 2 ≡ octet p 6 / 64 = div-div-eq-div-mul (octet p 6) 32 2 in
        let b : octet p 6 / 64 / 2 ≡ octet p 6 / 128 = div-div-eq-div-mul (octet p 6) 64 2 in
        omega (arith, a, b, o 7);
    octet7 = omega (arith, o 7);
    reserved_bit = omega (arith, o 6);
    dont_fragment = omega arith;
    moreFragments = omega arith;
    fragmentOffset = omega (arith, o 7);
    ttl = refl;
    protocol = refl;
    header_checksum = number16 p 10 o;
    source = part p 12 4;
    destination = part p 16 4;
  }

module _ (u : List ℕ) (o : Octets u) where
  pub gtpu-octets : GtpuOctets u
  gtpu-octets = record {
    source_port = number16 u 0 o;
    destinationPort = number16 u 2 o;
    udp_length = number16 u 4 o;
    udp_checksum = number16 u 6 o;
    octet8 =
        let a : octet u 8 / 2 / 2 ≡ octet u 8 / 4 = div-div-eq-div-mul (octet u 8) 2 2 in
        let b : octet u 8 / 4 / 2 ≡ octet u 8 / 8 = div-div-eq-div-mul (octet u 8) 4 2 in
        let c : octet u 8 / 8 / 2 ≡ octet u 8 / 16 = div-div-eq-div-mul (octet u 8) 8 2 in
        let d : octet u 8 / 16 / 2 ≡ octet u 8 / 32 = div-div-eq-div-mul (octet u 8) 16 2 in
        omega (arith, a, b, c, d);
    version = omega (arith, o 8);
    protocol_type = omega arith;
    spare_bit = omega arith;
    extension_flag = omega arith;
    sequence_flag = omega arith;
    n_pdu_flag = omega arith;
    messageType = refl;
    messageLength = number16 u 10 o;
    teid = part u 12 4;
    sequence_number = number16 u 16 o;
    n_pdu_number = refl;
    extensionType = refl;
    extensionUnits = refl;
    octet21 = omega arith;
    octet22 =
        let a : octet u 22 / 64 / 2 ≡ octet u 22 / 128 = div-div-eq-div-mul (octet u 22) 64 2 in
        omega (arith, a);
    pduType = omega (arith, o 21);
    pdu_type_rest = omega arith;
    top_bit = omega (arith, o 22);
    reflective_bit = omega arith;
    qfi = omega arith;
    in_downlink = λ e. rw (eq-eqb (Gtpu.pdu_type u) 0 e);
    otherwise = λ d. rw (ne_eqb (Gtpu.pdu_type u) 0 d);
    followingType = let e : 20 + 4 * octet u 20 - 1 ≡ 19 + 4 * octet u 20 = omega arith in ap (octet u) e;
    inner_of = record { size = length-drop (20 + 4 * octet u 20) u; octets = λ k l. get_or-drop (20 + 4 * octet u 20) u k 0 };
  }

-- an octet of six bits, one and one
six_one_one : (x : ℕ) → x < 256 → x ≡ x / 4 % 64 * 4 + x / 2 % 2 * 2 + x % 2
six_one_one x h =
    let a : x / 2 / 2 ≡ x / 4 = div-div-eq-div-mul x 2 2 in
    let b : x / 4 % 64 ≡ x / 4 = omega arith in
    omega arith

module _ (sid : List ℕ) (start : ℕ) (o : Octets sid) where
  pub args_octets_lem : ArgsOctets sid start
  unfolding args_at
  args_octets_lem = record {
    first = six_one_one (octet sid (start / 8)) (o (start / 8));
    qfi = omega arith;
    reflective = omega arith;
    teid = part sid (start / 8 + 1) 4;
  }

-- THE TABLE

module _ (t : List ℕ) (o : Octets t) where
  pub table-octets : TableOctets t
  unfolding Table.entry_at Table.rule_at Table.policy_at
  table-octets = record {
    format = refl;
    entries = number16 t 2 o;
    rules = number16 t 4 o;
    policies = number16 t 6 o;
    entry = λ i. part t (16 + 64 * i) 64;
    rule = λ k. part t (16 + 64 * Table.entries t + 160 * k) 160;
    policy = λ j. part t (16 + 64 * Table.entries t + 160 * Table.rules t + 288 * j) 288;
  }

module _ (e : List ℕ) (o : Octets e) where
  pub entry-octets : EntryOctets e
  entry-octets = record {
    behaviour = refl;
    prefix_length = refl;
    hopLimit = refl;
    direction = refl;
    session = refl;
    policy = refl;
    start = refl;
    p = refl;
    q = refl;
    zero_checksum = refl;
    source_port = number16 e 10 o;
    prefix = part e 16 16;
    source = part e 32 16;
  }

module _ (r : List ℕ) where
  pub rule-octets : RuleOctets r
  rule-octets = record {
    prefix_length = refl;
    hopLimit = refl;
    direction = refl;
    session = refl;
    p = refl;
    q = refl;
    waypoint_count = refl;
    reserved = refl;
    prefix = part r 8 4;
    sid_prefix = part r 16 16;
    source_prefix = part r 32 16;
    waypoints = addresses_at-length r 48 (Rule.waypoint_count r);
    waypoint = λ k l. rw (addresses_at_at r 48 (Rule.waypoint_count r) k l) (part r (48 + 16 * k) 16);
  }

module _ (y : List ℕ) where
  pub policy-octets : PolicyOctets y
  policy-octets = record {
    sid_count = refl;
    start = refl;
    reserved = refl;
    waypoints = addresses_at-length y 16 (Policy.sid_count y - 1);
    waypoint = λ k l. rw (addresses_at_at y 16 (Policy.sid_count y - 1) k l) (part y (16 + 16 * k) 16);
    last_sid = part y (16 + 16 * (Policy.sid_count y - 1)) 16;
  }
