-- What a call that sends has sent: the fields of "What is written", by the entry or rule that matches and the type of the message.
use Rattle.std.specs.Prelude.{◌≡◌, ◌≢◌, ◌⊎◌, true, ◌||◌, List, [], ℕ, ◌+◌, ◌*◌, eqb, drop}
use Rattle.rules.specs.Octets.{window}
use Rattle.rules.specs.Args.{args_at}
use Rattle.rules.specs.Table.{policy_at}
use Rattle.rules.specs.Entry as Entry
use Rattle.rules.specs.Ipv6 as Ipv6
use Rattle.rules.specs.Ipv4 as Ipv4
use Rattle.rules.specs.Srh as Srh
use Rattle.rules.specs.Gtpu as Gtpu
use Rattle.rules.specs.Carried.{Carried, carried6, carried4}
use Rattle.rules.specs.E6.{e6_carried}
use Rattle.rules.specs.E4.{e4_carried}
use Rattle.rules.specs.Refused.{behind}
use Rattle.rules.specs.Written.{WrittenWaypoint, WrittenD, WrittenDi, WrittenE6, WrittenE4, WrittenD4, WrittenEcho6, WrittenEcho4}

-- WHAT IS READ, where Written.antt says what is written: the values c that are carried, through the readers of the layouts

-- from the UDP datagram u with a G-PDU in it: TEID from the GTP-U header, QFI and R from the container, R in downlink only; the inner
-- octets are all that follow the GTP-U header and its extensions
pub record ReadFromGtpu (u : List ℕ) (c : Carried) : Type 0 where
  pub teid : c.args.teid ≡ Gtpu.teid u
  pub qfi : c.args.qfi ≡ Gtpu.qfi u
  pub in_downlink : Gtpu.pdu_type u ≡ 0 → c.args.reflective ≡ Gtpu.reflective_bit u
  pub otherwise : Gtpu.pdu_type u ≢ 0 → c.args.reflective ≡ 0
  pub inner : c.inner ≡ drop (20 + 4 * Gtpu.extension_units u) u

-- at D and Di from an IPv6 packet p, which has no source to carry
pub record ReadAtGtp6D (p : List ℕ) (c : Carried) : Type 0 where
  pub trafficClass : c.trafficClass ≡ Ipv6.traffic_class p
  pub source : c.source ≡ []
  pub destination : c.destination ≡ Ipv6.destination p
  pub gtpu : ReadFromGtpu (behind p) c

-- at D4 from an IPv4 packet p
pub record ReadAtD4 (p : List ℕ) (c : Carried) : Type 0 where
  pub tos : c.trafficClass ≡ Ipv4.tos p
  pub source : c.source ≡ Ipv4.source p
  pub destination : c.destination ≡ Ipv4.destination p
  pub gtpu : ReadFromGtpu (drop 20 p) c

-- at E6: destination SRH[0]; TEID, QFI and R from the arriving destination
pub record ReadAtE6 (e p : List ℕ) (c : Carried) : Type 0 where
  pub trafficClass : c.trafficClass ≡ Ipv6.traffic_class p
  pub source : c.source ≡ []
  pub destination : c.destination ≡ Srh.segment p 0
  pub args : c.args ≡ args_at (Ipv6.destination p) (Entry.start e)
  pub inner : c.inner ≡ behind p

-- at E4: IPv4 addresses and Args from the arriving addresses, behind p and q octets
pub record ReadAtE4 (e p : List ℕ) (c : Carried) : Type 0 where
  pub trafficClass : c.trafficClass ≡ Ipv6.traffic_class p
  pub source : c.source ≡ window (Ipv6.source p) (Entry.q e) 4
  pub destination : c.destination ≡ window (Ipv6.destination p) (Entry.p e) 4
  pub args : c.args ≡ args_at (Ipv6.destination p) (8 * (Entry.p e + 4))
  pub inner : c.inner ≡ behind p

-- WHAT IS SENT

-- D, Di and D4 take messages of two types (TS 29.281): a G-PDU and an Echo Request
abbrev pub Taken : (u : List ℕ) → Type 0
Taken u = (Gtpu.message_type u ≡ 255) ⊎ (Gtpu.message_type u ≡ 1)

-- packet p became x at entry e of table t; the entry has one of these behaviours, by their numbers in RFC 8986 and RFC 9433
pub record SentAtEntry (t e p x : List ℕ) : Type 0 where
  pub known : eqb (Entry.behaviour e) 1
      || (eqb (Entry.behaviour e) 69 || (eqb (Entry.behaviour e) 70 || (eqb (Entry.behaviour e) 71 || eqb (Entry.behaviour e) 72))) ≡ true
  pub waypoint : Entry.behaviour e ≡ 1 → WrittenWaypoint p x
  pub d : Entry.behaviour e ≡ 69 → Gtpu.message_type (behind p) ≡ 255 → WrittenD e (policy_at t (Entry.policy e)) (carried6 p) x
  pub di : Entry.behaviour e ≡ 70 → Gtpu.message_type (behind p) ≡ 255 → WrittenDi e (policy_at t (Entry.policy e)) (carried6 p) x
  pub e6 : Entry.behaviour e ≡ 71 → WrittenE6 e (e6_carried e p) x
  pub e4 : Entry.behaviour e ≡ 72 → WrittenE4 e (e4_carried e p) x
  pub taken_d : Entry.behaviour e ≡ 69 → Taken (behind p)
  pub taken_di : Entry.behaviour e ≡ 70 → Taken (behind p)
  pub echo_d : Entry.behaviour e ≡ 69 → Gtpu.message_type (behind p) ≡ 1 → WrittenEcho6 e p (behind p) x
  pub echo_di : Entry.behaviour e ≡ 70 → Gtpu.message_type (behind p) ≡ 1 → WrittenEcho6 e p (behind p) x

-- packet p became x at rule r
pub record SentAtRule (r p x : List ℕ) : Type 0 where
  pub taken : Taken (drop 20 p)
  pub d4 : Gtpu.message_type (drop 20 p) ≡ 255 → WrittenD4 r (carried4 p) x
  pub echo : Gtpu.message_type (drop 20 p) ≡ 1 → WrittenEcho4 r p (drop 20 p) x
