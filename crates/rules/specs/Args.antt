-- Args.Mob.Session (RFC 9433, 6.1), 40 bits: QFI 6, R 1, U 1, PDU Session ID 32, which here is the TEID.
-- Everything above uses it through `args_at` and `with_args`, so that a start at any bit changes these two alone.
use Rattle.std.specs.Prelude.{List, ◌∷◌, ◌++◌, ℕ, ◌+◌, ◌*◌, ◌/◌, ◌%◌, take, drop}
use Rattle.rules.specs.Octets.{octet, window}

-- the parts that are carried; the TEID is four octets
pub record Args : Type 0 where
  pub qfi : ℕ
  pub reflective : ℕ
  pub teid : List ℕ

-- its width in bits and in octets
abbrev pub width : ℕ
width = 40

abbrev pub width_octets : ℕ
width_octets = width / 8

-- its first octet: QFI in the high six bits, then R, then U, which is sent 0
abbrev pub first_octet : (qfi reflective : ℕ) → ℕ
first_octet qfi reflective = qfi * 4 + reflective * 2

-- its five octets
abbrev pub args_octets : Args → List ℕ
args_octets args = first_octet args.qfi args.reflective ∷ args.teid

-- Args in a SID, read from bit `start` on, a multiple of 8; U is ignored
unfoldable pub args_at : (sid : List ℕ) (start : ℕ) → Args
args_at sid start = record {
  qfi = octet sid (start / 8) / 4 % 64;
  reflective = octet sid (start / 8) / 2 % 2;
  teid = window sid (start / 8 + 1) 4;
}

-- a SID with Args from bit `start` on, a multiple of 8; its other bits stay
unfoldable pub with_args : (sid : List ℕ) (start : ℕ) (args : Args) → List ℕ
with_args sid start args = take (start / 8) sid ++ (args_octets args ++ drop (start / 8 + width_octets) sid)
