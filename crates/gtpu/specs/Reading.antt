-- What is read of a datagram u: its view, put together from the parts that are read one by one, and what its G-PDU carries.
use Rattle.std.specs.Prelude.{List, ℕ, ◌/◌}
use Rattle.rules.specs.Octets.{octet}
use Rattle.rules.specs.Args.{Args}
use Rattle.rules.specs.Gtpu as Gtpu
use Rattle.rules.specs.declared.Datagram.{Datagram}
use Rattle.extension.specs.declared.Fields.{Fields}

-- of n octets, with the fields of the first extension header, the first octet of its contents, and the type behind it
abbrev pub view_of : (u : List ℕ) (n : ℕ) (fields : Fields) (content following : ℕ) → Datagram
view_of u n fields content following = record {
  size = n;
  destinationPort = Gtpu.destination_port u;
  length = Gtpu.udp_length u;
  flags = octet u 8;
  messageType = Gtpu.message_type u;
  messageLength = Gtpu.message_length u;
  teid = Gtpu.teid u;
  extensionType = fields.kind;
  extensionUnits = fields.units;
  pduType = content / 16;
  followingType = following;
}

-- QFI and R from the container, TEID from the GTP-U header
abbrev pub args_of : List ℕ → Args
args_of u = record { qfi = Gtpu.qfi u; reflective = Gtpu.reflective u; teid = Gtpu.teid u }
