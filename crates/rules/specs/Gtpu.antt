-- UDP (RFC 768), GTP-U (TS 29.281) and the PDU Session container (TS 38.415): their fields, and the headers as we write them.
use Rattle.std.specs.Prelude.{cond, List, [], ◌∷◌, ◌++◌, ℕ, ◌+◌, ◌*◌, ◌/◌, ◌%◌, eqb, length, drop}
use Rattle.rules.specs.Octets.{octet, window, read16, put16}
use Rattle.rules.specs.Assigned.{gtpu_port, g_pdu, pdu_session_container, downlink, echo_response, recovery}
use Rattle.rules.specs.Args.{Args}

-- FIELDS OF A UDP DATAGRAM u

abbrev pub source_port : List ℕ → ℕ
source_port u = read16 u 0

abbrev pub destination_port : List ℕ → ℕ
destination_port u = read16 u 2

abbrev pub udp_length : List ℕ → ℕ
udp_length u = read16 u 4

abbrev pub udp_checksum : List ℕ → ℕ
udp_checksum u = read16 u 6

-- FIELDS OF THE GTP-U MESSAGE IN IT

abbrev pub version : List ℕ → ℕ
version u = octet u 8 / 32

abbrev pub protocol_type : List ℕ → ℕ
protocol_type u = octet u 8 / 16 % 2

abbrev pub spare_bit : List ℕ → ℕ
spare_bit u = octet u 8 / 8 % 2

-- E, S and PN: what follows the first eight octets
abbrev pub extension_flag : List ℕ → ℕ
extension_flag u = octet u 8 / 4 % 2

abbrev pub sequence_flag : List ℕ → ℕ
sequence_flag u = octet u 8 / 2 % 2

abbrev pub n_pdu_flag : List ℕ → ℕ
n_pdu_flag u = octet u 8 % 2

abbrev pub message_type : List ℕ → ℕ
message_type u = octet u 9

-- length after the first eight octets
abbrev pub message_length : List ℕ → ℕ
message_length u = read16 u 10

abbrev pub teid : List ℕ → List ℕ
teid u = window u 12 4

abbrev pub sequence_number : List ℕ → ℕ
sequence_number u = read16 u 16

abbrev pub n_pdu_number : List ℕ → ℕ
n_pdu_number u = octet u 18

-- type of the first extension
abbrev pub extension_type : List ℕ → ℕ
extension_type u = octet u 19

-- FIELDS OF THE FIRST EXTENSION, A PDU SESSION CONTAINER

abbrev pub extension_at : ℕ
extension_at = 20

-- its length in 4-octet units
abbrev pub extension_units : List ℕ → ℕ
extension_units u = octet u 20

-- first content octet: 0 is downlink, 1 is uplink; the rest of it
abbrev pub pdu_type : List ℕ → ℕ
pdu_type u = octet u 21 / 16

abbrev pub pdu_type_rest : List ℕ → ℕ
pdu_type_rest u = octet u 21 % 16

-- second content octet: the reflective bit is one in downlink only
abbrev pub qfi : List ℕ → ℕ
qfi u = octet u 22 % 64

abbrev pub reflective_bit : List ℕ → ℕ
reflective_bit u = octet u 22 / 64 % 2

abbrev pub top_bit : List ℕ → ℕ
top_bit u = octet u 22 / 128

abbrev pub reflective : List ℕ → ℕ
reflective u = cond (eqb (pdu_type u) downlink) (reflective_bit u) 0

-- type of what follows it, in its last octet
abbrev pub following_type : List ℕ → ℕ
following_type u = octet u (19 + 4 * extension_units u)

-- the octets that follow it
abbrev pub inner_of : List ℕ → List ℕ
inner_of u = drop (extension_at + 4 * extension_units u) u

-- WHAT IS WRITTEN

-- the checksum is an argument: over IPv4 it is 0 (house)
abbrev pub udp : (source_port destination_port size checksum : ℕ) (rest : List ℕ) → List ℕ
udp source_port destination_port size checksum rest = put16 source_port (put16 destination_port (put16 size (put16 checksum rest)))

-- version 1, PT 1, E only
abbrev pub gtpu_flags : ℕ
gtpu_flags = 0x20 + 0x10 + 0x04

-- second content octet of a container that we write; R in downlink only
abbrev pub flow_octet : (direction qfi reflective : ℕ) → ℕ
flow_octet direction qfi reflective = cond (eqb direction downlink) (reflective * 64) 0 + qfi

-- a G-PDU: E only, sequence and N-PDU number 0, one container of one unit in a direction (house); its inner packet of some size follows
abbrev pub gtpu : (direction : ℕ) (args : Args) (size : ℕ) (rest : List ℕ) → List ℕ
gtpu direction args size rest =
    gtpu_flags ∷ g_pdu ∷ put16 (8 + size)
    (args.teid
    ++ (0 ∷ 0 ∷ 0 ∷ pdu_session_container ∷ 1 ∷ (direction * 16) ∷ flow_octet direction args.qfi args.reflective ∷ 0 ∷ rest))

-- with its UDP header: 24 octets before the inner packet
abbrev pub datagram_before : (source_port direction checksum : ℕ) (args : Args) (size : ℕ) (rest : List ℕ) → List ℕ
datagram_before source_port direction checksum args size rest =
    udp source_port gtpu_port (24 + size) checksum (gtpu direction args size rest)

abbrev pub datagram_octets : (source_port direction checksum : ℕ) (args : Args) (inner : List ℕ) → List ℕ
datagram_octets source_port direction checksum args inner = datagram_before source_port direction checksum args (length inner) inner

-- version 1, PT 1, S only
abbrev pub echo_flags : ℕ
echo_flags = 0x20 + 0x10 + 0x02

-- an Echo Response (TS 29.281, 7.2.2): TEID 0, a sequence number, N-PDU number and next type 0, one Recovery element with counter 0
abbrev pub echo_message : (sequence_number : ℕ) → List ℕ
echo_message sequence_number =
    echo_flags ∷ echo_response ∷ put16 6 (0 ∷ 0 ∷ 0 ∷ 0 ∷ put16 sequence_number (0 ∷ 0 ∷ recovery ∷ 0 ∷ []))

-- with its UDP header: 22 octets
abbrev pub echo_datagram : (destination_port checksum sequence_number : ℕ) → List ℕ
echo_datagram destination_port checksum sequence_number = udp gtpu_port destination_port 22 checksum (echo_message sequence_number)
