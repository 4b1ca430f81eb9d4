-- What the calls compute with: a proof that is checked by computation names this one definition, which opens them all.
use Rattle.rules.specs.Octets.{window, number, splice}
use Rattle.rules.specs.Prefix.{first_bits, under, clear}
use Rattle.rules.specs.Table.{entry_at, rule_at, policy_at, addresses_at}
use Rattle.rules.specs.Match.{longest, match_entry, match_rule}
use Rattle.rules.specs.Sound.{all, header_sound, entry_sound, rule_sound, policy_sound}
use Rattle.rules.specs.Sound.{same_entry_prefix, same_rule_prefix, distinct, sound_within}
use Rattle.rules.specs.Srh.{segment}
use Rattle.rules.specs.Checksum.{ones_sum}
use Rattle.rules.specs.Args.{args_at, with_args}
use Rattle.rules.specs.Answer.{verdict, overlay}
use Rattle.rules.specs.Header.{header}
use Rattle.rules.specs.Datagram.{datagram, message_rows, g_pdu_rows, inner_rows}
use Rattle.rules.specs.Session.{inner_protocol, accepts}
use Rattle.rules.specs.Carried.{carried_by, carried6, carried4}
use Rattle.rules.specs.Waypoint.{with_routing, forwarded, waypoint_rows, step_rows}
use Rattle.rules.specs.Echo.{echo_rows, echo_checksum, echo_reply6, echo_reply4}
use Rattle.rules.specs.Gtp6D.{gtp6d_packet, gtp6_rows, rows_gtp6d, rows_echo6}
use Rattle.rules.specs.D.{d_path, d_packet}
use Rattle.rules.specs.Di.{di_path, di_packet}
use Rattle.rules.specs.UdpChecksum.{udp_checksum6, udp_sum6}
use Rattle.rules.specs.E6.{e6_carried, e6_checksum, e6_packet, e6_rows, rows_e6}
use Rattle.rules.specs.E4.{e4_carried, e4_packet, e4_rows, rows_e4}
use Rattle.rules.specs.D4.{d4_sid, d4_source, d4_packet, gtp4_rows, rows_d4, rows_echo4}
use Rattle.rules.specs.Header4.{header4}
use Rattle.rules.specs.Calls.{decide_entry, decide_found_entry, decide_found_rule, front_rows6, front_rows4}
use Rattle.rules.specs.Calls.{rows6, rows4, translate6, translate4}
use Rattle.rules.specs.Trip.{trip}

unfoldable pub computing : Unit {0}
unfolding window number splice first_bits under clear entry_at rule_at policy_at addresses_at longest match_entry match_rule all
    header_sound
    entry_sound rule_sound policy_sound same_entry_prefix same_rule_prefix distinct sound_within segment ones_sum args_at with_args
    verdict overlay
    header datagram message_rows g_pdu_rows inner_rows inner_protocol accepts carried_by carried6 carried4 with_routing forwarded
    waypoint_rows
    step_rows echo_rows echo_checksum echo_reply6 echo_reply4 gtp6d_packet gtp6_rows rows_gtp6d rows_echo6 d_path d_packet di_path di_packet
    udp_checksum6 udp_sum6 e6_carried e6_checksum e6_packet e6_rows rows_e6 e4_carried e4_packet e4_rows rows_e4 header4 d4_sid d4_source
    d4_packet
    gtp4_rows rows_d4 rows_echo4 decide_entry decide_found_entry decide_found_rule front_rows6 front_rows4 rows6 rows4 translate6
    translate4 trip
computing = tt
