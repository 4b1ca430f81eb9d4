-- Rows behind row 10 that are asked of a message's view.
use Rattle.std.specs.Prelude.{cond, List, [], ◌++◌, ℕ}
use Rattle.rules.specs.Answer.{Row}
use Rattle.rules.specs.Datagram.{g_pdu_rows, inner_rows}
use Rattle.rules.specs.Echo.{is_echo}
use Rattle.rules.specs.declared.Datagram.{Datagram}
use Rattle.path.specs.declared.gpdu.Message.{Message}

-- by its type: none of an Echo Request, whose row 17 the crate echo asks; 11 to 15 of any other message
unfoldable pub type_rows : (direction session : ℕ) → Datagram → (size first length_field : ℕ) → List Row
type_rows direction session g size first length_field =
    cond (is_echo g) [] (g_pdu_rows direction g ++ inner_rows session size first length_field)

abbrev pub rows_of : Message → List Row
rows_of m = type_rows m.direction m.session m.view m.size m.first m.field
