use mathlib.Core.Path.{sym, ◌∙◌}
use Rattle.table.proofs.Surely.{sound-table}
use Rattle.table.proofs.quick.records_sound.Goals as goal

pub returns : goal.returns
returns c = λ r.
    let h = c.requires in
    sound-table _ _ _ _ h.0 h.1 h.2 h.3 h.4 h.5 h.6 c.if-table-policies_start.false
    (c.entries_sound.ensures (c.if-not-entries_sound.false))
    (sym c.entries_apart.ensures ∙ c.if-not-entries_apart.false)
    (c.rules_sound.ensures (c.if-not-rules_sound.false))
    (sym c.rules_apart.ensures ∙ c.if-not-rules_apart.false)
    (c.policies_sound.ensures r)
