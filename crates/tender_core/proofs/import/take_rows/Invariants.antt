use Rattle.tender_core.proofs.Names.{◌≡◌, ◌+◌, ◌*◌, ◌^◌, drop, ◌||◌, after_rows, any_while_walking, cuts_nothing, cuts_too_much, passes_limit, cuts_below_zero, AreNamed, AreAtMost}
use Rattle.tender_core.proofs.import.take_rows.Given as goal

abbrev pub invariant-loop-row : goal.invariant-loop-row
invariant-loop-row l =
    AreNamed l.lines l.rows
    × AreAtMost ((l.row-index + 1) * 10 ^ 15) l.lines
    × (after_rows l.lines (drop l.row-index l.rows) ≡ after_rows l.fn.lines l.rows)
    × ((l.all.unknown || any_while_walking cuts_nothing l.lines (drop l.row-index l.rows)) ≡ any_while_walking cuts_nothing l.fn.lines l.rows)
    × ((l.all.short || any_while_walking cuts_too_much l.lines (drop l.row-index l.rows)) ≡ any_while_walking cuts_too_much l.fn.lines l.rows)
    × ((l.all.past || any_while_walking passes_limit l.lines (drop l.row-index l.rows)) ≡ any_while_walking passes_limit l.fn.lines l.rows)
    × ((l.all.lacking || any_while_walking cuts_below_zero l.lines (drop l.row-index l.rows)) ≡ any_while_walking cuts_below_zero l.fn.lines l.rows)
