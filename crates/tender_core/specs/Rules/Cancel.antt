-- The rule of a cancellation: all lots of a notice that are still undecided or awarded end (Model Law, article 19).
use Rattle.std.specs.Prelude.{ℕ, ◌+◌, Bool, not, cond, ◌&&◌, List, [], ◌∷◌, ◌++◌, map, filter, is_some}
use Rattle.std.specs.List.{list_any}
use Rattle.office_values.specs.Ids.{same_id}
use Rattle.office_values.specs.declared.refusal.Thing.TheVariants as things
use Rattle.office_values.specs.declared.refusal.Refusal.{Refusal}
use Rattle.office_values.specs.declared.refusal.Refusal.TheVariants.{NoSuch, NothingToCancel, LimitReached}
use Rattle.office_base.specs.Sums.{sum_over}
use Rattle.office_base.specs.Rows.{holds_of}
use Rattle.office_base.specs.Transitions.{clock_put, has_all_releases, is_held_security, security_returned, puts_if}
use Rattle.office_base.specs.States.{is_open, is_receiving, is_active, is_sealed}
use Rattle.office_base.specs.declared.records.NoticeState.TheVariants as notice_states
use Rattle.office_base.specs.declared.records.LotState.TheVariants as lot_states
use Rattle.office_base.specs.declared.records.EnvelopeState.TheVariants as envelope_states
use Rattle.office_base.specs.declared.records.AwardState.TheVariants as award_states
use Rattle.office_base.specs.Tables.{Tables, find_line, find_lot, notice_at, lots_of_notice, awards_of_notice, envelopes_of_notice, securities_of_notice}
use Rattle.office_base.specs.Joined.{free_in}
use Rattle.tender_core.specs.Rules.Publish.{line_found}
use Rattle.office_base.specs.declared.records.LineRow.{LineRow}
use Rattle.office_base.specs.declared.records.NoticeRow.{NoticeRow}
use Rattle.office_base.specs.declared.records.LotRow.{LotRow}
use Rattle.office_base.specs.declared.records.EnvelopeRow.{EnvelopeRow}
use Rattle.office_base.specs.declared.records.SecurityRow.{SecurityRow}
use Rattle.office_base.specs.declared.records.AwardRow.{AwardRow}
use Rattle.office_base.specs.declared.puts.Put.TheVariants as puts
use Rattle.office_base.specs.declared.puts.Put.{Put}
use Rattle.tender_core.specs.declared.cancel.CancelRows.{CancelRows}

-- whether a lot is still undecided or awarded
abbrev pub is_open_lot : LotRow → Bool
is_open_lot l = is_open l.state

-- the lot, cancelled, with nothing reserved
abbrev pub cancelled_lot : LotRow → LotRow
cancelled_lot l = record l { state = lot_states.Cancelled; reserved = 0 }

abbrev pub cancelled_lot_put : LotRow → Put
cancelled_lot_put l = puts.Lot (cancelled_lot l)

-- the sum that these lots have reserved on a budget line
abbrev pub freed : List ℕ → List LotRow → ℕ
freed line lots = sum_over (λ (l : LotRow). cond (same_id l.line line) l.reserved 0) lots

-- the budget line of a lot, after the money that these lots had reserved on it is free again
abbrev pub freed_line : List LineRow → List LotRow → LotRow → LineRow
freed_line lines lots l = record (line_found lines l.line) { line = l.line; free = free_in (find_line lines l.line) + freed l.line lots }

abbrev pub freed_line_put : List LineRow → List LotRow → LotRow → Put
freed_line_put lines lots l = puts.Line (freed_line lines lots l)

-- whether the lot with these identifiers is one of those that end
abbrev pub ends : List LotRow → List ℕ → List ℕ → Bool
ends lots notice lot = holds_of is_open_lot (find_lot lots (notice, lot))

-- whether an award is active and its lot ends
abbrev pub is_ended_award : List LotRow → AwardRow → Bool
is_ended_award lots a = is_active a.state && ends lots a.notice a.lot

abbrev pub cancelled_award : AwardRow → AwardRow
cancelled_award a = record a { state = award_states.Cancelled }

abbrev pub award_put : AwardRow → Put
award_put a = puts.Award (cancelled_award a)

-- whether a tender is sealed and its lot ends
abbrev pub is_ended_envelope : List LotRow → EnvelopeRow → Bool
is_ended_envelope lots e = is_sealed e.state && ends lots e.notice e.lot

-- the tender, returned unopened
abbrev pub returned_envelope : EnvelopeRow → EnvelopeRow
returned_envelope e = record e { state = envelope_states.Returned }

abbrev pub envelope_put : EnvelopeRow → Put
envelope_put e = puts.Envelope (returned_envelope e)

abbrev pub drop_put : EnvelopeRow → Put
drop_put e = puts.DropSeal e.receipt

-- whether a security is held and its lot ends
abbrev pub is_ended_security : List LotRow → SecurityRow → Bool
is_ended_security lots s = is_held_security s && ends lots s.notice s.lot

-- the notice, with one more release: cancelled if it was receiving tenders, and otherwise in its present state
abbrev pub cancelled_notice : NoticeRow → NoticeRow
cancelled_notice n = record n { state = cond (is_receiving n.state) notice_states.Cancelled n.state; releases = n.releases + 1 }

-- the rows that a cancellation reads
abbrev pub cancel_rows : Tables → List ℕ → CancelRows
cancel_rows s notice = record {
  notice = notice_at notice s;
  lines = s.lines;
  lots = lots_of_notice notice s;
  awards = awards_of_notice notice s;
  envelopes = envelopes_of_notice notice s;
  securities = securities_of_notice notice s;
  clock = s.clock;
}

-- whether the row of a lot's budget line is missing
abbrev pub lacks_line : List LineRow → LotRow → Bool
lacks_line lines l = not (is_some (find_line lines l.line))

-- whether the notice exists, but the budget line of a lot that ends is missing
abbrev pub cancel_lacks : CancelRows → Bool
cancel_lacks rows = is_some rows.notice && list_any (lacks_line rows.lines) (filter is_open_lot rows.lots)

-- the conditions of its refusals, in order
abbrev pub cancel_tests : CancelRows → List (Bool × Refusal)
cancel_tests rows =
    (not (is_some rows.notice), NoSuch things.Notice)
    ∷ (not (list_any is_open_lot rows.lots), NothingToCancel)
    ∷ (has_all_releases rows.notice, LimitReached)
    ∷ []

-- its changes: for the lots that end, their lines, the lots, their awards, their tenders without the bytes, and their securities; then the notice and the clock
abbrev pub cancel_puts : CancelRows → ℕ → List Put
cancel_puts rows t =
    puts_if (λ (n : NoticeRow).
    map (freed_line_put rows.lines (filter is_open_lot rows.lots)) (filter is_open_lot rows.lots)
    ++ (map cancelled_lot_put (filter is_open_lot rows.lots)
    ++ (map award_put (filter (is_ended_award rows.lots) rows.awards)
    ++ (map envelope_put (filter (is_ended_envelope rows.lots) rows.envelopes)
    ++ (map drop_put (filter (is_ended_envelope rows.lots) rows.envelopes)
    ++ (map security_returned (filter (is_ended_security rows.lots) rows.securities)
    ++ (puts.Notice (cancelled_notice n) ∷ clock_put rows.clock t ∷ []))))))
    ) rows.notice
