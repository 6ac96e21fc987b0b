-- The rule of a publication: the lots of the new notice reserve their estimates (UNCITRAL Model Law 2011, articles 33 and 39, as far as they concern the
-- books).
use Rattle.std.specs.Prelude.{ℕ, ◌-◌, Bool, false, cond, not, ◌||◌, List, [], ◌∷◌, ◌++◌, None, is_some, unwrap_or, nat_lt, nat_le, map, length}
use Rattle.std.specs.List.{list_any}
use Rattle.office_values.specs.Ids.{same_id}
use Rattle.office_commands.specs.Notices.{weight_of}
use Rattle.office_commands.specs.declared.lot.NewLot.{NewLot}
use Rattle.office_commands.specs.declared.notice.NewNotice.{NewNotice}
use Rattle.office_commands.specs.declared.notice.LateWithdrawal.{LateWithdrawal}
use Rattle.office_commands.specs.declared.notice.LateWithdrawal.TheVariants.{Refused, Forfeits}
use Rattle.office_values.specs.declared.refusal.Thing.TheVariants as things
use Rattle.office_values.specs.declared.refusal.Refusal.{Refusal}
use Rattle.office_values.specs.declared.refusal.Refusal.TheVariants.{NoSuch, Exists, DeadlinePassed, InsufficientFunds, LimitReached}
use Rattle.office_base.specs.Sums.{sum_over}
use Rattle.office_base.specs.Tables.{Tables, find_line, notice_at}
use Rattle.office_base.specs.Joined.{free_in}
use Rattle.office_base.specs.declared.records.LineRow.{LineRow}
use Rattle.office_base.specs.declared.records.ClockRow.{ClockRow}
use Rattle.office_base.specs.declared.records.NoticeRow.{NoticeRow}
use Rattle.office_base.specs.declared.records.NoticeState.TheVariants.{Receiving}
use Rattle.office_base.specs.declared.records.LotRow.{LotRow}
use Rattle.office_base.specs.declared.records.LotState.TheVariants.{Undecided}
use Rattle.office_base.specs.declared.puts.Put.TheVariants as puts
use Rattle.office_base.specs.declared.puts.Put.{Put}
use Rattle.tender_core.specs.declared.publish.PublishRows.{PublishRows}

-- the greatest number of lots of a notice
abbrev pub lot_limit : ℕ
lot_limit = 20

-- the greatest number of items of a lot
abbrev pub item_limit : ℕ
item_limit = 50

-- the sum of the estimates of those lots that are on a budget line
abbrev pub wanted : List ℕ → List NewLot → ℕ
wanted line lots = sum_over (λ (lot : NewLot). cond (same_id lot.line line) lot.estimate 0) lots

-- whether the budget line of a lot doesn't exist
abbrev pub is_on_no_line : List LineRow → NewLot → Bool
is_on_no_line lines lot = not (is_some (find_line lines lot.line))

-- whether the lots together need more money of this lot's budget line than is free on it
abbrev pub is_short : List LineRow → List NewLot → NewLot → Bool
is_short lines lots lot = nat_lt (free_in (find_line lines lot.line)) (wanted lot.line lots)

abbrev pub has_too_many_items : NewLot → Bool
has_too_many_items lot = nat_lt item_limit (length lot.items)

-- an empty row for a budget line that doesn't exist
abbrev pub no_line : List ℕ → LineRow
no_line line = record { line = line; title = []; appropriation = 0; free = 0 }

-- the row of a budget line, or an empty one if the line doesn't exist
abbrev pub line_found : List LineRow → List ℕ → LineRow
line_found lines line = unwrap_or (find_line lines line) (no_line line)

-- the budget line of a lot, after all lots on it have reserved their estimates
abbrev pub reserving_line : List LineRow → List NewLot → NewLot → LineRow
reserving_line lines lots lot = record (line_found lines lot.line) { line = lot.line; free = free_in (find_line lines lot.line) - wanted lot.line lots }

abbrev pub reserving_line_put : List LineRow → List NewLot → NewLot → Put
reserving_line_put lines lots lot = puts.Line (reserving_line lines lots lot)

-- the row of a new lot: undecided, with its estimate reserved
abbrev pub lot_row : List ℕ → NewLot → LotRow
lot_row notice lot = record {
  notice = notice;
  lot = lot.id;
  title = lot.title;
  line = lot.line;
  estimate = lot.estimate;
  security = lot.security;
  items = lot.items;
  state = Undecided;
  reserved = lot.estimate;
}

abbrev pub new_lot_put : List ℕ → NewLot → Put
new_lot_put notice lot = puts.Lot (lot_row notice lot)

-- the row of a new notice: open for tenders, with its first release
abbrev pub notice_row : ℕ → List ℕ → NewNotice → NoticeRow
notice_row t notice new = record {
  notice = notice;
  title = new.title;
  published = t;
  deadline = new.deadline;
  validity = new.validity;
  standstill = new.standstill;
  weight = weight_of new.criteria;
  performance = new.performance;
  state = Receiving;
  opened = None;
  amendments = 0;
  releases = 1;
}

abbrev pub notice_put : ℕ → List ℕ → NewNotice → Put
notice_put t notice new = puts.Notice (notice_row t notice new)

-- the change that allows late withdrawals, if the notice says `forfeits`
abbrev pub late_puts : List ℕ → LateWithdrawal → List Put
late_puts notice Refused = []
late_puts notice Forfeits = puts.Late (record { notice = notice }) ∷ []

-- the changes without that for late withdrawals: the budget lines, the lots, the notice and the clock
abbrev pub publish_parts : ClockRow → ℕ → List ℕ → List LineRow → NewNotice → List Put
publish_parts clock t notice lines new =
    map (reserving_line_put lines new.lots) new.lots ++ map (new_lot_put notice) new.lots ++ (notice_put t notice new ∷ puts.Clock (record clock { moment = t }) ∷ [])

-- the rows that a publication reads
abbrev pub publish_rows : Tables → List ℕ → PublishRows
publish_rows s notice = record { notice = notice_at notice s; lines = s.lines; clock = s.clock }

-- no row can be missing, because a budget line that doesn't exist is a refusal
abbrev pub publish_lacks : PublishRows → Bool
publish_lacks rows = false

-- the conditions of its refusals, in order; the limit of releases isn't one, because a new notice has none yet
abbrev pub publish_tests : PublishRows → ℕ → NewNotice → List (Bool × Refusal)
publish_tests rows t new =
    (list_any (is_on_no_line rows.lines) new.lots, NoSuch things.Line)
    ∷ (is_some rows.notice, Exists)
    ∷ (nat_le new.deadline t, DeadlinePassed)
    ∷ (list_any (is_short rows.lines new.lots) new.lots, InsufficientFunds)
    ∷ (nat_lt lot_limit (length new.lots) || list_any has_too_many_items new.lots, LimitReached)
    ∷ []

-- its changes: the budget lines, the lots, the notice and the clock, and the row that allows late withdrawals
abbrev pub publish_puts : PublishRows → ℕ → List ℕ → NewNotice → List Put
publish_puts rows t notice new = publish_parts rows.clock t notice rows.lines new ++ late_puts notice new.late_withdrawal
