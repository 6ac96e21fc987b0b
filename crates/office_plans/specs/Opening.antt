-- The sealed tenders of a notice, each with the reading of its bytes.
use Rattle.std.specs.Prelude.{ℕ, cond, List, is_some, map}
use Rattle.office_base.specs.Tables.{Tables, lot_cmp, lot_key, find_lot, lot_at}
use Rattle.office_base.specs.declared.records.EnvelopeRow.{EnvelopeRow}
use Rattle.office_base.specs.declared.records.LotRow.{LotRow}
use Rattle.tender_core.specs.Rules.Open.{with_reading}
use Rattle.tender_core.specs.declared.opening.OpenedTender.{OpenedTender}
use Rattle.office_machine.specs.Rule.{sealed_of_notice, sealed_tender}
use Rattle.office_machine.specs.OfficeMeans.{office_readings}
use Rattle.office_plans.specs.LookedUp.{IsAsIn, with_row}

-- The lots after the lot of this key is looked up, unless it is already among them.
abbrev pub with_lot : Tables → List LotRow → List ℕ × List ℕ → List LotRow
with_lot s lots key = cond (is_some (find_lot lots key)) lots (with_row lot_cmp lot_key lots (lot_at key s))

-- The lots that were looked up have the same at the key of this tender's lot as the office: the same row, or none.
abbrev pub HasLotOf : Tables → List LotRow → EnvelopeRow → Type 0
HasLotOf s lots e = IsAsIn lot_cmp lot_key s.lots lots (e.notice, e.lot)

-- The tender with the reading of its sealed bytes.
abbrev pub tender_read : Tables → EnvelopeRow → OpenedTender
tender_read s e = with_reading office_readings.read (sealed_tender s e)

-- All sealed tenders of a notice, each read.
abbrev pub tenders_read : List ℕ → Tables → List OpenedTender
tenders_read notice s = map (tender_read s) (sealed_of_notice notice s)
