-- Examples of files and texts.
use Rattle.std.specs.Prelude.{ℕ, suc, Bool, true, false, List, [], ◌∷◌, codes, replicate, Option, Some, None}
use Rattle.std.proofs.Math.Nat.{zero-lt-suc}
use Rattle.office_commands.specs.declared.budget.BudgetKind.TheVariants.{Add}
use Rattle.office_commands.specs.declared.budget.BudgetRow.{BudgetRow}
use Rattle.office_commands.specs.declared.item.Item.{Item}
use Rattle.office_base.specs.declared.ledger.LedgerRow.{LedgerRow}
use Rattle.office_base.specs.declared.reading.Reading.{Reading}
use Rattle.office_base.specs.declared.reading.Reading.TheVariants.{Priced}
use Rattle.office_base.specs.declared.records.AwardRow.{AwardRow}
use Rattle.office_base.specs.declared.records.AwardState.{AwardState}
use Rattle.office_base.specs.declared.records.EnvelopeRow.{EnvelopeRow}
use Rattle.office_base.specs.declared.records.EnvelopeState.{EnvelopeState}
use Rattle.office_base.specs.declared.records.LotRow.{LotRow}
use Rattle.office_base.specs.declared.records.LotState.TheVariants.{Undecided}
use Rattle.office_base.specs.declared.records.NoticeRow.{NoticeRow}
use Rattle.office_base.specs.declared.records.NoticeState.TheVariants.{Opened}
use Rattle.tender_papers.specs.Files.{csv_records}
use Rattle.tender_papers.specs.Tender.{reading_of}
use Rattle.tender_papers.specs.declared.evaluation.Finding.{Finding}
use Rattle.tender_papers.specs.declared.minutes.OpenedTender.{OpenedTender}

-- a row that adds `more + 1` units to a line
abbrev pub worked_row : List ℕ → ℕ → List ℕ → BudgetRow
worked_row line more title = record { line = line; kind = Add; amount = suc more; title = title; some = zero-lt-suc more }

-- an item with this quantity
abbrev pub worked_item : List ℕ → ℕ → Item
worked_item item quantity = record { id = item; title = codes "Paving"; quantity = quantity }

-- the reading of a file for three of the item I1
abbrev pub worked_reading : List ℕ → Reading
worked_reading bytes = reading_of (worked_item (codes "I1") 3 ∷ []) (csv_records bytes)

-- the reading of a file for three of the item I1 and one of I2
abbrev pub worked_reading_of_two : List ℕ → Reading
worked_reading_of_two bytes = reading_of (worked_item (codes "I1") 3 ∷ worked_item (codes "I2") 1 ∷ []) (csv_records bytes)

-- a line with 1000, of which 400 are free, 300 reserved, 200 contracted and 100 paid
abbrev pub worked_ledger_row : LedgerRow
worked_ledger_row = record {
  line = codes "1000";
  pots = record { appropriation = 1000; free = 400; reserved = 300; contracted = 200; paid = 100 };
}

-- a tender of three bytes, received at 2026-02-02T10:00:00Z
abbrev pub worked_envelope : ℕ → EnvelopeState → EnvelopeRow
worked_envelope receipt state = record {
  receipt = receipt;
  notice = codes "N1";
  lot = codes "L1";
  tenderer = codes "T1";
  moment = 1770026400;
  length = 3;
  digest = replicate 32 7;
  security = None;
  state = state;
  reading = None;
  responsive = None;
  quality = None;
  failed = false;
}

-- a notice with the deadline 2026-03-01T12:00:00Z
abbrev pub worked_notice : NoticeRow
worked_notice = record {
  notice = codes "N1";
  title = codes "Road repair";
  published = 1767603600;
  deadline = 1772366400;
  validity = 30;
  standstill = 10;
  weight = 0;
  state = Opened;
  opened = Some 1772366401;
  amendments = 0;
  releases = 1;
  performance = 0;
}

-- a lot for three of the item I1
abbrev pub worked_lot : List ℕ → List ℕ → LotRow
worked_lot lot title = record {
  notice = codes "N1";
  lot = lot;
  title = title;
  line = codes "1000";
  estimate = 100;
  security = 0;
  items = worked_item (codes "I1") 3 ∷ [];
  state = Undecided;
  reserved = 100;
}

-- a tender of the firm Alpha for a lot
abbrev pub worked_tender : ℕ → List ℕ → Reading → OpenedTender
worked_tender receipt lot reading = record {
  lot = lot;
  receipt = receipt;
  tenderer = record { tenderer = codes "T1"; name = codes "Alpha"; address = codes "High Street 1"; key = replicate 32 7 };
  reading = reading;
}

-- a tender of T1 that was read but not examined
abbrev pub worked_finding : ℕ → Reading → Finding
worked_finding receipt reading = record {
  receipt = receipt;
  tenderer = codes "T1";
  reading = reading;
  responsive = None;
  quality = None;
  points = None;
  admissible = false;
  failed = false;
}

-- a tender of T1 that was found responsive, with these points for quality and these points in total
abbrev pub worked_answer : ℕ → ℕ → ℕ → Option ℕ → Bool → Bool → Finding
worked_answer receipt price quality points admissible failed = record {
  receipt = receipt;
  tenderer = codes "T1";
  reading = Priced price price 0;
  responsive = Some true;
  quality = Some quality;
  points = points;
  admissible = admissible;
  failed = failed;
}

-- an award of the lot L1
abbrev pub worked_award : ℕ → ℕ → ℕ → AwardState → AwardRow
worked_award award receipt price state =
    record { award = award; notice = codes "N1"; lot = codes "L1"; receipt = receipt; price = price; moment = 1772445600; state = state }
