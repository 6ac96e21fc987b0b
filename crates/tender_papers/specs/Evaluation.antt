-- The evaluation of a notice, as a text: its opened tenders with the results of their examination, and its awards (UNCITRAL Model Law 2011, articles 11, 25 and
-- 43).
use Rattle.std.specs.Prelude.{ℕ, Bool, true, false, List, [], ◌∷◌, ◌++◌, Option, Some, None, codes, decimal}
use Rattle.std.specs.List.{flat_map}
use Rattle.office_base.specs.declared.reading.Reading.{Reading}
use Rattle.office_base.specs.declared.reading.Reading.TheVariants as reading
use Rattle.office_base.specs.declared.records.AwardRow.{AwardRow}
use Rattle.office_base.specs.declared.records.AwardState.{AwardState}
use Rattle.office_base.specs.declared.records.AwardState.TheVariants as awards
use Rattle.office_base.specs.declared.records.LotState.{LotState}
use Rattle.office_base.specs.declared.records.LotState.TheVariants as lots
use Rattle.tender_papers.specs.Lines.{line}
use Rattle.tender_papers.specs.declared.evaluation.Finding.{Finding}

-- the word for the state of a lot
abbrev pub lot_word : LotState → List ℕ
lot_word lots.Undecided = codes "undecided"
lot_word lots.Awarded = codes "awarded"
lot_word lots.Contracted = codes "contracted"
lot_word lots.Unsuccessful = codes "unsuccessful"
lot_word lots.Cancelled = codes "cancelled"

-- the word for the state of an award
abbrev pub award_word : AwardState → List ℕ
award_word awards.Active = codes "active"
award_word awards.Failed = codes "failed"
award_word awards.Cancelled = codes "cancelled"
award_word awards.Signed = codes "signed"

-- the word for the result of an examination; a dash if there was none
abbrev pub answer_word : Option Bool → List ℕ
answer_word None = codes "-"
answer_word (Some true) = codes "responsive"
answer_word (Some false) = codes "unresponsive"

-- a number; a dash if there is none
abbrev pub number_or_dash : Option ℕ → List ℕ
number_or_dash None = codes "-"
number_or_dash (Some n) = decimal n

-- whether a tender can't win any more, or is admissible; a dash if neither is true
abbrev pub standing_word : Bool → Bool → List ℕ
standing_word true admissible = codes "failed"
standing_word false true = codes "admissible"
standing_word false false = codes "-"

-- the fields for the reading and the examination of a tender
abbrev pub finding_fields : Finding → Reading → List (List ℕ)
finding_fields f reading.Unreadable = codes "unreadable" ∷ []
finding_fields f reading.Nonconforming = codes "nonconforming" ∷ []
finding_fields f (reading.Priced stated corrected corrections) =
    codes "priced" ∷ decimal corrected ∷ answer_word f.responsive ∷ number_or_dash f.quality ∷ number_or_dash f.points ∷ standing_word f.failed f.admissible ∷ []

-- the line of a tender: its receipt, its tenderer, its reading and its examination
abbrev pub finding_line : Finding → List ℕ
finding_line f = line (codes "tender" ∷ decimal f.receipt ∷ f.tenderer ∷ finding_fields f f.reading)

-- the line of an award: its number, the receipt of its tender, its price and its state
abbrev pub award_line : AwardRow → List ℕ
award_line a = line (codes "award" ∷ decimal a.award ∷ decimal a.receipt ∷ decimal a.price ∷ award_word a.state ∷ [])

-- the line of a lot: its identifier and its state
abbrev pub lot_state_line : List ℕ → LotState → List ℕ
lot_state_line lot state = line (codes "lot" ∷ lot ∷ lot_word state ∷ [])

-- the lines of a lot: its own, one for each tender, and one for each award
abbrev pub findings_text : List ℕ → LotState → List Finding → List AwardRow → List ℕ
findings_text lot state tenders awards = lot_state_line lot state ++ flat_map finding_line tenders ++ flat_map award_line awards

-- the first line of an evaluation
abbrev pub evaluation_head : List ℕ → List ℕ
evaluation_head notice = line (codes "EVALUATION" ∷ notice ∷ [])

-- the last line of an evaluation
abbrev pub evaluation_end : List ℕ
evaluation_end = line (codes "END" ∷ [])
