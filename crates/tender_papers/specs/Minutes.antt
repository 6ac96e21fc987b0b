-- The minutes of an opening (UNCITRAL Model Law 2011, article 42), as a text.
use Rattle.std.specs.Prelude.{ℕ, Bool, List, [], ◌∷◌, ◌++◌, codes, decimal, filter}
use Rattle.std.specs.List.{flat_map}
use Rattle.office_values.specs.Ids.{same_id}
use Rattle.office_values.specs.Moments.{moment_text}
use Rattle.office_base.specs.declared.reading.Reading.{Reading}
use Rattle.office_base.specs.declared.reading.Reading.TheVariants as reading
use Rattle.office_base.specs.declared.records.LotRow.{LotRow}
use Rattle.office_base.specs.declared.records.NoticeRow.{NoticeRow}
use Rattle.tender_papers.specs.Lines.{line}
use Rattle.tender_papers.specs.declared.minutes.OpenedTender.{OpenedTender}

-- the fields for the reading of a tender
abbrev pub reading_fields : Reading → List (List ℕ)
reading_fields reading.Unreadable = codes "unreadable" ∷ []
reading_fields reading.Nonconforming = codes "nonconforming" ∷ []
reading_fields (reading.Priced stated corrected corrections) = codes "priced" ∷ decimal stated ∷ decimal corrected ∷ decimal corrections ∷ []

-- the line of an opened tender: its receipt, the tenderer's identifier, name and address, and the reading
abbrev pub tender_line : OpenedTender → List ℕ
tender_line tender =
    line (codes "tender" ∷ decimal tender.receipt ∷ tender.tenderer.tenderer ∷ tender.tenderer.name ∷ tender.tenderer.address
    ∷ reading_fields tender.reading)

-- whether a tender is for this lot
abbrev pub is_of : List ℕ → OpenedTender → Bool
is_of lot tender = same_id tender.lot lot

-- the lines of a lot: its own, and one for each of its tenders
abbrev pub lot_lines : List OpenedTender → LotRow → List ℕ
lot_lines tenders lot = line (codes "lot" ∷ lot.lot ∷ lot.title ∷ []) ++ flat_map tender_line (filter (is_of lot.lot) tenders)

-- the first three lines: the notice with its title, the deadline, and the moment of the opening
abbrev pub minutes_head : NoticeRow → ℕ → List ℕ
minutes_head notice opened =
    line (codes "MINUTES" ∷ notice.notice ∷ notice.title ∷ [])
    ++ line (codes "deadline" ∷ moment_text notice.deadline ∷ [])
    ++ line (codes "opened" ∷ moment_text opened ∷ [])

-- the text: the first three lines, the lines of each lot, and a last line `END`
abbrev pub minutes_text : NoticeRow → ℕ → List LotRow → List OpenedTender → List ℕ
minutes_text notice opened lots tenders = minutes_head notice opened ++ flat_map (lot_lines tenders) lots ++ line (codes "END" ∷ [])
