-- Reading the tenders first and then making the changes of an opening gives the changes of its rule.
use Rattle.tender_core.proofs.Names.{◌≡◌, refl, ap, ◌∷◌, [], ◌++◌, List, ℕ, map, Option, Some, None, Item, Reading, clock_put, SealedTender, opened_put, opened_notice, open_puts, opened_with, with_reading, read_put, ReadingsArePut, OpenRows, NoticeRow}
use Rattle.office_base.specs.declared.puts.Put.TheVariants as puts

tenders_put : (read : List ℕ → List Item → Reading) (tenders : List SealedTender)
    → map (opened_put read) tenders ≡ map read_put (map (with_reading read) tenders)
tenders_put read [] = refl
tenders_put read (tender ∷ tenders) = ap (λ ps. opened_put read tender ∷ ps) (tenders_put read tenders)

by_notice : (read : List ℕ → List Item → Reading) (rows : OpenRows) (t : ℕ) (tenders : List SealedTender) (notice : Option NoticeRow)
    → open_puts read (record rows { notice = notice }) t tenders ≡ opened_with rows.clock t notice (map (with_reading read) tenders)
by_notice read rows t tenders None = refl
by_notice read rows t tenders (Some n) = ap (λ ps. ps ++ (puts.Notice (opened_notice t n) ∷ clock_put rows.clock t ∷ [])) (tenders_put read tenders)

pub readings_put : ReadingsArePut
readings_put read rows t tenders = by_notice read rows t tenders rows.notice
