use Rattle.tests_broken_shelf.proofs.shelf.BrokenShelfLookups.ledger.Goals as goal

-- The office's own answer, for the office before this call was passed on to it.
pub returns-in-Ok : goal.returns-in-Ok
returns-in-Ok c = let told = rw c.breaks.ensures.kept at c.in-Ok.ensures in
    ((record { before = λ h. h; same = told.0.0.same; stop = told.0.0.stop; sound = told.0.0.sound }, told.0.1), c.breaks.ensures.counted)
