use Rattle.procure_programs.proofs.reading.reading_text.Goals as goal

pub returns-in-Priced : goal.returns-in-Priced
returns-in-Priced c =
    rw c.in-Priced.is (rw (c.digest-digest.ensures, c.units-corrected.ensures.value, c.get-corrections.ensures.value) at c.object_text.ensures)

pub returns-in-Nonconforming : goal.returns-in-Nonconforming
returns-in-Nonconforming c = rw c.in-Nonconforming.is (rw c.digest-digest.ensures at c.object_text-in-Nonconforming.ensures)

pub returns-in-Unreadable : goal.returns-in-Unreadable
returns-in-Unreadable c = rw c.in-Unreadable.is (rw c.digest-digest.ensures at c.object_text-in-Unreadable.ensures)
