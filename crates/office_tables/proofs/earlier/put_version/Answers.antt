use Rattle.office_tables.proofs.earlier.put_version.Goals as goal

pub returns-clause-ran : goal.returns-clause-ran
returns-clause-ran g c clean inside = rw c.clock_values.ensures.row at (c.execute_one.ensures.ran clean inside)
