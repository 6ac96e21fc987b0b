use Rattle.office_tables.proofs.make.put_first_clock.Goals as goal

pub returns-clause-ran : goal.returns-clause-ran
returns-clause-ran g c clean inside = rw (c.clock_values.ensures.row, c.first_clock-clock.ensures) at (c.execute_one.ensures.ran clean inside)
