use Rattle.office_tables.proofs.Names.{refl, sym}
use Rattle.office_base.specs.declared.puts.Put.TheVariants as put
use Rattle.office_tables.proofs.tables.put_one.Goals as goal

pub returns-in-Line-clause-puts : goal.returns-in-Line-clause-puts
returns-in-Line-clause-puts g c clean inside = rw c.in-Line.is (c.put_row.ensures.puts clean inside (put.Line c.in-Line.row) (record { text = refl; values = sym c.line_values.ensures.row; back = tt }))

pub returns-in-Line-clause-failed : goal.returns-in-Line-clause-failed
returns-in-Line-clause-failed g c = rw c.in-Line.is (c.put_row.ensures.failed (put.Line c.in-Line.row) (record { text = refl; values = sym c.line_values.ensures.row; back = tt }))

pub returns-in-Batch-clause-puts : goal.returns-in-Batch-clause-puts
returns-in-Batch-clause-puts g c clean inside = rw c.in-Batch.is (c.put_row-in-Batch.ensures.puts clean inside (put.Batch c.in-Batch.row) (record { text = refl; values = sym c.batch_values.ensures.row; back = tt }))

pub returns-in-Batch-clause-failed : goal.returns-in-Batch-clause-failed
returns-in-Batch-clause-failed g c = rw c.in-Batch.is (c.put_row-in-Batch.ensures.failed (put.Batch c.in-Batch.row) (record { text = refl; values = sym c.batch_values.ensures.row; back = tt }))

pub returns-in-Tenderer-clause-puts : goal.returns-in-Tenderer-clause-puts
returns-in-Tenderer-clause-puts g c clean inside = rw c.in-Tenderer.is (c.put_row-in-Tenderer.ensures.puts clean inside (put.Tenderer c.in-Tenderer.row) (record { text = refl; values = sym c.tenderer_values.ensures.row; back = tt }))

pub returns-in-Tenderer-clause-failed : goal.returns-in-Tenderer-clause-failed
returns-in-Tenderer-clause-failed g c = rw c.in-Tenderer.is (c.put_row-in-Tenderer.ensures.failed (put.Tenderer c.in-Tenderer.row) (record { text = refl; values = sym c.tenderer_values.ensures.row; back = tt }))

pub returns-in-Notice-clause-failed : goal.returns-in-Notice-clause-failed
returns-in-Notice-clause-failed g c = rw c.in-Notice.is c.put_notice.ensures.failed

pub returns-in-Lot-clause-failed : goal.returns-in-Lot-clause-failed
returns-in-Lot-clause-failed g c = rw c.in-Lot.is c.put_lot.ensures.failed

pub returns-in-Envelope-clause-puts : goal.returns-in-Envelope-clause-puts
returns-in-Envelope-clause-puts g c clean inside = rw c.in-Envelope.is (c.put_row-in-Envelope.ensures.puts clean inside (put.Envelope c.in-Envelope.row) (record { text = refl; values = sym c.envelope_values.ensures.row; back = tt }))

pub returns-in-Envelope-clause-failed : goal.returns-in-Envelope-clause-failed
returns-in-Envelope-clause-failed g c = rw c.in-Envelope.is (c.put_row-in-Envelope.ensures.failed (put.Envelope c.in-Envelope.row) (record { text = refl; values = sym c.envelope_values.ensures.row; back = tt }))

pub returns-in-Seal-clause-puts : goal.returns-in-Seal-clause-puts
returns-in-Seal-clause-puts g c clean inside = rw c.in-Seal.is (c.put_row-in-Seal.ensures.puts clean inside (put.Seal c.in-Seal.row) (record { text = refl; values = sym c.seal_values.ensures.row; back = tt }))

pub returns-in-Seal-clause-failed : goal.returns-in-Seal-clause-failed
returns-in-Seal-clause-failed g c = rw c.in-Seal.is (c.put_row-in-Seal.ensures.failed (put.Seal c.in-Seal.row) (record { text = refl; values = sym c.seal_values.ensures.row; back = tt }))

pub returns-in-DropSeal-clause-puts : goal.returns-in-DropSeal-clause-puts
returns-in-DropSeal-clause-puts g c clean inside = rw c.in-DropSeal.is (c.put_row-in-DropSeal.ensures.puts clean inside (put.DropSeal c.in-DropSeal.receipt) (record { text = refl; values = rw c.given_value.ensures refl; back = tt }))

pub returns-in-DropSeal-clause-failed : goal.returns-in-DropSeal-clause-failed
returns-in-DropSeal-clause-failed g c = rw c.in-DropSeal.is (c.put_row-in-DropSeal.ensures.failed (put.DropSeal c.in-DropSeal.receipt) (record { text = refl; values = rw c.given_value.ensures refl; back = tt }))

pub returns-in-Security-clause-puts : goal.returns-in-Security-clause-puts
returns-in-Security-clause-puts g c clean inside = rw c.in-Security.is (c.put_row-in-Security.ensures.puts clean inside (put.Security c.in-Security.row) (record { text = refl; values = sym c.security_values.ensures.row; back = tt }))

pub returns-in-Security-clause-failed : goal.returns-in-Security-clause-failed
returns-in-Security-clause-failed g c = rw c.in-Security.is (c.put_row-in-Security.ensures.failed (put.Security c.in-Security.row) (record { text = refl; values = sym c.security_values.ensures.row; back = tt }))

pub returns-in-Award-clause-puts : goal.returns-in-Award-clause-puts
returns-in-Award-clause-puts g c clean inside = rw c.in-Award.is (c.put_row-in-Award.ensures.puts clean inside (put.Award c.in-Award.row) (record { text = refl; values = sym c.award_values.ensures.row; back = tt }))

pub returns-in-Award-clause-failed : goal.returns-in-Award-clause-failed
returns-in-Award-clause-failed g c = rw c.in-Award.is (c.put_row-in-Award.ensures.failed (put.Award c.in-Award.row) (record { text = refl; values = sym c.award_values.ensures.row; back = tt }))

pub returns-in-Contract-clause-puts : goal.returns-in-Contract-clause-puts
returns-in-Contract-clause-puts g c clean inside = rw c.in-Contract.is (c.put_row-in-Contract.ensures.puts clean inside (put.Contract c.in-Contract.row) (record { text = refl; values = sym c.contract_values.ensures.row; back = tt }))

pub returns-in-Contract-clause-failed : goal.returns-in-Contract-clause-failed
returns-in-Contract-clause-failed g c = rw c.in-Contract.is (c.put_row-in-Contract.ensures.failed (put.Contract c.in-Contract.row) (record { text = refl; values = sym c.contract_values.ensures.row; back = tt }))

pub returns-in-Entry-clause-puts : goal.returns-in-Entry-clause-puts
returns-in-Entry-clause-puts g c clean inside = rw c.in-Entry.is (c.put_row-in-Entry.ensures.puts clean inside (put.Entry c.in-Entry.row) (record { text = refl; values = sym c.entry_values.ensures.row; back = tt }))

pub returns-in-Entry-clause-failed : goal.returns-in-Entry-clause-failed
returns-in-Entry-clause-failed g c = rw c.in-Entry.is (c.put_row-in-Entry.ensures.failed (put.Entry c.in-Entry.row) (record { text = refl; values = sym c.entry_values.ensures.row; back = tt }))

pub returns-in-Release-clause-puts : goal.returns-in-Release-clause-puts
returns-in-Release-clause-puts g c clean inside = rw c.in-Release.is (c.put_row-in-Release.ensures.puts clean inside (put.Release c.in-Release.row) (record { text = refl; values = sym c.release_values.ensures.row; back = tt }))

pub returns-in-Release-clause-failed : goal.returns-in-Release-clause-failed
returns-in-Release-clause-failed g c = rw c.in-Release.is (c.put_row-in-Release.ensures.failed (put.Release c.in-Release.row) (record { text = refl; values = sym c.release_values.ensures.row; back = tt }))

pub returns-in-Compiled-clause-puts : goal.returns-in-Compiled-clause-puts
returns-in-Compiled-clause-puts g c clean inside = rw c.in-Compiled.is (c.put_row-in-Compiled.ensures.puts clean inside (put.Compiled c.in-Compiled.row) (record { text = refl; values = sym c.compiled_values.ensures.row; back = tt }))

pub returns-in-Compiled-clause-failed : goal.returns-in-Compiled-clause-failed
returns-in-Compiled-clause-failed g c = rw c.in-Compiled.is (c.put_row-in-Compiled.ensures.failed (put.Compiled c.in-Compiled.row) (record { text = refl; values = sym c.compiled_values.ensures.row; back = tt }))

pub returns-in-Late-clause-puts : goal.returns-in-Late-clause-puts
returns-in-Late-clause-puts g c clean inside = rw c.in-Late.is (c.put_row-in-Late.ensures.puts clean inside (put.Late c.in-Late.row) (record { text = refl; values = sym c.late_values.ensures.row; back = tt }))

pub returns-in-Late-clause-failed : goal.returns-in-Late-clause-failed
returns-in-Late-clause-failed g c = rw c.in-Late.is (c.put_row-in-Late.ensures.failed (put.Late c.in-Late.row) (record { text = refl; values = sym c.late_values.ensures.row; back = tt }))

pub returns-in-Performance-clause-puts : goal.returns-in-Performance-clause-puts
returns-in-Performance-clause-puts g c clean inside = rw c.in-Performance.is (c.put_row-in-Performance.ensures.puts clean inside (put.Performance c.in-Performance.row) (record { text = refl; values = sym c.performance_values.ensures.row; back = tt }))

pub returns-in-Performance-clause-failed : goal.returns-in-Performance-clause-failed
returns-in-Performance-clause-failed g c = rw c.in-Performance.is (c.put_row-in-Performance.ensures.failed (put.Performance c.in-Performance.row) (record { text = refl; values = sym c.performance_values.ensures.row; back = tt }))

pub returns-in-Clock-clause-puts : goal.returns-in-Clock-clause-puts
returns-in-Clock-clause-puts g c clean inside = rw c.in-Clock.is (c.put_row-in-Clock.ensures.puts clean inside (put.Clock c.in-Clock.row) (record { text = refl; values = sym c.clock_values.ensures.row; back = tt }))

pub returns-in-Clock-clause-failed : goal.returns-in-Clock-clause-failed
returns-in-Clock-clause-failed g c = rw c.in-Clock.is (c.put_row-in-Clock.ensures.failed (put.Clock c.in-Clock.row) (record { text = refl; values = sym c.clock_values.ensures.row; back = tt }))
