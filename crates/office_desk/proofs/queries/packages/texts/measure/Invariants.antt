use Rattle.office_desk.proofs.Names.{drop}
use Rattle.office_desk.proofs.Placed.{Measures}
use Rattle.office_desk.proofs.queries.packages.texts.measure.Given as goal

abbrev pub invariant-loop-row : goal.invariant-loop-row
invariant-loop-row l = Measures l.ocid l.extent.last (drop l.row-index l.rows) l.rows
