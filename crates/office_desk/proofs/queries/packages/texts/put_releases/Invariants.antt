use Rattle.office_desk.proofs.Names.{◌≡◌, drop, completed}
use Rattle.office_desk.proofs.queries.packages.texts.put_releases.Given as goal

abbrev pub invariant-loop-row : goal.invariant-loop-row
invariant-loop-row l = completed l.text (drop l.row-index l.rows) ≡ completed l.fn.text l.rows
