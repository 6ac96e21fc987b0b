use Rattle.office_tables.proofs.Names.{[], refl, onto, all_tables}
use Rattle.office_tables.proofs.tables.make_office.Goals as goal

pub returns-clause-made : goal.returns-clause-made
returns-clause-made g c clean inside = c.make_tables.ensures.made clean inside (onto [] all_tables) refl

pub returns-clause-refused : goal.returns-clause-refused
returns-clause-refused g c clean inside = c.make_tables.ensures.refused clean inside (onto [] all_tables) refl
