use Rattle.office_tables.proofs.Names.{refl, later_tables}
use Rattle.office_tables.proofs.LaterTables.{is_later}
use Rattle.office_tables.proofs.editions.make_later.Goals as goal

pub returns-clause-made : goal.returns-clause-made
returns-clause-made g c clean inside = c.make_among.ensures.made clean inside later_tables refl (λ k lacks. is_later c.args.edition k lacks)

pub returns-clause-refused : goal.returns-clause-refused
returns-clause-refused g c clean inside = c.make_among.ensures.refused clean inside later_tables refl (λ k lacks. is_later c.args.edition k lacks)

pub returns-clause-ran : goal.returns-clause-ran
returns-clause-ran g c clean inside = c.make_among.ensures.ran clean inside later_tables refl (λ k lacks. is_later c.args.edition k lacks)

pub returns-clause-fails : goal.returns-clause-fails
returns-clause-fails g c clean inside = c.make_among.ensures.fails clean inside later_tables refl (λ k lacks. is_later c.args.edition k lacks)
