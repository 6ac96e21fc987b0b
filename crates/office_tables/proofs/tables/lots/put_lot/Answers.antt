use Rattle.office_tables.proofs.Names.{refl, sym, ap, ◌∙◌, items_in_text}
use Rattle.office_base.specs.declared.puts.Put.TheVariants as put
use Rattle.office_tables.proofs.tables.lots.put_lot.Goals as goal

pub returns-clause-puts : goal.returns-clause-puts
returns-clause-puts g c clean inside = c.put_row.ensures.puts clean inside (put.Lot c.args.row.now) (record { text = refl; values = sym c.lot_values.ensures.row; back = ap items_in_text (sym c.in_ok-items.ensures.text) ∙ c.in_ok-items.ensures.back })

pub returns-clause-failed : goal.returns-clause-failed
returns-clause-failed g c = c.put_row.ensures.failed (put.Lot c.args.row.now) (record { text = refl; values = sym c.lot_values.ensures.row; back = ap items_in_text (sym c.in_ok-items.ensures.text) ∙ c.in_ok-items.ensures.back })
