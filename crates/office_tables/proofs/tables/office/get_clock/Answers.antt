use Rattle.office_tables.proofs.Names.{◌∙◌, clock_read}
use Rattle.office_tables.proofs.ByTable.Office.{get_clock as text, select_get_clock}
use Rattle.office_tables.proofs.Asked.{asked, only_one, same_found}
use Rattle.office_tables.proofs.tables.office.get_clock.Goals as goal

pub returns-in-Ok : goal.returns-in-Ok
returns-in-Ok g c = (
  λ clean t shows.
      let it = c.in-Ok.ensures.asked clean in
      same_found c.clock_of.result _ t.clock c.clock_of.ensures
      (asked g.S.Store text _ c.args.conn.now it.0 t _ it.1 shows (λ before after holds shown. it.2 ∙ only_one clock_read it.0 t.clock (select_get_clock before after it.0 t holds shown))),
  c.in-Ok.ensures.kept,
  c.in-Ok.ensures.survives,
)

pub returns-in-Err : goal.returns-in-Err
returns-in-Err g c = (λ clean t shows. tt, c.in-Err.ensures.kept, c.in-Err.ensures.survives)
