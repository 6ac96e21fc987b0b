use Rattle.office_tables.proofs.Names.{true, ◌∙◌, sym, ap, subst, option_map, slice_get, state, version_of, clock_read, HasVersion, FormerClock}
use Rattle.office_tables.proofs.EarlierEditions.{edition_version, clock_found}
use Rattle.office_tables.proofs.ByTable.Office.{select_clock}
use Rattle.office_tables.proofs.Asked.{only_one, same_found}
use Rattle.office_tables.proofs.earlier.former_clock.Goals as goal

pub returns-in-Ok-clause-got : goal.returns-in-Ok-clause-got
returns-in-Ok-clause-got g c clean edition t shows =
    let it = c.in-Ok.ensures.asked clean in
    let old = c.args.conn.now in
    let was : HasVersion (version_of edition) t.clock (state g.S.Store (record old { in_transaction = true })).now =
    subst (HasVersion (version_of edition) t.clock) (sym it.1.settled) (edition_version edition (state g.S.Store old).committed t (shows it.1.was_open)) in
    same_found c.clock_of.result _ t.clock c.clock_of.ensures
    (ap (option_map (λ (former : FormerClock). former.row)) it.2 ∙ clock_found (slice_get it.0 0)
    ∙ only_one clock_read it.0 t.clock (select_clock (version_of edition) t.clock (state g.S.Store (record old { in_transaction = true })) (state g.S.Store it.1.after) it.0 was it.1.shown))
