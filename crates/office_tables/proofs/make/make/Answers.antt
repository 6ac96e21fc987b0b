use Rattle.office_tables.proofs.Names.{[], ◌∷◌, refl, arith, state, HasCleanDisk, AreIndexings, Lots, Envelopes, Securities, Awards, Contracts, create_lots_of_line, create_envelopes_of_notice, create_securities_of_notice, create_awards_of_notice, create_contracts_of_notice}
use Rattle.office_tables.specs.Tables.Lots.{lots_of_line}
use Rattle.office_tables.specs.Tables.Envelopes.{envelopes_of_notice}
use Rattle.office_tables.specs.Tables.Securities.{securities_of_notice}
use Rattle.office_tables.specs.Tables.Awards.{awards_of_notice}
use Rattle.office_tables.specs.Tables.Contracts.{contracts_of_notice}
use Rattle.office_tables.proofs.ByTable.Lots.{indexes_lots_of_line}
use Rattle.office_tables.proofs.ByTable.Envelopes.{indexes_envelopes_of_notice}
use Rattle.office_tables.proofs.ByTable.Securities.{indexes_securities_of_notice}
use Rattle.office_tables.proofs.ByTable.Awards.{indexes_awards_of_notice}
use Rattle.office_tables.proofs.ByTable.Contracts.{indexes_contracts_of_notice}
use Rattle.office_tables.proofs.MakingSteps.{founded, goes_then, goes_refused}
use Rattle.office_tables.proofs.Stepping.{on_ok_with, on_err, on_err_with}
use Rattle.office_tables.proofs.make.make.Goals as goal

-- each text creates its index
all_indexings : AreIndexings (create_lots_of_line ∷ create_envelopes_of_notice ∷ create_securities_of_notice ∷ create_awards_of_notice ∷ create_contracts_of_notice ∷ [])
all_indexings = ((Lots, lots_of_line, indexes_lots_of_line, refl), ((Envelopes, envelopes_of_notice, indexes_envelopes_of_notice, refl), ((Securities, securities_of_notice, indexes_securities_of_notice, refl), ((Awards, awards_of_notice, indexes_awards_of_notice, refl), ((Contracts, contracts_of_notice, indexes_contracts_of_notice, refl), tt)))))

pub returns-clause-founds : goal.returns-clause-founds
returns-clause-founds g c clean inside =
    let old = state g.S.Store c.args.tx.now.conn.now in
    let mid = state g.S.Store c.make_office.new.tx.conn.now in
    let late = state g.S.Store c.make_indexes.new.tx.conn.now in
    let new = state g.S.Store c.put_first_clock.new.tx.conn.now in
    let clean_2 : HasCleanDisk late = omega (arith, clean, c.put_first_clock.ensures.survives.clean) in
    let clean_1 : HasCleanDisk mid = omega (arith, clean_2, c.make_indexes.ensures.survives.clean) in
    let tables = c.in_ok-make_office.ensures.made clean_1 inside in
    let indexes = c.in_ok-make_indexes.ensures.made clean_2 tables.goes.mode all_indexings in
    on_ok_with c.put_first_clock.result _ _ (c.put_first_clock.ensures.ran clean indexes.goes.mode) (λ h. founded old mid late new h.0 tables indexes h.1)

pub returns-in_err-make_indexes-clause-refused : goal.returns-in_err-make_indexes-clause-refused
returns-in_err-make_indexes-clause-refused g c clean inside =
    let old = state g.S.Store c.args.tx.now.conn.now in
    let mid = state g.S.Store c.make_office.new.tx.conn.now in
    let new = state g.S.Store c.make_indexes.new.tx.conn.now in
    let clean_1 : HasCleanDisk mid = omega (arith, clean, c.make_indexes.ensures.survives.clean) in
    let tables = c.in_ok-make_office.ensures.made clean_1 inside in
    on_err _ _ (goes_refused old mid new tables.goes (c.in_err-make_indexes.ensures.refused clean tables.goes.mode all_indexings))

pub returns-clause-refused : goal.returns-clause-refused
returns-clause-refused g c clean inside =
    let old = state g.S.Store c.args.tx.now.conn.now in
    let mid = state g.S.Store c.make_office.new.tx.conn.now in
    let late = state g.S.Store c.make_indexes.new.tx.conn.now in
    let new = state g.S.Store c.put_first_clock.new.tx.conn.now in
    let clean_2 : HasCleanDisk late = omega (arith, clean, c.put_first_clock.ensures.survives.clean) in
    let clean_1 : HasCleanDisk mid = omega (arith, clean_2, c.make_indexes.ensures.survives.clean) in
    let tables = c.in_ok-make_office.ensures.made clean_1 inside in
    let indexes = c.in_ok-make_indexes.ensures.made clean_2 tables.goes.mode all_indexings in
    on_err_with c.put_first_clock.result _ _ (c.put_first_clock.ensures.refused clean indexes.goes.mode) (λ h. goes_refused old late new (goes_then old mid late tables.goes indexes.goes) h)
