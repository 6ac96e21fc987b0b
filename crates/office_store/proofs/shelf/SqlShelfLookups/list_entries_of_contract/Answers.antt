use Rattle.office_store.proofs.Names.{◌≡◌, entries_of_contract}
use Rattle.office_store.proofs.Shelves.{told_counted}
use Rattle.office_store.proofs.shelf.SqlShelfLookups.list_entries_of_contract.Goals as goal

pub returns : goal.returns
returns g c =
    told_counted g.S.Store c.self.inside.conn c.list_entries_of_contract-rows.new.conn (λ t rows. rows.items ≡ entries_of_contract c.args.contract t) c.self.view_is c.told.ensures.same c.told.ensures.kept c.told.ensures.counted c.told.ensures.cause c.list_entries_of_contract-rows.ensures
