use Rattle.office_store.proofs.Names.{◌≡◌, securities_of_lot}
use Rattle.office_store.proofs.Shelves.{told_counted}
use Rattle.office_store.proofs.shelf.SqlShelfLookups.list_securities_of_lot.Goals as goal

pub returns : goal.returns
returns g c =
    told_counted g.S.Store c.self.inside.conn c.list_securities_of_lot-rows.new.conn (λ t rows. rows.items ≡ securities_of_lot c.args.notice.now c.args.lot.now t) c.self.view_is c.told.ensures.same c.told.ensures.kept c.told.ensures.counted c.told.ensures.cause c.list_securities_of_lot-rows.ensures
