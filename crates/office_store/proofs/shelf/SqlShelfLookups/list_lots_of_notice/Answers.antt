use Rattle.office_store.proofs.Names.{◌≡◌, lots_of_notice}
use Rattle.office_store.proofs.Shelves.{told_counted}
use Rattle.office_store.proofs.shelf.SqlShelfLookups.list_lots_of_notice.Goals as goal

pub returns : goal.returns
returns g c =
    told_counted g.S.Store c.self.inside.conn c.list_lots_of_notice-rows.new.conn (λ t rows. rows.items ≡ lots_of_notice c.args.notice.now t) c.self.view_is c.told.ensures.same c.told.ensures.kept c.told.ensures.counted c.told.ensures.cause c.list_lots_of_notice-rows.ensures
