use Rattle.office_store.proofs.Names.{◌≡◌, notices_after}
use Rattle.office_store.proofs.Shelves.{told_counted}
use Rattle.office_store.proofs.shelf.SqlShelfLookups.list_notices_after.Goals as goal

pub returns : goal.returns
returns g c =
    told_counted g.S.Store c.self.inside.conn c.list_notices_after-rows.new.conn (λ t rows. rows.items ≡ notices_after c.args.after c.args.most t) c.self.view_is c.told.ensures.same c.told.ensures.kept c.told.ensures.counted c.told.ensures.cause c.list_notices_after-rows.ensures
