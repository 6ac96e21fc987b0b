use Rattle.office_store.proofs.Names.{◌≡◌, performance_at}
use Rattle.office_store.proofs.Shelves.{told_counted}
use Rattle.office_store.proofs.shelf.SqlShelfLookups.get_performance.Goals as goal

pub returns : goal.returns
returns g c =
    told_counted g.S.Store c.self.inside.conn c.get_performance-found.new.conn (λ t row. row ≡ performance_at c.args.contract t) c.self.view_is c.told.ensures.same c.told.ensures.kept c.told.ensures.counted c.told.ensures.cause c.get_performance-found.ensures
