use Rattle.office_store.proofs.Names.{◌≡◌}
use Rattle.office_store.proofs.Shelves.{told_counted}
use Rattle.office_store.proofs.shelf.SqlShelfLookups.list_lines.Goals as goal

pub returns : goal.returns
returns g c =
    told_counted g.S.Store c.self.inside.conn c.list_lines-rows.new.conn (λ t rows. rows.items ≡ t.lines) c.self.view_is c.told.ensures.same c.told.ensures.kept c.told.ensures.counted c.told.ensures.cause c.list_lines-rows.ensures
