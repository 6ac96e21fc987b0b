use Rattle.office_store.proofs.Names.{◌≡◌, release_numbers}
use Rattle.office_store.proofs.Shelves.{told_counted}
use Rattle.office_store.proofs.shelf.SqlShelfLookups.list_release_numbers.Goals as goal

pub returns : goal.returns
returns g c =
    told_counted g.S.Store c.self.inside.conn c.list_release_numbers-numbers.new.conn (λ t numbers. numbers.items ≡ release_numbers c.args.notice.now t) c.self.view_is c.told.ensures.same c.told.ensures.kept c.told.ensures.counted c.told.ensures.cause c.list_release_numbers-numbers.ensures
