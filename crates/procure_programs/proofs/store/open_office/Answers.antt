use Rattle.procure_programs.proofs.Names.{image_at}
use Rattle.procure_programs.proofs.EmptyOpened.{had_office, opens_empty}
use Rattle.procure_programs.proofs.store.open_office.Goals as goal

pub returns-in-Ok-open-clause-empty : goal.returns-in-Ok-open-clause-empty
returns-in-Ok-open-clause-empty g c = opens_empty (image_at g.S.Start) _ c.in-Ok-open.opened.shelf.0 c.in-Ok-open.ensures.blank c.in-Ok-open.ensures.enters

pub returns-in-Ok-open-clause-used : goal.returns-in-Ok-open-clause-used
returns-in-Ok-open-clause-used g c = had_office (image_at g.S.Start) _ c.in-Ok-open.opened.shelf.0 c.in-Ok-open.ensures.used c.in-Ok-open.ensures.enters
