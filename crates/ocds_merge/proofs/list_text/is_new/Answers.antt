use Rattle.ocds_merge.proofs.Names.{map, view}
use Rattle.ocds_merge.proofs.PendingLaw.{lacks_take}
use Rattle.ocds_merge.proofs.list_text.is_new.Goals as goal

pub returns-in-None : goal.returns-in-None
returns-in-None c = λ _. lacks_take c.args.id.now c.args.place (map view c.args.items.now) c.in-None.ensures
