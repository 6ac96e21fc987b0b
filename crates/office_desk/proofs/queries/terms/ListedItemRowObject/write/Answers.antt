use Rattle.office_desk.proofs.Names.{sym}
use Rattle.office_desk.proofs.queries.terms.ListedItemRowObject.write.Goals as goal

pub returns : goal.returns
returns c =
    rw (sym c.get-quantity.ensures.value, sym c.as_str-title.ensures.value) c.write_object.ensures
