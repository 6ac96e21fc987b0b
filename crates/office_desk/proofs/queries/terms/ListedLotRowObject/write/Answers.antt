use Rattle.office_desk.proofs.Names.{sym}
use Rattle.office_desk.proofs.queries.terms.ListedLotRowObject.write.Goals as goal

pub returns : goal.returns
returns c =
    rw (sym c.get-estimate.ensures.value, sym c.units-security.ensures.value, sym c.lot_word-word.ensures, sym c.as_str-title.ensures.value, sym c.as_slice-items.ensures.value) c.write_with_rows.ensures
