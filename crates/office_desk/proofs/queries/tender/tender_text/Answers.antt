use Rattle.office_desk.proofs.Names.{sym}
use Rattle.office_desk.proofs.queries.tender.tender_text.Goals as goal

pub returns : goal.returns
returns c =
    rw (sym c.get-length.ensures.value, sym c.get-receipt.ensures.value, sym c.number_of-security.ensures, sym c.state_word-word.ensures) c.object_text.ensures
