use Rattle.office_desk.proofs.Names.{sym}
use Rattle.office_desk.proofs.queries.contract.ListedEntryRowObject.write.Goals as goal

pub returns : goal.returns
returns c =
    rw (sym c.get-amount.ensures.value, sym c.entry_word-word.ensures, sym c.remark_of-rationale.ensures) c.write_object.ensures
