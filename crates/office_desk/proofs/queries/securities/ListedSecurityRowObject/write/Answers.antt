use Rattle.office_desk.proofs.Names.{sym}
use Rattle.office_desk.proofs.queries.securities.ListedSecurityRowObject.write.Goals as goal

pub returns : goal.returns
returns c =
    rw (sym c.get-amount.ensures.value, sym c.get-security.ensures.value, sym c.security_word-word.ensures, sym c.named-tenderer.ensures) c.write_object.ensures
