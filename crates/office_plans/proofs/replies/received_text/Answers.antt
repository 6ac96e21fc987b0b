use Rattle.office_plans.proofs.Names.{sym}
use Rattle.office_plans.proofs.replies.received_text.Goals as goal

pub returns : goal.returns
returns c = rw (sym c.get-receipt.ensures.value, sym c.number_of-security.ensures, sym c.state_word-word.ensures) c.object_text.ensures
