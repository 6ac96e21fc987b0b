use Rattle.office_sums.proofs.Names.{length, sym, ap, ◌∙◌, nil_from_length}
use Rattle.office_sums.proofs.remembered.RememberedSums.is_empty.Goals as goal

pub returns : goal.returns
returns c = (λ h. sym c.self.view_is ∙ nil_from_length _ (c.is_empty.ensures.0 h), λ e. c.is_empty.ensures.1 (ap length (c.self.view_is ∙ e)))
