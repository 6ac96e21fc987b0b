use Rattle.tender_core.proofs.Names.{rules, filter_same}
use Rattle.tender_core.proofs.opening.keep_sealed.Goals as goal

pub returns : goal.returns
returns c = filter_same _ _ _ (λ x b f' k. search rules) _ _ c.retain.ensures.filtered
