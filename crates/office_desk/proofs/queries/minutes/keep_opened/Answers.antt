use Rattle.office_desk.proofs.Names.{rules, filter_same}
use Rattle.office_desk.proofs.queries.minutes.keep_opened.Goals as goal

pub returns : goal.returns
returns c = filter_same _ _ _ (λ x b f' k. search rules) _ _ c.retain.ensures.filtered
