use Rattle.ocds_merge.proofs.Names.{◌∙◌, ap, Bor, rules, answers_always, Data, view, Value, date_order}
use Rattle.ocds_merge.proofs.SortLaw.{earlier, ranked, sorted_is_order}
use Rattle.ocds_merge.proofs.release_order.in_date_order.Goals as goal

pub returns : goal.returns
returns c =
    let seen : Bor Value → Data = λ r. view r.now in
    let compares = answers_always _ _ _ (λ f a r next called. search rules) in
    sorted_is_order seen _ _ (c.in_ok-sort_by.ensures.sorted (earlier seen) (ranked seen) compares) (c.sort_by.ensures.stable (earlier seen) (ranked seen) compares)
    ∙ ap date_order c.in_ok-order.ensures
