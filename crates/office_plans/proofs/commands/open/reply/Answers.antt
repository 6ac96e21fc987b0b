use Rattle.office_plans.proofs.Names.{◌≡◌, ℕ, List, length, max, ◌∙◌, ap, length-map, OpenedAll, sealed_of_notice, tender_read, reply_text, OpenRows, OpenedTender}
use Rattle.office_plans.proofs.Maybe.{if_ok}
use Rattle.office_plans.proofs.commands.open.reply.Goals as goal

-- Replies are equal if their parts are equal.
told_alike : (notice : List ℕ) (count count' release release' t t' : ℕ) → count ≡ count' → release ≡ release' → t ≡ t'
    → OpenedAll notice count release t ≡ OpenedAll notice count' release' t'
told_alike notice count count' release release' t t' e f g = λ i. OpenedAll notice (e i) (f i) (g i)

pub returns : goal.returns
returns c =
    let n = c.args.notice in
    if_ok c.opened_text.result c.opened_text.ensures
    (λ text is s are read release.
    let count : length c.args.tenders.now ≡ length (sealed_of_notice n s) =
    ap (λ (tenders : List OpenedTender). length tenders) read ∙ length-map (sealed_of_notice n s) (tender_read s) in
    let time = c.time-t.ensures ∙ ap (λ (rows : OpenRows). max c.args.asking.now.moment rows.clock.moment) are in
    is ∙ ap reply_text (told_alike n _ _ _ _ _ _ count release time))
