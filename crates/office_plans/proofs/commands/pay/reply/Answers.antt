use Rattle.office_plans.proofs.Names.{max, ◌∙◌, ap, sym, Pay, PayRows, office_readings, left_by_payment, given_by, reply_text}
use Rattle.office_plans.proofs.OnContracts.{told_alike}
use Rattle.office_plans.proofs.commands.pay.reply.Goals as goal

pub returns-clause-told : goal.returns-clause-told
returns-clause-told c = λ s entry are release none.
    let x = given_by c.args.asking.now s (Pay c.args.contract entry c.args.amount) in
    let known = c.outstanding.ensures.known office_readings x none in
    let left =
    c.in_ok-left.ensures.left
    ∙ ap (λ (rows : PayRows). left_by_payment rows.contract rows.entries rows.notice c.args.amount) are ∙ sym known in
    let time = c.time-t.ensures ∙ ap (λ (rows : PayRows). max c.args.asking.now.moment rows.clock.moment) are in
    c.in_ok-text.ensures ∙ ap reply_text (told_alike c.args.contract _ _ _ _ _ _ left release time)
