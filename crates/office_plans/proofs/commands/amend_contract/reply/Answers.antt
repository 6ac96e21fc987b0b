use Rattle.office_plans.proofs.Names.{max, ◌∙◌, ap, sym, AmendContract, AmendContractRows, office_readings, left_by_change, given_by, reply_text}
use Rattle.office_plans.proofs.OnContracts.{told_alike}
use Rattle.office_plans.proofs.commands.amend_contract.reply.Goals as goal

pub returns-clause-told : goal.returns-clause-told
returns-clause-told c = λ s entry rationale are release none.
    let x = given_by c.args.asking.now s (AmendContract c.args.contract entry c.args.kind c.args.amount rationale) in
    let known = c.outstanding.ensures.known office_readings x none in
    let left =
    c.in_ok-left.ensures.left
    ∙ ap (λ (rows : AmendContractRows). left_by_change c.args.kind rows.contract rows.entries rows.notice rows.line c.args.amount) are ∙ sym known in
    let time = c.time-t.ensures ∙ ap (λ (rows : AmendContractRows). max c.args.asking.now.moment rows.clock.moment) are in
    c.in_ok-text.ensures ∙ ap reply_text (told_alike c.args.contract _ _ _ _ _ _ left release time)
