use Rattle.office_plans.proofs.Names.{◌≡◌, ℕ, max, ◌∙◌, ap, SignRows, Signed, reply_text}
use Rattle.office_plans.proofs.Maybe.{if_ok}
use Rattle.office_plans.proofs.commands.sign.reply.Goals as goal

-- Replies are equal if their parts are equal.
told_alike : (award release release' t t' : ℕ) → release ≡ release' → t ≡ t' → Signed award release t ≡ Signed award release' t'
told_alike award release release' t t' e f = λ i. Signed award (e i) (f i)

pub returns : goal.returns
returns c =
    if_ok c.signed_text.result c.signed_text.ensures
    (λ text is s named are release.
    let time = c.time-t.ensures ∙ ap (λ (rows : SignRows). max c.args.asking.now.moment rows.clock.moment) are in
    is ∙ ap reply_text (told_alike c.args.award _ _ _ _ release time))
