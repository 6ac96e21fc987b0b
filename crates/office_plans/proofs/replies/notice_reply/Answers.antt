use Rattle.office_plans.proofs.Names.{◌≡◌, ℕ, List, max, ◌∙◌, ap, ClockRow, OfNotice, reply_text}
use Rattle.office_plans.proofs.Maybe.{if_ok}
use Rattle.office_plans.proofs.replies.notice_reply.Goals as goal

-- Replies are equal if their parts are equal.
told_alike : (notice : List ℕ) (release release' t t' : ℕ) → release ≡ release' → t ≡ t' → OfNotice notice release t ≡ OfNotice notice release' t'
told_alike notice release release' t t' e f = λ i. OfNotice notice (e i) (f i)

pub returns : goal.returns
returns c =
    if_ok c.notice_text.result c.notice_text.ensures
    (λ text is s release clock.
    is ∙ ap reply_text (told_alike c.args.notice _ _ _ _ release
    (c.time-t.ensures ∙ ap (λ (k : ClockRow). max c.args.asking.now.moment k.moment) clock)))
