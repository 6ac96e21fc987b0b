use Rattle.office_plans.proofs.Names.{◌≡◌, ℕ, List, Option, max, option_map, ◌∙◌, ap, winner, AwardRows, EnvelopeRow, Awarded, Winning, awarded_rows, reply_text}
use Rattle.office_machine.specs.Replies as replies
use Rattle.office_plans.proofs.Maybe.{if_ok}
use Rattle.office_plans.proofs.commands.award.reply.Goals as goal

-- Replies are equal if their parts are equal.
told_alike : (lot : List ℕ) (best best' : Option Winning) (release release' t t' : ℕ) → best ≡ best' → release ≡ release' → t ≡ t'
    → Awarded lot best release t ≡ Awarded lot best' release' t'
told_alike lot best best' release release' t t' e f g = λ i. Awarded lot (e i) (f i) (g i)

pub returns : goal.returns
returns c =
    let rows : AwardRows = c.args.rows.now in
    if_ok c.awarded_text.result c.awarded_text.ensures
    (λ text is s notice are best release.
    let told : AwardRows → Option Winning = λ r. option_map (replies.winning r.clock) (winner r.notice r.envelopes) in
    let won : option_map (replies.winning rows.clock) (option_map (λ e. e.now) c.args.best) ≡ told (awarded_rows s notice c.args.lot) =
    ap (λ (e : Option EnvelopeRow). option_map (replies.winning rows.clock) e) best ∙ ap told are in
    let time = c.time-t.ensures ∙ ap (λ (r : AwardRows). max c.args.asking.now.moment r.clock.moment) are in
    is ∙ ap reply_text (told_alike c.args.lot _ _ _ _ _ _ won release time))
