use Rattle.office_sums.proofs.Names.{◌&&◌, sym, ap, ◌∙◌, same_id}
use Rattle.office_sums.proofs.LastLots.{lot_tie}
use Rattle.office_sums.proofs.carrying.is_lot.Goals as goal

pub returns-then-eq : goal.returns-then-eq
returns-then-eq c =
    c.eq-then-eq.ensures ∙ ap (λ b. b && same_id c.args.row.now.lot c.args.lot.now) (sym c.if-eq.true ∙ c.eq.ensures) ∙ sym (lot_tie c.args.row.now c.args.notice.now c.args.lot.now)

pub returns-else-eq : goal.returns-else-eq
returns-else-eq c =
    c.if-eq.false ∙ ap (λ b. b && same_id c.args.row.now.lot c.args.lot.now) (sym c.if-eq.false ∙ c.eq.ensures) ∙ sym (lot_tie c.args.row.now c.args.notice.now c.args.lot.now)
