use Rattle.office_tables.proofs.Names.{ap, sym, subst, ◌∙◌, IsId, text_before, text_behind, Avoids}
use Rattle.office_tables.proofs.Exactly.{exit}
use Rattle.office_tables.proofs.ItemReading.{parts_of, no_id, no_quantity, no_title}
use Rattle.office_tables.proofs.items.front_item.Goals as goal

pub returns-in_default-clause-cause : goal.returns-in_default-clause-cause
returns-in_default-clause-cause c = record { none = λ parts fits e. no_id parts.0 parts.1 c.args.text.now e c.in_default.ensures.none }

pub returns-in_default-cut-clause-cause : goal.returns-in_default-cut-clause-cause
returns-in_default-cut-clause-cause c =
    record { none = λ parts fits e. no_quantity parts.0 parts.1 c.args.text.now (parts_of parts.0 parts.1 c.args.text.now fits e) (subst (Avoids 9) c.in-Some.ensures.behind c.in_default-cut.ensures.none) }

pub returns-in_default-cut-2-clause-cause : goal.returns-in_default-cut-2-clause-cause
returns-in_default-cut-2-clause-cause c =
    let behind_two = c.in-Some-cut.ensures.behind ∙ ap (text_behind 9) c.in-Some.ensures.behind in
    record { none = λ parts fits e. no_title parts.0 parts.1 c.args.text.now (parts_of parts.0 parts.1 c.args.text.now fits e) (subst (Avoids 10) behind_two c.in_default-cut-2.ensures.none) }

pub returns-in_default-read-clause-cause : goal.returns-in_default-read-clause-cause
returns-in_default-read-clause-cause c =
    record { none = λ parts fits e. c.in_default-read.ensures.none (subst IsId (sym (c.in-Some.ensures.before ∙ (parts_of parts.0 parts.1 c.args.text.now fits e).id)) fits.id) }

pub returns-in_err-quantity-clause-cause : goal.returns-in_err-quantity-clause-cause
returns-in_err-quantity-clause-cause c =
    let part = c.in-Some-cut.ensures.before ∙ ap (text_before 9) c.in-Some.ensures.behind in
    exit _ c.from_residual.result _ _ c.from_residual.ensures.1
    (λ h. record { none = λ parts fits e. h.none parts.0.quantity fits.quantity (sym (part ∙ (parts_of parts.0 parts.1 c.args.text.now fits e).quantity)) }) c.in_err-quantity.ensures.cause

pub returns-in_err-title-clause-cause : goal.returns-in_err-title-clause-cause
returns-in_err-title-clause-cause c =
    let part = c.in-Some-cut-2.ensures.before ∙ ap (text_before 10) (c.in-Some-cut.ensures.behind ∙ ap (text_behind 9) c.in-Some.ensures.behind) in
    exit _ c.from_residual-in_err-title.result _ _ c.from_residual-in_err-title.ensures.1
    (λ h. record { none = λ parts fits e. h.none parts.0.title fits.title (sym (part ∙ (parts_of parts.0 parts.1 c.args.text.now fits e).title)) }) c.in_err-title.ensures.cause
