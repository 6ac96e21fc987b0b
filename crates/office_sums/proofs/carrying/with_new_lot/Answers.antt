use Rattle.office_sums.proofs.Names.{◌≡◌, IfSome, sym, subst, ◌∙◌}
use Rattle.office_sums.proofs.CarriedOver.{from_new_lot}
use Rattle.office_sums.proofs.carrying.with_new_lot.Goals as goal

pub returns-then-is_empty : goal.returns-then-is_empty
returns-then-is_empty g c =
    let looked = c.in_ok-list_contracts_of_notice.ensures in (
      (
        looked.0.0,
        λ honest t held.
            from_new_lot c.args.known.now c.args.row.now t c.args.before.now c.in_ok-list_contracts_of_notice.field-0 c.unwrap-nothing.result
            (sym c.leave_contracts.ensures ∙ c.if-leave_contracts.true) (looked.0.1 honest t held) (sym c.is_empty.ensures ∙ c.if-is_empty.true)
            (subst (λ r. IfSome r (λ a. a ≡ 0)) c.unwrap-nothing.ensures c.read.ensures.found) c.with_reserved.result c.with_reserved.ensures,
      ),
      record { counted = looked.1.counted; cause = tt },
    )
