use Rattle.office_sums.proofs.Names.{◌≡◌, true, sym, ap, ◌∙◌, list_all, keeps_then, after_puts, contract_at, keeps_lot, leaves_contracts}
use Rattle.office_sums.proofs.CarriedOver.{contract_after, contract_put, contract_put_apart, new_row_after}
use Rattle.office_sums.proofs.carrying.touch_of_contract.Goals as goal

pub returns-in_ok-sums-in-Some : goal.returns-in_ok-sums-in-Some
returns-in_ok-sums-in-Some g c =
    let M = g.H.Lookups.meaning in
    let row = c.args.row.now in
    let before = c.args.before.now in
    let leaves : list_all leaves_contracts before ≡ true = sym c.leave_contracts.ensures ∙ c.if-not-leave_contracts.false in
    let keeps : keeps_lot c.in_ok-old.old row ≡ true = sym c.keeps_lot.ensures ∙ c.if-not-keeps_lot.false in
    let first = c.in_ok-old.ensures in
    let second = c.in_ok-lot.ensures in
    let third = c.in_ok-sums-in-Some.ensures in (
      (
        keeps_then M _ _ _ first.0.0 (keeps_then M _ _ _ second.0.0 third.0.0),
        λ honest t held.
            let later = third.0.0.before honest in
            let sooner = second.0.0.before later in
            let here = first.0.0.same sooner t held in
            let was : contract_at row.contract t ≡ c.in_ok-old.old = ap (λ n. contract_at n t) (sym c.asked.ensures) ∙ sym (first.0.1 sooner t held) in
            contract_put c.args.known.now (after_puts before t) row c.in_ok-old.old (contract_after before t leaves row.contract c.in_ok-old.old was) keeps c.in-Some.lot
            (sym (second.0.1 later t here) ∙ c.in-Some.is) c.in_ok-sums-in-Some.sums
            (new_row_after before t leaves c.args.known.now c.in-Some.lot.line c.in_ok-old.old row c.in_ok-sums-in-Some.sums (third.0.1 honest t (second.0.0.same later t here))),
      ),
      record { counted = third.1.counted ∙ second.1.counted ∙ first.1.counted; cause = tt },
    )

pub returns-in-None : goal.returns-in-None
returns-in-None g c =
    let M = g.H.Lookups.meaning in
    let row = c.args.row.now in
    let before = c.args.before.now in
    let leaves : list_all leaves_contracts before ≡ true = sym c.leave_contracts.ensures ∙ c.if-not-leave_contracts.false in
    let keeps : keeps_lot c.in_ok-old.old row ≡ true = sym c.keeps_lot.ensures ∙ c.if-not-keeps_lot.false in
    let first = c.in_ok-old.ensures in
    let second = c.in_ok-lot.ensures in (
      (
        keeps_then M _ _ _ first.0.0 second.0.0,
        λ honest t held.
            let sooner = second.0.0.before honest in
            let was : contract_at row.contract t ≡ c.in_ok-old.old = ap (λ n. contract_at n t) (sym c.asked.ensures) ∙ sym (first.0.1 sooner t held) in
            contract_put_apart (after_puts before t) row c.in_ok-old.old (contract_after before t leaves row.contract c.in_ok-old.old was) keeps
            (sym (second.0.1 honest t (first.0.0.same sooner t held)) ∙ c.in-None.is),
      ),
      record { counted = second.1.counted ∙ first.1.counted; cause = tt },
    )
