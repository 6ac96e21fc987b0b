use Rattle.office_sums.proofs.Names.{◌≡◌, true, None, Some, sym, ap, ◌∙◌, list_all, keeps_then, after_puts, contract_at, leaves_contracts}
use Rattle.office_sums.proofs.CarriedOver.{contract_after, entry_put, entry_put_alone, entry_put_apart, new_entry_after}
use Rattle.office_sums.proofs.carrying.touch_of_entry.Goals as goal

pub returns-in_default : goal.returns-in_default
returns-in_default g c =
    let e = c.args.entry.now in
    let before = c.args.before.now in
    let leaves : list_all leaves_contracts before ≡ true = sym c.leave_contracts.ensures ∙ c.if-not-leave_contracts.false in
    let looked = c.in_ok-contract.ensures in (
      (
        looked.0.0,
        λ honest t held knows.
            let none : contract_at e.contract t ≡ None = ap (λ n. contract_at n t) (sym c.asked.ensures) ∙ sym (looked.0.1 honest t held) ∙ c.in_default.is in
            entry_put_alone (after_puts before t) e (contract_after before t leaves e.contract None none),
      ),
      record { counted = looked.1.counted; cause = tt },
    )

pub returns-in_ok-sums-in-Some-2 : goal.returns-in_ok-sums-in-Some-2
returns-in_ok-sums-in-Some-2 g c =
    let M = g.H.Lookups.meaning in
    let e = c.args.entry.now in
    let before = c.args.before.now in
    let contract = c.in-Some.contract in
    let leaves : list_all leaves_contracts before ≡ true = sym c.leave_contracts.ensures ∙ c.if-not-leave_contracts.false in
    let first = c.in_ok-contract.ensures in
    let second = c.in_ok-lot.ensures in
    let third = c.in_ok-sums-in-Some-2.ensures in (
      (
        keeps_then M _ _ _ first.0.0 (keeps_then M _ _ _ second.0.0 third.0.0),
        λ honest t held knows.
            let later = third.0.0.before honest in
            let sooner = second.0.0.before later in
            let here = first.0.0.same sooner t held in
            let found : contract_at e.contract t ≡ Some contract = ap (λ n. contract_at n t) (sym c.asked.ensures) ∙ sym (first.0.1 sooner t held) ∙ c.in-Some.is in
            entry_put (after_puts before t) e contract (contract_after before t leaves e.contract (Some contract) found) c.args.known.now c.in-Some-2.lot
            (sym (second.0.1 later t here) ∙ c.in-Some-2.is) c.in_ok-sums-in-Some-2.sums
            (new_entry_after before t leaves c.args.known.now c.in-Some-2.lot.line contract e c.in_ok-sums-in-Some-2.sums (third.0.1 honest t (second.0.0.same later t here) knows)),
      ),
      record { counted = third.1.counted ∙ second.1.counted ∙ first.1.counted; cause = tt },
    )

pub returns-in-None : goal.returns-in-None
returns-in-None g c =
    let M = g.H.Lookups.meaning in
    let e = c.args.entry.now in
    let before = c.args.before.now in
    let contract = c.in-Some.contract in
    let leaves : list_all leaves_contracts before ≡ true = sym c.leave_contracts.ensures ∙ c.if-not-leave_contracts.false in
    let first = c.in_ok-contract.ensures in
    let second = c.in_ok-lot.ensures in (
      (
        keeps_then M _ _ _ first.0.0 second.0.0,
        λ honest t held knows.
            let sooner = second.0.0.before honest in
            let found : contract_at e.contract t ≡ Some contract = ap (λ n. contract_at n t) (sym c.asked.ensures) ∙ sym (first.0.1 sooner t held) ∙ c.in-Some.is in
            entry_put_apart (after_puts before t) e contract (contract_after before t leaves e.contract (Some contract) found)
            (sym (second.0.1 honest t (first.0.0.same sooner t held)) ∙ c.in-None.is),
      ),
      record { counted = second.1.counted ∙ first.1.counted; cause = tt },
    )
