use Rattle.office_sums.proofs.Names.{◌≡◌, ℕ, List, None, Some, option_map, refl, sym, ap, ◌∙◌, Bor, LotRow, last_lot, reservation_of}
use Rattle.office_sums.proofs.AfterLooks.{keeps_same}
use Rattle.office_sums.proofs.LastLots.{last_found, none_put}
use Rattle.office_sums.proofs.carrying.get_reservation.Goals as goal

pub returns-in-Some : goal.returns-in-Some
returns-in-Some g c =
    let key : List ℕ × List ℕ = (c.args.notice.now, c.args.lot.now) in
    let found : last_lot key c.args.before.now ≡ Some c.in-Some.row.now = sym c.last_lot.ensures ∙ ap (option_map (λ (row : Bor LotRow). row.now)) c.in-Some.is in (
      (keeps_same g.H.Lookups.meaning c.args.shelf.now, λ honest t held. ap Some c.of.ensures ∙ sym (last_found key c.args.before.now t c.in-Some.row.now found)),
      record { counted = refl; cause = tt },
    )

pub returns-in-Some-2 : goal.returns-in-Some-2
returns-in-Some-2 g c =
    let key : List ℕ × List ℕ = (c.args.notice.now, c.args.lot.now) in
    let none : last_lot key c.args.before.now ≡ None = sym c.last_lot.ensures ∙ ap (option_map (λ (row : Bor LotRow). row.now)) c.in_default.is in
    let looked = c.in_ok-row.ensures in (
      (
        looked.0.0,
        λ honest t held.
            ap Some c.of-in-Some-2.ensures ∙ sym (ap (option_map reservation_of) (none_put key c.args.before.now t none ∙ sym (looked.0.1 honest t held) ∙ c.in-Some-2.is)),
      ),
      record { counted = looked.1.counted; cause = tt },
    )

pub returns-in-None : goal.returns-in-None
returns-in-None g c =
    let key : List ℕ × List ℕ = (c.args.notice.now, c.args.lot.now) in
    let none : last_lot key c.args.before.now ≡ None = sym c.last_lot.ensures ∙ ap (option_map (λ (row : Bor LotRow). row.now)) c.in_default.is in
    let looked = c.in_ok-row.ensures in (
      (looked.0.0, λ honest t held. sym (ap (option_map reservation_of) (none_put key c.args.before.now t none ∙ sym (looked.0.1 honest t held) ∙ c.in-None.is))),
      record { counted = looked.1.counted; cause = tt },
    )
