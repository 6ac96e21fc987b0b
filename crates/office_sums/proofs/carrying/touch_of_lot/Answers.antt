use Rattle.office_sums.proofs.Names.{refl, sym, ◌∙◌, keeps_then, after_puts, lot_at, lot_key}
use Rattle.office_sums.proofs.CarriedOver.{lot_comes, lot_stays, not_other}
use Rattle.office_sums.proofs.carrying.touch_of_lot.Goals as goal

pub returns-in_ok-sums-in-None : goal.returns-in_ok-sums-in-None
returns-in_ok-sums-in-None g c =
    let M = g.H.Lookups.meaning in
    let row = c.args.row.now in
    let first = c.in_ok-get_reservation.ensures in
    let later = c.in_ok-sums-in-None.ensures in (
      (
        keeps_then M _ _ _ first.0.0 later.0.0,
        λ honest t held.
            let middle = later.0.0.before honest in
            let now = after_puts c.args.before.now t in
            lot_comes c.args.known.now now row (lot_at (lot_key row) now) refl (sym (first.0.1 middle t held) ∙ c.in-None.is) c.in_ok-sums-in-None.sums
            (later.0.1 honest t (first.0.0.same middle t held)),
      ),
      record { counted = later.1.counted ∙ first.1.counted; cause = tt },
    )

pub returns-else-ne : goal.returns-else-ne
returns-else-ne g c =
    let row = c.args.row.now in
    let looked = c.in_ok-get_reservation.ensures in (
      (
        looked.0.0,
        λ honest t held.
            let now = after_puts c.args.before.now t in
            lot_stays c.args.known.now now row (lot_at (lot_key row) now) refl c.in-Some.old (sym (looked.0.1 honest t held) ∙ c.in-Some.is)
            (not_other _ (sym c.ne.ensures ∙ c.if-ne.false)) c.with_reserved-sums.result c.with_reserved-sums.ensures,
      ),
      record { counted = looked.1.counted; cause = tt },
    )
