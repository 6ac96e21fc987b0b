use Rattle.office_sums.proofs.Names.{sorted-puts, after_puts}
use Rattle.office_sums.proofs.carrying.follow_one.Goals as goal

pub returns : goal.returns
returns g c =
    let before = c.args.before.now in
    let looked = c.in_ok-touch.ensures in (
      (
        looked.0.0,
        λ honest t held knows. record {
          right = λ sorted h. c.take_over.ensures c.args.put.now (after_puts before t) (looked.0.1 honest t held knows) (sorted-puts before t sorted) h;
        },
      ),
      record { counted = looked.1.counted; cause = tt },
    )
