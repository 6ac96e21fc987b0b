use Rattle.office_sums.proofs.Names.{ap, ◌∙◌, LineAmounts}
use Rattle.office_sums.proofs.Known.{summed}
use Rattle.office_sums.proofs.asking.added_up.Goals as goal

pub returns : goal.returns
returns g c =
    let asked = c.in_ok-amounts.ensures in (
      (
        asked.0.0,
        λ honest t held.
            let are = asked.0.1 honest t held in
            summed c.args.row.now t _ _ c.pots_over.result (c.as_slice.ensures ∙ ap (λ (a : LineAmounts). a.reserved) are) (c.as_slice-2.ensures ∙ ap (λ (a : LineAmounts). a.contracts) are)
            (c.joined_sums.ensures t (g.met.H.Lookups.held_sorted _ t held) c.args.row.now) c.pots_over.ensures.pots c.pots_over.ensures.fit c.pots_over.ensures.unfit,
      ),
      record { counted = asked.1.counted; cause = tt },
    )
