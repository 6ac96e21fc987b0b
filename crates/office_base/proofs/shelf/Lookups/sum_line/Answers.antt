use Rattle.office_base.proofs.Names.{ap, ◌∙◌, LineAmounts}
use Rattle.office_base.proofs.JoinedSums.{joined_sums}
use Rattle.office_base.proofs.PotsFound.{row_answer, row_fault}
use Rattle.office_base.proofs.shelf.Lookups.sum_line.Goals as goal

pub returns-in-Some : goal.returns-in-Some
returns-in-Some g c =
    let asked = c.in_ok-amounts.ensures in (
      asked.0.0,
      λ honest t held.
          let are = asked.0.1 honest t held in
          row_answer g.Self.Lookups.meaning.may_break c.args.row.now (g.Self.Lookups.meaning.fault_count c.args.self.now) _ t c.in-Some.pots _ _ asked.1.counted (c.as_slice.ensures ∙ ap (λ (a : LineAmounts). a.reserved) are)
          (c.as_slice-2.ensures ∙ ap (λ (a : LineAmounts). a.contracts) are) (joined_sums t (g.met.Self.Lookups.held_sorted _ t held) c.args.row.now) c.in-Some.ensures.pots c.in-Some.ensures.fit,
    )

pub returns : goal.returns
returns g c =
    let asked = c.in_ok-amounts.ensures in (
      asked.0.0,
      λ honest t held.
          let are = asked.0.1 honest t held in
          row_fault g.Self.Lookups.meaning.may_break c.args.row.now (g.Self.Lookups.meaning.fault_count c.args.self.now) _ t _ _ asked.1.counted (c.as_slice.ensures ∙ ap (λ (a : LineAmounts). a.reserved) are)
          (c.as_slice-2.ensures ∙ ap (λ (a : LineAmounts). a.contracts) are) (joined_sums t (g.met.Self.Lookups.held_sorted _ t held) c.args.row.now) c.in-None.ensures.unfit,
    )
