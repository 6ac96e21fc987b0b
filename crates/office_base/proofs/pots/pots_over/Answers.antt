use Rattle.office_base.proofs.Names.{◌≡◌, true, arith, list_all, is_within}
use Rattle.office_base.proofs.WithinTests.{all_within, within_all}
use Rattle.office_base.proofs.pots.pots_over.Goals as goal

pub returns-then-not-are_within-clause-unfit : goal.returns-then-not-are_within-clause-unfit
returns-then-not-are_within-clause-unfit c fits =
    let held : list_all is_within c.args.contracts.now ≡ true = within_all c.args.contracts.now fits.within in
    let test = c.are_within.ensures in
    let out = c.if-not-are_within.true in
    absurd cc

pub returns-clause-fit : goal.returns-clause-fit
returns-clause-fit c =
    let test = c.are_within.ensures in
    let in_ = c.if-not-are_within.false in
    let held : list_all is_within c.args.contracts.now ≡ true = cc in
    record {
      within = all_within c.args.contracts.now held;
      reserved_fits = omega (arith, c.sum_of.ensures, c.in_ok-reserved.ensures.right);
      contracted_fits = omega (arith, c.outstanding_of.ensures, c.in_ok-contracted.ensures.right);
      paid_fits = omega (arith, c.paid_of.ensures, c.in_ok-paid.ensures.right);
    }
