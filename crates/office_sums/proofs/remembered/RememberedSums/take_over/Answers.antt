use Rattle.office_sums.proofs.Names.{subst, IsTouch}
use Rattle.office_sums.proofs.Forgotten.{all_stay}
use Rattle.office_sums.proofs.remembered.RememberedSums.take_over.Goals as goal

pub returns-in-Nothing : goal.returns-in-Nothing
returns-in-Nothing c p t is sorted h = all_stay c.args.self.now p t (subst (IsTouch c.args.self.now p t) c.in-Nothing.is is) sorted h
