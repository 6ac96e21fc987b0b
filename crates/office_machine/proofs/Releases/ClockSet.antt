-- The clock has the moment of the last accepted command.
use Rattle.office_machine.proofs.Names.{◌≤◌, sym, ◌∙◌, ap, subst, le-max_right, Tables, ClockRow, ClockIsSet, ClockNeverRunsBack}
use Rattle.office_machine.proofs.Parents.ParentsThere.{parents_there}
use Rattle.office_machine.proofs.Releases.NextIs.{next_is}

pub clock_set : ClockIsSet
clock_set means x xs t reached =
    let is = next_is means x (parents_there means xs x.before reached.reached) reached.allowed in
    ap (λ (v : Tables). v.clock.moment) reached.is ∙ ap (λ (c : ClockRow). c.moment) is.clock_is ∙ is.moment

pub never_back : ClockNeverRunsBack
never_back means x xs t reached =
    subst (λ m. x.before.clock.moment ≤ m) (sym (clock_set means x xs t reached)) (le-max_right x.moment x.before.clock.moment)
