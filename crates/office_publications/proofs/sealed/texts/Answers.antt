use Rattle.office_publications.proofs.NoSealsTold.{releases_tell_no_seals, packages_tell_no_seals}
use Rattle.office_publications.proofs.sealed.texts.Goals as goal

pub returns-clause-publishes : goal.returns-clause-publishes
returns-clause-publishes c = releases_tell_no_seals

pub returns-clause-sees : goal.returns-clause-sees
returns-clause-sees c = packages_tell_no_seals
