use Rattle.ocds_release.proofs.AllKeepable.{all_storable, all_dated}
use Rattle.ocds_release.proofs.laws.releases_can_be_kept.Goals as goal

pub returns-clause-storable : goal.returns-clause-storable
returns-clause-storable c = all_storable

pub returns-clause-body_storable : goal.returns-clause-body_storable
returns-clause-body_storable c publisher seq t event = c.merge_stays_storable.ensures.body _ (all_storable publisher seq t event)

pub returns-clause-dated : goal.returns-clause-dated
returns-clause-dated c = all_dated
