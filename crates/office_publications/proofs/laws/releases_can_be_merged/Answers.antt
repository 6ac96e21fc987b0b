use Rattle.office_publications.proofs.ReleasesStay.{releases_stay, bodies_storable}
use Rattle.office_publications.proofs.laws.releases_can_be_merged.Goals as goal

pub returns-clause-stay : goal.returns-clause-stay
returns-clause-stay c = releases_stay

pub returns-clause-storable : goal.returns-clause-storable
returns-clause-storable c = bodies_storable
