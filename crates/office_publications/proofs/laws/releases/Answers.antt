use Rattle.office_publications.proofs.ReleasesMade.{releases_made}
use Rattle.office_publications.proofs.laws.releases.Goals as goal

pub returns : goal.returns
returns c = releases_made
