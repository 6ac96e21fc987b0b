use Rattle.office_machine.proofs.Releases.ReleasesCounted.{releases_counted}
use Rattle.office_machine.proofs.Releases.ReleasesInTime.{releases_in_time}
use Rattle.office_machine.proofs.Releases.ReleasesMade.{releases_published}
use Rattle.office_machine.proofs.Releases.ReleasesNumbered.{releases_numbered}
use Rattle.office_machine.proofs.laws.releases.Goals as goal

pub returns-clause-counted : goal.returns-clause-counted
returns-clause-counted c = releases_counted

pub returns-clause-numbered : goal.returns-clause-numbered
returns-clause-numbered c = releases_numbered

pub returns-clause-published : goal.returns-clause-published
returns-clause-published c = releases_published

pub returns-clause-in_time : goal.returns-clause-in_time
returns-clause-in_time c = releases_in_time
