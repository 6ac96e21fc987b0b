use Rattle.office_publications.proofs.NoMergesTold.{kept_apart, looks_apart, packages_tell_no_merges, releases_tell_no_merges}
use Rattle.office_publications.proofs.laws.merges_apart.Goals as goal

pub returns-clause-releases : goal.returns-clause-releases
returns-clause-releases c = releases_tell_no_merges

pub returns-clause-packages : goal.returns-clause-packages
returns-clause-packages c = packages_tell_no_merges

pub returns-clause-looks : goal.returns-clause-looks
returns-clause-looks c = looks_apart c.merges.ensures.looks

pub returns-clause-kept : goal.returns-clause-kept
returns-clause-kept c = kept_apart c.keeping.ensures.beside c.merges.ensures.next
