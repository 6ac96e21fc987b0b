use Rattle.office_publications.proofs.Names.{subst, AreWritten}
use Rattle.office_publications.proofs.merges.merge_with.Goals as goal
use Rattle.office_publications.proofs.merges.merge_with.Goals.{in-Merge+in_ok-text-in-Merge, in-Releases+in_ok-text-in-Releases}

pub returns-clause-goes_on : goal.returns-clause-goes_on
returns-clause-goes_on c = elim c.match-kept.branch [
  | in-Merge+in_ok-text-in-Merge w ↦ rw w.in-Merge.is w.in_ok-text-in-Merge.ensures.written
  | in-Releases+in_ok-text-in-Releases w ↦ rw w.in-Releases.is (subst (AreWritten c.args.ocid.now) w.as_slice.ensures w.in_ok-text-in-Releases.ensures.written)
]
