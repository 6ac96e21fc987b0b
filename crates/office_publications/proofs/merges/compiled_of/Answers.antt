use Rattle.office_publications.proofs.Names.{subst, List, OnOk, ReleaseRow, AreWritten}
use Rattle.office_publications.proofs.merges.compiled_of.Goals as goal

pub returns-in-Releases-clause-goes_on : goal.returns-in-Releases-clause-goes_on
returns-in-Releases-clause-goes_on c =
    rw c.in-Releases.is (subst (λ (rows : List ReleaseRow). OnOk c.compiled_anew.result (AreWritten c.args.ocid.now rows)) c.as_slice.ensures c.compiled_anew.ensures.written)
