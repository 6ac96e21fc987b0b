use Rattle.office_store.proofs.Names.{ap₂, subst, true, false, file_state, HasCleanDisk, EntersFound, OpensBlank, OpensHeld, OpensUsed}
use Rattle.office_store.proofs.Paths.{image, seen, unchanged}
use Rattle.office_store.proofs.path.SqlShelf+FileStore+FileFrom+S.open_from.Goals as goal

pub returns-in-Ok-open_files-clause-held : goal.returns-in-Ok-open_files-clause-held
returns-in-Ok-open_files-clause-held g c =
    let (log, db) = c.in-Ok.ensures.fresh in
    let same = ap₂ image (ap₂ (seen g.S.Start.log g.S.Start.db) log.0 log.1) (ap₂ (seen g.S.Start.log g.S.Start.db) db.0 db.1) in
    subst (λ i. OpensHeld i c.in-Ok-open_files.opened.shelf.0) same c.in-Ok-open_files.ensures.held

pub returns-in-Ok-open_files-clause-blank : goal.returns-in-Ok-open_files-clause-blank
returns-in-Ok-open_files-clause-blank g c =
    let (log, db) = c.in-Ok.ensures.fresh in
    let same = ap₂ image (ap₂ (seen g.S.Start.log g.S.Start.db) log.0 log.1) (ap₂ (seen g.S.Start.log g.S.Start.db) db.0 db.1) in
    subst (λ i. OpensBlank i c.in-Ok-open_files.opened.shelf.0) same c.in-Ok-open_files.ensures.blank

pub returns-in-Ok-open_files-clause-enters : goal.returns-in-Ok-open_files-clause-enters
returns-in-Ok-open_files-clause-enters g c =
    let (log, db) = c.in-Ok.ensures.fresh in
    let same = ap₂ image (ap₂ (seen g.S.Start.log g.S.Start.db) log.0 log.1) (ap₂ (seen g.S.Start.log g.S.Start.db) db.0 db.1) in
    subst (λ i. HasCleanDisk (file_state c.in-Ok-open_files.opened.shelf.0) → EntersFound i c.in-Ok-open_files.opened.origin c.in-Ok-open_files.opened.shelf.0) same c.in-Ok-open_files.ensures.enters

pub returns-in-Ok-open_files-clause-used : goal.returns-in-Ok-open_files-clause-used
returns-in-Ok-open_files-clause-used g c =
    let (log, db) = c.in-Ok.ensures.fresh in
    let same = ap₂ image (ap₂ (seen g.S.Start.log g.S.Start.db) log.0 log.1) (ap₂ (seen g.S.Start.log g.S.Start.db) db.0 db.1) in
    subst (λ i. HasCleanDisk (file_state c.in-Ok-open_files.opened.shelf.0) → OpensUsed i c.in-Ok-open_files.opened.origin) same c.in-Ok-open_files.ensures.used

pub returns-in-Err-open_files-clause-refused : goal.returns-in-Err-open_files-clause-refused
returns-in-Err-open_files-clause-refused g c =
    let (log, db) = c.in-Ok.ensures.fresh in
    let first = g.S.Start in
    let same = ap₂ image (ap₂ (seen first.log first.db) log.0 log.1) (ap₂ (seen first.log first.db) db.0 db.1) in (
      c.in-Ok.files,
      record {
        seen = same;
        left = λ after may.
            ap₂ image (unchanged first.is_mixing first.log first.db _ true _ _ log.0 log.1 after.log may.0) (unchanged first.is_mixing first.log first.db _ false _ _ db.0 db.1 after.db may.1);
      },
      c.in-Err-open_files.ensures.refused,
    )
