use Rattle.office_publications.proofs.Names.{rules, arith, ◌≡◌, ◌+◌, ◌++◌, [], ◌∷◌, take, map, ap, sym, subst, ◌∙◌, Result, Ok, Err, false, List, OnOk, slice_index_or, is_err, take_more, take_all, map-append, All-more, merge_or_null, IsWrittenRelease, ReleaseRow, AreWritten, body_in}
use Rattle.office_publications.proofs.merges.merge_of.Goals as goal

-- a fact about a successful result
of_ok : {T E : Type 0} (r : Result T E) (P : Type 0) → is_err r ≡ false → OnOk r P → P
of_ok (Ok value) P is h = h
of_ok (Err why) P is h = absurd cc

pub rows-preserved : goal.rows-preserved
rows-preserved c =
    let rows : List ReleaseRow = c.args.rows.now in
    let at = c.rows.row-index in
    let row : ReleaseRow = c.row-item.result in
    let more : take (at + 1) rows ≡ take at rows ++ (row ∷ []) = search (rules, take_more) in
    let mapped = ap (map body_in) more ∙ map-append body_in (take at rows) (row ∷ []) in
    let merged = of_ok c.merge_into.result _ (sym c.is_err.ensures.value ∙ c.if-is_err.false) c.merge_into.ensures.merges (map body_in (take at rows)) c.rows.invariant.0 in
    let ocid = c.args.ocid.now in
    let written : IsWrittenRelease ocid (slice_index_or rows at row).text = subst (λ (r : ReleaseRow). IsWrittenRelease ocid r.text) c.row-item.is c.in_ok-body.ensures.written in (
      merged ∙ ap merge_or_null (ap (λ b. map body_in (take at rows) ++ (b ∷ [])) c.in_ok-body.ensures.body ∙ sym mapped),
      All-more (λ (r : ReleaseRow). IsWrittenRelease ocid r.text) rows at row c.rows-test.true c.rows.invariant.1 written,
    )

pub returns-clause-written : goal.returns-clause-written
returns-clause-written c =
    let all : take c.rows.row-index c.args.rows.now ≡ c.args.rows.now = take_all c.rows.row-index c.args.rows.now (omega arith) in
    subst (AreWritten c.args.ocid.now) all c.rows.invariant.1
