use Rattle.office_publications.proofs.Names.{◌≡◌, ◌∙◌, Some, unwrap_or, sym, ap, null, read, view, body_of, ReleaseRow, CanBeMerged, body_in}
use Rattle.office_publications.proofs.ReadAgain.{is_merge, is_merged_row, reads_back}
use Rattle.office_publications.proofs.publication.keep_release.Goals as goal

pub returns-clause-merge : goal.returns-clause-merge
returns-clause-merge c storable s kept keeps =
    let r : ReleaseRow = record { notice = c.args.notice; seq = c.args.seq; moment = c.args.t; text = c.from_string-text.result } in
    let reads : read r.text ≡ Some (view c.args.release) = ap read c.from_string-text.ensures ∙ c.in_ok-to_string.ensures.reads_back storable.shallow in
    let can : CanBeMerged r = record {
      release = view c.args.release;
      reads = reads;
      written = c.from_string-text.ensures ∙ c.in_ok-to_string.ensures.text storable.no_float;
      no_float = storable.no_float;
      storable = c.merge_stays_storable.ensures.body _ storable;
    } in
    let body : view c.without_head-body.result ≡ body_in r = c.without_head-body.ensures ∙ ap (λ o. body_of (unwrap_or o null)) (sym reads) in
    is_merged_row s r c.in_ok-merge.merge
    (is_merge s r c.in_ok-merge.merge keeps can (view c.without_head-body.result) body (c.in_ok-merge.ensures.merges s kept))

pub returns-clause-read : goal.returns-clause-read
returns-clause-read c storable s kept keeps =
    let r : ReleaseRow = record { notice = c.args.notice; seq = c.args.seq; moment = c.args.t; text = c.from_string-text.result } in
    let reads : read r.text ≡ Some (view c.args.release) = ap read c.from_string-text.ensures ∙ c.in_ok-to_string.ensures.reads_back storable.shallow in
    let can : CanBeMerged r = record {
      release = view c.args.release;
      reads = reads;
      written = c.from_string-text.ensures ∙ c.in_ok-to_string.ensures.text storable.no_float;
      no_float = storable.no_float;
      storable = c.merge_stays_storable.ensures.body _ storable;
    } in
    let body : view c.without_head-body.result ≡ body_in r = c.without_head-body.ensures ∙ ap (λ o. body_of (unwrap_or o null)) (sym reads) in
    reads_back s r c.in_ok-merge.merge can
    (is_merge s r c.in_ok-merge.merge keeps can (view c.without_head-body.result) body (c.in_ok-merge.ensures.merges s kept))
