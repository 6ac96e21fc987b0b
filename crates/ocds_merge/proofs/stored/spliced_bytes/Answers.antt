use Rattle.ocds_merge.proofs.Names.{List, ℕ, [], ◌++◌, refl, ap, sym, ◌∙◌, append-nil, unwrap_or, Some, null, view, step, compact_text}
use Rattle.ocds_merge.proofs.ReadWritten.{passed_reads}
use Rattle.ocds_merge.proofs.stored.spliced_bytes.Goals as goal

pub returns : goal.returns
returns c =
    let ends = c.is_end.ensures c.if-not-is_end.false in
    record {
      readable = passed_reads c.args.stored.now c.in_ok-rest.rest.now c.in_ok-rest.ensures.reads ends;
      splices = λ kept merge merge_kept is.
          let r = c.in_ok-rest.ensures.splices kept merge [] merge_kept refl (is ∙ sym (append-nil (compact_text merge))) in
          r.1 ∙ ap (λ (s : List ℕ). s ++ compact_text (unwrap_or (step (Some merge) (view c.args.value.now)) null)) c.in_ok-out.ensures.items;
    }
