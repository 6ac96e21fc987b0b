use Rattle.ocds_merge.proofs.Names.{ap, ◌∙◌, sym, scan}
use Rattle.ocds_merge.specs.Inside.Scan.{between}
use Rattle.ocds_merge.proofs.PassLaw.{members_scan}
use Rattle.ocds_merge.proofs.SpliceLaw.{rest_at}
use Rattle.ocds_merge.proofs.object_text.copy_rest.Goals as goal

pub returns : goal.returns
returns c =
    let left = c.args.left in
    let after = c.in_ok-rest.rest.now in
    record {
      reads = c.in_ok-rest.ensures.reads;
      copies = λ ts rest st ends.
          rest_at c.args.later ts rest left.text.now c.after_comma-whole.result.now after _ _ c.has_comma.result st ends c.after_comma-whole.ensures
          (members_scan left.text.now left.last.now after left.later c.args.depth c.in_ok-rest.ensures.reads c.in_ok-rest.ensures.ends ∙ ap (scan 1 between) (sym c.after_comma-whole.ensures))
          c.has_comma.ensures.ends c.has_comma.ensures.goes_on c.in_ok-copy_span.ensures;
    }
