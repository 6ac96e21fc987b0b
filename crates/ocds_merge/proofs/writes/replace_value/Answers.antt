use Rattle.ocds_merge.proofs.Names.{ap, ◌∙◌, scan}
use Rattle.ocds_merge.specs.Inside.Scan.{between}
use Rattle.ocds_merge.proofs.SpliceLaw.{scan-value}
use Rattle.ocds_merge.proofs.writes.replace_value.Goals as goal

pub returns : goal.returns
returns c =
    let past = c.in_ok-skipped.ensures in
    record {
      reads = past.reads;
      splices = λ kept d rest old_kept ends is. (past.scans ∙ ap (scan 0 between) is ∙ scan-value 0 d rest old_kept ∙ ends, c.in_ok-write_new.ensures kept);
    }
