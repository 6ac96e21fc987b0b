use Rattle.ocds_merge.proofs.PassLaw.{passed_scans, passed_shorter}
use Rattle.ocds_merge.proofs.readable.skipped.Goals as goal

pub returns : goal.returns
returns c = record {
  reads = c.in-Some.ensures;
  scans = passed_scans c.args.text.now c.in-Some.rest.now c.args.depth c.in-Some.ensures (c.ends_value.ensures c.if-not-ends_value.false);
  shorter = passed_shorter c.args.text.now c.in-Some.rest.now c.args.depth c.in-Some.ensures;
}
