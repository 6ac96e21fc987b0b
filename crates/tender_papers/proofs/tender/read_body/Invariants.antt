use Rattle.tender_papers.proofs.Names.{◌≡◌, length, IsReading, records_left, paper_below_head}
use Rattle.tender_papers.proofs.TenderSteps.{body_before}
use Rattle.tender_papers.proofs.tender.read_body.Given as goal

abbrev pub invariant-records : goal.invariant-records
invariant-records l = record {
  reading : IsReading l.reader;
  read : body_before l.rows.items (paper_below_head (records_left l.reader)) ≡ paper_below_head (records_left l.fn.reader);
}

abbrev pub decreases-records : goal.decreases-records
decreases-records l = length (records_left l.reader)
