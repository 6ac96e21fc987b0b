use Rattle.tender_papers.proofs.Names.{◌≡◌, ap, sym, ◌∙◌, fields_of, records_left, paper_below_head, tender_ended_by}
use Rattle.tender_papers.proofs.TenderSteps.{body_before, body_more, body_none, body_stops}
use Rattle.tender_papers.proofs.tender.read_body.Goals as goal

pub records-preserved : goal.records-preserved
records-preserved c =
    let next = rw c.if-branch.true at c.in_ok-next_record.ensures.read in
    let row = rw c.in-Some.is at c.in_ok-item.ensures in
    let front = c.records.rows.items in
    record {
      reading = c.in_ok-next_record.ensures.reading c.if-branch.true;
      read = rw c.in_ok-push-in-Some.ensures.items (
          sym (ap (λ rs. body_before front (paper_below_head rs)) next
          ∙ body_more front (fields_of c.next_record.new.row) (records_left c.next_record.new.reader) c.in-Some.item row)
          ∙ c.records.invariant.read);
    }

pub returns-in-None : goal.returns-in-None
returns-in-None c =
    let next = rw c.if-branch.true at c.in_ok-next_record.ensures.read in
    let none = rw c.in-None.is at c.in_ok-item.ensures in
    let front = c.records.rows.items in
    let fields = fields_of c.next_record.new.row in
    let rest = records_left c.next_record.new.reader in
    let same : tender_ended_by front fields rest ≡ paper_below_head (records_left c.args.reader.now) =
    sym (body_stops front fields rest none) ∙ (sym (ap (λ rs. body_before front (paper_below_head rs)) next) ∙ c.records.invariant.read) in
    rw same at c.read_end.ensures

pub returns : goal.returns
returns c =
    let end = rw c.if-branch.false at c.in_ok-next_record.ensures.read in
    let front = c.records.rows.items in
    sym (sym c.records.invariant.read ∙ (ap (λ rs. body_before front (paper_below_head rs)) end ∙ body_none front))
