use Rattle.office_desk.proofs.Names.{◌≡◌, ◌++◌, take, filter, flat_map, is_read, EnvelopeRow, evaluated_tender, finding_of, finding_line}
use Rattle.office_desk.proofs.queries.evaluation.put_tenders.Given as goal

abbrev pub invariant-loop-row : goal.invariant-loop-row
invariant-loop-row l =
    l.text
    ≡ l.fn.text
    ++ flat_map (λ (e : EnvelopeRow). finding_line (finding_of (evaluated_tender l.weight l.lowest e))) (filter (λ (e : EnvelopeRow). is_read e.state) (take l.row-index l.rows))
