use Rattle.office_desk.proofs.Names.{arith, ◌≡◌, ◌++◌, take, map, ap, sym, ◌∙◌, ℕ, List, filter, flat_map, take_all, flat_map-map, is_read, EnvelopeRow, evaluated_tender, finding_of, finding_line}
use Rattle.office_desk.proofs.queries.evaluation.put_tenders.Goals as goal

pub returns-clause-text : goal.returns-clause-text
returns-clause-text c =
    let rows = c.args.rows.now in
    let front = c.args.text.now in
    let weight = c.args.weight in
    let lines = λ (lowest : ℕ) (e : EnvelopeRow). finding_line (finding_of (evaluated_tender weight lowest e)) in
    let opened : List EnvelopeRow → List EnvelopeRow = λ l. filter (λ (e : EnvelopeRow). is_read e.state) l in
    let all : take c.loop-row.row-index rows ≡ rows = take_all c.loop-row.row-index rows (omega arith) in
    let lowest = c.lowest-lowest.result in
    c.loop-row.invariant
    ∙ ap (λ (l : List EnvelopeRow). front ++ flat_map (lines lowest) (opened l)) all
    ∙ ap (λ l. front ++ l) (sym (flat_map-map finding_line finding_of (map (evaluated_tender weight lowest) (opened rows))
    ∙ flat_map-map (λ t. finding_line (finding_of t)) (evaluated_tender weight lowest) (opened rows)))
    ∙ ap (λ (n : ℕ). front ++ flat_map finding_line (map finding_of (map (evaluated_tender weight n) (opened rows)))) c.lowest-lowest.ensures
