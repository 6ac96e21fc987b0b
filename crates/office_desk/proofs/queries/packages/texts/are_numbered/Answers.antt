use Rattle.office_desk.proofs.Names.{◌≡◌, ◌+◌, [], List, ℕ, length, drop, map, true, sym, ap, ◌∙◌, arith, drop_all, length-map, ReleaseRow, numbers, are_from, are_numbers}
use Rattle.office_desk.proofs.queries.packages.texts.are_numbered.Goals as goal

pub returns : goal.returns
returns c same =
    let rows : List ReleaseRow = c.args.rows.now in
    let found : List ℕ = map (λ (r : ReleaseRow). r.seq) rows in
    let at = c.loop-row.row-index in
    let none : drop at rows ≡ [] = drop_all at rows (omega (arith, c.loop-row-test.false)) in
    let all : are_from 1 found ≡ true =
    sym c.loop-row.invariant.1 ∙ ap (λ (rest : List ReleaseRow). are_from c.loop-row.next (map (λ (r : ReleaseRow). r.seq) rest)) none in
    let many : length found ≡ c.args.count = length-map rows (λ (r : ReleaseRow). r.seq) ∙ omega (arith, c.if-rows-count.false) in
    are_numbers 1 found all ∙ ap (numbers 1) many
