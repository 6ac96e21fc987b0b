use Rattle.office_plans.proofs.Names.{arith, ◌≡◌, [], ◌∷◌, ◌++◌, ◌+◌, take, ap, sym, ◌∙◌, take_more, take_all, begin_array, end_array, json_object, value_tokens}
use Rattle.office_plans.proofs.Printed.{one_row, row_tokens, rows_written}
use Rattle.office_plans.proofs.objects.write_rows.Goals as goal

pub loop-row-preserved : goal.loop-row-preserved
loop-row-preserved g c =
    let rows = c.args.rows.now in
    let row = c.row-item.result in
    let members = g.O.RowObject.members_of c.args.shown.now in
    let front = c.args.out.now.tokens ++ begin_array ∷ [] in
    let done = take c.loop-row.row-index rows in
    let more : take (c.loop-row.row-index + 1) rows ≡ done ++ row ∷ [] =
    take_more rows c.loop-row.row-index row c.loop-row-test.true ∙ ap (λ r. done ++ r ∷ []) (sym c.row-item.is) in (
      c.in_ok-write.ensures.0 ∙ c.loop-row.invariant.0,
      c.in_ok-write.ensures.1 ∙ ap (λ ts. ts ++ value_tokens (json_object (members row))) c.loop-row.invariant.1
          ∙ one_row members front done row ∙ ap (λ l. front ++ row_tokens members l) (sym more),
    )

pub returns : goal.returns
returns g c =
    let rows = c.args.rows.now in
    let members = g.O.RowObject.members_of c.args.shown.now in
    let front = c.args.out.now.tokens in
    let all : take c.loop-row.row-index rows ≡ rows = take_all c.loop-row.row-index rows (omega arith) in (
      c.in_ok-end_array.ensures.room.0 ∙ c.loop-row.invariant.0,
      c.in_ok-end_array.ensures.ok
          ∙ ap (λ ts. ts ++ end_array ∷ []) (c.loop-row.invariant.1 ∙ ap (λ l. (front ++ begin_array ∷ []) ++ row_tokens members l) all)
          ∙ rows_written members front rows,
    )
