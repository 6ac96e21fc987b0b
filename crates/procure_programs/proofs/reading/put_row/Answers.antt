use Rattle.procure_programs.proofs.Names.{◌≡◌, ◌++◌, ◌∙◌, ap, ap₂, append_assoc, codes, decimal}
use Rattle.procure_programs.proofs.reading.put_row.Goals as goal

pub returns : goal.returns
returns c =
    let out = c.args.out.now.items in
    let front = codes ",\"what\":\"row " in
    let text : c.as_bytes.result.now ≡ decimal c.args.number = c.as_bytes.ensures.value ∙ c.format.ensures.text in
    c.in_ok-extend_from_slice-3.ensures.items
    ∙ ap (λ l. l ++ codes "\"") (c.in_ok-extend_from_slice-2.ensures.items ∙ ap₂ (λ a b. a ++ b) c.in_ok-extend_from_slice.ensures.items text)
    ∙ append_assoc (out ++ front) (decimal c.args.number) (codes "\"")
    ∙ append_assoc out front (decimal c.args.number ++ codes "\"")
