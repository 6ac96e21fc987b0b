use Rattle.office_http.proofs.Names.{List, ℕ, ◌++◌, ◌∙◌, ap, codes, head_start}
use Rattle.office_http.proofs.response.ok_head.Goals as goal

pub returns : goal.returns
returns c =
    let start : List ℕ = head_start 200 c.args.media.now c.args.length in
    c.in_ok-extend_from_slice.ensures.items
    ∙ ap (λ (xs : List ℕ). xs ++ codes "\r\nConnection: close\r\n\r\n") (c.in_ok-put_head.ensures ∙ ap (λ (xs : List ℕ). xs ++ start) c.in_ok-out.ensures.items)
