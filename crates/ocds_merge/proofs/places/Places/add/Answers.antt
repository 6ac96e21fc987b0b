use Rattle.ocds_merge.proofs.Names.{◌∙◌, ap, sym, subst, ℕ, List, Some, cond, bytes_eq, length, get_by_text, Lacks, IsIndexOf, IndexServes}
use Rattle.ocds_merge.proofs.PlaceLaw.{index_push}
use Rattle.ocds_merge.proofs.places.Places.add.Goals as goal

pub returns-in_ok-put_place : goal.returns-in_ok-put_place
returns-in_ok-put_place c = λ items item serves len lacks named.
    let before = c.in-Some.by_id in
    let index : IsIndexOf before items = subst (λ kept. IndexServes kept items) c.in-Some.is serves in
    index_push before c.put_place.new.by_id items item index (subst (λ (i : List ℕ). Lacks i items) (sym named) lacks)
    (λ i. c.in_ok-put_place.ensures i
    ∙ ap (λ (p : ℕ). cond (bytes_eq c.args.id.now i) (Some p) (get_by_text before i)) (sym len)
    ∙ ap (λ (j : List ℕ). cond (bytes_eq j i) (Some (length items)) (get_by_text before i)) (sym named))
