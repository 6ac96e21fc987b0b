use Rattle.office_desk.proofs.Names.{◌≡◌, sym, map, take, codes, subst, List, ℕ, Option, IfOk, map-map, TendererRow, page_limit, next_after, tenderer_key, Member, object_text, listed_tenderer_entries, page_entries, listed_tenderer}
use Rattle.office_desk.proofs.queries.tenderers.tenderers_text.Goals as goal

pub returns : goal.returns
returns c =
    let text = λ (next : Option (List ℕ)) (rows : List (List Member)). object_text (page_entries next (codes "tenderers") rows) in
    let one : Option (List ℕ) → Type 0 = λ next. IfOk c.rows_text.result (λ t. t.items ≡ text next (map (λ r. listed_tenderer_entries (listed_tenderer r)) c.page_of-page.result.now)) in
    let two : List TendererRow → Type 0 = λ page. IfOk c.rows_text.result (λ t. t.items
    ≡ text (next_after tenderer_key page_limit c.args.rows.now) (map (λ r. listed_tenderer_entries (listed_tenderer r)) page)) in
    let three : List (List Member) → Type 0 = λ rows. IfOk c.rows_text.result (λ t. t.items ≡ text (next_after tenderer_key page_limit c.args.rows.now) rows) in
    subst three (sym (map-map listed_tenderer_entries listed_tenderer (take page_limit c.args.rows.now)))
    (subst two c.page_of-page.ensures (subst one c.next_after-next.ensures c.rows_text.ensures))
