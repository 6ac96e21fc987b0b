use Rattle.office_store.proofs.Names.{◌≡◌, [], ◌∷◌, List, Bool, Bor, ℕ, ◌||◌, map, refl, sym, ap, ◌∙◌, list_any, is_used, OfficeTable, table_of, all_tables}
use Rattle.office_store.proofs.found.takes_a_name.Goals as goal

any_mapped : {X Y : Type 0} (p : Y → Bool) (f : X → Y) (xs : List X) → list_any (λ x. p (f x)) xs ≡ list_any p (map f xs)
any_mapped p f [] = refl
any_mapped p f (x ∷ xs) = ap (λ b. p (f x) || b) (any_mapped p f xs)

pub returns : goal.returns
returns c =
    let taken = is_used c.args.schema.now in
    c.any_is_used.ensures ∙ any_mapped taken (λ (name : Bor (List ℕ)). name.now) c.table_names-names.result ∙ ap (list_any taken) c.table_names-names.ensures
    ∙ sym (any_mapped taken (λ (k : OfficeTable). (table_of k).name) all_tables)
