-- The item records of a tender, as a loop collects them, and their sums.
use Rattle.tender_papers.proofs.Names.{◌≡◌, ℕ, List, [], ◌∷◌, ◌++◌, Option, Some, None, refl, sym, ap, ◌∙◌, append_assoc, append-nil, Bool, true, false, ◌&&◌, cond, option_map, option_and_then, is_some, filter_map, list_all, cons_option, but_last, last_of, Paper, paper_below_head, is_item, item_record_of, item_of_four, stated_of, stated_of_four, tender_ended_by, ItemRecord}

-- item records that were read before, and then the content of the rest
abbrev pub body_before : List ItemRecord → Option Paper → Option Paper
body_before front body = option_map (λ p. (front ++ p.0, p.1)) body

-- four fields of which the second isn't empty state no sum
unstated : (a b c : Bool) (n : Option ℕ) → b ≡ false → cond ((a && b) && c) n None ≡ None
unstated true true c n h = cc h
unstated true false c n h = refl
unstated false b c n h = refl

no_sum_of_four : (a b c d : List ℕ) (row : ItemRecord) → Some row ≡ item_of_four (a, b, c, d) → stated_of_four (a, b, c, d) ≡ None
no_sum_of_four a [] c d row h = cc h
no_sum_of_four a (x ∷ xs) c d row h = unstated _ _ _ _ refl

-- an item record states no sum
no_sum : (r : List (List ℕ)) (row : ItemRecord) → Some row ≡ item_record_of r → stated_of r ≡ None
no_sum [] row h = refl
no_sum (a ∷ []) row h = refl
no_sum (a ∷ b ∷ []) row h = refl
no_sum (a ∷ b ∷ c ∷ []) row h = refl
no_sum (a ∷ b ∷ c ∷ d ∷ []) row h = no_sum_of_four a b c d row h
no_sum (a ∷ b ∷ c ∷ d ∷ e ∷ rest) row h = refl

-- the content of a record, of which this item record was read or none, and of the records after it
abbrev body_with : Option ItemRecord → Bool → List ItemRecord → Option ℕ → Option Paper
body_with row all rows stated = cond (is_some row && all) (option_map (λ s. (cons_option row rows, s)) stated) None

with_row : (front : List ItemRecord) (row : ItemRecord) (all : Bool) (rows : List ItemRecord) (stated : Option ℕ)
    → body_before front (body_with (Some row) all rows stated) ≡ body_before (front ++ row ∷ []) (cond all (option_map (λ s. (rows, s)) stated) None)
with_row front row false rows stated = refl
with_row front row true rows None = refl
with_row front row true rows (Some s) = ap (λ (rs : List ItemRecord). Some (rs, s)) (sym (append_assoc front (row ∷ []) rows))

-- after an item record, the loop has that record more
pub body_more : (front : List ItemRecord) (r : List (List ℕ)) (rs : List (List (List ℕ))) (row : ItemRecord) → Some row ≡ item_record_of r
    → body_before front (paper_below_head (r ∷ rs)) ≡ body_before (front ++ row ∷ []) (paper_below_head rs)
unfolding paper_below_head but_last last_of
body_more front r [] row is = ap (λ (o : Option ℕ). body_before front (option_map (λ s. ([], s)) o)) (no_sum r row is)
body_more front r (x ∷ rs) row is =
    let below = but_last (x ∷ rs) in
    let stated = option_and_then stated_of (last_of (x ∷ rs)) in
    ap (λ o. body_before front (body_with o (list_all is_item below) (filter_map item_record_of below) stated)) (sym is)
    ∙ with_row front row (list_all is_item below) (filter_map item_record_of below) stated

-- after a record that isn't an item record, the content is decided by `tender_ended_by`
pub body_stops : (front : List ItemRecord) (r : List (List ℕ)) (rs : List (List (List ℕ))) → None ≡ item_record_of r → body_before front (paper_below_head (r ∷ rs)) ≡ tender_ended_by front r rs
unfolding paper_below_head but_last last_of
body_stops front r [] no_item = by (stated_of r)
  where
    by : (stated : Option ℕ) → body_before front (option_map (λ s. ([], s)) stated) ≡ option_map (λ s. (front, s)) stated
    by None = refl
    by (Some s) = ap (λ (rs : List ItemRecord). Some (rs, s)) (append-nil front)
body_stops front r (x ∷ rs) no_item =
    let below = but_last (x ∷ rs) in
    ap (λ o. body_before front (body_with o (list_all is_item below) (filter_map item_record_of below) (option_and_then stated_of (last_of (x ∷ rs))))) (sym no_item)

-- without a closing record, the file isn't a tender
pub body_none : (front : List ItemRecord) → body_before front (paper_below_head []) ≡ None
unfolding paper_below_head but_last last_of
body_none front = refl
