-- The lines of an array, one more at a time.
use Rattle.procure_config.proofs.Names.{◌≡◌, ℕ, ◌+◌, ◌≤◌, ◌<◌, List, [], ◌∷◌, ◌++◌, length, drop, Option, Some, None, refl, sym, ap, ◌∙◌, append_assoc, get_or, option_map, drop_all, append-nil, Data, Items, item, as_str, items_view, view, items_view-drop, Value, is_line_text, lines_of, if_passing}

-- The value at a place, and the values after it.
from_here : (values : List Value) (i : ℕ) (value : Value) → i < length values → value ≡ get_or values i value
    → items_view (drop i values) ≡ item (view value) (items_view (drop (i + 1) values))
from_here values i value h is = items_view-drop values i value h ∙ ap (λ v. item (view v) (items_view (drop (i + 1) values))) (sym is)

-- The next value is a line.
pub one_more : (values : List Value) (i : ℕ) (value : Value) (done : List (List ℕ)) (line : List ℕ) → i < length values → value ≡ get_or values i value
    → Some line ≡ if_passing is_line_text (as_str (view value))
    → option_map (λ more. done ++ more) (lines_of (items_view (drop i values))) ≡ lines_of (items_view values)
    → option_map (λ more. (done ++ line ∷ []) ++ more) (lines_of (items_view (drop (i + 1) values))) ≡ lines_of (items_view values)
unfolding lines_of
one_more values i value done line h at is so_far =
    step (view value) (items_view (drop (i + 1) values)) is (rw (from_here values i value h at) at so_far)
  where
    append : (more : Option (List (List ℕ))) → option_map (λ more. (done ++ line ∷ []) ++ more) more ≡ option_map (λ more. done ++ more) (option_map (λ lines. line ∷ lines) more)
    append None = refl
    append (Some lines) = ap Some (append_assoc done (line ∷ []) lines)

    step : (first : Data) (rest : Items) → Some line ≡ if_passing is_line_text (as_str first) → option_map (λ more. done ++ more) (lines_of (item first rest)) ≡ lines_of (items_view values)
        → option_map (λ more. (done ++ line ∷ []) ++ more) (lines_of rest) ≡ lines_of (items_view values)
    step first rest passed all = append (lines_of rest) ∙ (rw (← passed) at all)

-- The next value isn't a line.
pub no_more : (values : List Value) (i : ℕ) (value : Value) (done : List (List ℕ)) → i < length values → value ≡ get_or values i value
    → None ≡ if_passing is_line_text (as_str (view value))
    → option_map (λ more. done ++ more) (lines_of (items_view (drop i values))) ≡ lines_of (items_view values) → None ≡ lines_of (items_view values)
unfolding lines_of
no_more values i value done h at is so_far = step (view value) (items_view (drop (i + 1) values)) is (rw (from_here values i value h at) at so_far)
  where
    step : (first : Data) (rest : Items) → None ≡ if_passing is_line_text (as_str first) → option_map (λ more. done ++ more) (lines_of (item first rest)) ≡ lines_of (items_view values)
        → None ≡ lines_of (items_view values)
    step first rest passed all = rw (← passed) at all

-- No value is left.
pub all_done : (values : List Value) (i : ℕ) (done : List (List ℕ)) → length values ≤ i
    → option_map (λ more. done ++ more) (lines_of (items_view (drop i values))) ≡ lines_of (items_view values) → Some done ≡ lines_of (items_view values)
unfolding lines_of
all_done values i done past so_far = sym (ap Some (append-nil done)) ∙ (rw (drop_all i values past) at so_far)
