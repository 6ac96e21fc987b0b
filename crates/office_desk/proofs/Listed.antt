-- Lists that are built element by element.
use Rattle.office_desk.proofs.Names.{◌≡◌, ℕ, ◌+◌, ◌<◌, List, [], ◌∷◌, ◌++◌, get_or, length, take, sym, ap, append_assoc, append-nil, ◌∙◌, flat_map, flat_map_more, take_more}

-- The list after one more element is written.
pub one_more : {X A : Type 0} (f : X → List A) (front : List A) (xs : List X) (i : ℕ) (x : X) (old new here : List A) → i < length xs → x ≡ get_or xs i x
    → old ≡ front ++ flat_map f (take i xs) → here ≡ f x → new ≡ old ++ here → new ≡ front ++ flat_map f (take (i + 1) xs)
one_more f front xs i x old new here within is so_far this more =
    more ∙ ap (λ l. l ++ here) so_far ∙ ap (λ l. (front ++ flat_map f (take i xs)) ++ l) this ∙ flat_map_more f front (take i xs) x
    ∙ ap (λ l. front ++ flat_map f l) (sym (take_more xs i x within ∙ ap (λ y. take i xs ++ y ∷ []) (sym is)))

-- A line followed by two lists of lines, and a line followed by none.
pub with_both : {A : Type 0} (front head xs ys : List A) → ((front ++ head) ++ xs) ++ ys ≡ front ++ ((head ++ xs) ++ ys)
with_both front head xs ys = ap (λ l. l ++ ys) (append_assoc front head xs) ∙ append_assoc front (head ++ xs) ys

pub with_none : {A : Type 0} (front head : List A) → front ++ head ≡ front ++ ((head ++ []) ++ [])
with_none front head = ap (λ l. front ++ l) (sym (append-nil (head ++ []) ∙ append-nil head))
