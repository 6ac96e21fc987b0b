-- Lists of values and the data of lists.
use Rattle.ocds_release.proofs.Names.{◌≡◌, ℕ, List, [], ◌∷◌, length, refl, Vec, Global, arith, rules, ◌∙◌, ap, vec_len, ◌==◌, array, items_view, Value, is_empty_list}

pub is_empty_items : (vs : List Value) → (length vs == 0) ≡ is_empty_list (array (items_view vs))
is_empty_items [] = refl
is_empty_items (v ∷ vs) = grind (arith, rules)

pub is_empty_vec : (v : Vec Value Global) → (vec_len v == 0) ≡ is_empty_list (array (items_view v.items))
is_empty_vec v = let e : vec_len v ≡ length v.items = search (rules, v.ok) in ap (λ (n : ℕ). n == 0) e ∙ is_empty_items v.items
