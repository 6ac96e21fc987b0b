-- Lots in the order of their identifiers.
use Rattle.ocds_release.proofs.Names.{◌≡◌, ◌<◌, ◌≤◌, ℕ, zero, suc, List, [], ◌∷◌, ◌++◌, map, take, length, get_or, true, false, Ordering, Less, Equal, Greater, refl, sym, ap, ◌∙◌, arith, true≢false, Bor, insert, match_ordering, is_lt, id_cmp, lot_id, NewLot, insert_by_id, AreEarlier}

pub earlier_push : (id : List ℕ) (ds : List (List ℕ)) (d : List ℕ) → AreEarlier id ds → is_lt (id_cmp d id) ≡ true → AreEarlier id (ds ++ d ∷ [])
earlier_push id [] d h e = (e, tt)
earlier_push id (x ∷ ds) d h e = (h.0, earlier_push id ds d h.1 e)

less : {A : Type 0} (o : Ordering) (a b : A) → is_lt o ≡ true → match_ordering o a b b ≡ a
less Less a b e = refl
less Equal a b e = absurd (true≢false (sym e))
less Greater a b e = absurd (true≢false (sym e))

not_less : {A : Type 0} (o : Ordering) (a b : A) → is_lt o ≡ false → match_ordering o a b b ≡ b
not_less Less a b e = absurd (true≢false e)
not_less Equal a b e = refl
not_less Greater a b e = refl

pub insert_is : (d : NewLot) (ds : List NewLot) (p : ℕ) → p ≤ length ds → AreEarlier d.id (take p (map lot_id ds))
    → (p < length ds → is_lt (id_cmp (get_or (map lot_id ds) p []) d.id) ≡ false) → insert_by_id d ds ≡ insert ds p d
insert_is d [] zero low before after = refl
insert_is d [] (suc p) low before after = absurd (omega arith)
insert_is d (e ∷ es) zero low before after = not_less _ _ _ (after (omega arith))
insert_is d (e ∷ es) (suc p) low before after =
    less _ _ _ before.0 ∙ ap (λ (r : List NewLot). e ∷ r) (insert_is d es p (omega arith) before.1 (λ h. after (omega arith)))

pub map_insert : {A B : Type 0} (f : A → B) (xs : List A) (p : ℕ) (x : A) → map f (insert xs p x) ≡ insert (map f xs) p (f x)
map_insert f xs zero x = refl
map_insert f [] (suc p) x = refl
map_insert f (y ∷ xs) (suc p) x = ap (λ r. f y ∷ r) (map_insert f xs p x)

pub ids_twice : (xs : List (Bor NewLot)) → map (λ (r : Bor NewLot). r.now.id) xs ≡ map lot_id (map (λ (r : Bor NewLot). r.now) xs)
ids_twice [] = refl
ids_twice (x ∷ xs) = ap (λ (r : List (List ℕ)). x.now.id ∷ r) (ids_twice xs)
