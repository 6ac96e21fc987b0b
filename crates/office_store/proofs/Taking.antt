-- The rows of a join that were taken, and the next row.
use Rattle.office_store.proofs.Names.{◌≡◌, List, [], ◌∷◌, ◌++◌, map, Some, None, refl, sym, ap, subst, ◌∙◌, Row, HasGiven, Advances, Held, state, IsUnchanged, given_begin, Tables, joined, JoinedRow, joined_cells, joined_read, JoinedRowsComeBack, list_joined, HoldsJoined, JoinIsShown, JoinIsBegun, HasTaken}
use Rattle.sqlite_trees.specs.declared.store.Store.{Ghosts}

push : {X : Type 0} (xs : List X) (x : X) (ys : List X) → (xs ++ x ∷ []) ++ ys ≡ xs ++ x ∷ ys
push [] x ys = refl
push (y ∷ xs) x ys = ap (λ l. y ∷ l) (push xs x ys)

map_push : {X Y : Type 0} (f : X → Y) (xs : List X) (x : X) → map f (xs ++ x ∷ []) ≡ map f xs ++ f x ∷ []
map_push f [] x = refl
map_push f (y ∷ xs) x = ap (λ l. f y ∷ l) (map_push f xs x)

-- one more row of the answer is the row of the next joined row
next_is : (taken more : List JoinedRow) (row : Row) (rest : List Row) → (map joined_cells taken ++ row ∷ []) ++ rest ≡ map joined_cells (taken ++ more)
    → (x : JoinedRow) × (left : List JoinedRow) × (more ≡ x ∷ left) × (row ≡ joined_cells x)
next_is [] [] row rest e = absurd cc
next_is [] (x ∷ left) row rest e = (x, left, refl, cc)
next_is (y ∷ ys) more row rest e = next_is ys more row rest cc

came_back : JoinedRowsComeBack → (x : JoinedRow) → joined_read (joined_cells x) ≡ x
came_back back x = let one = back (x ∷ []) in cc

module _ {S : Type 0} (g : Ghosts S) (back : JoinedRowsComeBack) (old new : Held S) (t : Tables) (taken : List JoinedRow) (was : HasTaken g old t taken) where
  pub takes : JoinIsBegun g → (row : Row) (x : JoinedRow) → IsUnchanged (state g old) (state g new) → Advances g old new (Some row) → x ≡ joined_read row
      → HasTaken g new t (taken ++ x ∷ [])
  takes begun row x same on read =
      let given : HasGiven g list_joined [] new (map joined_cells taken ++ row ∷ []) = on list_joined [] (map joined_cells taken) was.given in
      let held : HoldsJoined (state g new).now t = subst (λ d. HoldsJoined d t) (sym same.0.now_is) was.held in
      let all = begun new t (map joined_cells taken ++ row ∷ []) held (given_begin g list_joined [] new (map joined_cells taken ++ row ∷ []) given) in
      let next = next_is taken was.first.0 row all.0 (all.1 ∙ ap (map joined_cells) (sym was.first.1)) in
      let is : x ≡ next.0 = read ∙ ap joined_read next.3 ∙ came_back back next.0 in
      let cells : joined_cells x ≡ row = ap joined_cells is ∙ sym next.3 in
      record {
        given = subst (HasGiven g list_joined [] new) (sym (map_push joined_cells taken x ∙ ap (λ r. map joined_cells taken ++ r ∷ []) cells)) given;
        held = held;
        first = (next.1, push taken x next.1 ∙ ap (λ y. taken ++ y ∷ next.1) is ∙ ap (λ l. taken ++ l) (sym next.2) ∙ was.first.1);
      }

  pub all_taken : JoinIsShown g → Advances g old new None → taken ≡ joined t
  all_taken shown on =
      let e : map joined_cells taken ≡ map joined_cells (joined t) = shown old new t (map joined_cells taken) was.held (on list_joined [] (map joined_cells taken) was.given) in
      sym (back taken) ∙ ap (map joined_read) e ∙ back (joined t)
