-- The rows that a select over one table of the office shows.
use Rattle.office_tables.proofs.Names.{◌≡◌, ℕ, Bool, true, false, cond, List, [], ◌∷◌, map, filter, slice_get, option_map, Some, None, refl, sym, ap, ap₂, subst, ◌∙◌, Ordering, Less, Equal, Greater, nat_le, ◌^◌, unwrap_or, take, IsPermutation, take-map, IsTotalOrder, tied_itself, IsAntisymmetric, AllByRecursion, list_all, is_eq, is_lt, eq_by_cmp, Value, Null, Row, Term, eval, holds, Query, as_count, limited, output, output_cmp, Trees, rowid, overlay, Answers, reads_as, by_order, IsInOrder, equal_keys, all_above, all_filter, Stand}
use Rattle.sqlite_sql.specs.Query.{Output}
use Rattle.sqlite_schema.specs.declared.command.Command.TheVariants.{Select}
use Rattle.sqlite.specs.State.{State, Shown}
use Rattle.office_base.specs.Rows.{row_at}
use Rattle.office_tables.proofs.KeptRows.{in_order-rows_kept}
use Rattle.office_tables.proofs.Selected.{selects, comes_back, picked, passes_query}
use Rattle.office_tables.proofs.Selected.{lists as all_in_order}
use Rattle.office_tables.proofs.Meanings.{StatementMeans}
use Rattle.office_tables.proofs.Selecting.{select, capped_select, tested}

filter-none : {X : Type 0} (p : X → Bool) (xs : List X) → AllByRecursion (λ x. p x ≡ false) xs → filter p xs ≡ []
filter-none p [] h = refl
filter-none p (x ∷ xs) h = ap (λ b. cond b (x ∷ filter p xs) (filter p xs)) h.0 ∙ filter-none p xs h.1

pub filter-all : {X : Type 0} (xs : List X) → filter (λ x. true) xs ≡ xs
filter-all [] = refl
filter-all (x ∷ xs) = ap (λ ys. x ∷ ys) (filter-all xs)

all_with : {X : Type 0} (P Q : X → Type 0) (xs : List X) → ((x : X) → P x → Q x) → AllByRecursion P xs → AllByRecursion Q xs
all_with P Q [] f h = tt
all_with P Q (x ∷ xs) f h = (f x h.0, all_with P Q xs f h.1)

slice_get-map : {X Y : Type 0} (f : X → Y) (xs : List X) → slice_get (map f xs) 0 ≡ option_map f (slice_get xs 0)
slice_get-map f [] = refl
slice_get-map f (x ∷ xs) = refl

-- a stored tree isn't one that a statement computes
pub overlaid : (db : Trees) (n : ℕ) → overlay db [] n ≡ db n
overlaid db n = by (nat_le (2 ^ 31) n)
  where
    by : (b : Bool) → unwrap_or (cond b None None) (db n) ≡ db n
    by true = refl
    by false = refl

module _ {K X : Type 0} (R : K → K → Ordering) (total : IsTotalOrder R) (same : IsAntisymmetric R) (key : X → K) where
  -- the first row with a key is the row at that key
  first_at : (p : X → Bool) (k : K) → ((x : X) → p x ≡ eq_by_cmp R k (key x)) → (xs : List X) → IsInOrder R key xs → slice_get (filter p xs) 0 ≡ row_at R key xs k
  unfolding row_at
  first_at p k is [] o = refl
  first_at p k is (x ∷ xs) o = by (R k (key x)) refl (first_at p k is xs o.1)
    where
      by : (c : Ordering) → R k (key x) ≡ c → slice_get (filter p xs) 0 ≡ row_at R key xs k → slice_get (filter p (x ∷ xs)) 0 ≡ by_order c None (Some x) (row_at R key xs k)
      by Less e h =
          let above = all_above total key k (x ∷ xs) e o in
          ap (λ (l : List X). slice_get l 0) (filter-none p (x ∷ xs) (all_with (λ y. R k (key y) ≡ Less) (λ y. p y ≡ false) (x ∷ xs) (λ y below. is y ∙ ap is_eq below) above))
      by Equal e h = ap (λ b. slice_get (cond b (x ∷ filter p xs) (filter p xs)) 0) (is x ∙ ap is_eq e)
      by Greater e h = ap (λ b. slice_get (cond b (x ∷ filter p xs) (filter p xs)) 0) (is x ∙ ap is_eq e) ∙ h

  -- rows with the same key tie in the order
  tied_keys : (p : X → Bool) (k : K) → ((x : X) → p x ≡ eq_by_cmp R k (key x)) → (x y : X) → p x ≡ true → p y ≡ true → false ≡ is_lt (R (key x) (key y))
  tied_keys p k is x y a b =
      let one : k ≡ key x = equal_keys same k (key x) (sym (is x) ∙ a) in
      let two : k ≡ key y = equal_keys same k (key y) (sym (is y) ∙ b) in
      sym (ap is_lt (ap₂ (λ u v. R u v) (sym one) (sym two) ∙ tied_itself total k))

  module _ (form : Value → X → Row) (decode : Row → X) (encode : X → Row) (read : Row → X) (reads : (v : Value) (x : X) → decode (form v x) ≡ read (encode x)) where
    read_back : (sorts : X → Row) (xs : List X) → AllByRecursion (λ x. read (encode x) ≡ x) xs → map read (map (λ (o : Output). o.1) (map (λ x. (sorts x, encode x)) xs)) ≡ xs
    read_back sorts [] h = refl
    read_back sorts (x ∷ xs) h = λ i. h.0 i ∷ read_back sorts xs h.1 i

    module _ (old new : State) (rows : List Row) (n : ℕ) (xs : List X) (stand : Stand R key form decode (old.now.trees n) xs)
        (text : List ℕ) (params : Row) (tests shown order : List ℕ) (names : List (List ℕ)) (means : StatementMeans old.now.schema text (Select (record { lets = []; body = select n tests shown order }) names))
        (p : X → Bool) (passing : (v : Value) (x : X) → list_all (holds (params ∷ form v x ∷ [])) (tested 0 tests) ≡ p x) where
      -- the rows that are shown of those that pass the tests
      pub shows_rows : (out : X → Output) → ((v : Value) (x : X) → output (select n tests shown order) (params ∷ form v x ∷ []) ≡ out x)
          → ((x y : X) → p x ≡ true → p y ≡ true → is_lt (output_cmp (select n tests shown order) (out x) (out y)) ≡ is_lt (R (key x) (key y)))
          → Shown text params old new rows → rows ≡ map (λ (o : Output). o.1) (map out (filter p xs))
      shows_rows out shows agrees h =
          let a : Answers old.now (record { lets = []; body = select n tests shown order }) params rows = reads_as text params old new old.now.schema refl _ means.is means.plain means.unlisted rows h in
          let here = a.answer Null in
          selects R total same key form decode (select n tests shown order) params p out passing shows agrees old.now.trees n rows stand.kept here
          (subst (λ tree. here.staged ≡ picked (passes_query (select n tests shown order) params) (λ r. params ∷ r ∷ []) tree) (overlaid old.now.trees n) here.grouped) here.distinct here.shown
          ∙ ap (λ ys. map (λ (o : Output). o.1) (map out (filter p ys))) stand.is

      back : AllByRecursion (λ x. read (encode x) ≡ x) (filter p xs)
      back = all_filter _ p xs (subst (AllByRecursion (λ x. read (encode x) ≡ x)) stand.is (comes_back R total same key form decode (old.now.trees n) stand.kept encode read reads))

      -- the records that pass the tests, in the order of their keys
      pub lists : (sorts : X → Row) → ((v : Value) (x : X) → output (select n tests shown order) (params ∷ form v x ∷ []) ≡ (sorts x, encode x))
          → ((x y : X) → is_lt (output_cmp (select n tests shown order) (sorts x, encode x) (sorts y, encode y)) ≡ is_lt (R (key x) (key y)))
          → Shown text params old new rows → map read rows ≡ filter p xs
      lists sorts shows agrees h = ap (map read) (shows_rows (λ x. (sorts x, encode x)) shows (λ x y a b. agrees x y) h) ∙ read_back sorts (filter p xs) back

      -- the record at a key
      pub gets : (k : K) → ((x : X) → p x ≡ eq_by_cmp R k (key x)) → ((v : Value) (x : X) → output (select n tests shown order) (params ∷ form v x ∷ []) ≡ ([], encode x))
          → ((a b : Output) → output_cmp (select n tests shown order) a b ≡ Equal) → Shown text params old new rows → option_map read (slice_get rows 0) ≡ row_at R key xs k
      gets k is shows unordered h =
          sym (slice_get-map read rows)
          ∙ ap (λ (l : List X). slice_get l 0) (ap (map read) (shows_rows (λ x. ([], encode x)) shows (λ x y a b. ap is_lt (unordered ([], encode x) ([], encode y)) ∙ tied_keys p k is x y a b) h) ∙ read_back (λ x. []) (filter p xs) back)
          ∙ first_at p k is xs (subst (IsInOrder R key) stand.is (in_order-rows_kept R total same key form decode (old.now.trees n)))

    -- the first rows that pass the tests
    module _ (old new : State) (rows : List Row) (n : ℕ) (xs : List X) (stand : Stand R key form decode (old.now.trees n) xs)
        (text : List ℕ) (params : Row) (tests : List Term) (shown order : List ℕ) (limit : Term) (names : List (List ℕ)) (means : StatementMeans old.now.schema text (Select (record { lets = []; body = capped_select n tests shown order limit }) names))
        (p : X → Bool) (passing : (v : Value) (x : X) → list_all (holds (params ∷ form v x ∷ [])) tests ≡ p x) (most : ℕ) (counts : as_count (eval limit (params ∷ [])) ≡ Some most) where
      abbrev q : Query
      q = capped_select n tests shown order limit

      come_back : AllByRecursion (λ x. read (encode x) ≡ x) (filter p xs)
      come_back = all_filter _ p xs (subst (AllByRecursion (λ x. read (encode x) ≡ x)) stand.is (comes_back R total same key form decode (old.now.trees n) stand.kept encode read reads))

      pub pages : (sorts : X → Row) → ((v : Value) (x : X) → output q (params ∷ form v x ∷ []) ≡ (sorts x, encode x))
          → ((x y : X) → is_lt (output_cmp q (sorts x, encode x) (sorts y, encode y)) ≡ is_lt (R (key x) (key y)))
          → Shown text params old new rows → map read rows ≡ take most (filter p xs)
      pages sorts shows agrees h =
          let a : Answers old.now (record { lets = []; body = q }) params rows = reads_as text params old new old.now.schema refl _ means.is means.plain means.unlisted rows h in
          let here = a.answer Null in
          let staged : here.staged ≡ picked (passes_query q params) (λ r. params ∷ r ∷ []) (old.now.trees n)
          = subst (λ tree. here.staged ≡ picked (passes_query q params) (λ r. params ∷ r ∷ []) tree) (overlaid old.now.trees n) here.grouped in
          let ordered : here.ordered ≡ map out (filter p xs)
          = all_in_order R total same key form decode (passes_query q params) (λ r. params ∷ r ∷ []) (output q) p out (output_cmp q)
          (λ r x e. ap (passes_query q params) e ∙ passing (rowid r) x)
          (λ r x e. ap (λ z. output q (params ∷ z ∷ [])) e ∙ shows (rowid r) x)
          (λ x y e f. agrees x y) (old.now.trees n) stand.kept here.ordered (subst (λ l. IsPermutation l here.ordered) (here.distinct ∙ ap (map (output q)) staged) here.same) here.sorted
          ∙ ap (λ ys. map out (filter p ys)) stand.is in
          ap (map read) (here.shown ∙ ap (λ o. limited o (map (λ (o : Output). o.1) here.ordered)) counts ∙ ap (λ os. take most (map (λ (o : Output). o.1) os)) ordered)
          ∙ sym (take-map read most (map (λ (o : Output). o.1) (map out (filter p xs))))
          ∙ ap (take most) (read_back sorts (filter p xs) come_back)
        where
          out : X → Output
          out x = (sorts x, encode x)
