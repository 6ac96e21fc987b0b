-- Columns that are named with their tables, in a scope of several tables, in any schema that has them.
use Rattle.office_ledger.proofs.Names.{◌≡◌, ◌∷◌, [], ◌++◌, ◌-◌, List, Ok, None, Some, refl, ap, ◌∙◌, false, true, ℕ, zero, suc, slice_get, nat_lt, map, Binary, Key, Term, col, op2, Table, Column, place_of, Expr, out-Expr, roll-Expr, Expr-F, Shown-F, out-Shown, roll-Shown, Sort, out-Sort, roll-Sort, out-roll-Sort, Carried, Bound, Affinity, Name, Context, find, term_of, column_at, declared, Checked, Lowering, nothing, alone, chosen, first_found, spend, begin, finish, compared, affinity_of, of_column, of_declared, converted, node, passes, lower_to, lower, everything, out_parameter, at_budget}
use Rattle.sqlite_sql.specs.declared.ops.BinaryOp.TheVariants as by
use Rattle.sqlite_sql.specs.declared.ops.CompareOp.TheVariants as compare
use Rattle.sqlite_ast.specs.declared.Binary.TheVariants as binary
use Rattle.sqlite_ast.specs.declared.Shown.{Shown}
use Rattle.sqlite_resolve.specs.declared.state.State.{State}
use Rattle.sqlite_resolve.specs.declared.scope.Output.{Output}
use Rattle.sqlite_resolve.specs.declared.scope.Found.TheVariants as found
use Rattle.sqlite_resolve.specs.declared.compare.Affinity.TheVariants as affinity
use Rattle.sqlite_resolve.specs.Scope.{column}
use Rattle.sqlite_resolve.specs.Expr.{opened}
use Rattle.sqlite_resolve.specs.Body as body
use Rattle.sqlite_resolve.specs.Order as order
use Rattle.office_tables.proofs.LoweredTests as tests

-- the collation of a column of a table
abbrev pub plainly : Carried
plainly = record { collation = Some Binary; is_written = false }

-- the collation of the rowid, and of the other columns
abbrev pub carried_by : ℕ → Carried
carried_by zero = nothing
carried_by (suc place) = plainly

alone_is : (row : ℕ) → alone (carried_by row) ≡ Binary
unfolding alone
alone_is zero = refl
alone_is (suc place) = refl

chosen_is : (a b : ℕ) → chosen (carried_by a) (carried_by b) ≡ Binary
unfolding chosen first_found
chosen_is zero zero = refl
chosen_is zero (suc b) = refl
chosen_is (suc a) zero = refl
chosen_is (suc a) (suc b) = refl

-- A column as a text names it: its table, its text, the slot of the table, its place in the table and in a row, and its declaration.
pub record Pick : Type 0 where
  pub table : Name
  pub text : Name
  pub slot : ℕ
  pub place : ℕ
  pub row : ℕ
  pub column : Column

abbrev pub pick_e : Pick → Expr
pick_e p = roll-Expr (Expr-F.Column (Some p.table) p.column.name)

abbrev pub shown_of : Pick → Shown
shown_of p = roll-Shown (Shown-F.One (pick_e p) None p.text)

abbrev pub sort_of : Pick → Sort
sort_of p = roll-Sort (record { key = pick_e p; descending = false; nulls_first = None })

abbrev pub equals_e : Pick → Pick → Expr
equals_e p q = roll-Expr (Expr-F.Binary binary.Eq (pick_e p) (pick_e q))

out_pick : (p : Pick) → out-Expr (pick_e p) ≡ Expr-F.Column (Some p.table) p.column.name
unfolding everything
out_pick p = refl

out_shown : (p : Pick) → out-Shown (shown_of p) ≡ Shown-F.One (pick_e p) None p.text
unfolding everything
out_shown p = refl

out_equals : (p q : Pick) → out-Expr (equals_e p q) ≡ Expr-F.Binary binary.Eq (pick_e p) (pick_e q)
unfolding everything
out_equals p q = refl

abbrev pub term_of_pick : Pick → Term
term_of_pick p = col p.slot p.row

-- the scope finds the column
pub record Finds (cx : Context) (p : Pick) : Type 0 where
  pub at : ℕ
  pub whose : Table
  pub finds : find cx (Some p.table) p.column.name ≡ Ok (found.Column p.slot at p.place)
  pub found : slice_get cx.schema.tables at ≡ Some whose
  pub stands : slice_get whose.columns p.place ≡ Some p.column
  pub placed : place_of whose p.place ≡ p.row
  pub carries : declared whose p.place p.column ≡ carried_by p.row
  pub typed : of_column cx p.slot p.row ≡ of_declared p.column

module _ (cx : Context) (p : Pick) (h : Finds cx p) where
  column_is : (s : State) → column cx (Some p.table) p.column.name s ≡ Ok (term_of_pick p, record s { last = carried_by p.row })
  unfolding column term_of column_at
  column_is s = rw (h.finds, h.found, h.stands, h.placed, h.carries)

  node_is : (low : Context → Expr → Lowering Term) (n b : ℕ) (l : Carried) → nat_lt 1 b ≡ true → node low cx (pick_e p) (at_budget n b l) ≡ Ok (term_of_pick p, at_budget n (b - 1) (carried_by p.row))
  unfolding node spend begin opened finish passes
  node_is low n b l enough = rw (enough, out_pick p, column_is (at_budget n (b - 1) nothing))

  pub lower_is : (d n b : ℕ) (l : Carried) → nat_lt 1 b ≡ true → lower_to (suc d) cx (pick_e p) (at_budget n b l) ≡ Ok (term_of_pick p, at_budget n (b - 1) (carried_by p.row))
  lower_is d n b l enough = tests.lowered d cx (pick_e p) (at_budget n b l) _ (node_is (lower_to d) n b l enough)

  abbrev pub output : Output
  output = record { name = p.column.name; is_alias = false; is_column = true; term = term_of_pick p; carried = carried_by p.row }

  heading_is : body.heading cx (pick_e p) p.text ≡ p.column.name
  unfolding body.heading body.declared
  heading_is = rw (out_pick p, h.finds, h.found, h.stands)

  is_column_is : body.is_column (pick_e p) ≡ true
  unfolding body.is_column
  is_column_is = rw (out_pick p)

  -- one more column of the result
  shown_is : (bounds : List Bound) (done : List Output) (n b : ℕ) (l : Carried) → nat_lt 1 b ≡ true
      → body.shown lower cx bounds done (shown_of p) (at_budget n b l) ≡ Ok (done ++ output ∷ [], at_budget n (b - 1) (carried_by p.row))
  unfolding body.shown
  shown_is bounds done n b l enough = rw (out_shown p, lower_is 699 n b l enough, heading_is, is_column_is)

  pub then_shown : (bounds : List Bound) (done : List Output) (more : List Shown) (n b : ℕ) (l : Carried) (r : Checked (List Output × State)) → nat_lt 1 b ≡ true
      → body.outputs_from lower cx bounds (done ++ output ∷ []) more (at_budget n (b - 1) (carried_by p.row)) ≡ r
      → body.outputs_from lower cx bounds done (shown_of p ∷ more) (at_budget n b l) ≡ r
  then_shown bounds done more n b l r enough rest = rw (shown_is bounds done n b l enough) rest

  -- one more column to sort by
  out_sort : out-Sort (sort_of p) ≡ record { key = pick_e p; descending = false; nulls_first = None }
  out_sort = out-roll-Sort (record { key = pick_e p; descending = false; nulls_first = None })

  peeled_is : order.peeled (pick_e p) ≡ pick_e p
  unfolding order.peeled
  peeled_is = rw (out_pick p)

  alias_is : (shown : List Output) → order.alias_in shown (pick_e p) ≡ None
  unfolding order.alias_in
  alias_is shown = rw (out_pick p)

  numeral_is : order.is_numeral (pick_e p) ≡ false
  unfolding order.is_numeral
  numeral_is = rw (out_pick p)

  written_is : order.written_on (pick_e p) ≡ None
  unfolding order.written_on
  written_is = rw (out_pick p)

  collation_is : (n b : ℕ) → order.collation_of (pick_e p) (at_budget n b (carried_by p.row)) ≡ Ok (Binary, at_budget n b (carried_by p.row))
  unfolding order.collation_of
  collation_is n b = rw (written_is, alone_is p.row)

  key_is : (shown : List Output) (n b : ℕ) (l : Carried) → nat_lt 1 b ≡ true → nat_lt p.slot 1 ≡ false → order.key lower cx shown (pick_e p) (at_budget n b l) ≡ Ok (term_of_pick p, at_budget n (b - 1) (carried_by p.row))
  unfolding order.key
  key_is shown n b l enough later = rw (lower_is 699 n b l enough, numeral_is, later)

  abbrev pub key : Term × Key
  key = (term_of_pick p, record { collation = Binary; descending = false })

  sort_by : (s : Sort) → (out-Sort s).key ≡ pick_e p → (out-Sort s).descending ≡ false → (out-Sort s).nulls_first ≡ None
      → (shown : List Output) (done : List (Term × Key)) (n b : ℕ) (l : Carried) → nat_lt 1 b ≡ true → nat_lt p.slot 1 ≡ false
      → order.sort lower cx shown done s (at_budget n b l) ≡ Ok (done ++ key ∷ [], at_budget n (b - 1) (carried_by p.row))
  unfolding order.sort order.placed
  sort_by s is up unplaced shown done n b l enough later = rw (is, peeled_is, alias_is shown, key_is shown n b l enough later, collation_is n (b - 1), up, unplaced)

  sort_is : (shown : List Output) (done : List (Term × Key)) (n b : ℕ) (l : Carried) → nat_lt 1 b ≡ true → nat_lt p.slot 1 ≡ false
      → order.sort lower cx shown done (sort_of p) (at_budget n b l) ≡ Ok (done ++ key ∷ [], at_budget n (b - 1) (carried_by p.row))
  sort_is = sort_by (sort_of p) (ap (λ r. r.key) out_sort) (ap (λ r. r.descending) out_sort) (ap (λ r. r.nulls_first) out_sort)

  pub then_sorted : (shown : List Output) (done : List (Term × Key)) (more : List Sort) (n b : ℕ) (l : Carried) (r : Checked (List (Term × Key) × State)) → nat_lt 1 b ≡ true → nat_lt p.slot 1 ≡ false
      → order.sorts_from lower cx shown (done ++ key ∷ []) more (at_budget n (b - 1) (carried_by p.row)) ≡ r
      → order.sorts_from lower cx shown done (sort_of p ∷ more) (at_budget n b l) ≡ r
  then_sorted shown done more n b l r enough later rest = rw (sort_is shown done n b l enough later) rest

-- ---- tests of ON

same_kind : (a : Affinity) (t : Term) → converted a a t ≡ t
unfolding converted
same_kind affinity.Numeric t = refl
same_kind affinity.Loose t = refl
same_kind affinity.Text t = refl
same_kind affinity.Blob t = refl
same_kind affinity.None t = refl

module _ (cx : Context) (p q : Pick) (h : Finds cx p) (k : Finds cx q) (alike : of_declared p.column ≡ of_declared q.column) where
  abbrev pub test : Term
  test = op2 (by.Compare compare.Eq Binary) (term_of_pick p) (term_of_pick q)

  compares : compared cx (by.Compare compare.Eq Binary) (term_of_pick p) (term_of_pick q) ≡ test
  unfolding compared affinity_of
  compares = rw (h.typed, k.typed, alike, same_kind (of_declared q.column) (term_of_pick p), same_kind (of_declared q.column) (term_of_pick q))

  -- `p = q`
  pub equal_is : (d n b : ℕ) (l : Carried) → nat_lt 1 b ≡ true → nat_lt 1 (b - 1) ≡ true → nat_lt 1 (b - 1 - 1) ≡ true
      → lower_to (suc (suc d)) cx (equals_e p q) (at_budget n b l) ≡ Ok (test, at_budget n (b - 1 - 1 - 1) nothing)
  equal_is d n b l one two three =
      tests.equal_is cx (equals_e p q) (pick_e p) (pick_e q) _ _ n b _ _ l _ _ one (suc d) (out_equals p q) (lower_is cx p h d n (b - 1) nothing two) (lower_is cx q k d n (b - 1 - 1) (carried_by p.row) three)
      ∙ ap (λ t. Ok (t, at_budget n (b - 1 - 1 - 1) nothing)) (ap (λ o. compared cx (by.Compare compare.Eq o) (term_of_pick p) (term_of_pick q)) (chosen_is p.row q.row) ∙ compares)

-- ---- tests of WHERE

abbrev pub parameter_e : ℕ → Expr
parameter_e m = roll-Expr (Expr-F.Parameter m)

abbrev pub given_e : Pick → ℕ → Expr
given_e p m = roll-Expr (Expr-F.Binary binary.Eq (pick_e p) (parameter_e m))

out_given : (p : Pick) (m : ℕ) → out-Expr (given_e p m) ≡ Expr-F.Binary binary.Eq (pick_e p) (parameter_e m)
unfolding everything
out_given p m = refl

module _ (cx : Context) (p : Pick) (h : Finds cx p) (kind : of_declared p.column ≡ affinity.Text) where
  -- the first parameter, compared with a column of texts
  abbrev pub given : Term
  given = op2 (by.Compare compare.Eq Binary) (term_of_pick p) (col 0 0)

  given_compares : compared cx (by.Compare compare.Eq Binary) (term_of_pick p) (col 0 0) ≡ given
  unfolding compared affinity_of converted Rattle.sqlite_resolve.specs.Compare.spelled of_column
  given_compares = rw (typed_text) refl
    where
      typed_text : of_column cx p.slot p.row ≡ affinity.Text
      typed_text = h.typed ∙ kind

  -- `p = ?1`
  pub given_is : (d n b : ℕ) (l : Carried) → nat_lt 1 b ≡ true → nat_lt 1 (b - 1) ≡ true → nat_lt 1 (b - 1 - 1) ≡ true
      → lower_to (suc (suc d)) cx (given_e p 1) (at_budget n b l) ≡ Ok (given, at_budget n (b - 1 - 1 - 1) nothing)
  given_is d n b l one two three =
      tests.equal_is cx (given_e p 1) (pick_e p) (parameter_e 1) _ _ n b _ _ l _ _ one (suc d) (out_given p 1) (lower_is cx p h d n (b - 1) nothing two) (tests.parameter_is d cx (parameter_e 1) 1 n (b - 1 - 1) (carried_by p.row) (out_parameter 1) three)
      ∙ ap (λ t. Ok (t, at_budget n (b - 1 - 1 - 1) nothing)) (ap (λ o. compared cx (by.Compare compare.Eq o) (term_of_pick p) (col 0 0)) (chosen_is p.row 0) ∙ given_compares)

-- ---- several columns

module _ (cx : Context) where
  abbrev pub AllFound : ℕ → List Pick → Type 0
  AllFound b [] = Unit {0}
  AllFound b (p ∷ ps) = Finds cx p × (nat_lt 1 b ≡ true) × AllFound (b - 1) ps

  abbrev pub spent : ℕ → List Pick → ℕ
  spent b [] = b
  spent b (p ∷ ps) = spent (b - 1) ps

  abbrev pub left_by : Carried → List Pick → Carried
  left_by l [] = l
  left_by l (p ∷ ps) = left_by (carried_by p.row) ps

  abbrev pub output_of : Pick → Output
  output_of p = record { name = p.column.name; is_alias = false; is_column = true; term = term_of_pick p; carried = carried_by p.row }

  abbrev pub outputs_of : List Output → List Pick → List Output
  outputs_of done [] = done
  outputs_of done (p ∷ ps) = outputs_of (done ++ output_of p ∷ []) ps

  abbrev pub keys_of : List (Term × Key) → List Pick → List (Term × Key)
  keys_of done [] = done
  keys_of done (p ∷ ps) = keys_of (done ++ (term_of_pick p, record { collation = Binary; descending = false }) ∷ []) ps

  pub outputs_are : (bounds : List Bound) (done : List Output) (ps : List Pick) (n b : ℕ) (l : Carried) → AllFound b ps
      → body.outputs_from lower cx bounds done (map shown_of ps) (at_budget n b l) ≡ Ok (outputs_of done ps, at_budget n (spent b ps) (left_by l ps))
  outputs_are bounds done [] n b l h = refl
  outputs_are bounds done (p ∷ ps) n b l h = then_shown cx p h.0 bounds done (map shown_of ps) n b l _ h.1 (outputs_are bounds (done ++ output_of p ∷ []) ps n (b - 1) (carried_by p.row) h.2)

  abbrev pub AreLater : List Pick → Type 0
  AreLater [] = Unit {0}
  AreLater (p ∷ ps) = (nat_lt p.slot 1 ≡ false) × AreLater ps

  pub sorts_are : (shown : List Output) (done : List (Term × Key)) (ps : List Pick) (n b : ℕ) (l : Carried) → AllFound b ps → AreLater ps
      → order.sorts_from lower cx shown done (map sort_of ps) (at_budget n b l) ≡ Ok (keys_of done ps, at_budget n (spent b ps) (left_by l ps))
  sorts_are shown done [] n b l h later = refl
  sorts_are shown done (p ∷ ps) n b l h later =
      then_sorted cx p h.0 shown done (map sort_of ps) n b l _ h.1 later.0 (sorts_are shown (done ++ (term_of_pick p, record { collation = Binary; descending = false }) ∷ []) ps n (b - 1) (carried_by p.row) h.2 later.1)
