-- SELECT of columns of one table, by name, in the order of columns, without tests or with tests of columns against parameters.
use Rattle.office_tables.proofs.Names.{◌≡◌, ◌⊎◌, inl, inr, ◌∷◌, [], ◌++◌, ◌-◌, ◌==◌, List, Ok, None, Some, Option, cond, pos, negsuc, refl, sym, ap, subst, ◌∙◌, false, true, Bool, ℕ, suc, slice_get, nat_lt, map, Term, col, op2, BinaryOp, Key, Binary, Schema, Table, Column, column_named, place_of, Expr, out-Expr, roll-Expr, Expr-F, Shown-F, out-Shown, roll-Shown, out-Source, roll-Source, Core, out-Core, roll-Core, out-roll-Core, roll-Select, out-roll-Select, Sort, roll-Sort, out-roll-Sort, Carried, Affinity, Name, Context, declared, alias_of, alone, chosen, compared, affinity_of, of_column, of_declared, converted, spelled, may_be_text, lower, lower_to, number, everything, table_named, Int, lit, Query, inner, end, Inner, Draft, accepts_program, Parsed, max_budget, program, first}
use Rattle.sqlite_sql.specs.declared.ops.BinaryOp.TheVariants as by
use Rattle.sqlite_sql.specs.declared.ops.CompareOp.TheVariants as compare
use Rattle.sqlite_ast.specs.declared.Binary.TheVariants as binary
use Rattle.sqlite_ast.specs.declared.Origin.TheVariants as origin
use Rattle.sqlite_ast.specs.declared.Shown.{Shown}
use Rattle.sqlite_ast.specs.declared.Source.{Source}
use Rattle.sqlite_ast.specs.declared.Select.{Select}
use Rattle.sqlite_resolve.specs.declared.scope.Output.{Output}
use Rattle.sqlite_resolve.specs.declared.compare.Affinity.TheVariants as affinity
use Rattle.sqlite_resolve.specs.Lowering.{nothing}
use Rattle.sqlite_resolve.specs.Body as body
use Rattle.sqlite_resolve.specs.Order as order
use Rattle.sqlite_resolve.specs.Select as select
use Rattle.sqlite_ast.specs.declared.Statement.TheVariants as written
use Rattle.sqlite_resolve.specs.declared.compiled.Compiled.{Compiled}
use Rattle.sqlite_resolve.specs.Compile.{compiled}
use Rattle.office_tables.proofs.Whole.{at_budget, compiled_to, compiles, draft_of, pages_by}
use Rattle.office_tables.proofs.OneTable.{bounds_are, joins_are, sources_are}
use Rattle.office_tables.proofs.LoweredColumns.{here, among_one, lower_is, then_shown, then_sorted}
use Rattle.office_tables.proofs.LoweredTests.{parameter_is, equal_is, above_is, and_is}

-- ---- the parts of the text

abbrev pub column_e : Name → Expr
column_e name = roll-Expr (Expr-F.Column None name)

abbrev pub equals_e : Name → ℕ → Expr
equals_e name n = roll-Expr (Expr-F.Binary binary.Eq (column_e name) (roll-Expr (Expr-F.Parameter n)))

abbrev pub above_e : Name → ℕ → Expr
above_e name n = roll-Expr (Expr-F.Binary binary.Gt (column_e name) (roll-Expr (Expr-F.Parameter n)))

-- a parameter, as after LIMIT
abbrev pub count_e : ℕ → Expr
count_e n = roll-Expr (Expr-F.Parameter n)

abbrev pub both_e : Expr → Expr → Expr
both_e a b = roll-Expr (Expr-F.Binary binary.And a b)

abbrev pub shown_of : Name → Shown
shown_of name = roll-Shown (Shown-F.One (column_e name) None name)

abbrev pub source_of : Name → Source
source_of name = roll-Source (record { is_left = false; origin = origin.Table name; alias = None; on = None; using = [] })

abbrev pub sort_of : Name → Sort
sort_of name = roll-Sort (record { key = column_e name; descending = false; nulls_first = None })

abbrev pub core_of : Name → List Name → Option Expr → Core
core_of table columns test = roll-Core (record { distinct = false; shown = map shown_of columns; from = source_of table ∷ []; filter = test; group = []; having = None })

abbrev pub capped : Name → List Name → Option Expr → List Name → Option Expr → Select
capped table columns test sorts cap = roll-Select (record { with = []; first = core_of table columns test; others = []; order = map sort_of sorts; limit = cap; offset = None })

pub out_column : (name : Name) → out-Expr (column_e name) ≡ Expr-F.Column None name
unfolding everything
out_column name = refl

pub out_equals : (name : Name) (n : ℕ) → out-Expr (equals_e name n) ≡ Expr-F.Binary binary.Eq (column_e name) (roll-Expr (Expr-F.Parameter n))
unfolding everything
out_equals name n = refl

pub out_above : (name : Name) (n : ℕ) → out-Expr (above_e name n) ≡ Expr-F.Binary binary.Gt (column_e name) (roll-Expr (Expr-F.Parameter n))
unfolding everything
out_above name n = refl

pub out_parameter : (n : ℕ) → out-Expr (roll-Expr (Expr-F.Parameter n)) ≡ Expr-F.Parameter n
unfolding everything
out_parameter n = refl

pub out_both : (a b : Expr) → out-Expr (both_e a b) ≡ Expr-F.Binary binary.And a b
unfolding everything
out_both a b = refl

pub out_shown : (name : Name) → out-Shown (shown_of name) ≡ Shown-F.One (column_e name) None name
unfolding everything
out_shown name = refl

pub out_source : (table : Name) → out-Source (source_of table) ≡ record { is_left = false; origin = origin.Table table; alias = None; on = None; using = [] }
unfolding everything
out_source table = refl

-- ---- columns that a table has, each with its place

abbrev pub names_of : List (ℕ × Column) → List Name
names_of ps = map (λ (p : ℕ × Column). p.1.name) ps

abbrev pub Has : Table → ℕ → List (ℕ × Column) → Type 0
Has table b [] = Unit {0}
Has table b (p ∷ ps) = (column_named table p.1.name ≡ Some p.0) × (slice_get table.columns p.0 ≡ Some p.1) × (nat_lt 1 b ≡ true) × Has table (b - 1) ps

abbrev pub spent : ℕ → List (ℕ × Column) → ℕ
spent b [] = b
spent b (p ∷ ps) = spent (b - 1) ps

abbrev pub left_by : Table → Carried → List (ℕ × Column) → Carried
left_by table l [] = l
left_by table l (p ∷ ps) = left_by table (declared table p.0 p.1) ps

abbrev pub output_of : Table → ℕ × Column → Output
output_of table p = record { name = p.1.name; is_alias = false; is_column = true; term = col 1 (place_of table p.0); carried = declared table p.0 p.1 }

abbrev pub outputs_of : Table → List Output → List (ℕ × Column) → List Output
outputs_of table done [] = done
outputs_of table done (p ∷ ps) = outputs_of table (done ++ output_of table p ∷ []) ps

abbrev pub key_of : Table → ℕ × Column → Term × Key
key_of table p = (col 1 (place_of table p.0), record { collation = alone (declared table p.0 p.1); descending = false })

abbrev pub keys_of : Table → List (Term × Key) → List (ℕ × Column) → List (Term × Key)
keys_of table done [] = done
keys_of table done (p ∷ ps) = keys_of table (done ++ key_of table p ∷ []) ps

abbrev pub AreFree : List Output → List (ℕ × Column) → Type 0
AreFree shown [] = Unit {0}
AreFree shown (p ∷ ps) = (alias_of p.1.name shown ≡ None) × AreFree shown ps

same : (b : Bool) → cond b affinity.None affinity.None ≡ affinity.None
same true = refl
same false = refl

module _ (schema : Schema) (at : ℕ) (table : Table) (found : slice_get schema.tables at ≡ Some table) (name : Name) where
  pub outputs_are : (done : List Output) (ps : List (ℕ × Column)) (b : ℕ) (l : Carried) → Has table b ps
      → body.outputs_from lower (among_one schema at table found name [] true) (here schema at table found name ∷ []) done (map shown_of (names_of ps)) (at_budget 2 b l) ≡ Ok (outputs_of table done ps, at_budget 2 (spent b ps) (left_by table l ps))
  outputs_are done [] b l h = refl
  outputs_are done (p ∷ ps) b l h =
      then_shown schema at table found name p.0 p.1 h.0 h.1 done (shown_of p.1.name) (map shown_of (names_of ps)) (column_e p.1.name) p.1.name b l _ (out_shown p.1.name) (out_column p.1.name) h.2
      (outputs_are (done ++ output_of table p ∷ []) ps (b - 1) (declared table p.0 p.1) h.3)

  pub sorts_are : (shown : List Output) (done : List (Term × Key)) (ps : List (ℕ × Column)) (b : ℕ) (l : Carried) → Has table b ps → AreFree shown ps
      → order.sorts_from lower (among_one schema at table found name shown false) shown done (map sort_of (names_of ps)) (at_budget 2 b l) ≡ Ok (keys_of table done ps, at_budget 2 (spent b ps) (left_by table l ps))
  sorts_are shown done [] b l h free = refl
  sorts_are shown done (p ∷ ps) b l h free =
      let is = out-roll-Sort (record { key = column_e p.1.name; descending = false; nulls_first = None }) in
      then_sorted schema at table found name p.0 p.1 h.0 h.1 shown (sort_of p.1.name) (ap (λ r. out-Expr r.key) is ∙ out_column p.1.name) free.0 done (map sort_of (names_of ps)) b l _ h.2 (ap (λ r. r.descending) is) (ap (λ r. r.nulls_first) is)
      (sorts_are shown (done ++ key_of table p ∷ []) ps (b - 1) (declared table p.0 p.1) h.3 free.1)

  abbrev pub scope : List Output → Context
  scope shown = among_one schema at table found name shown false

  pub equals_lowers : (d : ℕ) (shown : List Output) (p : ℕ × Column) (n b : ℕ) (l : Carried) → Has table (b - 1) (p ∷ []) → nat_lt 1 b ≡ true → nat_lt 1 (b - 1 - 1) ≡ true
      → lower_to (suc (suc d)) (scope shown) (equals_e p.1.name n) (at_budget 2 b l)
      ≡ Ok (compared (scope shown) (by.Compare compare.Eq (chosen (declared table p.0 p.1) nothing)) (col 1 (place_of table p.0)) (col 0 (n - 1)), at_budget 2 (b - 1 - 1 - 1) nothing)
  equals_lowers d shown p n b l h enough still =
      equal_is (scope shown) (equals_e p.1.name n) (column_e p.1.name) (roll-Expr (Expr-F.Parameter n)) _ _ 2 b _ _ l _ _ enough (suc d) (out_equals p.1.name n)
      (lower_is schema at table found name p.0 p.1 h.0 h.1 d shown false (column_e p.1.name) (b - 1) nothing (out_column p.1.name) h.2)
      (parameter_is d (scope shown) (roll-Expr (Expr-F.Parameter n)) n 2 (b - 1 - 1) (declared table p.0 p.1) (out_parameter n) still)

  bare : (shown : List Output) (m : ℕ) → of_column (scope shown) 0 m ≡ affinity.None
  unfolding of_column
  bare shown m = same (m == 0)

  of_kind : (shown : List Output) (k : ℕ) (c : Column) (how : Affinity) → slice_get table.columns k ≡ Some c → of_declared c ≡ how → of_column (scope shown) 1 (suc k) ≡ how
  unfolding of_column
  of_kind shown k c how stands kind = rw (found, stands) kind

  -- columns of texts and of numbers
  abbrev pub IsPlainKind : Column → Type 0
  IsPlainKind c = (of_declared c ≡ affinity.Text) ⊎ (of_declared c ≡ affinity.Numeric)

  -- a column of texts or of numbers, compared with a parameter
  pub column_compares : (shown : List Output) (op : BinaryOp) (k m : ℕ) (c : Column) → slice_get table.columns k ≡ Some c → IsPlainKind c
      → compared (scope shown) op (col 1 (suc k)) (col 0 m) ≡ op2 op (col 1 (suc k)) (col 0 m)
  unfolding compared affinity_of converted spelled may_be_text
  column_compares shown op k m c stands (inl kind) = rw (of_kind shown k c affinity.Text stands kind, bare shown m)
  column_compares shown op k m c stands (inr kind) = rw (of_kind shown k c affinity.Numeric stands kind, bare shown m)

  rowid_kind : (shown : List Output) → of_column (scope shown) 1 0 ≡ affinity.Numeric
  unfolding of_column
  rowid_kind shown = refl

  -- a rowid, compared with a parameter
  rowid_compares : (shown : List Output) (op : BinaryOp) (m : ℕ) → compared (scope shown) op (col 1 0) (col 0 m) ≡ op2 op (col 1 0) (col 0 m)
  unfolding compared affinity_of converted spelled may_be_text
  rowid_compares shown op m = rw (rowid_kind shown, bare shown m)

  abbrev pub column_test : ℕ → ℕ → Term
  column_test place m = op2 (by.Compare compare.Eq Binary) (col 1 place) (col 0 m)

  pub no_test : (shown : List Output) (b : ℕ) (l : Carried) → body.tests lower (scope shown) [] None (at_budget 2 b l) ≡ Ok ([], at_budget 2 b l)
  unfolding body.tests
  no_test shown b l = refl

  -- a column of texts or of numbers, or the rowid
  abbrev pub IsPlace : ℕ × Column → Type 0
  IsPlace p = (IsPlainKind p.1 × (place_of table p.0 ≡ suc p.0)) ⊎ (place_of table p.0 ≡ 0)

  abbrev pub IsTested : ℕ × Column → Type 0
  IsTested p = IsPlace p × (alone (declared table p.0 p.1) ≡ Binary) × (chosen (declared table p.0 p.1) nothing ≡ Binary)

  place_compares : (shown : List Output) (op : BinaryOp) (p : ℕ × Column) (m : ℕ) → slice_get table.columns p.0 ≡ Some p.1 → IsPlace p
      → compared (scope shown) op (col 1 (place_of table p.0)) (col 0 m) ≡ op2 op (col 1 (place_of table p.0)) (col 0 m)
  place_compares shown op p m stands (inl is) = subst (λ place. compared (scope shown) op (col 1 place) (col 0 m) ≡ op2 op (col 1 place) (col 0 m)) (sym is.1) (column_compares shown op p.0 m p.1 stands is.0)
  place_compares shown op p m stands (inr is) = subst (λ place. compared (scope shown) op (col 1 place) (col 0 m) ≡ op2 op (col 1 place) (col 0 m)) (sym is) (rowid_compares shown op m)

  pub tested_lowers : (d : ℕ) (shown : List Output) (p : ℕ × Column) (n b : ℕ) (l : Carried) → Has table (b - 1) (p ∷ []) → nat_lt 1 b ≡ true → nat_lt 1 (b - 1 - 1) ≡ true → IsTested p
      → lower_to (suc (suc d)) (scope shown) (equals_e p.1.name n) (at_budget 2 b l) ≡ Ok (column_test (place_of table p.0) (n - 1), at_budget 2 (b - 1 - 1 - 1) nothing)
  tested_lowers d shown p n b l h enough still is =
      equals_lowers d shown p n b l h enough still ∙ ap (λ how. Ok (compared (scope shown) (by.Compare compare.Eq how) (col 1 (place_of table p.0)) (col 0 (n - 1)), at_budget 2 (b - 1 - 1 - 1) nothing)) is.2
      ∙ ap (λ t. Ok (t, at_budget 2 (b - 1 - 1 - 1) nothing)) (place_compares shown (by.Compare compare.Eq Binary) p (n - 1) h.1 is.0)

  pub one_test : (shown : List Output) (p : ℕ × Column) (n b : ℕ) (l : Carried) → Has table (b - 1) (p ∷ []) → nat_lt 1 b ≡ true → nat_lt 1 (b - 1 - 1) ≡ true → IsTested p
      → body.tests lower (scope shown) [] (Some (equals_e p.1.name n)) (at_budget 2 b l) ≡ Ok (column_test (place_of table p.0) (n - 1) ∷ [], at_budget 2 (b - 1 - 1 - 1) nothing)
  unfolding body.tests
  one_test shown p n b l h enough still is = rw (tested_lowers 698 shown p n b l h enough still is)

  pub two_tests : (shown : List Output) (p q : ℕ × Column) (m n b : ℕ) (l : Carried) → nat_lt 1 b ≡ true
      → Has table (b - 1 - 1) (p ∷ []) → nat_lt 1 (b - 1) ≡ true → nat_lt 1 (b - 1 - 1 - 1) ≡ true → IsTested p
      → Has table (b - 1 - 1 - 1 - 1 - 1) (q ∷ []) → nat_lt 1 (b - 1 - 1 - 1 - 1) ≡ true → nat_lt 1 (b - 1 - 1 - 1 - 1 - 1 - 1) ≡ true → IsTested q
      → body.tests lower (scope shown) [] (Some (both_e (equals_e p.1.name m) (equals_e q.1.name n))) (at_budget 2 b l) ≡ Ok (column_test (place_of table p.0) (m - 1) ∷ column_test (place_of table q.0) (n - 1) ∷ [], at_budget 2 (b - 1 - 1 - 1 - 1 - 1 - 1 - 1) nothing)
  unfolding body.tests
  two_tests shown p q m n b l enough has₁ first₁ still₁ is₁ has₂ first₂ still₂ is₂ =
      rw (and_is (scope shown) (both_e (equals_e p.1.name m) (equals_e q.1.name n)) (equals_e p.1.name m) (equals_e q.1.name n) _ _ 2 b _ _ l _ _ enough 699 (out_both (equals_e p.1.name m) (equals_e q.1.name n))
      (tested_lowers 697 shown p m (b - 1) nothing has₁ first₁ still₁ is₁) (tested_lowers 697 shown q n (b - 1 - 1 - 1 - 1) nothing has₂ first₂ still₂ is₂))

  abbrev pub above_term : ℕ → ℕ → Term
  above_term place m = op2 (by.Compare compare.Gt Binary) (col 1 place) (col 0 m)

  above_lowers : (d : ℕ) (shown : List Output) (p : ℕ × Column) (n b : ℕ) (l : Carried) → Has table (b - 1) (p ∷ []) → nat_lt 1 b ≡ true → nat_lt 1 (b - 1 - 1) ≡ true → IsTested p
      → lower_to (suc (suc d)) (scope shown) (above_e p.1.name n) (at_budget 2 b l) ≡ Ok (above_term (place_of table p.0) (n - 1), at_budget 2 (b - 1 - 1 - 1) nothing)
  above_lowers d shown p n b l h enough still is =
      above_is (scope shown) (above_e p.1.name n) (column_e p.1.name) (roll-Expr (Expr-F.Parameter n)) _ _ 2 b _ _ l _ _ enough (suc d) (out_above p.1.name n)
      (lower_is schema at table found name p.0 p.1 h.0 h.1 d shown false (column_e p.1.name) (b - 1) nothing (out_column p.1.name) h.2)
      (parameter_is d (scope shown) (roll-Expr (Expr-F.Parameter n)) n 2 (b - 1 - 1) (declared table p.0 p.1) (out_parameter n) still)
      ∙ ap (λ how. Ok (compared (scope shown) (by.Compare compare.Gt how) (col 1 (place_of table p.0)) (col 0 (n - 1)), at_budget 2 (b - 1 - 1 - 1) nothing)) is.2
      ∙ ap (λ t. Ok (t, at_budget 2 (b - 1 - 1 - 1) nothing)) (place_compares shown (by.Compare compare.Gt Binary) p (n - 1) h.1 is.0)

  pub above_test : (shown : List Output) (p : ℕ × Column) (n b : ℕ) (l : Carried) → Has table (b - 1) (p ∷ []) → nat_lt 1 b ≡ true → nat_lt 1 (b - 1 - 1) ≡ true → IsTested p
      → body.tests lower (scope shown) [] (Some (above_e p.1.name n)) (at_budget 2 b l) ≡ Ok (above_term (place_of table p.0) (n - 1) ∷ [], at_budget 2 (b - 1 - 1 - 1) nothing)
  unfolding body.tests
  above_test shown p n b l h enough still is = rw (above_lowers 698 shown p n b l h enough still is)

  both_lower : (d : ℕ) (shown : List Output) (p q : ℕ × Column) (m n b : ℕ) (l : Carried) → nat_lt 1 b ≡ true
      → Has table (b - 1 - 1) (p ∷ []) → nat_lt 1 (b - 1) ≡ true → nat_lt 1 (b - 1 - 1 - 1) ≡ true → IsTested p
      → Has table (b - 1 - 1 - 1 - 1 - 1) (q ∷ []) → nat_lt 1 (b - 1 - 1 - 1 - 1) ≡ true → nat_lt 1 (b - 1 - 1 - 1 - 1 - 1 - 1) ≡ true → IsTested q
      → lower_to (suc (suc (suc d))) (scope shown) (both_e (equals_e p.1.name m) (equals_e q.1.name n)) (at_budget 2 b l) ≡ Ok (op2 by.And (column_test (place_of table p.0) (m - 1)) (column_test (place_of table q.0) (n - 1)), at_budget 2 (b - 1 - 1 - 1 - 1 - 1 - 1 - 1) nothing)
  both_lower d shown p q m n b l enough has₁ first₁ still₁ is₁ has₂ first₂ still₂ is₂ =
      and_is (scope shown) (both_e (equals_e p.1.name m) (equals_e q.1.name n)) (equals_e p.1.name m) (equals_e q.1.name n) _ _ 2 b _ _ l _ _ enough (suc (suc d)) (out_both (equals_e p.1.name m) (equals_e q.1.name n))
      (tested_lowers d shown p m (b - 1) nothing has₁ first₁ still₁ is₁) (tested_lowers d shown q n (b - 1 - 1 - 1 - 1) nothing has₂ first₂ still₂ is₂)

  -- the first two tests are read together
  pub three_tests : (shown : List Output) (p q r : ℕ × Column) (m n o b : ℕ) (l : Carried) → nat_lt 1 b ≡ true → nat_lt 1 (b - 1) ≡ true
      → Has table (b - 1 - 1 - 1) (p ∷ []) → nat_lt 1 (b - 1 - 1) ≡ true → nat_lt 1 (b - 1 - 1 - 1 - 1) ≡ true → IsTested p
      → Has table (b - 1 - 1 - 1 - 1 - 1 - 1) (q ∷ []) → nat_lt 1 (b - 1 - 1 - 1 - 1 - 1) ≡ true → nat_lt 1 (b - 1 - 1 - 1 - 1 - 1 - 1 - 1) ≡ true → IsTested q
      → Has table (b - 1 - 1 - 1 - 1 - 1 - 1 - 1 - 1 - 1) (r ∷ []) → nat_lt 1 (b - 1 - 1 - 1 - 1 - 1 - 1 - 1 - 1) ≡ true → nat_lt 1 (b - 1 - 1 - 1 - 1 - 1 - 1 - 1 - 1 - 1 - 1) ≡ true → IsTested r
      → body.tests lower (scope shown) [] (Some (both_e (both_e (equals_e p.1.name m) (equals_e q.1.name n)) (equals_e r.1.name o))) (at_budget 2 b l)
      ≡ Ok (column_test (place_of table p.0) (m - 1) ∷ column_test (place_of table q.0) (n - 1) ∷ column_test (place_of table r.0) (o - 1) ∷ [], at_budget 2 (b - 1 - 1 - 1 - 1 - 1 - 1 - 1 - 1 - 1 - 1 - 1) nothing)
  unfolding body.tests
  three_tests shown p q r m n o b l enough more has₁ first₁ still₁ is₁ has₂ first₂ still₂ is₂ has₃ first₃ still₃ is₃ =
      rw (and_is (scope shown) (both_e (both_e (equals_e p.1.name m) (equals_e q.1.name n)) (equals_e r.1.name o)) (both_e (equals_e p.1.name m) (equals_e q.1.name n)) (equals_e r.1.name o) _ _ 2 b _ _ l _ _ enough 699 (out_both (both_e (equals_e p.1.name m) (equals_e q.1.name n)) (equals_e r.1.name o))
      (both_lower 696 shown p q m n (b - 1) nothing more has₁ first₁ still₁ is₁ has₂ first₂ still₂ is₂)
      (tested_lowers 697 shown r o (b - 1 - 1 - 1 - 1 - 1 - 1 - 1 - 1) nothing has₃ first₃ still₃ is₃))

module _ (schema : Schema) (at : ℕ) (table : Table) (found : slice_get schema.tables at ≡ Some table) (name : Name) (named : table_named schema name ≡ Some at)
    (ps qs : List (ℕ × Column)) (test : Option Expr) (filter : List Term) (b₂ : ℕ) (l₂ : Carried) (cap : Option Expr) (limit : Term) where
  abbrev pub outs : List Output
  outs = outputs_of table [] ps

  abbrev pub keys : List (Term × Key)
  keys = keys_of table [] qs

  outputs_from_is : Has table max_budget ps → body.outputs lower (among_one schema at table found name [] true) (here schema at table found name ∷ []) (out-Core (core_of name (names_of ps) test)).shown (at_budget 2 max_budget nothing)
      ≡ Ok (outs, at_budget 2 (spent max_budget ps) (left_by table nothing ps))
  unfolding body.outputs
  outputs_from_is has =
      ap (λ (c : _). body.outputs_from lower (among_one schema at table found name [] true) (here schema at table found name ∷ []) [] c.shown (at_budget 2 max_budget nothing)) (out-roll-Core (record { distinct = false; shown = map shown_of (names_of ps); from = source_of name ∷ []; filter = test; group = []; having = None }))
      ∙ outputs_are schema at table found name [] ps max_budget nothing has

  sorts_from_is : Has table b₂ qs → AreFree outs qs → order.sorts lower (scope schema at table found name outs) outs (map sort_of (names_of qs)) (at_budget 2 b₂ l₂) ≡ Ok (keys, at_budget 2 (spent b₂ qs) (left_by table l₂ qs))
  unfolding order.sorts
  sorts_from_is has free = sorts_are schema at table found name outs [] qs b₂ l₂ has free

  abbrev pub query_is : Query
  query_is = record { from = inner table.tree end; filter = filter; group = None; project = map (λ (o : Output). o.term) outs; distinct = false; collations = []; order = keys; limit = limit; offset = lit (Int (pos 0)) }

  abbrev pub means_select : Parsed → Compiled
  means_select p = compiled_to (record { lets = []; body = query_is }) outs p

  abbrev pub draft_is : Draft
  draft_is = draft_of (Inner table.tree ∷ []) filter outs keys limit

  programs : accepts_program schema [] query_is [] ≡ true → program schema [] draft_is ≡ Ok (record { lets = []; body = query_is })
  unfolding program
  programs h = rw h

  pages_are : select.constant_or schema (lit (Int (negsuc 0))) cap ≡ Ok limit → select.paging schema (capped name (names_of ps) test (names_of qs) cap) ≡ Ok (limit, number 0)
  pages_are h =
      let whole = out-roll-Select (record { with = []; first = core_of name (names_of ps) test; others = []; order = map sort_of (names_of qs); limit = cap; offset = None }) in
      pages_by schema (capped name (names_of ps) test (names_of qs) cap) cap limit (ap (λ r. r.limit) whole) (ap (λ r. r.offset) whole) h

  pub simple_compiles : (text : List ℕ) (p : Parsed) → first text ≡ Ok p → p.statement ≡ written.Select (capped name (names_of ps) test (names_of qs) cap) → p.formats ≡ [] → Has table max_budget ps
      → body.tests lower (scope schema at table found name outs) [] test (at_budget 2 (spent max_budget ps) (left_by table nothing ps)) ≡ Ok (filter, at_budget 2 b₂ l₂)
      → Has table b₂ qs → AreFree outs qs → accepts_program schema [] query_is [] ≡ true → select.constant_or schema (lit (Int (negsuc 0))) cap ≡ Ok limit
      → compiled schema text ≡ Ok (means_select p)
  simple_compiles text p first_is statement_is untimed has tests sorted free accepted counts =
      let written_core = core_of name (names_of ps) test in
      let source = out_source name in
      let core = out-roll-Core (record { distinct = false; shown = map shown_of (names_of ps); from = source_of name ∷ []; filter = test; group = []; having = None }) in
      let whole = out-roll-Select (record { with = []; first = written_core; others = []; order = map sort_of (names_of qs); limit = cap; offset = None }) in
      let from_is = ap (λ c. c.from) core in
      let origin_is = ap (λ r. r.origin) source in
      let unaliased = ap (λ r. r.alias) source in
      let unshared = ap (λ r. r.using) source in
      let unjoined = ap (λ r. r.is_left) source in
      let untested = ap (λ r. r.on) source in
      compiles schema written_core (here schema at table found name ∷ []) 2 (Inner table.tree ∷ []) outs filter (map sort_of (names_of qs)) keys limit
      (spent max_budget ps) (spent max_budget ps) b₂ (spent b₂ qs) (left_by table nothing ps) (left_by table nothing ps) l₂ (left_by table l₂ qs)
      (bounds_are schema at table found name named written_core (source_of name) from_is origin_is unaliased unshared unjoined untested) (outputs_from_is has)
      (joins_are schema at table found name named written_core (source_of name) from_is origin_is unaliased unshared unjoined untested outs (at_budget 2 (spent max_budget ps) (left_by table nothing ps)))
      (ap (λ c. body.tests lower (scope schema at table found name outs) [] c.filter (at_budget 2 (spent max_budget ps) (left_by table nothing ps))) core ∙ tests) (sorts_from_is sorted free)
      (ap (λ c. c.group) core) (ap (λ c. c.having) core) (ap (λ c. c.distinct) core)
      (capped name (names_of ps) test (names_of qs) cap) (ap (λ r. r.first) whole) (ap (λ r. r.order) whole) (ap (λ r. r.with) whole) (ap (λ r. r.others) whole) (pages_are counts)
      (sources_are schema at table found name named written_core (source_of name) from_is origin_is unaliased unshared unjoined untested)
      text p (record { lets = []; body = query_is }) first_is statement_is untimed (programs accepted)
