-- The form of a table of records: its columns, the order of its keys, and how a record is written as a row and read from it.
use Rattle.std.specs.Prelude.{true, false, [], ◌∷◌, None, Some, List, ℕ, Bool, Result, Ok, Err}
use Rattle.std.specs.declared.cmp.Ordering.{Ordering}
use Rattle.sqlite_sql.specs.Term.{Term}
use Rattle.sqlite_value.specs.declared.value.Value.{Value}
use Rattle.sqlite_value.specs.declared.value.Value.TheVariants.{Null}
use Rattle.sqlite_value.specs.declared.keys.Collation.TheVariants.{Binary}
use Rattle.sqlite_value.specs.Keys.{plain}
use Rattle.sqlite_value.specs.Order.{Row}
use Rattle.sqlite_schema.specs.declared.schema.Kind.{Kind}
use Rattle.sqlite_schema.specs.declared.schema.Kind.TheVariants.{Integer, Text, Blob}
use Rattle.sqlite_schema.specs.declared.schema.Column.{Column}
use Rattle.sqlite_schema.specs.declared.schema.Table.{Table}
use Rattle.sqlite_schema.specs.declared.schema.Index.{Index}
use Rattle.sqlite_resolve.specs.declared.error.CompileError.{CompileError}
use Rattle.sqlite_resolve.specs.Compile.{table_defined_by}
use Rattle.office_tables.specs.Kept.{Stand, row_behind_rowid, read_behind_rowid, by_rowid, read_by_rowid}

-- a column of a STRICT table, which SQLite orders by its bytes
abbrev pub column_of : List ℕ → Kind → Bool → Column
column_of name kind not_null = record { name = name; kind = kind; is_strict = true; not_null = not_null; default = Null; collation = Binary }

-- a column of text that is never NULL
abbrev pub text_column : List ℕ → Column
text_column name = column_of name Text true

abbrev pub number_column : List ℕ → Column
number_column name = column_of name Integer true

abbrev pub bytes_column : List ℕ → Column
bytes_column name = column_of name Blob true

-- a column of text that may be NULL
abbrev pub perhaps_text_column : List ℕ → Column
perhaps_text_column name = column_of name Text false

abbrev pub perhaps_number_column : List ℕ → Column
perhaps_number_column name = column_of name Integer false

-- the CHECKs of a CREATE TABLE, if its text is understood
abbrev pub checks_in : Result Table CompileError → List Term
checks_in (Ok t) = t.checks
checks_in (Err e) = []

-- a table with these columns, a primary key of the columns at these places, counted from 1, and the CHECKs of its text
abbrev pub table_with : List ℕ → List Column → List ℕ → List ℕ → Table
table_with name columns key text = record {
  name = name;
  tree = 0;
  columns = columns;
  key = None;
  primary = key;
  uniques = key ∷ [];
  orders = plain ∷ [];
  checks = checks_in (table_defined_by text);
  references = [];
  computed = [];
  stamps = record { places = []; terms = []; formats = [] };
  is_counted = false;
}

-- a table whose first column is an INTEGER PRIMARY KEY, so that its keys are the rowids, with the CHECKs of its text
abbrev pub table_by_rowid : List ℕ → List Column → List ℕ → Table
table_by_rowid name columns text = record {
  name = name;
  tree = 0;
  columns = columns;
  key = Some 0;
  primary = 0 ∷ [];
  uniques = [];
  orders = [];
  checks = checks_in (table_defined_by text);
  references = [];
  computed = [];
  stamps = record { places = []; terms = []; formats = [] };
  is_counted = false;
}

-- an index of the columns at these places, counted from 1, for look-ups by other columns than the key
abbrev pub index_on : List ℕ → List ℕ → Index
index_on name places = record { name = name; tree = 0; table = 0; columns = places; order = plain; is_unique = false }

-- A table of records. `row` and `read` are a record's values in the order of the columns; `stored` and `back` are the row that the tree keeps at a rowid.
pub record Form (K X : Type 0) : Type 0 where
  pub table : Table
  pub cmp : K → K → Ordering
  pub key : X → K
  pub row : X → Row
  pub read : Row → X
  pub stored : Value → X → Row
  pub back : Row → X

-- a form whose key has an index of its own
abbrev pub indexed_form : {K X : Type 0} → Table → (K → K → Ordering) → (X → K) → (X → Row) → (Row → X) → Form K X
indexed_form table cmp key row read = record { table = table; cmp = cmp; key = key; row = row; read = read; stored = row_behind_rowid row; back = read_behind_rowid read }

abbrev pub rowid_form : {K X : Type 0} → Table → (K → K → Ordering) → (X → K) → (X → Row) → (Row → X) → Form K X
rowid_form table cmp key row read = record { table = table; cmp = cmp; key = key; row = row; read = read; stored = by_rowid row; back = read_by_rowid read }

-- the rows of a tree hold exactly these records, as a table of this form stores them
abbrev pub RowsStand : {K X : Type 0} → Form K X → List Row → List X → Type 0
RowsStand f rows xs = Stand f.cmp f.key f.stored f.back rows xs
