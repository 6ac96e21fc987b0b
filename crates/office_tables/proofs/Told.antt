-- Trees hold one office alone.
use Rattle.office_tables.proofs.Names.{◌≡◌, Some, sym, ap, subst, ◌∙◌, slice_get, filter, ℕ, position_from, AllZip, Row, Trees, catalog_tree, Table, Schema, same_name, IsTableRow, ReadsTable, is_table_row, zip_so, tables_once, Database, IsDatabase, Tables, OfficeTable, table_of, StandFor, IsIn, at_tree, Holds}
use Rattle.office_tables.proofs.Each.{one_content}

reads : (row : Row) (t : Table) → IsTableRow row t → ReadsTable row t
reads row t h = record {
  names = record { low = h.described.low; id = h.described.id; kind_is = h.described.kind_is; name_is = h.described.name_is; owner_is = h.described.owner_is };
  sql = h.sql;
  sql_is = h.sql_is;
  defined = h.defined;
  formed = h.formed;
  utf8 = h.utf8;
}

listed : (db : Database) → IsDatabase db → AllZip ReadsTable (filter is_table_row (db.trees catalog_tree)) db.schema.tables
listed db sound = zip_so IsTableRow ReadsTable _ db.schema.tables (λ row t a b h. reads row t h) sound.lists.listed.tables

-- equal trees of two sound databases list the same tables
pub same_tables : (d e : Database) → IsDatabase d → IsDatabase e → d.trees ≡ e.trees → d.schema.tables ≡ e.schema.tables
same_tables d e p q same =
    tables_once _ d.schema.tables e.schema.tables (subst (λ (t : Trees). AllZip ReadsTable (filter is_table_row (t catalog_tree)) d.schema.tables) same (listed d p)) (listed e q)

-- a name finds the same tree in two schemas that list the same tables
same_place : (d e : Schema) (t : Table) (m n : ℕ) → d.tables ≡ e.tables → IsIn d t m → IsIn e t n → m ≡ n
same_place d e t m n same a b =
    let places : Some a.place ≡ Some b.place = sym a.named ∙ ap (position_from (λ (u : Table). same_name u.name t.name) 0) same ∙ b.named in
    let place : a.place ≡ b.place = cc in
    let found : Some (at_tree t m) ≡ Some (at_tree t n) = sym a.found ∙ ap (λ l. slice_get l a.place) same ∙ ap (slice_get e.tables) place ∙ b.found in
    let one : at_tree t m ≡ at_tree t n = cc in
    ap (λ (u : Table). u.tree) one

pub told : (d e : Database) (t u : Tables) → Holds d t → Holds e u → d.trees ≡ e.trees → t ≡ u
told d e t u x y trees =
    let tables = same_tables d e x.sound y.sound trees in
    let stands : (k : OfficeTable) → StandFor k (e.trees (y.places k)) t = λ k.
    subst (λ n. StandFor k (e.trees n) t) (same_place d.schema e.schema (table_of k) (x.places k) (y.places k) tables (x.tables k) (y.tables k)) (subst (λ (r : Trees). StandFor k (r (x.places k)) t) trees (x.stands k)) in
    one_content (λ k. e.trees (y.places k)) t u stands y.stands
