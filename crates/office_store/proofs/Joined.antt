-- A database that holds an office has the tables of the join.
use Rattle.office_store.proofs.Names.{map, ◌≡◌, ℕ, true, List, [], ◌∷◌, refl, sym, subst, Text, Row, Schema, Table, Database, Held, state, Tables, IsSorted, line_form, lot_form, contract_values, contract_read, entry_form, by_rowid, read_by_rowid, IsIn, at_tree, table_of, Holds, IsAsked, ShowsTables, Lines, Lots, Contracts, Entries, found_by_tree, joined_lots, list_joined_of_line, HoldsJoined, LotsAreShown, joined_lot_cells, StoredRowsShow}
use Rattle.sqlite_trees.specs.declared.store.Store.{Ghosts}
use Rattle.office_ledger.specs.Known.{Holds as HasTable}

known : (schema : Schema) (table : Table) (n : ℕ) → IsIn schema table n → HasTable schema table.name table.columns table.key n
known schema table n it = record {
  place = it.place;
  table = at_tree table n;
  named = it.named;
  found = it.found;
  columns_are = refl;
  key_is = refl;
  tree_is = refl;
  alone = found_by_tree schema table n it;
  stored = it.stored;
}

pub holds_joined : StoredRowsShow → (db : Database) (t : Tables) → IsSorted t → Holds db t → HoldsJoined db t
holds_joined show db t sorted it = record {
  at = record { lines = it.places Lines; lots = it.places Lots; contracts = it.places Contracts; entries = it.places Entries };
  four = record {
    lines = known db.schema (table_of Lines) (it.places Lines) (it.tables Lines);
    lots = known db.schema (table_of Lots) (it.places Lots) (it.tables Lots);
    contracts = known db.schema (table_of Contracts) (it.places Contracts) (it.tables Contracts);
    entries = known db.schema (table_of Entries) (it.places Entries) (it.tables Entries);
  };
  sorted = sorted;
  lines = show.lines line_form.stored line_form.back (λ v x. record { line = refl; appropriation = refl; free = refl }) (db.trees (it.places Lines)) t.lines (it.stands Lines);
  lots = show.lots lot_form.stored lot_form.back (λ v x. record { notice = refl; lot = refl; line = refl; reserved = refl }) (db.trees (it.places Lots)) t.lots (it.stands Lots);
  contracts = show.contracts (by_rowid contract_values) (read_by_rowid contract_read) (λ v x. record { contract = refl; notice = refl; lot = refl; signed = refl; released = refl }) (db.trees (it.places Contracts)) t.contracts (it.stands Contracts);
  entries = show.entries entry_form.stored entry_form.back (λ v x. record { contract = refl; entry = refl; kind = refl; amount = refl }) (db.trees (it.places Entries)) t.entries (it.stands Entries);
}

module _ {S : Type 0} (g : Ghosts S) (show : StoredRowsShow) (old : Held S) (rows : List Row) (t : Tables) (sorted : IsSorted t) (shows : ShowsTables (state g old) t) where
  held : (sql : List ℕ) (params : Row) → IsAsked g sql params old rows → HoldsJoined (state g (record old { in_transaction = true })).now t
  held sql params it = holds_joined show (state g old).now t sorted (subst (λ d. Holds d t) (sym it.settled) (shows it.was_open))

  pub asked_lots : LotsAreShown g → (line : List ℕ) → IsAsked g list_joined_of_line (Text line ∷ []) old rows → rows ≡ map joined_lot_cells (joined_lots line t)
  asked_lots law line it = law (record old { in_transaction = true }) it.after t line rows (held list_joined_of_line (Text line ∷ []) it) it.shown
