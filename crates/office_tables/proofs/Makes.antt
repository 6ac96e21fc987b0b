-- A CREATE keeps the tables of an office that were already made.
use Rattle.office_tables.proofs.Names.{◌≡◌, ◌⊎◌, inl, inr, ◌<◌, ◌||◌, ◌∷◌, [], List, Ok, Err, None, Some, Option, Result, refl, false, ℕ, ap, sym, subst, ◌∙◌, true≢false, is_some, AllByRecursion, cases_Bool, MatchBool-at_true, MatchBool-at_false, Schema, Reference, Table, Index, Command, same_name, table_named, index_named, view_named, Has, all_has, created, next_tree, KeepsRows, place_has, CompileError, table_defined_by, everything, Database, IsDatabase, Tally, AtPlace, Defines, MakesTable, MakesIndex, MakesSequence, lacks_sequence, sequence_text, Executes, ExecutesIn, mode_of, understood, runs_as, command_of, IsPlain, OfficeTable, table_of, AddsNoReference, IsIn, at_tree, Says, IsCreate, IsIndexing, AreMade, KeepsOthers, KeepsOffice, AreNew, none_placed}
use Rattle.sqlite_schema.specs.declared.command.Command.TheVariants.{CreateTable, CreateIndex}
use Rattle.sqlite_resolve.specs.declared.compiled.Compiled.{Compiled}
use Rattle.sqlite.specs.State.{State, Writes}
use Rattle.sqlite.proofs.Callers.{statement_of}
use Rattle.office_tables.proofs.Upserted.{went, same_value}
use Rattle.office_tables.proofs.Grown.{created_keeps, indexed_keeps, created_is, low_tree, has-append, has_last, has_front}
use Rattle.office_tables.proofs.Each.{bare, each}

-- ---- the statement

-- a text that ran was understood
was_understood : (text : List ℕ) (old new : State) (count : ℕ) → Executes text [] old new (Ok count) → (c : Compiled) × (understood old.now.schema text ≡ Ok c)
unfolding ExecutesIn
was_understood text old new count h = (h.0, h.1.is)

wrote : (text : List ℕ) (old new : State) (count : ℕ) (c : Compiled) (command : Command) → understood old.now.schema text ≡ Ok c → Says text c command
    → (command_of (understood old.now.schema text) ≡ command) × IsPlain (understood old.now.schema text) × (statement_of text (understood old.now.schema text) ≡ text)
wrote text old new count c command e it = (ap command_of e ∙ it.is, subst IsPlain (sym e) (it.untold, it.untimed), ap (statement_of text) e ∙ it.whole)

-- ---- a schema with one more table

-- the database has one more table, and everything that it had before
record Grows (old new : Database) : Type 0 where
  more : Table
  schema : new.schema ≡ created old.schema more
  empty : new.trees (next_tree old.schema) ≡ []
  others : KeepsRows old.schema.tables old.trees new.trees
  childless : more.references ≡ []
  key : List ℕ
  one : (more.uniques ≡ key ∷ []) ⊎ (more.uniques ≡ [])

abbrev Stands : Database → OfficeTable → Type 0
Stands db k = (n : ℕ) × IsIn db.schema (table_of k) n × (db.trees n ≡ [])

grows_stays : (old new : Database) → Grows old new → KeepsOffice old new
grows_stays old new it k n was =
    let there = place_has old.schema.tables was.place (at_tree (table_of k) n) was.found in
    (subst (λ s. IsIn s (table_of k) n) (sym it.schema) (created_keeps old.schema (table_of k) it.more n it.key it.one was), all_has (λ (t : Table). new.trees t.tree ≡ old.trees t.tree) old.schema.tables (at_tree (table_of k) n) it.others there)

pub stays_then : (a b c : Database) → KeepsOffice a b → KeepsOffice b c → KeepsOffice a c
stays_then a b c p q k n was = let one = p k n was in let two = q k n one.0 in (two.0, two.1 ∙ one.1)

-- a table of the office without rows still has none
stands_on : (old new : Database) → KeepsOffice old new → (k : OfficeTable) → Stands old k → Stands new k
stands_on old new stays k was = let kept = stays k was.0 was.1 in (was.0, kept.0, kept.1 ∙ was.2)

grows_keeps : (old new : Database) → Grows old new → (k : OfficeTable) → Stands old k → Stands new k
grows_keeps old new it = stands_on old new (grows_stays old new it)

pub all_so : (P Q : OfficeTable → Type 0) (ks : List OfficeTable) → ((k : OfficeTable) → P k → Q k) → AllByRecursion P ks → AllByRecursion Q ks
all_so P Q [] f h = tt
all_so P Q (k ∷ ks) f h = (f k h.0, all_so P Q ks f h.1)

-- a table has one unique index, that of its primary key, or none
one_key : (k : OfficeTable) → ((table_of k).uniques ≡ (table_of k).primary ∷ []) ⊎ ((table_of k).uniques ≡ [])
one_key k = elim (each k).bare.key [ inl index ↦ inl index.uniques | inr rowid ↦ inr rowid.uniques ]

first_unused : (a b c : Option ℕ) → ((is_some a || is_some b) || is_some c) ≡ false → a ≡ None
first_unused None b c h = refl
first_unused (Some x) b c h = absurd (true≢false h)

-- the unique keys of a table's definition; that of the table for AUTOINCREMENT has none
abbrev uniques_in : Result Table CompileError → List (List ℕ)
uniques_in (Ok t) = t.uniques
uniques_in (Err e) = []

abbrev references_in : Result Table CompileError → List Reference
references_in (Ok t) = t.references
references_in (Err e) = []

sequence_bare : (t : Table) → table_defined_by sequence_text ≡ Ok t → (t.uniques ≡ []) × (t.references ≡ [])
unfolding everything
sequence_bare t h = (ap uniques_in (sym h), ap references_in (sym h))

record IsOneMore (k : OfficeTable) (old after : Database) : Type 0 where
  mid : Database
  first : Grows old mid
  is : first.more ≡ table_of k
  unnamed : table_named old.schema (table_of k).name ≡ None
  then : (after ≡ mid) ⊎ Grows mid after

one_more : (k : OfficeTable) (text : List ℕ) (old after : Database) → table_defined_by text ≡ Ok (table_of k) → (mid : Database) → MakesTable text old (Ok mid) → MakesSequence mid (Ok after) → IsOneMore k old after
one_more k text old after defined mid made sequence =
    let both : Ok made.table ≡ Ok (table_of k) = sym made.defined ∙ defined in
    let same : made.table ≡ table_of k = cc in
    record {
      mid = mid;
      first = record { more = made.table; schema = made.is; empty = made.empty; others = made.others; childless = subst (λ (t : Table). t.references ≡ []) (sym same) (bare k).childless; key = (table_of k).primary; one = subst (λ (t : Table). (t.uniques ≡ (table_of k).primary ∷ []) ⊎ (t.uniques ≡ [])) (sym same) (one_key k) };
      is = same;
      unnamed = ap (λ (t : Table). table_named old.schema t.name) (sym same) ∙ first_unused _ (index_named old.schema made.table.name) (view_named old.schema made.table.name) made.free;
      then = elim (cases_Bool (lacks_sequence mid.schema)) [
        | inl lacks ↦ (let more = MatchBool-at_true _ _ lacks sequence in let plain = sequence_bare more.table more.defined in inr (record { more = more.table; schema = more.is; empty = more.empty; others = more.others; childless = plain.1; key = []; one = inr plain.0 }))
        | inr has ↦ inl (same_value (MatchBool-at_false _ _ has sequence))
      ];
    }

-- the table that was made exists, without rows
made_stands : (k : OfficeTable) (old after : Database) → IsDatabase old → IsDatabase after → IsOneMore k old after → Stands after k
made_stands k old after sound sound_after it =
    let n = next_tree old.schema in
    let schema : it.mid.schema ≡ created old.schema (table_of k) = it.first.schema ∙ ap (created old.schema) it.is in
    let last : Has it.mid.schema.tables (at_tree (table_of k) n) = subst (λ (s : Schema). Has s.tables (at_tree (table_of k) n)) (sym schema) (has_last old.schema.tables (at_tree (table_of k) n)) in
    let below : n < 65536 = elim it.then [
      | inl same ↦ low_tree after (at_tree (table_of k) n) sound_after (subst (λ (d : Database). Has d.schema.tables (at_tree (table_of k) n)) (sym same) last)
      | inr more ↦ low_tree after (at_tree (table_of k) n) sound_after (subst (λ (s : Schema). Has s.tables (at_tree (table_of k) n)) (sym more.schema) (has_front it.mid.schema.tables _ _ last))
    ] in
    let stands : Stands it.mid k = (n, subst (λ s. IsIn s (table_of k) n) (sym schema) (created_is old (table_of k) (each k).bare.key sound it.unnamed (each k).named below), it.first.empty) in
    elim it.then [ inl same ↦ subst (λ d. Stands d k) (sym same) stands | inr more ↦ grows_keeps it.mid after more k stands ]

one_more_stays : (k : OfficeTable) (old after : Database) → IsOneMore k old after → KeepsOffice old after
one_more_stays k old after it =
    let first = grows_stays old it.mid it.first in
    elim it.then [ inl same ↦ subst (KeepsOffice old) (sym same) first | inr more ↦ stays_then old it.mid after first (grows_stays it.mid after more) ]

kept_stands : (k : OfficeTable) (old after : Database) → IsOneMore k old after → (j : OfficeTable) → Stands old j → Stands after j
kept_stands k old after it = stands_on old after (one_more_stays k old after it)

pub makes_table : (old new : State) (text : List ℕ) (k : OfficeTable) (done : List OfficeTable) (count : ℕ) → IsCreate text (table_of k) → AreMade done old.now → Executes text [] old new (Ok count) → AreMade (k ∷ done) new.now
makes_table old new text k done count it was h =
    let u = was_understood text old new count h in
    let says = wrote text old new count u.0 CreateTable u.1 (it.means old.now.schema u.0 u.1) in
    let w = subst (λ t. Writes old new None CreateTable t [] count) says.2 (runs_as text [] old new old.now.schema refl CreateTable says.0 says.1 count h) in
    let all = went w.changed in
    let first = went all.1 in
    let now : new.now ≡ all.0 = ap (λ (p : Tally × Database). p.1) (same_value all.2) in
    let one = one_more k text old.now all.0 it.defined first.0 first.1 first.2 in
    let sound : IsDatabase all.0 = subst IsDatabase now w.sound in
    record { sound = w.sound; each = subst (λ d. AllByRecursion (Stands d) (k ∷ done)) (sym now) (made_stands k old.now all.0 was.sound sound one, all_so (Stands old.now) (Stands all.0) done (kept_stands k old.now all.0 one) was.each) }

grows_others : (old new : Database) → Grows old new → KeepsOthers old new
grows_others old new it t h =
    (subst (λ (s : Schema). Has s.tables t) (sym it.schema) (has_front old.schema.tables _ t h), all_has (λ (u : Table). new.trees u.tree ≡ old.trees u.tree) old.schema.tables t it.others h)

pub others_then : (a b c : Database) → KeepsOthers a b → KeepsOthers b c → KeepsOthers a c
others_then a b c p q t h = let one = p t h in let two = q t one.0 in (two.0, two.1 ∙ one.1)

one_more_others : (k : OfficeTable) (old after : Database) → IsOneMore k old after → KeepsOthers old after
one_more_others k old after it =
    let first = grows_others old it.mid it.first in
    elim it.then [ inl same ↦ subst (KeepsOthers old) (sym same) first | inr more ↦ others_then old it.mid after first (grows_others it.mid after more) ]

-- the new tables have no foreign keys
grows_added : (old new : Database) → Grows old new → AddsNoReference old.schema new.schema
grows_added old new it t h = elim (has-append old.schema.tables t (at_tree it.more (next_tree old.schema)) (subst (λ (s : Schema). Has s.tables t) it.schema h)) [
  | inl there ↦ inl there
  | inr last ↦ inr (ap (λ (u : Table). u.references) last ∙ it.childless)
]

pub added_then : (a b c : Schema) → AddsNoReference a b → AddsNoReference b c → AddsNoReference a c
added_then a b c p q t h = elim (q t h) [ inl there ↦ p t there | inr none ↦ inr none ]

one_more_added : (k : OfficeTable) (old after : Database) → IsOneMore k old after → AddsNoReference old.schema after.schema
one_more_added k old after it =
    let first = grows_added old it.mid it.first in
    elim it.then [ inl same ↦ subst (λ (d : Database). AddsNoReference old.schema d.schema) (sym same) first | inr more ↦ added_then old.schema it.mid.schema after.schema first (grows_added it.mid after more) ]

-- existing tables keep their rows, none of them had the new name, and the new table has no foreign keys
pub table_others : (old new : State) (text : List ℕ) (k : OfficeTable) (count : ℕ) → IsCreate text (table_of k) → Executes text [] old new (Ok count)
    → KeepsOthers old.now new.now × AreNew old.now (k ∷ []) × KeepsOffice old.now new.now × AddsNoReference old.now.schema new.now.schema
table_others old new text k count it h =
    let u = was_understood text old new count h in
    let says = wrote text old new count u.0 CreateTable u.1 (it.means old.now.schema u.0 u.1) in
    let w = subst (λ t. Writes old new None CreateTable t [] count) says.2 (runs_as text [] old new old.now.schema refl CreateTable says.0 says.1 count h) in
    let all = went w.changed in
    let first = went all.1 in
    let now : new.now ≡ all.0 = ap (λ (p : Tally × Database). p.1) (same_value all.2) in
    let one = one_more k text old.now all.0 it.defined first.0 first.1 first.2 in (
      subst (KeepsOthers old.now) (sym now) (one_more_others k old.now all.0 one),
      (
        λ t there called. true≢false (sym (ap (λ n. same_name n (table_of k).name) called ∙ (each k).named) ∙ none_placed (λ (u : Table). same_name u.name (table_of k).name) old.now.schema.tables 0 t one.unnamed there),
        tt,
      ),
      subst (KeepsOffice old.now) (sym now) (one_more_stays k old.now all.0 one),
      subst (λ (d : Database). AddsNoReference old.now.schema d.schema) (sym now) (one_more_added k old.now all.0 one),
    )

pub index_others : (old new : State) (text : List ℕ) (k : OfficeTable) (index : Index) (count : ℕ) → IsIndexing text (table_of k) index → Stands old.now k → Executes text [] old new (Ok count) → KeepsOthers old.now new.now
index_others old new text k index count it at h =
    let u = was_understood text old new count h in
    let says = wrote text old new count u.0 (CreateIndex at.1.place) u.1 (it.means old.now.schema at.0 at.1 u.0 u.1) in
    let w = subst (λ t. Writes old new None (CreateIndex at.1.place) t [] count) says.2 (runs_as text [] old new old.now.schema refl (CreateIndex at.1.place) says.0 says.1 count h) in
    let task = subst (λ o. AtPlace (λ table. Defines (mode_of old) (MakesIndex text old.now table)) o (Ok (w.tally, new.now))) at.1.found w.changed in
    let all = went task in
    let made = all.1 in
    let now : new.now ≡ all.0 = ap (λ (p : Tally × Database). p.1) (same_value all.2) in
    subst (KeepsOthers old.now) (sym now) (λ t h. (subst (λ (s : Schema). Has s.tables t) (sym made.is) h, all_has (λ (u : Table). all.0.trees u.tree ≡ old.now.trees u.tree) old.now.schema.tables t made.rows h))

pub makes_index : (old new : State) (text : List ℕ) (k : OfficeTable) (index : Index) (done : List OfficeTable) (count : ℕ) → IsIndexing text (table_of k) index → index.is_unique ≡ false → AreMade done old.now
    → Stands old.now k → Executes text [] old new (Ok count) → AreMade done new.now
makes_index old new text k index done count it plain was at h =
    let u = was_understood text old new count h in
    let says = wrote text old new count u.0 (CreateIndex at.1.place) u.1 (it.means old.now.schema at.0 at.1 u.0 u.1) in
    let w = subst (λ t. Writes old new None (CreateIndex at.1.place) t [] count) says.2 (runs_as text [] old new old.now.schema refl (CreateIndex at.1.place) says.0 says.1 count h) in
    let task = subst (λ o. AtPlace (λ table. Defines (mode_of old) (MakesIndex text old.now table)) o (Ok (w.tally, new.now))) at.1.found w.changed in
    let all = went task in
    let made = all.1 in
    let now : new.now ≡ all.0 = ap (λ (p : Tally × Database). p.1) (same_value all.2) in
    let ours : made.index.is_unique ≡ false = ap (λ (i : Index). i.is_unique) (it.defined at.0 made.index made.defined) ∙ plain in
    let keeps : (j : OfficeTable) → Stands old.now j → Stands all.0 j = λ j s. (
      s.0,
      subst (λ x. IsIn x (table_of j) s.0) (sym made.is) (indexed_keeps old.now.schema (table_of j) (at_tree (table_of k) at.0) made.index s.0 ours s.1),
      all_has (λ (t : Table). all.0.trees t.tree ≡ old.now.trees t.tree) old.now.schema.tables (at_tree (table_of j) s.0) made.rows (place_has old.now.schema.tables s.1.place (at_tree (table_of j) s.0) s.1.found) ∙ s.2,
    ) in
    record { sound = w.sound; each = subst (λ d. AllByRecursion (Stands d) done) (sym now) (all_so (Stands old.now) (Stands all.0) done keeps was.each) }
