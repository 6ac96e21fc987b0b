-- A text that creates a table or an index does so in every schema that understands it.
use Rattle.office_tables.proofs.Names.{◌≡◌, inl, inr, [], ◌+◌, ◌==◌, ◌&&◌, not, List, Ok, Err, None, Some, Option, refl, false, true, Bool, cond, ℕ, length, ap, sym, subst, ◌∙◌, slice_range, is_some, option_or, cases_Bool, Schema, Table, Index, Command, table_named, index_named, view_named, Parsed, CompileError, NoSuchTable, Misuse, Exists, Unsupported, Checked, and_then, first, planned, meaning, returning, small, create_table, create_index, is_reserved, is_attached, with_command, table_in, table_defined_by, index_in, index_defined_by, understood, listing_schema, misses_table, if_select, is_select, IsIn, at_tree, Says, IsCreate, IsIndexing}
use Rattle.sqlite_schema.specs.declared.command.Command.TheVariants as command
use Rattle.sqlite_ast.specs.declared.CreateTable.{CreateTable}
use Rattle.sqlite_ast.specs.declared.CreateIndex.{CreateIndex}
use Rattle.sqlite_ast.specs.declared.Statement.TheVariants as written
use Rattle.sqlite_resolve.specs.declared.compiled.Compiled.{Compiled}
use Rattle.sqlite_resolve.specs.Compile.{compiled, timed, creates}
use Rattle.sqlite_resolve.specs.Compile as compile
use Rattle.sqlite_resolve.specs.Define as define

-- the parts that the grammar finds in the text of a table
pub record ReadsTable (text : List ℕ) (table : Table) (p : Parsed) : Type 0 where
  pub def : CreateTable
  pub is : first text ≡ Ok p
  pub statement : p.statement ≡ written.CreateTable def
  pub formats : p.formats ≡ []
  pub plainly : def.if_missing ≡ false
  pub defined : define.table [] def ≡ Ok table
  pub whole : (length table.computed == length table.stamps.places && not def.resolves) ≡ true
  pub covers : slice_range text p.start p.end ≡ text

-- the parts that the grammar finds in the text of an index
pub record ReadsIndex (text : List ℕ) (table : Table) (index : Index) (p : Parsed) : Type 0 where
  pub def : CreateIndex
  pub is : first text ≡ Ok p
  pub statement : p.statement ≡ written.CreateIndex def
  pub formats : p.formats ≡ []
  pub plainly : def.if_missing ≡ false
  pub table_is : def.table ≡ table.name
  pub defined : (n : ℕ) → define.index (at_tree table n) def ≡ Ok (record index { table = n })
  pub covers : slice_range text p.start p.end ≡ text
  pub unlisted : compiled listing_schema text ≡ Err NoSuchTable

-- the table or index must be new, since no text here says IF NOT EXISTS
new_is : (name : List ℕ) (same other : Option ℕ) (b : Bool) → creates false name same other ≡ Ok b → b ≡ true
unfolding creates
new_is name same other b h = by (is_reserved name) (is_some other) (is_some same) h
  where
    by : (r o s : Bool) → ◌≡◌ {A = Checked Bool} (cond r (Err Misuse) (cond o (Err Exists) (cond s (cond false (Ok false) (Err Exists)) (Ok true)))) (Ok b) → b ≡ true
    by true o s e = absurd (cc)
    by false true s e = absurd (cc)
    by false false true e = absurd (cc)
    by false false false e = let same : true ≡ b = cc in sym same

new_if : (missing : Bool) → missing ≡ false → (name : List ℕ) (same other : Option ℕ) (b : Bool) → creates missing name same other ≡ Ok b → b ≡ true
new_if missing plainly name same other b h = new_is name same other b (subst (λ m. creates m name same other ≡ Ok b) plainly h)

-- a text is understood as the command that is known, by either way of understanding it
understood_by : (made : Compiled) → is_select made.command ≡ false → (a b : Checked Compiled) → ((c : Compiled) → a ≡ Ok c → c ≡ made) → ((c : Compiled) → b ≡ Ok c → c ≡ made)
    → (c : Compiled) → cond (misses_table a) (if_select b) a ≡ Ok c → c ≡ made
understood_by made unread (Ok d) b ha hb c e = ha c e
understood_by made unread (Err x) b ha hb c e = elim (cases_Bool (misses_table (Err x))) [
  | inl missed ↦ listed b hb (rw missed at e)
  | inr other ↦ absurd (no_answer (rw other at e))
]
  where
    no_answer : {x : CompileError} → ◌≡◌ {A = Checked Compiled} (Err x) (Ok c) → ⊥
    no_answer e = cc

    listed : (b : Checked Compiled) → ((c : Compiled) → b ≡ Ok c → c ≡ made) → if_select b ≡ Ok c → c ≡ made
    listed (Ok d) hb e = absurd (no_answer (rw (ap (λ (m : Compiled). is_select m.command) (hb d refl) ∙ unread) at e))
    listed (Err y) hb e = absurd (no_answer e)

module _ (text : List ℕ) (table : Table) (p : Parsed) (read : ReadsTable text table p) where
  abbrev made : Compiled
  made = record { command = command.CreateTable; returning = None; names = p.names; formats = []; start = p.start; end = p.end; tail = p.tail }

  commands : (schema : Schema) (base : ℕ) → compile.command schema [] base p.statement ≡ create_table schema [] read.def
  unfolding compile.command
  commands schema base = rw read.statement

  times : (schema : Schema) → timed schema p.formats p.statement ≡ []
  unfolding timed
  times schema = rw read.statement

  shows_none : (schema : Schema) (base : ℕ) → returning schema base p.statement ≡ Ok None
  unfolding returning
  shows_none schema base = rw read.statement

  plans : (schema : Schema) → planned schema p ≡ and_then (and_then (create_table schema [] read.def) (λ c. Ok (c, None))) (λ found. Ok ([], found))
  unfolding planned meaning
  plans schema = rw (times schema, shows_none schema (small p.names + small []), read.formats, commands schema (small p.names + small []))

  compiles : (schema : Schema) → compiled schema text ≡ and_then (and_then (and_then (create_table schema [] read.def) (λ c. Ok (c, None))) (λ found. Ok ([], found))) (λ plan. Ok (with_command p plan))
  unfolding compiled
  compiles schema = rw (read.is, plans schema)

  makes : (schema : Schema) (c : Command) → create_table schema [] read.def ≡ Ok c → c ≡ command.CreateTable
  unfolding create_table
  makes schema c h = attached (is_attached schema read.def.name) h
    where
      news : (r : Checked Bool) → ((b : Bool) → r ≡ Ok b → b ≡ true)
          → and_then r (λ is_new. cond is_new (and_then (define.table [] read.def) (λ t. cond (length t.computed == length t.stamps.places && not read.def.resolves) (Ok command.CreateTable) (Err Unsupported))) (Ok command.Nothing)) ≡ Ok c
          → c ≡ command.CreateTable
      news (Err e) is k = absurd (cc)
      news (Ok b) is k = let e = rw (is b refl, read.defined, read.whole) at k in let same : command.CreateTable ≡ c = cc in sym same

      attached : (a : Bool) → ◌≡◌ {A = Checked Command} (cond a (Err Unsupported) (and_then (creates read.def.if_missing read.def.name (option_or (table_named schema read.def.name) (view_named schema read.def.name)) (index_named schema read.def.name)) (λ is_new.
          cond is_new (and_then (define.table [] read.def) (λ t. cond (length t.computed == length t.stamps.places && not read.def.resolves) (Ok command.CreateTable) (Err Unsupported))) (Ok command.Nothing)))) (Ok c) → c ≡ command.CreateTable
      attached true k = absurd (cc)
      attached false k = news (creates read.def.if_missing read.def.name (option_or (table_named schema read.def.name) (view_named schema read.def.name)) (index_named schema read.def.name)) (new_if read.def.if_missing read.plainly read.def.name (option_or (table_named schema read.def.name) (view_named schema read.def.name)) (index_named schema read.def.name)) k

  from_compiled : (schema : Schema) (c : Compiled) → compiled schema text ≡ Ok c → c ≡ made
  from_compiled schema c h = by (create_table schema [] read.def) (makes schema) (sym (compiles schema) ∙ h)
    where
      by : (r : Checked Command) → ((k : Command) → r ≡ Ok k → k ≡ command.CreateTable)
          → and_then (and_then (and_then r (λ c. Ok (c, None))) (λ found. Ok ([], found))) (λ plan. Ok (with_command p plan)) ≡ Ok c → c ≡ made
      by (Err e) is k = absurd (cc)
      by (Ok d) is k = let e = rw (is d refl) at k in let same : made ≡ c = cc in sym same

  from_understood : (schema : Schema) (c : Compiled) → understood schema text ≡ Ok c → c ≡ made
  unfolding understood
  from_understood schema c h = understood_by made refl (compiled schema text) (compiled listing_schema text) (from_compiled schema) (from_compiled listing_schema) c h

  defined : table_defined_by text ≡ Ok table
  unfolding table_defined_by table_in
  defined = rw (read.is, read.statement, read.formats, read.defined)

  pub creates_it : IsCreate text table
  creates_it = record {
    means = λ schema c h.
        let same = sym (from_understood schema c h) in
        subst (λ (d : Compiled). Says text d command.CreateTable) same (record { is = refl; untold = refl; untimed = refl; whole = read.covers });
    defined = defined;
  }

module _ (text : List ℕ) (table : Table) (index : Index) (p : Parsed) (read : ReadsIndex text table index p) where
  index_commands : (schema : Schema) (base : ℕ) → compile.command schema [] base p.statement ≡ create_index schema read.def
  unfolding compile.command
  index_commands schema base = rw read.statement

  index_times : (schema : Schema) → timed schema p.formats p.statement ≡ []
  unfolding timed
  index_times schema = rw (read.statement, read.formats)

  index_shows_none : (schema : Schema) (base : ℕ) → returning schema base p.statement ≡ Ok None
  unfolding returning
  index_shows_none schema base = rw read.statement

  index_plans : (schema : Schema) → planned schema p ≡ and_then (and_then (create_index schema read.def) (λ c. Ok (c, None))) (λ found. Ok ([], found))
  unfolding planned meaning
  index_plans schema = rw (index_times schema, index_shows_none schema (small p.names + small []), read.formats, index_commands schema (small p.names + small []))

  index_compiles : (schema : Schema) → compiled schema text ≡ and_then (and_then (and_then (create_index schema read.def) (λ c. Ok (c, None))) (λ found. Ok ([], found))) (λ plan. Ok (with_command p plan))
  unfolding compiled
  index_compiles schema = rw (read.is, index_plans schema)

  module _ (schema : Schema) (n : ℕ) (it : IsIn schema table n) where
    abbrev indexing : Compiled
    indexing = record { command = command.CreateIndex it.place; returning = None; names = p.names; formats = []; start = p.start; end = p.end; tail = p.tail }

    indexes : (c : Command) → create_index schema read.def ≡ Ok c → c ≡ command.CreateIndex it.place
    unfolding create_index
    indexes c h = reserved (is_reserved read.def.table) (rw (named, it.found) at h)
      where
        named : table_named schema read.def.table ≡ Some it.place
        named = ap (table_named schema) read.table_is ∙ it.named

        news : (r : Checked Bool) → ((b : Bool) → r ≡ Ok b → b ≡ true)
            → and_then r (λ is_new. cond is_new (and_then (define.index (at_tree table n) read.def) (λ _. Ok (command.CreateIndex it.place))) (Ok command.Nothing)) ≡ Ok c → c ≡ command.CreateIndex it.place
        news (Err e) is k = absurd (cc)
        news (Ok b) is k = let e = rw (is b refl, read.defined n) at k in let same : command.CreateIndex it.place ≡ c = cc in sym same

        reserved : (a : Bool) → ◌≡◌ {A = Checked Command} (cond a (Err Misuse) (and_then (creates read.def.if_missing read.def.name (index_named schema read.def.name) (option_or (table_named schema read.def.name) (view_named schema read.def.name))) (λ is_new.
            cond is_new (and_then (define.index (at_tree table n) read.def) (λ _. Ok (command.CreateIndex it.place))) (Ok command.Nothing)))) (Ok c) → c ≡ command.CreateIndex it.place
        reserved true k = absurd (cc)
        reserved false k = news (creates read.def.if_missing read.def.name (index_named schema read.def.name) (option_or (table_named schema read.def.name) (view_named schema read.def.name))) (new_if read.def.if_missing read.plainly read.def.name (index_named schema read.def.name) (option_or (table_named schema read.def.name) (view_named schema read.def.name))) k

    index_from_compiled : (c : Compiled) → compiled schema text ≡ Ok c → c ≡ indexing
    index_from_compiled c h = by (create_index schema read.def) indexes (sym (index_compiles schema) ∙ h)
      where
        by : (r : Checked Command) → ((k : Command) → r ≡ Ok k → k ≡ command.CreateIndex it.place)
            → and_then (and_then (and_then r (λ c. Ok (c, None))) (λ found. Ok ([], found))) (λ plan. Ok (with_command p plan)) ≡ Ok c → c ≡ indexing
        by (Err e) is k = absurd (cc)
        by (Ok d) is k = let e = rw (is d refl) at k in let same : indexing ≡ c = cc in sym same

    index_from_understood : (c : Compiled) → understood schema text ≡ Ok c → c ≡ indexing
    unfolding understood
    index_from_understood c h = understood_by indexing refl (compiled schema text) (compiled listing_schema text) index_from_compiled (λ d e. let none = sym read.unlisted ∙ e in absurd (cc)) c h

  index_defined : (n : ℕ) → index_defined_by (at_tree table n) text ≡ Ok (record index { table = n })
  unfolding index_defined_by index_in
  index_defined n = rw (read.is, read.statement, read.defined n)

  pub indexes_it : IsIndexing text table index
  indexes_it = record {
    means = λ schema n it c h.
        let same = sym (index_from_understood schema n it c h) in
        subst (λ (d : Compiled). Says text d (command.CreateIndex it.place)) same (record { is = refl; untold = refl; untimed = refl; whole = read.covers });
    defined = λ n made h. let e : Ok made ≡ Ok (record index { table = n }) = sym h ∙ index_defined n in cc;
  }
