-- An INSERT .. ON CONFLICT (key) DO UPDATE of one row changes its own table alone, and leaves tables apart as they are.
use Rattle.office_tables.proofs.Names.{◌≡◌, ◌≢◌, ◌⊎◌, inl, inr, ℕ, ℤ, true, false, cond, List, [], ◌∷◌, ◌++◌, ◌/◌, length, map, drop, Option, Some, None, Ok, Err, Result, refl, sym, ap, subst, ◌∙◌, Row, Trees, rowid, Term, Values, Abort, Upsert, Program, Refusal, Chosen, Above, Given, cast_row, AreConflicts, edit_of, with_rowid, numbered, without_all, put_all, are_fresh, ids_of, Answers, value_rows, Task, Written, Clears, Meets, Upserts, Judged, Tries, TriesEach, InsertsOr, Counts, count_of, rowids_for, shown, stamped, AllByRecursion, Has, no_works, one_step}
use Rattle.sqlite.specs.Rows.{Puts, nothing}
use Rattle.office_tables.proofs.Childless.{IsOwn, SparesMarked, writes}

-- a part that returned a value didn't stop on the way
pub went : {B E R : Type 0} {b : B} {Stops : E → Type 0} → ((stop : E) × Stops stop × (Ok b ≡ Err stop)) ⊎ R → R
went (inl stopped) = absurd (let e = stopped.2 in cc)
went (inr on) = on

pub same_value : {B E : Type 0} {a b : B} → ◌≡◌ {A = Result B E} (Ok a) (Ok b) → a ≡ b
same_value e = cc

module _ (task : Task) where
  -- the tables apart keep their rows
  abbrev pub Spares : Trees → Trees → Type 0
  Spares old new = SparesMarked task.schema task.table.tree old new

  -- the row that the statement tries to insert
  abbrev pub tried : Trees → Row → Row
  tried db source = with_rowid Chosen (db task.table.tree) (cast_row task.table source)

  -- the table after an update: its new rows replace the rows that they update
  abbrev pub renewed : Trees → List Row → List Row
  renewed db answer = numbered Given (without_all (db task.table.tree) (ids_of answer)) (map (λ s. cast_row task.table (drop 1 s)) answer)

  module _ (target : Option (List ℕ)) (q : Program) where
    abbrev pub clause : Upsert
    clause = record { target = target; update = Some q }

    -- no row has the key, and the new row is inserted
    pub record IsAdded (db next : Trees) (new : Row) : Type 0 where
      pub none : AreConflicts target task.schema.indexes task.table (db task.table.tree) new []
      pub fresh : are_fresh (db task.table.tree) (cast_row task.table new ∷ []) ≡ true
      pub rows : next task.table.tree ≡ put_all (db task.table.tree) (cast_row task.table new ∷ [])
      pub others : Spares db next

    -- a row has the key, and the updated row replaces it
    pub record IsRenewed (db next : Trees) (new : Row) : Type 0 where
      pub there : Row
      pub more : List Row
      pub conflicting : AreConflicts target task.schema.indexes task.table (db task.table.tree) new (there ∷ more)
      pub answer : List Row
      pub answers : Answers (record { schema = task.schema; trees = db }) q (task.params ++ rowid there ∷ shown task.table new) answer
      pub fresh : are_fresh (without_all (db task.table.tree) (ids_of answer)) (renewed db answer) ≡ true
      pub rows : next task.table.tree ≡ put_all (without_all (db task.table.tree) (ids_of answer)) (renewed db answer)
      pub others : Spares db next

    abbrev pub IsUpserted : Trees → Trees → Row → Type 0
    IsUpserted db next source = IsAdded db next (tried db source) ⊎ IsRenewed db next (tried db source)

    -- tables apart keep their rows, whether the row is new or replaces another
    pub spared : (db next : Trees) (source : Row) → IsUpserted db next source → Spares db next
    spared db next source (inl added) = added.others
    spared db next source (inr renewed) = renewed.others

    module _ (counted : task.table.is_counted ≡ false) (own : IsOwn task.schema task.table.tree) where
      puts : (db : Trees) (new : Row) (w : Written) → AreConflicts target task.schema.indexes task.table (db task.table.tree) new [] → Puts task new db (Ok w) → IsAdded db w.trees new
      puts db new w none h =
          let p = went h in
          let done = writes task.schema task.keys db p.0 (edit_of db task.table [] Given 0 (new ∷ [])) p.1 in
          let is : w.trees ≡ p.0 = ap (λ (it : Written). it.trees) (same_value p.2) in
          rw is (record { none = none; fresh = done.applies.fresh; rows = done.own task.table.tree own ∙ done.applies.rows; others = done.apart })

      -- without an OR clause, the row is inserted
      put_anyway : (db : Trees) (new : Row) (found : List Row) (w : Written) → Clears task Abort new db found (Ok w) → Puts task new db (Ok w)
      put_anyway db new [] w h = h
      put_anyway db new (x ∷ more) w h = h

      met : (db : Trees) (new : Row) (found : List Row) (w : Written) → AreConflicts target task.schema.indexes task.table (db task.table.tree) new found → Meets task (Upserts task Abort new db []) new db clause found (Ok w)
          → IsAdded db w.trees new ⊎ IsRenewed db w.trees new
      met db new [] w are h = inl (puts db new w are (put_anyway db new h.0 w h.2))
      met db new (there ∷ more) w are h =
          let queried = went h in
          let edited = went queried.2 in
          let done = writes task.schema task.keys db edited.0 (edit_of db task.table (ids_of queried.0) Given 1 queried.0) edited.1 in
          let is : w.trees ≡ edited.0 = ap (λ (it : Written). it.trees) (same_value edited.2) in
          inr (rw is (record {
            there = there;
            more = more;
            conflicting = are;
            answer = queried.0;
            answers = queried.1;
            fresh = done.applies.fresh;
            rows = done.own task.table.tree own ∙ done.applies.rows;
            others = done.apart;
          }))

      judged : (db : Trees) (new : Row) (verdict : Option Refusal) (w : Written) → Judged task Abort (clause ∷ []) new db verdict (Ok w) → Upserts task Abort new db (clause ∷ []) (Ok w)
      judged db new None w h = h
      judged db new (Some why) w h = absurd (let e = h in cc)

      upserts : (db : Trees) (new : Row) (w : Written) → Tries task Abort (clause ∷ []) new db (Ok w) → Upserts task Abort new db (clause ∷ []) (Ok w)
      upserts db new w (inl refused) = absurd (let e = refused.1 in cc)
      upserts db new w (inr went_on) = judged db new went_on.0 w went_on.2

      tries_one : (db : Trees) (source : Row) (top : ℤ) (done : Written × ℤ) → TriesEach task Abort (clause ∷ []) (source ∷ []) top (nothing db) (Ok done)
          → (one : Written) × Tries task Abort (clause ∷ []) (tried db source) db (Ok one) × (done.0.trees ≡ one.trees)
      tries_one db source top done h =
          let one = went h in
          let chosen : rowids_for task.table top ≡ Chosen = ap (λ b. cond b (Above top) Chosen) counted in
          (one.0, subst (λ how. Tries task Abort (clause ∷ []) (with_rowid how (db task.table.tree) (cast_row task.table source)) db (Ok one.0)) chosen one.1, ap (λ (it : Written × ℤ). it.0.trees) (same_value one.2))

      uncounted : (db out : Trees) (counter : Option Row) (top : ℤ) → Counts task db counter top (Ok out) → out ≡ db
      uncounted db out counter top h = let k = rw counted at h in same_value k

      -- the statement tries one row, and leaves the trees of that try
      one_tried : (db : Trees) (terms : List Term) (width : ℕ) (source : Row) (w : Written)
          → value_rows (stamped task.table task.params) width (length terms / width) terms ≡ source ∷ []
          → InsertsOr task Abort (clause ∷ []) (Values terms width) db (Ok w)
          → (one : Written) × Upserts task Abort (tried db source) db (clause ∷ []) (Ok one) × (w.trees ≡ one.trees)
      one_tried db terms width source w given h =
          let sourced = went h in
          let counter = went sourced.2 in
          let tries = went counter.2 in
          let counts = went tries.2 in
          let one = tries_one db source _ tries.0 (subst (λ l. TriesEach task Abort (clause ∷ []) l (count_of counter.0) (nothing db) (Ok tries.0)) (sourced.1.1 ∙ given) tries.1) in
          let last : w.trees ≡ counts.0 = ap (λ (it : Written). it.trees) (same_value counts.2) in
          (one.0, upserts db (tried db source) one.0 one.1, last ∙ uncounted tries.0.0.trees counts.0 counter.0 tries.0.1 counts.1 ∙ one.2)

      pub upserted : (db : Trees) (terms : List Term) (width : ℕ) (source : Row) (w : Written)
          → value_rows (stamped task.table task.params) width (length terms / width) terms ≡ source ∷ []
          → InsertsOr task Abort (clause ∷ []) (Values terms width) db (Ok w) → IsUpserted db w.trees source
      upserted db terms width source w given h =
          let one = one_tried db terms width source w given h in
          subst (λ (trees : Trees). IsUpserted db trees source) (sym one.2) (met db (tried db source) one.1.0 one.0 one.1.1 one.1.2)

      -- an insert into an empty table leaves all other tables as they were
      adds : (db : Trees) (new : Row) (w : Written) → Puts task new db (Ok w) → AllByRecursion (λ t. t.tree ≢ task.table.tree → w.trees t.tree ≡ db t.tree) task.schema.tables
      adds db new w h =
          let p = went h in
          let edit = edit_of db task.table [] Given 0 (new ∷ []) in
          let applied = one_step task.schema task.keys db p.0 edit (no_works task.schema task.keys 0 task.table.tree edit.news) p.1 in
          subst (λ (trees : Trees). AllByRecursion (λ t. t.tree ≢ task.table.tree → trees t.tree ≡ db t.tree) task.schema.tables) (sym (ap (λ (it : Written). it.trees) (same_value p.2))) applied.tables

      first_met : (db : Trees) (new : Row) (found : List Row) (w : Written) → db task.table.tree ≡ [] → AreConflicts target task.schema.indexes task.table (db task.table.tree) new found
          → Meets task (Upserts task Abort new db []) new db clause found (Ok w) → AllByRecursion (λ t. t.tree ≢ task.table.tree → w.trees t.tree ≡ db t.tree) task.schema.tables
      first_met db new [] w empty are h = adds db new w (put_anyway db new h.0 w h.2)
      first_met db new (x ∷ more) w empty are h = absurd (let r = are.sound x (inl refl) in subst (λ rows. Has rows r.0) empty r.1)

      pub others : (db : Trees) (terms : List Term) (width : ℕ) (source : Row) (w : Written) → db task.table.tree ≡ []
          → value_rows (stamped task.table task.params) width (length terms / width) terms ≡ source ∷ []
          → InsertsOr task Abort (clause ∷ []) (Values terms width) db (Ok w) → AllByRecursion (λ t. t.tree ≢ task.table.tree → w.trees t.tree ≡ db t.tree) task.schema.tables
      others db terms width source w empty given h =
          let one = one_tried db terms width source w given h in
          subst (λ (trees : Trees). AllByRecursion (λ t. t.tree ≢ task.table.tree → trees t.tree ≡ db t.tree) task.schema.tables) (sym one.2) (first_met db (tried db source) one.1.0 one.0 empty one.1.1 one.1.2)
