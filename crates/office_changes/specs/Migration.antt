-- The migration of an office of an earlier edition to the tables of this program.
use Rattle.std.specs.Prelude.{◌≡◌, ◌⊎◌, ◌≤◌, ℕ, true, IsTrue, List}
use Rattle.sqlite_trees.specs.Tree.{Trees}
use Rattle.sqlite_trees.specs.declared.store.Store.{Ghosts}
use Rattle.sqlite.specs.Effect.{Database}
use Rattle.sqlite.specs.Held.{Held, state}
use Rattle.sqlite.specs.State.{State}
use Rattle.sqlite.specs.Steps.{FailsToCommit}
use Rattle.sqlite.specs.declared.error.Error.{Error}
use Rattle.sqlite.specs.declared.error.Error.TheVariants.{InvalidQuery}
use Rattle.office_base.specs.Tables.{Tables}
use Rattle.office_base.specs.declared.records.ClockRow.{ClockRow}
use Rattle.office_base.specs.declared.records.NoticeRow.{NoticeRow}
use Rattle.office_tables.specs.Earlier.{HoldsEdition, IsMigrated, former_part, had_former}
use Rattle.office_tables.specs.Statements.{OneFails, RunAll, migration}
use Rattle.office_tables.specs.Steps.{Goes}

-- the database holds an office of this edition with this content, with this clock, and with these notices in `notices`
pub record HoldsThese (edition : ℕ) (clock : ClockRow) (notices : List NoticeRow) (db : Database) (t : Tables) : Type 0 where
  pub held : HoldsEdition edition db t
  pub clock_is : t.clock ≡ clock
  pub notices_are : former_part (had_former edition) t.notices ≡ notices

-- The transaction continues and nothing is committed. It has turned any such office into one of this program with the same content, and kept tables apart.
pub record Becomes (edition : ℕ) (clock : ClockRow) (notices : List NoticeRow) (old new : State) : Type 0 where
  pub goes : Goes old new
  pub tables : (t : Tables) → HoldsThese edition clock notices old.now t → IsMigrated edition t old.now new.now

-- the migration is committed
pub record Migrates (edition : ℕ) (clock : ClockRow) (notices : List NoticeRow) (old new : State) : Type 0 where
  pub was_open : IsTrue old.is_open
  pub is_open : IsTrue new.is_open
  pub tables : (t : Tables) → HoldsThese edition clock notices old.committed t → IsMigrated edition t old.committed new.committed
  -- a stop leaves the trees of this commit and no others
  pub only : (db : Trees) → new.may_leave db → db ≡ new.committed.trees

-- a commit of the migration leaves these trees
abbrev pub LeavesCurrent : ℕ → ClockRow → List NoticeRow → State → Trees → Type 0
LeavesCurrent edition clock notices old trees =
    IsTrue old.is_open × ((t : Tables) → HoldsThese edition clock notices old.committed t → (db : Database) × (trees ≡ db.trees) × IsMigrated edition t old.committed db)

-- Why a migration fails with this error: a transaction was under way, or one of its statements failed, or its commit did. No fault of the disk is forgotten.
abbrev pub MigrationFails : {S : Type 0} → Ghosts S → ℕ → ClockRow → List NoticeRow → Held S → Held S → Error → Type 0
MigrationFails {S} g edition clock notices old new e =
    (IsTrue old.in_transaction × (e ≡ InvalidQuery))
    ⊎ ((mid : Held S) × ((state g old).faults ≤ (state g mid).faults) × ((state g mid).faults ≤ (state g new).faults)
    × (OneFails g (migration edition clock notices) (record old { in_transaction = true }) mid e
    ⊎ (RunAll g (migration edition clock notices) (record old { in_transaction = true }) mid × FailsToCommit (state g mid) (state g new) e)))
