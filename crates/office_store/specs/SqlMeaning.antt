-- How to read an office in SQL: its connection, and its count of faults.
use Rattle.std.specs.Prelude.{◌≡◌, ℕ, ⊤}
use Rattle.sqlite_trees.specs.Tree.{Trees}
use Rattle.sqlite_trees.specs.declared.store.Store.{Ghosts}
use Rattle.sqlite.specs.Held.{Held, state}
use Rattle.sqlite.specs.State.{State, HasCleanDisk}
use Rattle.office_base.specs.Tables.{Tables, IsSorted}
use Rattle.office_base.specs.Shelves.{Meaning}
use Rattle.office_tables.specs.Failing.{ChangeFails}
use Rattle.office_tables.specs.Steps.{ShowsTables, Leaves, MayLeave}

-- all trees that a stop may leave hold some office
abbrev pub LeavesOffices : State → Type 0
LeavesOffices s = (db : Trees) → s.may_leave db → (u : Tables) × Leaves u db

-- if the last commit holds an office, all trees that a stop may leave hold one
abbrev pub LeavesShown : State → Type 0
LeavesShown s = (t : Tables) → ShowsTables s t → LeavesOffices s

-- if the last commit holds an office, a stop can leave no other office
abbrev pub LeavesNoOther : State → Type 0
LeavesNoOther s = (t : Tables) → ShowsTables s t → (u : Tables) → MayLeave s u → u ≡ t

-- The content of an office in SQL is that of the last commit of an open store, in the order of its keys. A query may fail at any time; a change fails only
-- for the causes of `ChangeFails`.
abbrev pub sql_meaning : {S : Type 0} → Ghosts S → Meaning (Held S × ℕ)
sql_meaning g = record {
  holds = λ s t. IsSorted t × ShowsTables (state g s.0) t;
  honest = λ s. HasCleanDisk (state g s.0);
  may_leave = λ s u. MayLeave (state g s.0) u;
  leaves_sound = λ s. LeavesOffices (state g s.0);
  fault_count = λ s. s.1;
  may_break = ⊤;
  has_failed = λ old new puts. ChangeFails (state g old.0) (state g new.0) puts;
}

-- how to read a value that has a store inside
abbrev pub inside : {S T : Type 0} → (S → T) → Meaning T → Meaning S
inside part M = record {
  holds = λ s t. M.holds (part s) t;
  honest = λ s. M.honest (part s);
  may_leave = λ s u. M.may_leave (part s) u;
  leaves_sound = λ s. M.leaves_sound (part s);
  fault_count = λ s. M.fault_count (part s);
  may_break = M.may_break;
  has_failed = λ old new puts. M.has_failed (part old) (part new) puts;
}
