-- A new file that is put at a path which nothing has yet.
use Rattle.std.specs.Prelude.{◌≡◌, ◌⊎◌, ℕ, Bool, true, false, List, ◌++◌, codes, Option, Some, None}
use Rattle.procure_programs.specs.Blank.{empty_database}

-- The second name of a file: its path, and an ending.
abbrev pub second_name_of : List ℕ → List ℕ
second_name_of path = path ++ codes "-procure-new"

-- What is seen of a folder, and the events that change it, by its state before and after them. Each event says whether it succeeded.
pub record FolderEvents (X : Type 0) : Type 1 where
  -- A path names a file, whose real path this is. Or nothing has the path's name.
  pub finds : X → List ℕ → Option (List ℕ) → Type 0
  -- The file with this name has this many bytes, or nothing has the name and this is 0.
  pub measures : X → List ℕ → ℕ → Type 0
  -- The folder of a path is locked.
  pub locks : X → List ℕ → Bool → X → Type 0
  -- A file with this name gets these bytes, which are then on the disk.
  pub writes : X → List ℕ → List ℕ → Bool → X → Type 0
  -- The file with this name gets this path too, unless something has the path.
  pub links : X → List ℕ → List ℕ → Bool → X → Type 0
  -- The file with this name loses it.
  pub removes : X → List ℕ → Bool → X → Type 0

-- The file with this name gets this path too, or the link fails.
abbrev pub Links : {X : Type 0} → FolderEvents X → List ℕ → List ℕ → X → X → Type 0
Links E name path old new = (is_linked : Bool) × E.links old name path is_linked new

-- The file with this name loses it, or the removal fails.
abbrev pub Removes : {X : Type 0} → FolderEvents X → List ℕ → X → X → Type 0
Removes E name old new = (is_removed : Bool) × E.removes old name is_removed new

-- A file that was written whole gets its path. Another one gets none.
abbrev pub LinksWritten : {X : Type 0} → FolderEvents X → List ℕ → List ℕ → Bool → X → X → Type 0
LinksWritten E name path true old new = Links E name path old new
LinksWritten E name path false old new = new ≡ old

-- An empty database is written under this name, and then gets this path too.
abbrev pub WritesAndLinks : {X : Type 0} → FolderEvents X → List ℕ → List ℕ → X → X → Type 0
WritesAndLinks {X = X} E name path old new =
    (is_written : Bool) × (written : X) × E.writes old name empty_database is_written written × LinksWritten E name path is_written written new

-- If the folder is locked, an empty database is written under the second name of a path, gets the path, and loses the second name.
abbrev pub PutsLocked : {X : Type 0} → FolderEvents X → List ℕ → Bool → X → X → Type 0
PutsLocked {X = X} E path true old new =
    (linked : X) × WritesAndLinks E (second_name_of path) path old linked × Removes E (second_name_of path) linked new
PutsLocked E path false old new = new ≡ old

-- An empty database is put at a path while its folder is locked. Without memory for its second name nothing changes.
abbrev pub PutsNew : {X : Type 0} → FolderEvents X → List ℕ → X → X → Type 0
PutsNew {X = X} E path old new =
    (new ≡ old) ⊎ ((is_locked : Bool) × (locked : X) × E.locks old path is_locked locked × PutsLocked E path is_locked locked new)

-- No log and no journal beside the path holds a byte.
abbrev pub HasNothingBeside : {X : Type 0} → FolderEvents X → X → List ℕ → Type 0
HasNothingBeside E folder path = E.measures folder (path ++ codes "-wal") 0 × E.measures folder (path ++ codes "-journal") 0

-- A file loses its second name, which a start that was stopped left. Or nothing changes.
abbrev pub LeavesOneName : {X : Type 0} → FolderEvents X → List ℕ → X → X → Type 0
LeavesOneName E real old new = (new ≡ old) ⊎ Removes E (second_name_of real) old new

-- What becomes of a folder when an office's file is put at a path. Nothing changes, or a file that the path names loses its second name. Or nothing has the path
-- or is beside it, and an empty database is put there. So no file that has the path is written, replaced or removed.
abbrev pub PlacesEmpty : {X : Type 0} → FolderEvents X → List ℕ → X → X → Type 0
PlacesEmpty E path old new =
    (new ≡ old)
    ⊎ ((real : List ℕ) × E.finds old path (Some real) × LeavesOneName E real old new)
    ⊎ (E.finds old path None × HasNothingBeside E old path × PutsNew E path old new)
