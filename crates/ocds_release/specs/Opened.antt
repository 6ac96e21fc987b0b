-- The text of a package while releases are added to it.
use Rattle.std.specs.Prelude.{ℕ, Bool, List, [], ◌∷◌, ◌++◌, ◌-◌, true, map, length, get_or}
use Rattle.serde_json.specs.Written.{comma_if}
use Rattle.office_base.specs.declared.records.ReleaseRow.{ReleaseRow}

-- the text so far, the text that will follow the releases, and whether a release was added
pub record Opened : Type 0 where
  pub written : List ℕ
  pub behind : List ℕ
  pub later : Bool

-- the texts of releases with commas between them, and a comma first if other releases come before
abbrev pub spliced : Bool → List ReleaseRow → List ℕ
spliced later [] = []
spliced later (r ∷ rs) = comma_if later ++ (r.text ++ spliced true rs)

-- the whole text, after these releases are added
abbrev pub completed : Opened → List ReleaseRow → List ℕ
completed pack rows = pack.written ++ (spliced pack.later rows ++ pack.behind)

abbrev pub moment_of : ReleaseRow → ℕ
moment_of r = r.moment

-- the moment of the last of these releases, or 0 if there is none
abbrev pub moment_of_last : List ReleaseRow → ℕ
moment_of_last rows = get_or (map moment_of rows) (length rows - 1) 0
