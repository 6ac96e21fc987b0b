-- The premises of the clauses that lead from a connection to the file can be met. A clause whose premises nothing meets says nothing.
use Rattle.std.specs.Prelude.{◌≡◌, ℕ, [], None}
use Rattle.sqlite_wal.specs.Recovery.{Image}
use Rattle.office_values.specs.declared.settings.Publisher.{Publisher}
use Rattle.office_values.specs.declared.settings.Settings.{Settings}
use Rattle.office_base.specs.Tables.{Tables, no_tables}
use Rattle.office_publications.specs.Standing.{IsReached}
use Rattle.office_memory.specs.MemoryMeaning.{memory_meaning}
use Rattle.office_sums.specs.Found.{no_answers}
use Rattle.office_sums.specs.RememberingMeaning.{remembering}
use Rattle.office_sums.specs.declared.shelf.RememberingShelf.{RememberingShelf}
use Rattle.office_http.specs.Answering.{Held, StandsAs}
use Rattle.procure_programs.specs.Placed.{HoldNothing}
use Rattle.procure_programs.specs.Serving.{StandsIn}

-- A store that remembers, once it has forgotten everything.
abbrev pub forgetful : {S : Type 0} → RememberingShelf S → RememberingShelf S
forgetful s = record s { known = []; counts = []; listed = None; found = no_answers }

-- The empty office under these settings.
abbrev pub empty_office : Settings → Held
empty_office settings = record { settings = settings; tables = no_tables }

-- For each reached office there is a desk that holds it, in memory and in a store that remembers. The empty office is a reached one, and two files that hold
-- nothing have it. From there the clauses about serving lead on to files that have the office after the steps of its connections.
pub record PremisesAreMet : Type 0 where
  pub in_memory : (h : Held) → IsReached h.settings.publisher h.tables
      → StandsAs memory_meaning (record { shelf = (h.tables, 0); settings = h.settings }) h
  pub remembered : (h : Held) → IsReached h.settings.publisher h.tables → (s : RememberingShelf (Tables × ℕ)) → s.shelf ≡ (h.tables, 0)
      → StandsAs (remembering memory_meaning) (record { shelf = forgetful s; settings = h.settings }) h
  pub at_first : (publisher : Publisher) → IsReached publisher no_tables
  pub in_files : (settings : Settings) (image : Image) → HoldNothing image → StandsIn image (empty_office settings)
  pub of_no_byte : HoldNothing (record { log = []; db = [] })
