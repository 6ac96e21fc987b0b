-- How to read a store that remembers sums, numbers and rows.
use Rattle.std.specs.Prelude.{List}
use Rattle.office_base.specs.Shelves.{Meaning, Keeps}
use Rattle.office_base.specs.Shutting.{Standing}
use Rattle.office_base.specs.declared.puts.Put.{Put}
use Rattle.office_sums.specs.Carried.{KnowsEntries}
use Rattle.office_sums.specs.Found.{KnowsRows}
use Rattle.office_sums.specs.Numbered.{CountsReleases}
use Rattle.office_sums.specs.Remembered.{Remembers}
use Rattle.office_sums.specs.declared.shelf.RememberingShelf.{RememberingShelf}

-- look-ups left the content as it was, and then the store failed to make these changes
pub record FailsAfterLooks {S : Type 0} (M : Meaning S) (old new : S) (puts : List Put) : Type 0 where
  pub middle : S
  pub looks : Keeps M old middle
  pub failed : M.has_failed middle new puts

-- It holds the tables that the store inside holds, and the sums, numbers and rows that it remembers agree with these. A stop leaves what it leaves in the store
-- inside.
abbrev pub remembering : {S : Type 0} → Meaning S → Meaning (RememberingShelf S)
remembering M = record {
  holds = λ s t. M.holds s.shelf t × Remembers s.known t × CountsReleases s.counts t × KnowsEntries s.listed t × KnowsRows s.found t;
  honest = λ s. M.honest s.shelf;
  may_leave = λ s t. M.may_leave s.shelf t;
  leaves_sound = λ s. M.leaves_sound s.shelf;
  fault_count = λ s. s.faults;
  may_break = M.may_break;
  has_failed = λ old new puts. FailsAfterLooks M old.shelf new.shelf puts;
}

-- It is closed exactly if the store inside is.
abbrev pub remembering_standing : {S : Type 0} → Standing S → Standing (RememberingShelf S)
remembering_standing store = record {
  is_open = λ s. store.is_open s.shelf;
  disk_faults = λ s. store.disk_faults s.shelf;
}
