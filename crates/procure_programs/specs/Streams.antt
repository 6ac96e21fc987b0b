-- How an office answers the blocks of an input on an output.
use Rattle.std.specs.Prelude.{◌≡◌, ◌⊎◌, ℕ, true, List, Result, Err, IsErrOf}
use Rattle.office_values.specs.declared.settings.Settings.{Settings}
use Rattle.office_base.specs.Shelves.{Meaning}
use Rattle.office_base.specs.Tables.{Tables, no_tables}
use Rattle.office_desk.specs.Desks.{DeskOf}
use Rattle.office_memory.specs.MemoryMeaning.{memory_meaning}
use Rattle.office_wire.specs.Counting.{HasStopped, ReaderView}
use Rattle.office_wire.specs.Sending.{WriterView}
use Rattle.office_wire.specs.declared.fault.RunFault.{RunFault}
use Rattle.office_wire.specs.declared.fault.RunFault.TheVariants as ends
use Rattle.office_http.specs.Runs.{HasRun}
use Rattle.procure_config.specs.Faults.{no_memory}
use Rattle.procure_config.specs.declared.fault.ProgramFault.{ProgramFault}
use Rattle.procure_programs.specs.FaultsTold.{IsToldOfRun}
use Rattle.procure_programs.specs.Showing.{UnderSettings}

-- An office ran over the blocks, and the result reports how the run ended. If it reports that a read or a write failed, then one failed, or no more reads are
-- allowed.
pub record AnswersBlocks {S : Type 0} (M : Meaning S) (came rest : ReaderView) (before after : WriterView) (old new : DeskOf S) (result : Result (Unit {0}) ProgramFault) : Type 0 where
  pub ended : Result ℕ RunFault
  pub told : IsToldOfRun ended result
  pub run : HasRun M ended came rest old new before.contents after.contents
  pub read : IsErrOf ended ends.Read → HasStopped rest
  pub written : IsErrOf ended ends.Write → after.has_failed ≡ true

-- A desk in memory with no row.
abbrev pub empty_desk : Settings → DeskOf (Tables × ℕ)
empty_desk settings = record { shelf = (no_tables, 0); settings = settings }

-- Nothing was read and nothing was written.
abbrev pub StayStreams : ReaderView → ReaderView → WriterView → WriterView → Type 0
StayStreams came rest before after = (rest ≡ came) × (after ≡ before)

-- An empty office in memory answered the blocks under these settings. Or there was too little memory for it, and nothing was read or written.
abbrev pub AnswersFromEmpty : Settings → ReaderView → ReaderView → WriterView → WriterView → Result (Unit {0}) ProgramFault → Type 0
AnswersFromEmpty settings came rest before after result =
    ((last : DeskOf (Tables × ℕ)) × AnswersBlocks memory_meaning came rest before after (empty_desk settings) last result)
    ⊎ ((result ≡ Err no_memory) × StayStreams came rest before after)

-- An empty office in memory answered the blocks under the settings of a text. If the text gives none, nothing was read or written.
abbrev pub RunsDesk : List ℕ → ReaderView → ReaderView → WriterView → WriterView → Result (Unit {0}) ProgramFault → Type 0
RunsDesk text came rest before after result =
    UnderSettings text result (StayStreams came rest before after) (λ settings. AnswersFromEmpty settings came rest before after result)
