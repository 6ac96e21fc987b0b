-- The texts that a program shows of an office, and prints.
use Rattle.std.specs.Prelude.{◌≡◌, ◌⊎◌, ℕ, Bool, true, List, Option, Some, None, Result, Ok, Err, Vec}
use Rattle.std.specs.Io.KnownBytes.{Appends}
use Rattle.std.specs.declared.alloc.Global.{Global}
use Rattle.office_commands.specs.declared.command.Caller.TheVariants.{Public}
use Rattle.office_commands.specs.declared.queries.Query.{Query}
use Rattle.office_commands.specs.declared.queries.Query.TheVariants as queries
use Rattle.office_values.specs.Ids.{IsId}
use Rattle.office_values.specs.declared.refusal.Refusal.TheVariants.{Unavailable}
use Rattle.office_values.specs.declared.settings.Settings.{Settings}
use Rattle.office_base.specs.Tables.{Tables}
use Rattle.office_desk.specs.Steps.{HasShown, IsSeen}
use Rattle.office_wire.specs.Sending.{AppendsPart}
use Rattle.tender_papers.specs.Listing.{listing_text}
use Rattle.procure_config.specs.Configuration.{settings_in}
use Rattle.procure_config.specs.Faults.{no_memory, no_route, of_settings}
use Rattle.procure_config.specs.Jobs.{Asked, Evaluation, Ledger, Minutes, Notices, Record}
use Rattle.procure_config.specs.declared.fault.ProgramFault.{ProgramFault}
use Rattle.procure_config.specs.declared.fault.ProgramFault.TheVariants as fault
use Rattle.procure_config.specs.declared.fault.ProgramFault.TheVariants.{Refused}
use Rattle.procure_config.specs.declared.settings.SettingsFault.{SettingsFault}
use Rattle.procure_programs.specs.declared.showing.Printout.{Printout}
use Rattle.procure_programs.specs.declared.showing.Printout.TheVariants as printouts
use Rattle.procure_programs.specs.declared.showing.Printout.TheVariants.{Seen}

-- The text is the one that the public sees by a query, and the facts that it shows hold.
abbrev pub IsSeenWhole : Settings → Query → Tables → List ℕ → Type 0
IsSeenWhole settings query s text = IsSeen settings.publisher Public query s (Ok text) × HasShown settings.publisher query s

-- The result is the text that the public sees by a query, or the query's refusal. There is no other fault.
abbrev pub IsShown : Settings → Query → Tables → Result (Vec ℕ Global) ProgramFault → Type 0
IsShown settings query s (Ok text) = IsSeenWhole settings query s text.items
IsShown settings query s (Err (Refused why)) = IsSeen settings.publisher Public query s (Err why)
IsShown settings query s (Err _) = ⊥

-- The fault is a refusal of the office.
abbrev pub IsOfOffice : ProgramFault → Type 0
IsOfOffice (Refused why) = Unit {0}
IsOfOffice _ = ⊥

-- A fault of printing is a refusal, or `Output` if the output has failed.
abbrev pub IsOfPrinting : Bool → ProgramFault → Type 0
IsOfPrinting has_failed (Refused why) = Unit {0}
IsOfPrinting has_failed fault.Output = has_failed ≡ true
IsOfPrinting has_failed _ = ⊥

-- The text that the public sees by a query was added to the output as a whole. If the output failed, a beginning of it was added. If the query was refused,
-- nothing was. There is no other fault.
abbrev pub IsPrinted : Settings → Query → Tables → Option (List ℕ) → Option (List ℕ) → Result (Unit {0}) ProgramFault → Type 0
IsPrinted settings query s before after (Ok done) = (text : List ℕ) × IsSeenWhole settings query s text × Appends before after text
IsPrinted settings query s before after (Err fault.Output) =
    (text : List ℕ) × IsSeenWhole settings query s text × AppendsPart before after text
IsPrinted settings query s before after (Err (Refused why)) = IsSeen settings.publisher Public query s (Err why) × (after ≡ before)
IsPrinted settings query s before after (Err _) = ⊥

-- The printout of an office was added to the output: the text of a query, or the list of its notices. Of a list that wasn't printed whole nothing is said.
abbrev pub IsPrintout : Settings → Printout → Tables → Option (List ℕ) → Option (List ℕ) → Result (Unit {0}) ProgramFault → Type 0
IsPrintout settings (Seen query) s before after result = IsPrinted settings query s before after result
IsPrintout settings printouts.Notices s before after (Ok done) = Appends before after (listing_text s.notices)
IsPrintout settings printouts.Notices s before after (Err why) = Unit {0}

-- The words ask for a text about a named notice. The result is `NoRoute` if the name isn't an identifier.
abbrev pub AsksOfNotice : (List ℕ → Query) → List ℕ → Result (Option Printout) ProgramFault → Type 0
AsksOfNotice query notice (Ok asked) = IsId notice × (asked ≡ Some (Seen (query notice)))
AsksOfNotice query notice (Err told) = (¬ (IsId notice)) × (told ≡ no_route)

-- The printout that the words ask for, or none if they ask for something else.
abbrev pub AsksPrintout : Asked → Result (Option Printout) ProgramFault → Type 0
AsksPrintout (Ledger config store) result = result ≡ Ok (Some (Seen queries.Ledger))
AsksPrintout (Minutes config store notice) result = AsksOfNotice queries.Minutes notice result
AsksPrintout (Record config store notice) result = AsksOfNotice queries.Record notice result
AsksPrintout (Notices config store) result = result ≡ Ok (Some printouts.Notices)
AsksPrintout (Evaluation config store notice) result = AsksOfNotice queries.Evaluation notice result
AsksPrintout asked result = result ≡ Ok None

-- A fault of the settings: memory is too small, a member is faulty, or the settings can't be read.
abbrev pub IsOfSettings : ProgramFault → Type 0
IsOfSettings (Refused why) = why ≡ Unavailable
IsOfSettings (fault.Settings member) = Unit {0}
IsOfSettings _ = ⊥

-- The text gives no settings, and this is the fault of it. Or memory is too small to read the text.
abbrev pub IsOfText : List ℕ → ProgramFault → Type 0
IsOfText text told = (told ≡ no_memory) ⊎ ((why : SettingsFault) × (settings_in text ≡ Err why) × (told ≡ of_settings why))

-- Under the settings that a text gives, this work was done. Or the text gives none and the result is the fault of it. Then everything stayed as it was.
abbrev pub UnderSettings : List ℕ → Result (Unit {0}) ProgramFault → Type 0 → (Settings → Type 0) → Type 0
UnderSettings text result Stays Work =
    ((settings : Settings) × (settings_in text ≡ Ok settings) × Work settings)
    ⊎ ((told : ProgramFault) × IsOfText text told × (result ≡ Err told) × Stays)
