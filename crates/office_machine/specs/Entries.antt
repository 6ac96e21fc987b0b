-- The entries of contracts are those that accepted commands made.
use Rattle.std.specs.Prelude.{◌≡◌, ℕ, Bool, cond, ◌&&◌, List, [], ◌∷◌, Option, Some, None}
use Rattle.office_values.specs.Ids.{same_id}
use Rattle.office_commands.specs.declared.commands.Command.{Command}
use Rattle.office_commands.specs.declared.commands.Command.TheVariants.{AmendContract, Pay}
use Rattle.office_base.specs.declared.records.EntryKind.{EntryKind}
use Rattle.office_base.specs.declared.records.EntryKind.TheVariants.{Payment}
use Rattle.office_base.specs.declared.records.EntryRow.{EntryRow}
use Rattle.office_base.specs.Tables.{Tables, entry_at, same_number}
use Rattle.award_core.specs.Rules.AmendContract.{entry_kind}
use Rattle.office_machine.specs.Machine.{Means, Given, Reaches, time_of}

-- The entry that a command makes of a contract, under its identifier.
abbrev pub entry_made : ℕ × List ℕ → EntryKind → ℕ → ℕ → Option (List ℕ) → EntryRow
entry_made key kind amount t rationale = record { contract = key.0; entry = key.1; kind = kind; amount = amount; moment = t; rationale = rationale }

-- The key is that of this contract and this identifier.
abbrev pub is_entry : ℕ → List ℕ → ℕ × List ℕ → Bool
is_entry contract entry key = same_number key.0 contract && same_id entry key.1

-- An entry after a command: a raise, a cut or a payment makes it with its own amount, and no command changes one.
abbrev pub entry_by : Command → ℕ → ℕ × List ℕ → Option EntryRow → Option EntryRow
entry_by (AmendContract contract entry kind amount rationale) t key old =
    cond (is_entry contract entry key) (Some (entry_made key (entry_kind kind) amount t (Some rationale))) old
entry_by (Pay contract entry amount) t key old = cond (is_entry contract entry key) (Some (entry_made key Payment amount t None)) old
entry_by _ t key old = old

-- The entry that these accepted commands, the last one first, made under a key.
abbrev pub entry_after : List Given → ℕ × List ℕ → Option EntryRow
entry_after [] key = None
entry_after (x ∷ xs) key = entry_by x.command (time_of x) key (entry_after xs key)

-- Wherever accepted commands lead, the entries are those that they made, each with the amount of its command, and there are no others.
abbrev pub EntriesAreKept : Type 0
EntriesAreKept = (means : Means) (xs : List Given) (t : Tables) → Reaches means xs t → (key : ℕ × List ℕ) → entry_at key t ≡ entry_after xs key
