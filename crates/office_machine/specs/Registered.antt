-- The tenderers are those that accepted commands registered.
use Rattle.std.specs.Prelude.{◌≡◌, ℕ, cond, List, [], ◌∷◌, Option, Some, None}
use Rattle.office_values.specs.Ids.{same_id}
use Rattle.office_commands.specs.declared.commands.Command.{Command}
use Rattle.office_commands.specs.declared.commands.Command.TheVariants.{Register}
use Rattle.office_base.specs.declared.records.TendererRow.{TendererRow}
use Rattle.office_base.specs.Tables.{Tables, tenderer_at}
use Rattle.office_machine.specs.Machine.{Means, Given, Reaches}

-- A tenderer after a command: the registration names it, and no other command changes it.
abbrev pub tenderer_by : Command → List ℕ → Option TendererRow → Option TendererRow
tenderer_by (Register name title address key) tenderer old =
    cond (same_id name tenderer) (Some (record { tenderer = name; name = title; address = address; key = key })) old
tenderer_by _ tenderer old = old

-- The tenderer that these accepted commands, the last one first, registered under a name.
abbrev pub tenderer_after : List Given → List ℕ → Option TendererRow
tenderer_after [] tenderer = None
tenderer_after (x ∷ xs) tenderer = tenderer_by x.command tenderer (tenderer_after xs tenderer)

-- Wherever accepted commands lead, the tenderers are those that they registered, each as it was registered, and there are no others.
abbrev pub TenderersAreKept : Type 0
TenderersAreKept = (means : Means) (xs : List Given) (t : Tables) → Reaches means xs t → (tenderer : List ℕ) → tenderer_at tenderer t ≡ tenderer_after xs tenderer
