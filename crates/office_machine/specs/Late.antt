-- Tenders of a notice may be withdrawn late exactly if its accepted publication said so.
use Rattle.std.specs.Prelude.{◌≡◌, ℕ, Bool, true, false, cond, ◌&&◌, List, Some, None}
use Rattle.std.specs.List.{list_any}
use Rattle.office_commands.specs.declared.commands.Command.{Command}
use Rattle.office_commands.specs.declared.commands.Command.TheVariants.{Publish}
use Rattle.office_commands.specs.declared.notice.LateWithdrawal.{LateWithdrawal}
use Rattle.office_commands.specs.declared.notice.LateWithdrawal.TheVariants.{Refused, Forfeits}
use Rattle.office_values.specs.Ids.{same_id}
use Rattle.office_base.specs.declared.records.LateRow.{LateRow}
use Rattle.office_base.specs.Tables.{Tables, late_at}
use Rattle.office_machine.specs.Machine.{Means, Given, Reaches}

-- The notice allows late withdrawals, and they forfeit the security.
abbrev pub is_forfeiting : LateWithdrawal → Bool
is_forfeiting Refused = false
is_forfeiting Forfeits = true

-- The command publishes this notice, and says that a late withdrawal forfeits the security.
abbrev pub lets_late : List ℕ → Command → Bool
lets_late notice (Publish name content) = same_id name notice && is_forfeiting content.late_withdrawal
lets_late notice _ = false

-- One of these commands does so.
abbrev pub was_let_late : List Given → List ℕ → Bool
was_let_late xs notice = list_any (λ (x : Given). lets_late notice x.command) xs

-- The row that allows late withdrawals for a notice.
abbrev pub late_row : List ℕ → LateRow
late_row notice = record { notice = notice }

-- The law: in every reached office, a notice has this row exactly if its publication said so.
abbrev pub LateRulesAreKept : Type 0
LateRulesAreKept = (means : Means) (xs : List Given) (t : Tables) → Reaches means xs t → (notice : List ℕ)
    → late_at notice t ≡ cond (was_let_late xs notice) (Some (late_row notice)) None
