-- The rule of a contract's amendment: its value is raised or cut.
use Rattle.std.specs.Prelude.{◌≡◌, ℕ, ◌+◌, ◌-◌, ◌<◌, Bool, true, false, not, ◌&&◌, ◌||◌, List, [], ◌∷◌, Option, Some, None, is_some, nat_lt, nat_le, length}
use Rattle.std.specs.List.{list_any}
use Rattle.office_values.specs.Ids.{same_id}
use Rattle.office_values.specs.Money.{total_limit}
use Rattle.office_base.specs.Limits.{entry_limit}
use Rattle.office_commands.specs.declared.contract.ChangeKind.{ChangeKind}
use Rattle.office_commands.specs.declared.contract.ChangeKind.TheVariants as change_kinds
use Rattle.office_base.specs.declared.records.EntryKind.{EntryKind}
use Rattle.office_base.specs.declared.records.EntryKind.TheVariants as entry_kinds
use Rattle.office_values.specs.declared.refusal.Thing.TheVariants as things
use Rattle.office_values.specs.declared.refusal.Refusal.{Refusal}
use Rattle.office_values.specs.declared.refusal.Refusal.TheVariants.{NoSuch, Exists, InsufficientFunds, MoreThanOutstanding, ContractEnded, LimitReached}
use Rattle.office_base.specs.Rows.{holds_of}
use Rattle.office_base.specs.Transitions.{clock_put, with_next_release, has_all_releases, puts_if}
use Rattle.office_base.specs.Joined.{free_in, is_overdrawn, outstanding}
use Rattle.office_base.specs.declared.records.LineRow.{LineRow}
use Rattle.office_base.specs.declared.records.NoticeRow.{NoticeRow}
use Rattle.office_base.specs.declared.records.ContractRow.{ContractRow}
use Rattle.office_base.specs.declared.records.EntryRow.{EntryRow}
use Rattle.office_base.specs.declared.puts.Put.TheVariants as puts
use Rattle.office_base.specs.declared.puts.Put.{Put}
use Rattle.office_base.specs.Tables.{Tables, contract_at, entries_of_contract}
use Rattle.office_base.specs.Parents.{notice_of_contract, lot_of_contract, line_of_lot}
use Rattle.award_core.specs.declared.amend_contract.AmendContractRows.{AmendContractRows}

-- whether a contract hasn't ended
abbrev pub is_running : ContractRow → Bool
is_running c = not (is_some c.ended)

-- whether a contract has ended
abbrev pub has_ended : ContractRow → Bool
has_ended c = is_some c.ended

-- whether a contract hasn't ended, and less than this amount is outstanding
abbrev pub is_beyond : List EntryRow → ℕ → ContractRow → Bool
is_beyond entries amount c = is_running c && nat_lt (outstanding entries c) amount

-- whether an entry has this identifier
abbrev pub is_taken : List ℕ → EntryRow → Bool
is_taken entry e = same_id e.entry entry

-- whether a contract has as many entries as it can have
abbrev pub has_all_entries : List EntryRow → Bool
has_all_entries entries = nat_le entry_limit (length entries)

abbrev pub is_raising : ChangeKind → Bool
is_raising change_kinds.Raise = true
is_raising change_kinds.Cut = false

abbrev pub entry_kind : ChangeKind → EntryKind
entry_kind change_kinds.Raise = entry_kinds.Raise
entry_kind change_kinds.Cut = entry_kinds.Cut

-- the budget line of a contract: a raise takes free money of it, and a cut adds free money to it
abbrev pub line_after : ChangeKind → ℕ → LineRow → LineRow
line_after change_kinds.Raise amount r = record r { free = r.free - amount }
line_after change_kinds.Cut amount r = record r { free = r.free + amount }

-- the entry of the change
abbrev pub change_row : ℕ → ContractRow → List ℕ → ChangeKind → ℕ → List ℕ → EntryRow
change_row t c entry kind amount rationale =
    record { contract = c.contract; entry = entry; kind = entry_kind kind; amount = amount; moment = t; rationale = Some rationale }

-- the rows that the amendment of a contract reads
abbrev pub amend_contract_rows : Tables → ℕ → AmendContractRows
amend_contract_rows s contract = record {
  contract = contract_at contract s;
  entries = entries_of_contract contract s;
  notice = notice_of_contract (contract_at contract s) s;
  line = line_of_lot (lot_of_contract (contract_at contract s) s) s;
  clock = s.clock;
}

-- whether the contract exists, but its notice or its budget line is missing, or more was taken from it than was added
abbrev pub amend_contract_lacks : AmendContractRows → Bool
amend_contract_lacks rows =
    holds_of (λ (c : ContractRow). not (is_some rows.notice) || not (is_some rows.line) || is_overdrawn rows.entries c) rows.contract

-- the conditions of its refusals, in order
abbrev pub amend_contract_tests : AmendContractRows → List ℕ → ChangeKind → ℕ → List (Bool × Refusal)
amend_contract_tests rows entry kind amount =
    (not (is_some rows.contract), NoSuch things.Contract)
    ∷ (list_any (is_taken entry) rows.entries, Exists)
    ∷ (holds_of is_running rows.contract && is_raising kind && nat_lt (free_in rows.line) amount, InsufficientFunds)
    ∷ (not (is_raising kind) && holds_of (is_beyond rows.entries amount) rows.contract, MoreThanOutstanding)
    ∷ (holds_of has_ended rows.contract, ContractEnded)
    ∷ (has_all_entries rows.entries || has_all_releases rows.notice, LimitReached)
    ∷ []

-- its changes: the entry, the budget line, the notice and the clock
abbrev pub amend_contract_puts : AmendContractRows → ℕ → List ℕ → ChangeKind → ℕ → List ℕ → List Put
amend_contract_puts rows t entry kind amount rationale =
    puts_if (λ (c : ContractRow). puts_if (λ (n : NoticeRow). puts_if (λ (r : LineRow).
    puts.Entry (change_row t c entry kind amount rationale)
    ∷ puts.Line (line_after kind amount r)
    ∷ puts.Notice (with_next_release n)
    ∷ clock_put rows.clock t
    ∷ []
    ) rows.line) rows.notice) rows.contract

-- the free money of a line after the change; 0 if the line doesn't exist
abbrev pub free_changed : ChangeKind → ℕ → Option LineRow → ℕ
free_changed kind amount None = 0
free_changed kind amount (Some r) = (line_after kind amount r).free

-- Why an amendment that isn't refused has no changes: a row is missing, or more was taken from the contract than was added (`amend_contract_lacks`). If neither is
-- so, the line would have more free money than the bound of sums.
abbrev pub CantChange : ChangeKind → ℕ → AmendContractRows → Type 0
CantChange kind amount rows =
    is_some rows.contract ≡ true → has_all_releases rows.notice ≡ false → amend_contract_lacks rows ≡ false → total_limit < free_changed kind amount rows.line
