-- The rule of a payment under a contract.
use Rattle.std.specs.Prelude.{◌≡◌, ℕ, Bool, true, false, not, ◌&&◌, ◌||◌, List, [], ◌∷◌, None, is_some}
use Rattle.std.specs.List.{list_any}
use Rattle.office_base.specs.declared.records.EntryKind.TheVariants as entry_kinds
use Rattle.office_values.specs.declared.refusal.Thing.TheVariants as things
use Rattle.office_values.specs.declared.refusal.Refusal.{Refusal}
use Rattle.office_values.specs.declared.refusal.Refusal.TheVariants.{NoSuch, Exists, MoreThanOutstanding, ContractEnded, LimitReached}
use Rattle.office_base.specs.Rows.{holds_of}
use Rattle.office_base.specs.Transitions.{clock_put, with_next_release, has_all_releases, puts_if}
use Rattle.award_core.specs.Rules.AmendContract.{has_ended, is_beyond, is_taken, has_all_entries}
use Rattle.office_base.specs.declared.records.NoticeRow.{NoticeRow}
use Rattle.office_base.specs.declared.records.ContractRow.{ContractRow}
use Rattle.office_base.specs.declared.records.EntryRow.{EntryRow}
use Rattle.office_base.specs.declared.puts.Put.TheVariants as puts
use Rattle.office_base.specs.declared.puts.Put.{Put}
use Rattle.office_base.specs.Tables.{Tables, contract_at, entries_of_contract}
use Rattle.office_base.specs.Parents.{notice_of_contract}
use Rattle.award_core.specs.declared.pay.PayRows.{PayRows}

-- the entry of the payment
abbrev pub payment_row : ℕ → ContractRow → List ℕ → ℕ → EntryRow
payment_row t c entry amount =
    record { contract = c.contract; entry = entry; kind = entry_kinds.Payment; amount = amount; moment = t; rationale = None }

-- the rows that a payment reads
abbrev pub pay_rows : Tables → ℕ → PayRows
pay_rows s contract = record {
  contract = contract_at contract s;
  entries = entries_of_contract contract s;
  notice = notice_of_contract (contract_at contract s) s;
  clock = s.clock;
}

-- whether the contract exists, but its notice is missing
abbrev pub pay_lacks : PayRows → Bool
pay_lacks rows = is_some rows.contract && not (is_some rows.notice)

-- the conditions of its refusals, in order
abbrev pub pay_tests : PayRows → List ℕ → ℕ → List (Bool × Refusal)
pay_tests rows entry amount =
    (not (is_some rows.contract), NoSuch things.Contract)
    ∷ (list_any (is_taken entry) rows.entries, Exists)
    ∷ (holds_of (is_beyond rows.entries amount) rows.contract, MoreThanOutstanding)
    ∷ (holds_of has_ended rows.contract, ContractEnded)
    ∷ (has_all_entries rows.entries || has_all_releases rows.notice, LimitReached)
    ∷ []

-- its changes: the payment, the notice and the clock
abbrev pub pay_puts : PayRows → ℕ → List ℕ → ℕ → List Put
pay_puts rows t entry amount =
    puts_if (λ (c : ContractRow). puts_if (λ (n : NoticeRow).
    puts.Entry (payment_row t c entry amount) ∷ puts.Notice (with_next_release n) ∷ clock_put rows.clock t ∷ []
    ) rows.notice) rows.contract

-- Why a payment under a contract that exists has no changes: its notice is missing, or has as many releases as it can have.
abbrev pub CantPay : PayRows → Type 0
CantPay rows = is_some rows.contract ≡ true → pay_lacks rows ≡ false → has_all_releases rows.notice ≡ true
