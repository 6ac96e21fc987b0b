-- The rule of a contract's end: its outstanding amount is free again.
use Rattle.std.specs.Prelude.{◌≡◌, ℕ, ◌+◌, ◌<◌, Bool, true, false, not, ◌&&◌, ◌||◌, List, [], ◌∷◌, ◌++◌, Option, Some, None, is_some, nat_lt}
use Rattle.office_commands.specs.declared.contract.How.{How}
use Rattle.office_commands.specs.declared.contract.How.TheVariants as hows
use Rattle.office_values.specs.Money.{total_limit}
use Rattle.office_values.specs.declared.refusal.Thing.TheVariants as things
use Rattle.office_values.specs.declared.refusal.Refusal.{Refusal}
use Rattle.office_values.specs.declared.refusal.Refusal.TheVariants.{NoSuch, ContractEnded, LimitReached}
use Rattle.office_base.specs.Rows.{holds_of}
use Rattle.office_base.specs.Transitions.{clock_put, with_next_release, has_all_releases, performance_settled, put_if, puts_if}
use Rattle.office_base.specs.Joined.{free_in, is_overdrawn, outstanding}
use Rattle.award_core.specs.Rules.AmendContract.{has_ended}
use Rattle.office_base.specs.declared.records.LineRow.{LineRow}
use Rattle.office_base.specs.declared.records.NoticeRow.{NoticeRow}
use Rattle.office_base.specs.declared.records.ContractRow.{ContractRow}
use Rattle.office_base.specs.declared.records.EntryRow.{EntryRow}
use Rattle.office_base.specs.declared.records.ClockRow.{ClockRow}
use Rattle.office_base.specs.declared.records.PerformanceRow.{PerformanceRow}
use Rattle.office_base.specs.declared.records.SecurityState.{SecurityState}
use Rattle.office_base.specs.declared.records.SecurityState.TheVariants.{Returned, Forfeited}
use Rattle.office_base.specs.declared.puts.Put.TheVariants as puts
use Rattle.office_base.specs.declared.puts.Put.{Put}
use Rattle.office_base.specs.Tables.{Tables, contract_at, performance_at, entries_of_contract}
use Rattle.office_base.specs.Parents.{notice_of_contract, lot_of_contract, line_of_lot}
use Rattle.award_core.specs.declared.end.EndRows.{EndRows}

-- the contract, ended at this moment in this way, with its outstanding amount released
abbrev pub ended_contract : ℕ → How → List EntryRow → ContractRow → ContractRow
ended_contract t how entries c = record c { ended = Some t; how = Some how; released = outstanding entries c }

-- the final state of the performance security: returned if the contract ends as agreed, and forfeited by default
abbrev pub ended_state : How → SecurityState
ended_state hows.Regular = Returned
ended_state hows.ForDefault = Forfeited

-- the changes of the contract, its budget line, its notice and the clock
abbrev pub end_parts : ClockRow → ℕ → How → ContractRow → List EntryRow → NoticeRow → LineRow → List Put
end_parts clock t how c entries n r =
    puts.Contract (ended_contract t how entries c)
    ∷ puts.Line (record r { free = r.free + outstanding entries c })
    ∷ puts.Notice (with_next_release n)
    ∷ clock_put clock t
    ∷ []

-- the rows that the end of a contract reads
abbrev pub end_rows : Tables → ℕ → EndRows
end_rows s contract = record {
  contract = contract_at contract s;
  entries = entries_of_contract contract s;
  notice = notice_of_contract (contract_at contract s) s;
  line = line_of_lot (lot_of_contract (contract_at contract s) s) s;
  performance = performance_at contract s;
  clock = s.clock;
}

-- whether the notice requires a performance security, but its row is missing
abbrev pub lacks_performance : NoticeRow → Option PerformanceRow → Bool
lacks_performance n performance = nat_lt 0 n.performance && not (is_some performance)

-- whether the contract exists, but its notice, its budget line or the required performance security is missing, or more was taken from it than was added
abbrev pub end_lacks : EndRows → Bool
end_lacks rows =
    holds_of (λ (c : ContractRow).
    not (is_some rows.notice) || not (is_some rows.line) || holds_of (λ (n : NoticeRow). lacks_performance n rows.performance) rows.notice
    || is_overdrawn rows.entries c
    ) rows.contract

-- the conditions of its refusals, in order
abbrev pub end_tests : EndRows → List (Bool × Refusal)
end_tests rows =
    (not (is_some rows.contract), NoSuch things.Contract)
    ∷ (holds_of has_ended rows.contract, ContractEnded)
    ∷ (has_all_releases rows.notice, LimitReached)
    ∷ []

-- its changes: the contract, its budget line, the notice, the clock, and the performance security if there is one
abbrev pub end_puts : EndRows → ℕ → How → List Put
end_puts rows t how =
    puts_if (λ (c : ContractRow). puts_if (λ (n : NoticeRow). puts_if (λ (r : LineRow).
    end_parts rows.clock t how c rows.entries n r ++ put_if (performance_settled (ended_state how)) rows.performance
    ) rows.line) rows.notice) rows.contract

-- the outstanding amount of a contract; 0 if the contract doesn't exist
abbrev pub rest_in : List EntryRow → Option ContractRow → ℕ
rest_in entries None = 0
rest_in entries (Some c) = outstanding entries c

-- Why an end that isn't refused has no changes: a row is missing, or more was taken from the contract than was added (`end_lacks`). If neither is so, the line
-- would have more free money than the bound of sums.
abbrev pub CantEnd : EndRows → Type 0
CantEnd rows =
    is_some rows.contract ≡ true → has_all_releases rows.notice ≡ false → end_lacks rows ≡ false
    → total_limit < free_in rows.line + rest_in rows.entries rows.contract
