-- Over any tables, a change of a contract makes no missing parent of a row, and replaces no row of another owner.
use Rattle.office_machine.proofs.Names.{max, ℕ, ◌+◌, ◌-◌, false, ◌≡◌, List, Option, Some, None, refl, list_any, found_key, notice_of_contract, lot_of_contract, line_of_lot, Tables, contract_at, line_at, entries_of_contract, with_next_release, ClockRow, ContractRow, LineRow, NoticeRow, amend_contract_puts, amend_contract_tests, amend_contract_rows, is_taken, line_after, change_row, ChangeKind, AmendContract}
use Rattle.office_base.specs.declared.puts.Put.TheVariants as puts
use Rattle.office_commands.specs.declared.contract.ChangeKind.TheVariants as change_kinds
use Rattle.office_machine.proofs.NoParents.Gentle.{AreGentle, IsGentle}
use Rattle.office_machine.proofs.Passed.{none_holds}
use Rattle.office_machine.proofs.Rows.Keyed as keyed
use Rattle.office_machine.proofs.NoParents.Gentle.{PutsGently}
use Rattle.office_machine.proofs.NoParents.Kept.{notice_kept, line_of, line_found}
use Rattle.office_machine.proofs.NoParents.New.{new_entry}

line_changed : (s : Tables) (k : List ℕ) (kind : ChangeKind) (amount : ℕ) (r : LineRow) → line_at k s ≡ Some r → IsGentle s (puts.Line (line_after kind amount r))
line_changed s k change_kinds.Raise amount r is = line_of s k r (r.free - amount) is
line_changed s k change_kinds.Cut amount r is = line_of s k r (r.free + amount) is

amend_contract_by : (s : Tables) (clock : ClockRow) (t contract : ℕ) (entry : List ℕ) (kind : ChangeKind) (amount : ℕ) (rationale : List ℕ) (o : Option ContractRow) (n : Option NoticeRow) (w : Option LineRow)
    → list_any (is_taken entry) (entries_of_contract contract s) ≡ false → contract_at contract s ≡ o → notice_of_contract o s ≡ n → line_of_lot (lot_of_contract o s) s ≡ w
    → AreGentle s (amend_contract_puts (record { contract = o; entries = entries_of_contract contract s; notice = n; line = w; clock = clock }) t entry kind amount rationale)
amend_contract_by s clock t contract entry kind amount rationale (Some c) (Some n) (Some w) new is notice line =
    let at = line_found s (lot_of_contract (Some c) s) w line in
    (new_entry s contract entry new (change_row t c entry kind amount rationale) (found_key keyed.contracts s.contracts contract c is) refl, (line_changed s at.0 kind amount w at.1, (notice_kept s c.notice n (with_next_release n) notice refl, ((refl, tt), tt))))
amend_contract_by s clock t contract entry kind amount rationale None n w new is notice line = tt
amend_contract_by s clock t contract entry kind amount rationale (Some c) None w new is notice line = tt
amend_contract_by s clock t contract entry kind amount rationale (Some c) (Some n) None new is notice line = tt

pub amend_contract_gently : (contract : ℕ) (entry : List ℕ) (kind : ChangeKind) (amount : ℕ) (rationale : List ℕ) → PutsGently (AmendContract contract entry kind amount rationale)
amend_contract_gently contract entry kind amount rationale readings s moment caller order allowed whole =
    amend_contract_by s s.clock (max moment s.clock.moment) contract entry kind amount rationale (contract_at contract s) (notice_of_contract (contract_at contract s) s)
    (line_of_lot (lot_of_contract (contract_at contract s) s) s) (none_holds (amend_contract_tests (amend_contract_rows s contract) entry kind amount) allowed).1.0 refl refl refl
