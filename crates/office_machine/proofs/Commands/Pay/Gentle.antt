-- Over any tables, a payment makes no missing parent of a row, and replaces no row of another owner.
use Rattle.office_machine.proofs.Names.{max, ℕ, false, ◌≡◌, List, Option, Some, None, refl, list_any, found_key, notice_of_contract, Tables, contract_at, entries_of_contract, with_next_release, ClockRow, ContractRow, NoticeRow, is_taken, pay_puts, pay_tests, pay_rows, payment_row, Pay}
use Rattle.office_machine.proofs.NoParents.Gentle.{AreGentle}
use Rattle.office_machine.proofs.Passed.{none_holds}
use Rattle.office_machine.proofs.Rows.Keyed as keyed
use Rattle.office_machine.proofs.NoParents.Gentle.{PutsGently}
use Rattle.office_machine.proofs.NoParents.Kept.{notice_kept}
use Rattle.office_machine.proofs.NoParents.New.{new_entry}

pay_by : (s : Tables) (clock : ClockRow) (t contract : ℕ) (entry : List ℕ) (amount : ℕ) (o : Option ContractRow) (n : Option NoticeRow)
    → list_any (is_taken entry) (entries_of_contract contract s) ≡ false → contract_at contract s ≡ o → notice_of_contract o s ≡ n
    → AreGentle s (pay_puts (record { contract = o; entries = entries_of_contract contract s; notice = n; clock = clock }) t entry amount)
pay_by s clock t contract entry amount (Some c) (Some n) new is notice = (new_entry s contract entry new (payment_row t c entry amount) (found_key keyed.contracts s.contracts contract c is) refl, (notice_kept s c.notice n (with_next_release n) notice refl, ((refl, tt), tt)))
pay_by s clock t contract entry amount None n new is notice = tt
pay_by s clock t contract entry amount (Some c) None new is notice = tt

pub pay_gently : (contract : ℕ) (entry : List ℕ) (amount : ℕ) → PutsGently (Pay contract entry amount)
pay_gently contract entry amount readings s moment caller order allowed whole =
    pay_by s s.clock (max moment s.clock.moment) contract entry amount (contract_at contract s) (notice_of_contract (contract_at contract s) s) (none_holds (pay_tests (pay_rows s contract) entry amount) allowed).1.0 refl refl
