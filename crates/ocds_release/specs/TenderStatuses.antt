-- The status of a tender, from the states of its lots (OCDS 1.1, codelist tenderStatus).
use Rattle.std.specs.Prelude.{ℕ, Bool, true, false, cond, List, codes}
use Rattle.std.specs.List.{list_any}
use Rattle.office_values.specs.Ids.{same_id}
use Rattle.office_base.specs.States.{is_open}
use Rattle.office_base.specs.declared.records.LotRow.{LotRow}
use Rattle.office_base.specs.declared.records.LotState.{LotState}
use Rattle.office_base.specs.declared.records.LotState.TheVariants as lot_states
use Rattle.ocds_release.specs.declared.tender_status.TenderStatus.{TenderStatus}
use Rattle.ocds_release.specs.declared.tender_status.TenderStatus.TheVariants.{Active, Complete, Cancelled, Unsuccessful}

-- the code of a status
abbrev pub status_code : TenderStatus → List ℕ
status_code Active = codes "active"
status_code Complete = codes "complete"
status_code Cancelled = codes "cancelled"
status_code Unsuccessful = codes "unsuccessful"

-- a contract was signed for the lot
abbrev pub is_contracted : LotState → Bool
is_contracted lot_states.Undecided = false
is_contracted lot_states.Awarded = false
is_contracted lot_states.Contracted = true
is_contracted lot_states.Unsuccessful = false
is_contracted lot_states.Cancelled = false

-- the lot was cancelled
abbrev pub is_cancelled_lot : LotState → Bool
is_cancelled_lot lot_states.Undecided = false
is_cancelled_lot lot_states.Awarded = false
is_cancelled_lot lot_states.Contracted = false
is_cancelled_lot lot_states.Unsuccessful = false
is_cancelled_lot lot_states.Cancelled = true

-- active while a lot is undecided or awarded; else complete if one is contracted, else cancelled if one is cancelled, else unsuccessful
abbrev pub tender_status_of : List LotState → TenderStatus
tender_status_of states =
    cond (list_any is_open states) Active (cond (list_any is_contracted states) Complete (cond (list_any is_cancelled_lot states) Cancelled Unsuccessful))

-- the state of a lot after the lot of this identifier gets this state
abbrev pub state_with : List ℕ → LotState → LotRow → LotState
state_with lot state row = cond (same_id row.lot lot) state row.state

-- the state of a lot after all open lots are cancelled
abbrev pub state_cancelled : LotRow → LotState
state_cancelled row = cond (is_open row.state) lot_states.Cancelled row.state
