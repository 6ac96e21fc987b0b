-- The facts about the accounts that are true of every reached office.
use Rattle.office_machine.proofs.Names.{◌≡◌, ℕ, ◌+◌, ◌≤◌, Bool, true, false, cond, List, Some, None, is_some, same_id, sum_over, is_open, is_active, is_raise, is_less, is_payment, LotRow, LotState, AwardRow, ContractRow, Tables, find_lot, find_award, find_contract, entry_sum, plus, minus, paid_under, is_on_line, Given, Move, Outside, Free, Reserved, Contracted, Paid, inflow, outflow, moves, reserved_for, brought, taken, appropriation, free}
use Rattle.office_base.specs.declared.records.LotState.TheVariants as lot_states

abbrev pub is_awarded : LotState → Bool
is_awarded lot_states.Undecided = false
is_awarded lot_states.Awarded = true
is_awarded lot_states.Contracted = false
is_awarded lot_states.Unsuccessful = false
is_awarded lot_states.Cancelled = false

-- the amount that the lot has reserved on the line
abbrev pub reserved_by : List ℕ → LotRow → ℕ
reserved_by q lot = cond (same_id lot.line q) lot.reserved 0

-- the amount that all lots have reserved on the line
abbrev pub reserved_over : List ℕ → List LotRow → ℕ
reserved_over q lots = sum_over (reserved_by q) lots

-- a sum over the contracts whose lots are on the line
abbrev pub over_contracts : (ContractRow → ℕ) → List LotRow → List ContractRow → List ℕ → ℕ
over_contracts f lots contracts q = sum_over (λ (c : ContractRow). cond (is_on_line lots q c) (f c) 0) contracts

-- each balance of the line is the money that came into it, less the money that left it
pub record PotsAre (ms : List Move) (s : Tables) (q : List ℕ) : Type 0 where
  pub appropriation_is : appropriation q s + inflow ms q Outside ≡ outflow ms q Outside
  pub free_is : free q s + outflow ms q Free ≡ inflow ms q Free
  pub reserved_is : reserved_over q s.lots + outflow ms q Reserved ≡ inflow ms q Reserved
  pub gains_are : over_contracts (plus s.entries) s.lots s.contracts q ≡ inflow ms q Contracted
  pub losses_are : over_contracts (minus s.entries) s.lots s.contracts q ≡ outflow ms q Contracted
  pub paid_is : over_contracts (paid_under s.entries) s.lots s.contracts q ≡ inflow ms q Paid
  pub none_spent : outflow ms q Paid ≡ 0

-- while a lot is open, it has reserved the amount that is to be held for it
abbrev pub LotIs : List Given → List ℕ × List ℕ → LotRow → Type 0
LotIs xs key lot = is_open lot.state ≡ true → reserved_for xs key ≡ lot.reserved

-- while an award is active, its lot is awarded and has reserved the award's price
pub record AwardIs (s : Tables) (number : ℕ) (award : AwardRow) : Type 0 where
  pub drawn : number ≤ s.clock.awards
  pub of_lot : (l : LotRow) → find_lot s.lots (award.notice, award.lot) ≡ Some l → is_active award.state ≡ true → (is_awarded l.state ≡ true) × (l.reserved ≡ award.price)

-- a contract's award exists; nothing is released while it runs; its sums are the amounts that commands brought and took
pub record ContractIs (xs : List Given) (s : Tables) (number : ℕ) (c : ContractRow) : Type 0 where
  pub of_award : (w : AwardRow) × (find_award s.awards number ≡ Some w) × (is_active w.state ≡ false)
  pub running : is_some c.ended ≡ false → c.released ≡ 0
  pub within : minus s.entries c ≤ plus s.entries c
  pub came_in : plus s.entries c ≡ brought xs number
  pub went_out : minus s.entries c ≡ taken xs number

-- nothing was brought, taken or entered for a contract that doesn't exist
pub record NoContractIs (xs : List Given) (s : Tables) (number : ℕ) : Type 0 where
  pub came_in : brought xs number ≡ 0
  pub went_out : taken xs number ≡ 0
  pub raised : entry_sum is_raise s.entries number ≡ 0
  pub lessened : entry_sum is_less s.entries number ≡ 0
  pub paid_out : entry_sum is_payment s.entries number ≡ 0

pub record AccountsStand (xs : List Given) (s : Tables) : Type 0 where
  pub pots : (q : List ℕ) → PotsAre (moves xs) s q
  pub lots : (key : List ℕ × List ℕ) (lot : LotRow) → find_lot s.lots key ≡ Some lot → LotIs xs key lot
  pub awards : (number : ℕ) (award : AwardRow) → find_award s.awards number ≡ Some award → AwardIs s number award
  pub one_active : (a b : ℕ) (w v : AwardRow) → find_award s.awards a ≡ Some w → find_award s.awards b ≡ Some v → is_active w.state ≡ true → is_active v.state ≡ true → w.notice ≡ v.notice → w.lot ≡ v.lot → a ≡ b
  pub contracts : (number : ℕ) (c : ContractRow) → find_contract s.contracts number ≡ Some c → ContractIs xs s number c
  pub no_contract : (number : ℕ) → find_contract s.contracts number ≡ None → NoContractIs xs s number
