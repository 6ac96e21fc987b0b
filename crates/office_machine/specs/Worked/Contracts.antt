-- Worked examples of contracts: raises, cuts, payments and ends.
use Rattle.std.specs.Prelude.{◌++◌, ◌+◌, ◌∷◌, ◌≡◌, List, None, Some, [], codes, suc, zero, ℕ}
use Prim.Native.Nat.{suc-le-suc, zero-le}
use Rattle.office_commands.specs.declared.command.Caller.TheVariants.{Public}
use Rattle.office_commands.specs.declared.commands.Command.TheVariants.{AmendContract, Award, End, Pay, Present}
use Rattle.office_commands.specs.declared.contract.ChangeKind.{ChangeKind}
use Rattle.office_commands.specs.declared.contract.ChangeKind.TheVariants as changes
use Rattle.office_commands.specs.declared.contract.How.{How}
use Rattle.office_commands.specs.declared.contract.How.TheVariants.{ForDefault, Regular}
use Rattle.office_commands.specs.declared.notice.Criteria.TheVariants.{Price}
use Rattle.office_commands.specs.declared.queries.Query.TheVariants as queries
use Rattle.office_values.specs.declared.refusal.Refusal.TheVariants.{ContractEnded, Exists, InsufficientFunds, LimitReached, MoreThanOutstanding, NoSuch}
use Rattle.office_values.specs.declared.refusal.Thing.TheVariants as things
use Rattle.office_base.specs.Tables.{Tables}
use Rattle.office_base.specs.declared.records.EntryKind.TheVariants as entries
use Rattle.office_base.specs.declared.records.EntryRow.{EntryRow}
use Rattle.office_machine.specs.Moves.{owed}
use Rattle.office_machine.specs.Replies.{LedgerSeen, OfContract, Refused, Reply}
use Rattle.office_machine.specs.Requests.{Request}
use Rattle.office_machine.specs.Worked.Office.{accepted, awards, by, by_clerk, deadline, decided, examines, february, l1, l2, looks, lot, money, n1, numbered_name, office, opens, pots, pots_are, presents, publish, refused, roads, security, setup_with, signs, standstill_end, t1, t2, tenderers, replies, replies_in}

-- Contract 1 is raised or cut.
abbrev pub changes_by : ChangeKind → List ℕ → ℕ → Request
changes_by kind entry amount = by_clerk standstill_end (AmendContract 1 entry kind amount (codes "Changed"))

-- Contract 1 is raised.
abbrev pub raises : List ℕ → ℕ → Request
raises entry amount = changes_by changes.Raise entry amount

-- Contract 1 is cut.
abbrev pub cuts : List ℕ → ℕ → Request
cuts entry amount = changes_by changes.Cut entry amount

-- A payment under contract 1.
abbrev pub pays : List ℕ → ℕ → Request
pays entry amount = by_clerk standstill_end (Pay 1 entry amount)

-- The end of contract 1.
abbrev pub ends : How → Request
ends how = by_clerk standstill_end (End 1 how)

-- A lot with an estimate of 700, and its contract of 700.
abbrev pub signed : List Request
signed =
    setup_with 1000 (suc-le-suc zero-le) Price 700
    ++ presents t1 february (codes "700")
    ∷ opens deadline
    ∷ examines 1
    ∷ awards decided
    ∷ signs standstill_end 1
    ∷ []

-- The contract is raised by 50, and 300 are paid.
abbrev pub paid : List Request
paid = signed ++ raises (codes "E1") 50 ∷ pays (codes "E2") 300 ∷ []

-- Then the contract ends as agreed.
abbrev pub ended : List Request
ended = paid ++ ends Regular ∷ []

-- Two lots of 300 and 400 have contracts, and the first contract has a payment P1.
abbrev pub two_contracts : List Request
two_contracts =
    money
    ++ tenderers
    ++ publish Price (lot l1 300 ∷ lot l2 400 ∷ [])
    ∷ presents t1 february (codes "300")
    ∷ by t2 february (Present n1 l2 security (codes "400"))
    ∷ opens deadline
    ∷ examines 1
    ∷ examines 2
    ∷ awards decided
    ∷ by_clerk decided (Award n1 l2)
    ∷ signs standstill_end 1
    ∷ signs standstill_end 2
    ∷ pays (codes "P1") 100
    ∷ []

-- A payment of nothing.
abbrev pub payment_of_nothing : List ℕ → EntryRow
payment_of_nothing entry = record { contract = 1; entry = entry; kind = entries.Payment; amount = 0; moment = standstill_end; rationale = None }

-- So many payments of nothing under contract 1, with the numbers from the first one on as identifiers.
abbrev pub entries_from : ℕ → ℕ → List EntryRow
entries_from first zero = []
entries_from first (suc n) = payment_of_nothing (numbered_name 69 first) ∷ entries_from (first + 1) n

-- The office with so many entries.
abbrev pub with_entries : List Request → ℕ → Tables
with_entries asked n = record (office asked) { entries = entries_from 0 n }

-- A ledger that has only the roads, with these amounts.
abbrev pub line_of_ledger : ℕ → ℕ → ℕ → ℕ → ℕ → Reply
line_of_ledger appropriation free reserved contracted paid =
    LedgerSeen
    (record {
      line = roads;
      pots = record { appropriation = appropriation; free = free; reserved = reserved; contracted = contracted; paid = paid };
    }
    ∷ [])

-- The public asks for the ledger.
abbrev pub sees_ledger : Request
sees_ledger = looks Public standstill_end queries.Ledger

pub record ContractsWorked : Type 0 where
  -- The signed amount is contracted.
  pub is_contracted : pots signed ≡ pots_are 1000 300 0 700 0
  -- The replies to a raise and to a payment have the outstanding amount after them.
  pub raised_and_paid : replies signed (raises (codes "E1") 50 ∷ pays (codes "E2") 300 ∷ [])
      ≡ OfContract 1 750 5 standstill_end ∷ OfContract 1 450 6 standstill_end ∷ []
  -- A raise takes free money, and a payment takes contracted money.
  pub pots_then : pots paid ≡ pots_are 1000 250 0 450 300
  -- By the moves of the commands, 450 are owed.
  pub owed_then : owed (accepted paid) 1 ≡ 450
  -- The contract has an entry for the raise and one for the payment.
  pub entries_then : (office paid).entries
      ≡ record { contract = 1; entry = codes "E1"; kind = entries.Raise; amount = 50; moment = standstill_end; rationale = Some (codes "Changed") }
      ∷ record { contract = 1; entry = codes "E2"; kind = entries.Payment; amount = 300; moment = standstill_end; rationale = None }
      ∷ []
  -- No payment exceeds the outstanding amount, but it can equal it.
  pub no_more_than_outstanding : replies paid (pays (codes "E3") 451 ∷ pays (codes "E3") 450 ∷ [])
      ≡ Refused MoreThanOutstanding ∷ OfContract 1 0 7 standstill_end ∷ []
  -- An identifier is used for one entry of a contract, whether a payment or a raise.
  pub not_twice : replies paid (pays (codes "E2") 300 ∷ raises (codes "E2") 1 ∷ pays (codes "E1") 1 ∷ []) ≡ Refused Exists ∷ Refused Exists ∷ Refused Exists ∷ []
  -- So no payment is made twice.
  pub paid_once : pots (paid ++ pays (codes "E2") 300 ∷ []) ≡ pots_are 1000 250 0 450 300
  -- Another contract may use the same identifier.
  pub other_contract : replies two_contracts (by_clerk standstill_end (Pay 2 (codes "P1") 100) ∷ []) ≡ OfContract 2 300 8 standstill_end ∷ []
  -- Then both payments count.
  pub both_are_paid : pots (two_contracts ++ by_clerk standstill_end (Pay 2 (codes "P1") 100) ∷ []) ≡ pots_are 1000 300 0 500 200
  -- A cut goes up to the outstanding amount, and a raise up to the free money. A contract that is cut to nothing can end.
  pub cut_and_raise_are_bounded : replies paid (cuts (codes "E3") 451 ∷ raises (codes "E3") 251 ∷ cuts (codes "E3") 450 ∷ ends Regular ∷ [])
      ≡ Refused MoreThanOutstanding
      ∷ Refused InsufficientFunds
      ∷ OfContract 1 0 7 standstill_end
      ∷ OfContract 1 0 8 standstill_end
      ∷ []
  -- The money that is cut is free again.
  pub cut_is_free : pots (paid ++ cuts (codes "E3") 450 ∷ []) ≡ pots_are 1000 700 0 0 300
  -- A raise may take all free money.
  pub raised_by_all : replies paid (raises (codes "E3") 250 ∷ []) ≡ OfContract 1 700 7 standstill_end ∷ []
  -- After the end of a contract nothing is outstanding.
  pub is_ended : replies paid (ends Regular ∷ []) ≡ OfContract 1 0 7 standstill_end ∷ []
  -- The amount that was outstanding is free again.
  pub rest_is_free : pots ended ≡ pots_are 1000 700 0 0 300
  -- By the moves of the commands, nothing is owed.
  pub nothing_is_owed : owed (accepted ended) 1 ≡ 0
  -- The row of a contract that ended by default has the moment and the kind of its end, and the released amount.
  pub contract_is : (office (paid ++ ends ForDefault ∷ [])).contracts
      ≡ record {
        contract = 1;
        notice = n1;
        lot = l1;
        tenderer = t1;
        signed = 700;
        moment = standstill_end;
        ended = Some standstill_end;
        how = Some ForDefault;
        released = 450;
      }
      ∷ []
  -- After the end nothing is raised, cut, paid or ended. This is reported before an amount that is too great, but after an identifier that is taken.
  pub after_end : refused ended (pays (codes "E3") 1 ∷ cuts (codes "E3") 1 ∷ raises (codes "E3") 701 ∷ ends ForDefault ∷ pays (codes "E2") 1 ∷ [])
      ≡ Some ContractEnded ∷ Some ContractEnded ∷ Some ContractEnded ∷ Some ContractEnded ∷ Some Exists ∷ []
  -- A contract has at most 200 entries.
  pub last_entry : replies_in (with_entries signed 199) (pays (codes "E1") 1 ∷ pays (codes "E2") 1 ∷ [])
      ≡ OfContract 1 699 5 standstill_end ∷ Refused LimitReached ∷ []
  -- After the end, this bound isn't reported.
  pub full_and_ended : replies_in (with_entries ended 200) (pays (codes "E1") 1 ∷ raises (codes "E1") 1 ∷ []) ≡ Refused ContractEnded ∷ Refused ContractEnded ∷ []
  -- The ledger before the end of the contract.
  pub ledger_before : replies paid (sees_ledger ∷ []) ≡ line_of_ledger 1000 250 0 450 300 ∷ []
  -- The ledger after the end of the contract.
  pub ledger_after : replies ended (sees_ledger ∷ []) ≡ line_of_ledger 1000 700 0 0 300 ∷ []
  -- A contract that doesn't exist can be neither paid nor ended.
  pub no_such_contract : refused signed (by_clerk standstill_end (Pay 2 (codes "E1") 1) ∷ by_clerk standstill_end (End 2 Regular) ∷ [])
      ≡ Some (NoSuch things.Contract) ∷ Some (NoSuch things.Contract) ∷ []
