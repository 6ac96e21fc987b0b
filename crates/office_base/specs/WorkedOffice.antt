-- An example of balances: a line with three lots, of which two have contracts, and a line without lots.
use Rattle.std.specs.Prelude.{ℕ, List, [], ◌∷◌, None, codes}
use Rattle.office_base.specs.Tables.{Tables, first_clock}
use Rattle.office_base.specs.declared.ledger.LedgerRow.{LedgerRow}
use Rattle.office_base.specs.declared.records.LineRow.{LineRow}
use Rattle.office_base.specs.declared.records.LotRow.{LotRow}
use Rattle.office_base.specs.declared.records.LotState.{LotState}
use Rattle.office_base.specs.declared.records.LotState.TheVariants.{Contracted, Undecided}
use Rattle.office_base.specs.declared.records.ContractRow.{ContractRow}
use Rattle.office_base.specs.declared.records.EntryRow.{EntryRow}
use Rattle.office_base.specs.declared.records.EntryKind.TheVariants.{Payment}

abbrev pub worked_line : List ℕ → ℕ → ℕ → LineRow
worked_line line appropriation free = record { line = line; title = codes "Roads"; appropriation = appropriation; free = free }

abbrev pub worked_lot : List ℕ → LotState → ℕ → LotRow
worked_lot lot state reserved = record {
  notice = codes "N1";
  lot = lot;
  title = codes "North";
  line = codes "1000";
  estimate = 100;
  security = 0;
  items = [];
  state = state;
  reserved = reserved;
}

abbrev pub worked_contract : ℕ → List ℕ → ℕ → ContractRow
worked_contract number lot signed = record {
  contract = number;
  notice = codes "N1";
  lot = lot;
  tenderer = codes "T1";
  signed = signed;
  moment = 0;
  ended = None;
  how = None;
  released = 0;
}

abbrev pub worked_payment : List ℕ → EntryRow
worked_payment entry = record { contract = 1; entry = entry; kind = Payment; amount = 10; moment = 0; rationale = None }

-- an office in which lot A has a contract of 100 with two payments of 10, lot B a contract of 50 without entries, and lot C reserves 30
abbrev pub worked_office : Tables
worked_office = record {
  lines = worked_line (codes "1000") 1000 820 ∷ worked_line (codes "2000") 50 50 ∷ [];
  batches = [];
  tenderers = [];
  notices = [];
  lots = worked_lot (codes "A") Contracted 0 ∷ worked_lot (codes "B") Contracted 0 ∷ worked_lot (codes "C") Undecided 30 ∷ [];
  envelopes = [];
  seals = [];
  securities = [];
  awards = [];
  contracts = worked_contract 1 (codes "A") 100 ∷ worked_contract 2 (codes "B") 50 ∷ [];
  entries = worked_payment (codes "P1") ∷ worked_payment (codes "P2") ∷ [];
  releases = [];
  compiled = [];
  late_rules = [];
  performances = [];
  clock = first_clock;
}

-- the ledger of that office: on line 1000 130 are contracted, which is 80 and 50, and 20 are paid
abbrev pub worked_ledger : List LedgerRow
worked_ledger =
    record { line = codes "1000"; pots = record { appropriation = 1000; free = 820; reserved = 30; contracted = 130; paid = 20 } }
    ∷ record { line = codes "2000"; pots = record { appropriation = 50; free = 50; reserved = 0; contracted = 0; paid = 0 } }
    ∷ []
