-- The rows that other rows refer to, over any tables.
use Rattle.std.specs.Prelude.{ℕ, Bool, not, ◌||◌, List, is_some, length, nat_eq, filter, ◌&&◌}
use Rattle.office_values.specs.Ids.{same_id}
use Rattle.office_base.specs.declared.records.AwardRow.{AwardRow}
use Rattle.office_base.specs.Tables.{Tables, award_at, compiled_at, contract_at, envelope_at, late_at, line_at, lot_at, notice_at, performance_at, seal_at, security_at, awards_of_notice, contracts_of_lot, contracts_of_notice, entries_of_contract, envelopes_of_lot, envelopes_of_notice, lots_of_line, lots_of_notice, releases_of_notice, securities_of_lot, securities_of_notice}

-- A row that others refer to, by its key. A tenderer is none of these, nor are the tender of an award and the security of a tender: no key and no index finds the
-- rows that name them.
pub data Parent : Type 0 where
  OfLine : List ℕ → Parent
  OfNotice : List ℕ → Parent
  OfLot : List ℕ → List ℕ → Parent
  OfReceipt : ℕ → Parent
  OfAward : ℕ → Parent
  OfContract : ℕ → Parent

-- This row exists.
abbrev pub is_there : Parent → Tables → Bool
is_there (OfLine line) t = is_some (line_at line t)
is_there (OfNotice notice) t = is_some (notice_at notice t)
is_there (OfLot notice lot) t = is_some (lot_at (notice, lot) t)
is_there (OfReceipt receipt) t = is_some (envelope_at receipt t)
is_there (OfAward award) t = is_some (award_at award t)
is_there (OfContract contract) t = is_some (contract_at contract t)

abbrev pub has_rows : {X : Type 0} → List X → Bool
has_rows rows = not (nat_eq (length rows) 0)

-- Some row refers to this one. A tender security has the number of a receipt, a contract and its performance security have the number of an award.
abbrev pub is_named : Parent → Tables → Bool
is_named (OfLine line) t = has_rows (lots_of_line line t)
is_named (OfNotice notice) t =
    has_rows (lots_of_notice notice t) || has_rows (envelopes_of_notice notice t) || has_rows (releases_of_notice notice t) || has_rows (securities_of_notice notice t)
    || has_rows (awards_of_notice notice t) || has_rows (contracts_of_notice notice t) || is_some (late_at notice t) || is_some (compiled_at notice t)
is_named (OfLot notice lot) t =
    has_rows (envelopes_of_lot notice lot t) || has_rows (securities_of_lot notice lot t)
    || has_rows (filter (λ (a : AwardRow). same_id a.notice notice && same_id a.lot lot) t.awards) || has_rows (contracts_of_lot (notice, lot) t)
is_named (OfReceipt receipt) t = is_some (seal_at receipt t) || is_some (security_at receipt t)
is_named (OfAward award) t = is_some (contract_at award t) || has_rows (entries_of_contract award t) || is_some (performance_at award t)
is_named (OfContract contract) t = has_rows (entries_of_contract contract t) || is_some (performance_at contract t)
