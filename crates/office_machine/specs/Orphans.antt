-- Rows that are missing, and rows whose parent is. No command makes a parent for them, and none gives out a number that a row has already.
use Rattle.std.specs.Prelude.{ℕ, ◌+◌, Bool, not, ◌&&◌, ◌||◌, List, Option, Some, is_some, nat_eq}
use Rattle.office_commands.specs.declared.budget.BudgetRow.{BudgetRow}
use Rattle.office_base.specs.Parents.{security_of_envelope}
use Rattle.office_base.specs.Rows.{holds_of}
use Rattle.office_base.specs.Transitions.{lacks_security}
use Rattle.office_base.specs.declared.records.EnvelopeRow.{EnvelopeRow}
use Rattle.office_base.specs.Tables.{Tables, award_at, contract_at, envelope_at, line_at, lot_at, notice_at, seal_at, envelopes_of_lot, lots_of_line}
use Rattle.office_machine.specs.References.{OfAward, OfContract, OfNotice, OfReceipt, has_rows, is_named}
use Rattle.office_base.specs.declared.records.AwardRow.{AwardRow}
use Rattle.office_base.specs.declared.records.LotRow.{LotRow}
use Rattle.award_core.specs.Rules.Award.{winner}

-- A row of this notice exists.
abbrev pub has_rows_of_notice : List ℕ → Tables → Bool
has_rows_of_notice notice s = is_named (OfNotice notice) s

-- A row of a budget file names a line that is missing, and a lot of this line exists.
abbrev pub names_lost_line : Tables → BudgetRow → Bool
names_lost_line s row = not (is_some (line_at row.line s)) && has_rows (lots_of_line row.line s)

-- A tender, sealed bytes or a security already has the receipt that the next tender gets.
abbrev pub receipt_is_taken : Tables → Bool
receipt_is_taken s = is_some (envelope_at (s.clock.receipts + 1) s) || is_named (OfReceipt (s.clock.receipts + 1)) s

-- The lot has a winner, and an award or a contract already has the number that the next award gets.
abbrev pub award_is_taken : List ℕ → List ℕ → Tables → Bool
award_is_taken notice lot s =
    is_some (winner (notice_at notice s) (envelopes_of_lot notice lot s))
    && (is_some (award_at (s.clock.awards + 1) s) || is_named (OfAward (s.clock.awards + 1)) s)

-- The seal of this tender is missing.
abbrev pub lacks_seal : Tables → EnvelopeRow → Bool
lacks_seal s e = not (is_some (seal_at e.receipt s))

-- The security that this tender names is missing.
abbrev pub lacks_its_security : Tables → EnvelopeRow → Bool
lacks_its_security s e = lacks_security e (security_of_envelope (Some e) s)

-- The seal, the lot or the security of this tender is missing, if there is a tender.
abbrev pub is_torn : Tables → Option EnvelopeRow → Bool
is_torn s o = holds_of (lacks_seal s) o || holds_of (λ (e : EnvelopeRow). not (is_some (lot_at (e.notice, e.lot) s))) o || holds_of (lacks_its_security s) o

-- A contract, an entry or a performance security already has the number of this award.
abbrev pub contract_is_taken : ℕ → Tables → Bool
contract_is_taken award s = is_some (contract_at award s) || is_named (OfContract award) s

-- The lot of this award reserves another amount than its price.
abbrev pub reserves_another : Option LotRow → AwardRow → Bool
reserves_another lot a = holds_of (λ (l : LotRow). not (nat_eq l.reserved a.price)) lot
