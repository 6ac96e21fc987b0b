-- The rows that an award looks up. It needs the securities of the lot only if nobody wins: if somebody wins, the award returns no security.
use Rattle.std.specs.Prelude.{ℕ, List, [], Option, Some, None}
use Rattle.award_core.specs.Rules.Award.{award_rows, winner}
use Rattle.award_core.specs.declared.award.AwardRows.{AwardRows}
use Rattle.office_base.specs.Tables.{Tables, envelopes_of_lot, notice_at, securities_of_lot}
use Rattle.office_base.specs.declared.records.EnvelopeRow.{EnvelopeRow}
use Rattle.office_base.specs.declared.records.SecurityRow.{SecurityRow}

-- The securities of a lot, or none if the lot has this winner.
abbrev pub securities_unless_won : Option EnvelopeRow → List ℕ → List ℕ → Tables → List SecurityRow
securities_unless_won None notice lot s = securities_of_lot notice lot s
securities_unless_won (Some e) notice lot s = []

-- The rows of the rule for an award; of the securities only those that the decision needs.
abbrev pub awarded_rows : Tables → List ℕ → List ℕ → AwardRows
awarded_rows s notice lot = record (award_rows s notice lot) {
  securities = securities_unless_won (winner (notice_at notice s) (envelopes_of_lot notice lot s)) notice lot s;
}
