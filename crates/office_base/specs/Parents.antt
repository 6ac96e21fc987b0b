-- The rows that another row refers to, if they exist.
use Rattle.std.specs.Prelude.{List, [], Option, option_map, option_and_then, unwrap_or}
use Rattle.office_base.specs.Tables.{Tables, line_at, notice_at, lot_at, envelope_at, security_at, late_at, securities_of_lot}
use Rattle.office_base.specs.declared.records.LineRow.{LineRow}
use Rattle.office_base.specs.declared.records.NoticeRow.{NoticeRow}
use Rattle.office_base.specs.declared.records.LotRow.{LotRow}
use Rattle.office_base.specs.declared.records.EnvelopeRow.{EnvelopeRow}
use Rattle.office_base.specs.declared.records.SecurityRow.{SecurityRow}
use Rattle.office_base.specs.declared.records.AwardRow.{AwardRow}
use Rattle.office_base.specs.declared.records.LateRow.{LateRow}
use Rattle.office_base.specs.declared.records.ContractRow.{ContractRow}

-- the notice of a tender
abbrev pub notice_of_envelope : Option EnvelopeRow → Tables → Option NoticeRow
notice_of_envelope o s = option_and_then (λ (e : EnvelopeRow). notice_at e.notice s) o

-- the lot of a tender
abbrev pub lot_of_envelope : Option EnvelopeRow → Tables → Option LotRow
lot_of_envelope o s = option_and_then (λ (e : EnvelopeRow). lot_at (e.notice, e.lot) s) o

-- the tender security of a tender, if the tender names one
abbrev pub security_of_envelope : Option EnvelopeRow → Tables → Option SecurityRow
security_of_envelope o s = option_and_then (λ (e : EnvelopeRow). option_and_then (λ n. security_at n s) e.security) o

-- the row that allows late withdrawals, if the notice of a tender allows them
abbrev pub late_of_envelope : Option EnvelopeRow → Tables → Option LateRow
late_of_envelope o s = option_and_then (λ (e : EnvelopeRow). late_at e.notice s) o

-- the budget line of a lot
abbrev pub line_of_lot : Option LotRow → Tables → Option LineRow
line_of_lot o s = option_and_then (λ (l : LotRow). line_at l.line s) o

-- the notice of an award
abbrev pub notice_of_award : Option AwardRow → Tables → Option NoticeRow
notice_of_award o s = option_and_then (λ (a : AwardRow). notice_at a.notice s) o

-- the lot of an award
abbrev pub lot_of_award : Option AwardRow → Tables → Option LotRow
lot_of_award o s = option_and_then (λ (a : AwardRow). lot_at (a.notice, a.lot) s) o

-- the tender that won an award
abbrev pub envelope_of_award : Option AwardRow → Tables → Option EnvelopeRow
envelope_of_award o s = option_and_then (λ (a : AwardRow). envelope_at a.receipt s) o

-- the tender securities of the lot of an award
abbrev pub securities_of_award : Option AwardRow → Tables → List SecurityRow
securities_of_award o s = unwrap_or (option_map (λ (a : AwardRow). securities_of_lot a.notice a.lot s) o) []

-- the notice of a contract
abbrev pub notice_of_contract : Option ContractRow → Tables → Option NoticeRow
notice_of_contract o s = option_and_then (λ (c : ContractRow). notice_at c.notice s) o

-- the lot of a contract
abbrev pub lot_of_contract : Option ContractRow → Tables → Option LotRow
lot_of_contract o s = option_and_then (λ (c : ContractRow). lot_at (c.notice, c.lot) s) o
