-- The content of an office: a table for each kind of record, and the clock.
use Rattle.std.specs.Prelude.{ℕ, Bool, ◌&&◌, List, [], ◌∷◌, Option, filter, map}
use Rattle.std.specs.Ordering.{nat_cmp, ordering_then, eq_by_cmp}
use Rattle.std.specs.declared.cmp.Ordering.{Ordering}
use Rattle.office_values.specs.Ids.{id_cmp, same_id}
use Rattle.office_base.specs.Rows.{row_at, row_put, row_drop, IsInOrder}
use Rattle.office_base.specs.declared.records.LineRow.{LineRow}
use Rattle.office_base.specs.declared.records.BatchRow.{BatchRow}
use Rattle.office_base.specs.declared.records.TendererRow.{TendererRow}
use Rattle.office_base.specs.declared.records.NoticeRow.{NoticeRow}
use Rattle.office_base.specs.declared.records.LotRow.{LotRow}
use Rattle.office_base.specs.declared.records.EnvelopeRow.{EnvelopeRow}
use Rattle.office_base.specs.declared.records.SealRow.{SealRow}
use Rattle.office_base.specs.declared.records.SecurityRow.{SecurityRow}
use Rattle.office_base.specs.declared.records.AwardRow.{AwardRow}
use Rattle.office_base.specs.declared.records.ContractRow.{ContractRow}
use Rattle.office_base.specs.declared.records.EntryRow.{EntryRow}
use Rattle.office_base.specs.declared.records.ReleaseRow.{ReleaseRow}
use Rattle.office_base.specs.declared.records.CompiledRow.{CompiledRow}
use Rattle.office_base.specs.declared.records.LateRow.{LateRow}
use Rattle.office_base.specs.declared.records.PerformanceRow.{PerformanceRow}
use Rattle.office_base.specs.declared.records.ClockRow.{ClockRow}
use Rattle.office_base.specs.declared.puts.Put.{Put}
use Rattle.office_base.specs.declared.puts.Put.TheVariants as puts

-- the tables of an office, each a list of rows in the order of their keys, and its clock
pub record Tables : Type 0 where
  pub lines : List LineRow
  pub batches : List BatchRow
  pub tenderers : List TendererRow
  pub notices : List NoticeRow
  pub lots : List LotRow
  pub envelopes : List EnvelopeRow
  pub seals : List SealRow
  pub securities : List SecurityRow
  pub awards : List AwardRow
  pub contracts : List ContractRow
  pub entries : List EntryRow
  pub releases : List ReleaseRow
  pub compiled : List CompiledRow
  pub late_rules : List LateRow
  pub performances : List PerformanceRow
  pub clock : ClockRow

-- the clock of an office that has accepted no command
abbrev pub first_clock : ClockRow
first_clock = record { moment = 0; receipts = 0; awards = 0 }

-- the empty office
abbrev pub no_tables : Tables
no_tables = record { lines = []; batches = []; tenderers = []; notices = []; lots = []; envelopes = []; seals = []; securities = []; awards = []; contracts = []; entries = []; releases = []; compiled = []; late_rules = []; performances = []; clock = first_clock }

-- the order of lots: by their notices, then by their identifiers
abbrev pub lot_cmp : List ℕ × List ℕ → List ℕ × List ℕ → Ordering
lot_cmp a b = ordering_then (id_cmp a.0 b.0) (id_cmp a.1 b.1)

-- the order of entries: by their contracts, then by their identifiers
abbrev pub entry_cmp : ℕ × List ℕ → ℕ × List ℕ → Ordering
entry_cmp a b = ordering_then (nat_cmp a.0 b.0) (id_cmp a.1 b.1)

-- the order of releases: by their notices, then by their numbers
abbrev pub release_cmp : List ℕ × ℕ → List ℕ × ℕ → Ordering
release_cmp a b = ordering_then (id_cmp a.0 b.0) (nat_cmp a.1 b.1)

-- whether two numbers of receipts, securities, awards or contracts are equal
abbrev pub same_number : ℕ → ℕ → Bool
same_number a b = eq_by_cmp nat_cmp a b

-- the key of a row, for each kind of record
abbrev pub line_key : LineRow → List ℕ
line_key r = r.line

abbrev pub batch_key : BatchRow → List ℕ
batch_key r = r.batch

abbrev pub tenderer_key : TendererRow → List ℕ
tenderer_key r = r.tenderer

abbrev pub notice_key : NoticeRow → List ℕ
notice_key r = r.notice

abbrev pub lot_key : LotRow → List ℕ × List ℕ
lot_key r = (r.notice, r.lot)

abbrev pub envelope_key : EnvelopeRow → ℕ
envelope_key r = r.receipt

abbrev pub seal_key : SealRow → ℕ
seal_key r = r.receipt

abbrev pub security_key : SecurityRow → ℕ
security_key r = r.security

abbrev pub award_key : AwardRow → ℕ
award_key r = r.award

abbrev pub contract_key : ContractRow → ℕ
contract_key r = r.contract

abbrev pub entry_key : EntryRow → ℕ × List ℕ
entry_key r = (r.contract, r.entry)

abbrev pub release_key : ReleaseRow → List ℕ × ℕ
release_key r = (r.notice, r.seq)

abbrev pub compiled_key : CompiledRow → List ℕ
compiled_key r = r.notice

abbrev pub late_key : LateRow → List ℕ
late_key r = r.notice

abbrev pub performance_key : PerformanceRow → ℕ
performance_key r = r.contract

-- `find_` is the row with a key among rows, and `put_` is the rows with one added or replaced, for each kind of record
abbrev pub find_line : List LineRow → List ℕ → Option LineRow
find_line rows key = row_at id_cmp line_key rows key

abbrev pub put_line : List LineRow → LineRow → List LineRow
put_line rows row = row_put id_cmp line_key rows row

abbrev pub find_batch : List BatchRow → List ℕ → Option BatchRow
find_batch rows key = row_at id_cmp batch_key rows key

abbrev pub put_batch : List BatchRow → BatchRow → List BatchRow
put_batch rows row = row_put id_cmp batch_key rows row

abbrev pub find_tenderer : List TendererRow → List ℕ → Option TendererRow
find_tenderer rows key = row_at id_cmp tenderer_key rows key

abbrev pub put_tenderer : List TendererRow → TendererRow → List TendererRow
put_tenderer rows row = row_put id_cmp tenderer_key rows row

abbrev pub find_notice : List NoticeRow → List ℕ → Option NoticeRow
find_notice rows key = row_at id_cmp notice_key rows key

abbrev pub put_notice : List NoticeRow → NoticeRow → List NoticeRow
put_notice rows row = row_put id_cmp notice_key rows row

abbrev pub find_lot : List LotRow → List ℕ × List ℕ → Option LotRow
find_lot rows key = row_at lot_cmp lot_key rows key

abbrev pub put_lot : List LotRow → LotRow → List LotRow
put_lot rows row = row_put lot_cmp lot_key rows row

abbrev pub find_envelope : List EnvelopeRow → ℕ → Option EnvelopeRow
find_envelope rows key = row_at nat_cmp envelope_key rows key

abbrev pub put_envelope : List EnvelopeRow → EnvelopeRow → List EnvelopeRow
put_envelope rows row = row_put nat_cmp envelope_key rows row

abbrev pub find_seal : List SealRow → ℕ → Option SealRow
find_seal rows key = row_at nat_cmp seal_key rows key

abbrev pub put_seal : List SealRow → SealRow → List SealRow
put_seal rows row = row_put nat_cmp seal_key rows row

abbrev pub find_security : List SecurityRow → ℕ → Option SecurityRow
find_security rows key = row_at nat_cmp security_key rows key

abbrev pub put_security : List SecurityRow → SecurityRow → List SecurityRow
put_security rows row = row_put nat_cmp security_key rows row

abbrev pub find_award : List AwardRow → ℕ → Option AwardRow
find_award rows key = row_at nat_cmp award_key rows key

abbrev pub put_award : List AwardRow → AwardRow → List AwardRow
put_award rows row = row_put nat_cmp award_key rows row

abbrev pub find_contract : List ContractRow → ℕ → Option ContractRow
find_contract rows key = row_at nat_cmp contract_key rows key

abbrev pub put_contract : List ContractRow → ContractRow → List ContractRow
put_contract rows row = row_put nat_cmp contract_key rows row

abbrev pub find_entry : List EntryRow → ℕ × List ℕ → Option EntryRow
find_entry rows key = row_at entry_cmp entry_key rows key

abbrev pub put_entry : List EntryRow → EntryRow → List EntryRow
put_entry rows row = row_put entry_cmp entry_key rows row

abbrev pub find_release : List ReleaseRow → List ℕ × ℕ → Option ReleaseRow
find_release rows key = row_at release_cmp release_key rows key

abbrev pub put_release : List ReleaseRow → ReleaseRow → List ReleaseRow
put_release rows row = row_put release_cmp release_key rows row

abbrev pub find_compiled : List CompiledRow → List ℕ → Option CompiledRow
find_compiled rows key = row_at id_cmp compiled_key rows key

abbrev pub put_compiled : List CompiledRow → CompiledRow → List CompiledRow
put_compiled rows row = row_put id_cmp compiled_key rows row

abbrev pub find_late : List LateRow → List ℕ → Option LateRow
find_late rows key = row_at id_cmp late_key rows key

abbrev pub put_late : List LateRow → LateRow → List LateRow
put_late rows row = row_put id_cmp late_key rows row

abbrev pub find_performance : List PerformanceRow → ℕ → Option PerformanceRow
find_performance rows key = row_at nat_cmp performance_key rows key

abbrev pub put_performance : List PerformanceRow → PerformanceRow → List PerformanceRow
put_performance rows row = row_put nat_cmp performance_key rows row

-- the rows of sealed bytes without that of this receipt
abbrev pub drop_seal : List SealRow → ℕ → List SealRow
drop_seal rows receipt = row_drop nat_cmp seal_key rows receipt

-- the row of an office that has this key, for each kind of record
abbrev pub line_at : List ℕ → Tables → Option LineRow
line_at key t = find_line t.lines key

abbrev pub batch_at : List ℕ → Tables → Option BatchRow
batch_at key t = find_batch t.batches key

abbrev pub tenderer_at : List ℕ → Tables → Option TendererRow
tenderer_at key t = find_tenderer t.tenderers key

abbrev pub notice_at : List ℕ → Tables → Option NoticeRow
notice_at key t = find_notice t.notices key

abbrev pub lot_at : List ℕ × List ℕ → Tables → Option LotRow
lot_at key t = find_lot t.lots key

abbrev pub envelope_at : ℕ → Tables → Option EnvelopeRow
envelope_at key t = find_envelope t.envelopes key

abbrev pub seal_at : ℕ → Tables → Option SealRow
seal_at key t = find_seal t.seals key

abbrev pub security_at : ℕ → Tables → Option SecurityRow
security_at key t = find_security t.securities key

abbrev pub award_at : ℕ → Tables → Option AwardRow
award_at key t = find_award t.awards key

abbrev pub contract_at : ℕ → Tables → Option ContractRow
contract_at key t = find_contract t.contracts key

abbrev pub entry_at : ℕ × List ℕ → Tables → Option EntryRow
entry_at key t = find_entry t.entries key

abbrev pub release_at : List ℕ × ℕ → Tables → Option ReleaseRow
release_at key t = find_release t.releases key

abbrev pub compiled_at : List ℕ → Tables → Option CompiledRow
compiled_at key t = find_compiled t.compiled key

abbrev pub late_at : List ℕ → Tables → Option LateRow
late_at key t = find_late t.late_rules key

abbrev pub performance_at : ℕ → Tables → Option PerformanceRow
performance_at key t = find_performance t.performances key

-- whether a lot belongs to a notice
abbrev pub of_notice : List ℕ → LotRow → Bool
of_notice notice r = same_id r.notice notice

-- whether a lot is on a budget line
abbrev pub of_line : List ℕ → LotRow → Bool
of_line line r = same_id r.line line

-- the lots of a notice
abbrev pub lots_of_notice : List ℕ → Tables → List LotRow
lots_of_notice notice t = filter (of_notice notice) t.lots

-- the lots of a budget line
abbrev pub lots_of_line : List ℕ → Tables → List LotRow
lots_of_line line t = filter (of_line line) t.lots

-- the tenders of a notice
abbrev pub envelopes_of_notice : List ℕ → Tables → List EnvelopeRow
envelopes_of_notice notice t = filter (λ (e : EnvelopeRow). same_id e.notice notice) t.envelopes

-- the tender securities of a notice
abbrev pub securities_of_notice : List ℕ → Tables → List SecurityRow
securities_of_notice notice t = filter (λ (s : SecurityRow). same_id s.notice notice) t.securities

-- the awards of a notice
abbrev pub awards_of_notice : List ℕ → Tables → List AwardRow
awards_of_notice notice t = filter (λ (a : AwardRow). same_id a.notice notice) t.awards

-- the contracts of a notice
abbrev pub contracts_of_notice : List ℕ → Tables → List ContractRow
contracts_of_notice notice t = filter (λ (c : ContractRow). same_id c.notice notice) t.contracts

-- the tenders of a lot
abbrev pub envelopes_of_lot : List ℕ → List ℕ → Tables → List EnvelopeRow
envelopes_of_lot notice lot t = filter (λ (e : EnvelopeRow). same_id e.notice notice && same_id e.lot lot) t.envelopes

-- the tender securities of a lot
abbrev pub securities_of_lot : List ℕ → List ℕ → Tables → List SecurityRow
securities_of_lot notice lot t = filter (λ (s : SecurityRow). same_id s.notice notice && same_id s.lot lot) t.securities

-- the contracts of a lot
abbrev pub contracts_of_lot : List ℕ × List ℕ → Tables → List ContractRow
contracts_of_lot lot t = filter (λ (c : ContractRow). same_id c.notice lot.0 && same_id c.lot lot.1) t.contracts

-- whether a tender is for this lot of this notice and from this tenderer
abbrev pub of_tenderer : List ℕ → List ℕ → List ℕ → EnvelopeRow → Bool
of_tenderer notice lot tenderer e = same_id e.notice notice && same_id e.lot lot && same_id e.tenderer tenderer

-- the tenders of a tenderer for a lot
abbrev pub envelopes_of_tenderer : List ℕ → List ℕ → List ℕ → Tables → List EnvelopeRow
envelopes_of_tenderer notice lot tenderer t = filter (of_tenderer notice lot tenderer) t.envelopes

-- the entries of a contract
abbrev pub entries_of_contract : ℕ → Tables → List EntryRow
entries_of_contract contract t = filter (λ (e : EntryRow). same_number e.contract contract) t.entries

-- the releases of a notice
abbrev pub releases_of_notice : List ℕ → Tables → List ReleaseRow
releases_of_notice notice t = filter (λ (r : ReleaseRow). same_id r.notice notice) t.releases

-- the numbers of a notice's releases
abbrev pub release_numbers : List ℕ → Tables → List ℕ
release_numbers notice t = map (λ (r : ReleaseRow). r.seq) (releases_of_notice notice t)

-- the office after one change
abbrev pub after_put : Put → Tables → Tables
after_put (puts.Line r) t = record t { lines = put_line t.lines r }
after_put (puts.Batch r) t = record t { batches = put_batch t.batches r }
after_put (puts.Tenderer r) t = record t { tenderers = put_tenderer t.tenderers r }
after_put (puts.Notice r) t = record t { notices = put_notice t.notices r }
after_put (puts.Lot r) t = record t { lots = put_lot t.lots r }
after_put (puts.Envelope r) t = record t { envelopes = put_envelope t.envelopes r }
after_put (puts.Seal r) t = record t { seals = put_seal t.seals r }
after_put (puts.DropSeal n) t = record t { seals = drop_seal t.seals n }
after_put (puts.Security r) t = record t { securities = put_security t.securities r }
after_put (puts.Award r) t = record t { awards = put_award t.awards r }
after_put (puts.Contract r) t = record t { contracts = put_contract t.contracts r }
after_put (puts.Entry r) t = record t { entries = put_entry t.entries r }
after_put (puts.Release r) t = record t { releases = put_release t.releases r }
after_put (puts.Compiled r) t = record t { compiled = put_compiled t.compiled r }
after_put (puts.Late r) t = record t { late_rules = put_late t.late_rules r }
after_put (puts.Performance r) t = record t { performances = put_performance t.performances r }
after_put (puts.Clock r) t = record t { clock = r }

-- the office after several changes, one after another
abbrev pub after_puts : List Put → Tables → Tables
after_puts [] t = t
after_puts (p ∷ ps) t = after_puts ps (after_put p t)

-- the rows of each table are in the order of their keys
pub record IsSorted (t : Tables) : Type 0 where
  pub lines : IsInOrder id_cmp line_key t.lines
  pub batches : IsInOrder id_cmp batch_key t.batches
  pub tenderers : IsInOrder id_cmp tenderer_key t.tenderers
  pub notices : IsInOrder id_cmp notice_key t.notices
  pub lots : IsInOrder lot_cmp lot_key t.lots
  pub envelopes : IsInOrder nat_cmp envelope_key t.envelopes
  pub seals : IsInOrder nat_cmp seal_key t.seals
  pub securities : IsInOrder nat_cmp security_key t.securities
  pub awards : IsInOrder nat_cmp award_key t.awards
  pub contracts : IsInOrder nat_cmp contract_key t.contracts
  pub entries : IsInOrder entry_cmp entry_key t.entries
  pub releases : IsInOrder release_cmp release_key t.releases
  pub compiled : IsInOrder id_cmp compiled_key t.compiled
  pub late_rules : IsInOrder id_cmp late_key t.late_rules
  pub performances : IsInOrder nat_cmp performance_key t.performances

-- changes keep the rows of each table in the order of their keys
abbrev pub ChangesKeepOrder : Type 0
ChangesKeepOrder = (ps : List Put) (t : Tables) → IsSorted t → IsSorted (after_puts ps t)
