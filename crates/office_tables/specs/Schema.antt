-- The tables of an office: the text that creates each, the part of the content that it holds, and the statement of each put.
use Rattle.std.specs.Prelude.{◌≡◌, List, ℕ, [], ◌∷◌, pos, ⊤}
use Rattle.sqlite_value.specs.declared.value.Value.TheVariants.{Int}
use Rattle.sqlite_value.specs.Order.{Row}
use Rattle.sqlite_schema.specs.declared.schema.Table.{Table}
use Rattle.office_base.specs.Tables.{Tables}
use Rattle.office_base.specs.declared.puts.Put.{Put}
use Rattle.office_base.specs.declared.puts.Put.TheVariants as put
use Rattle.office_tables.specs.ItemTexts.{items_text, items_in_text}
use Rattle.office_tables.specs.Forms.{RowsStand}
use Rattle.office_tables.specs.ComesBack.{ComesBack, LotComesBack, FormerComesBack}
use Rattle.office_tables.specs.Tables.Lines.{lines, create_lines, upsert_lines, line_values, line_form}
use Rattle.office_tables.specs.Tables.Batches.{batches, create_batches, upsert_batches, batch_values, batch_form}
use Rattle.office_tables.specs.Tables.Tenderers.{tenderers, create_tenderers, upsert_tenderers, tenderer_values, tenderer_form}
use Rattle.office_tables.specs.Tables.Notices.{notices, create_notices, former_notices, create_former_notices, upsert_notices, notice_values, notice_form}
use Rattle.office_tables.specs.Tables.Lots.{lots, create_lots, upsert_lots, lot_values, lot_form}
use Rattle.office_tables.specs.Tables.Envelopes.{envelopes, create_envelopes, upsert_envelopes, envelope_values, envelope_form}
use Rattle.office_tables.specs.Tables.Seals.{seals, create_seals, upsert_seals, delete_seal, seal_values, seal_form}
use Rattle.office_tables.specs.Tables.Securities.{securities, create_securities, upsert_securities, security_values, security_form}
use Rattle.office_tables.specs.Tables.Awards.{awards, create_awards, upsert_awards, award_values, award_form}
use Rattle.office_tables.specs.Tables.Contracts.{contracts, create_contracts, upsert_contracts, contract_values, contract_form}
use Rattle.office_tables.specs.Tables.Entries.{entries, create_entries, upsert_entries, entry_values, entry_form}
use Rattle.office_tables.specs.Tables.Releases.{releases, create_releases, upsert_releases, release_values, release_form}
use Rattle.office_tables.specs.Tables.Compiled.{compiled, create_compiled, upsert_compiled, compiled_values, compiled_form}
use Rattle.office_tables.specs.Tables.Office.{office, create_office, upsert_office, clock_values, clock_form}
use Rattle.office_tables.specs.Tables.LateRules.{late_rules, create_late_rules, upsert_late_rules, late_values, late_form}
use Rattle.office_tables.specs.Tables.Performances.{performance, create_performance, upsert_performance, performance_values, performance_form}

-- a table of the office
pub data OfficeTable : Type 0 where
  Lines : OfficeTable
  Batches : OfficeTable
  Tenderers : OfficeTable
  Notices : OfficeTable
  Lots : OfficeTable
  Envelopes : OfficeTable
  Seals : OfficeTable
  Securities : OfficeTable
  Awards : OfficeTable
  Contracts : OfficeTable
  Entries : OfficeTable
  Releases : OfficeTable
  Compiled : OfficeTable
  Office : OfficeTable
  LateRules : OfficeTable
  FormerNotices : OfficeTable
  Performances : OfficeTable

abbrev pub table_of : OfficeTable → Table
table_of Lines = lines
table_of Batches = batches
table_of Tenderers = tenderers
table_of Notices = notices
table_of Lots = lots
table_of Envelopes = envelopes
table_of Seals = seals
table_of Securities = securities
table_of Awards = awards
table_of Contracts = contracts
table_of Entries = entries
table_of Releases = releases
table_of Compiled = compiled
table_of Office = office
table_of LateRules = late_rules
table_of FormerNotices = former_notices
table_of Performances = performance

-- the text that creates a table
abbrev pub create_of : OfficeTable → List ℕ
create_of Lines = create_lines
create_of Batches = create_batches
create_of Tenderers = create_tenderers
create_of Notices = create_notices
create_of Lots = create_lots
create_of Envelopes = create_envelopes
create_of Seals = create_seals
create_of Securities = create_securities
create_of Awards = create_awards
create_of Contracts = create_contracts
create_of Entries = create_entries
create_of Releases = create_releases
create_of Compiled = create_compiled
create_of Office = create_office
create_of LateRules = create_late_rules
create_of FormerNotices = create_former_notices
create_of Performances = create_performance

-- all tables of the office; the one that is made last comes first
abbrev pub all_tables : List OfficeTable
all_tables =
    Performances ∷ Notices ∷ LateRules ∷ Office ∷ Compiled ∷ Releases ∷ Entries ∷ Contracts ∷ Awards ∷ Securities ∷ Seals ∷ Envelopes ∷ Lots ∷ FormerNotices
    ∷ Tenderers ∷ Batches ∷ Lines ∷ []

-- The rows of a table hold its part of the office's content. The clock is the one row of `office`, and `notices` is empty since version 2.
abbrev pub StandFor : OfficeTable → List Row → Tables → Type 0
StandFor Lines rows t = RowsStand line_form rows t.lines
StandFor Batches rows t = RowsStand batch_form rows t.batches
StandFor Tenderers rows t = RowsStand tenderer_form rows t.tenderers
StandFor Notices rows t = RowsStand notice_form rows t.notices
StandFor Lots rows t = RowsStand lot_form rows t.lots
StandFor Envelopes rows t = RowsStand envelope_form rows t.envelopes
StandFor Seals rows t = RowsStand seal_form rows t.seals
StandFor Securities rows t = RowsStand security_form rows t.securities
StandFor Awards rows t = RowsStand award_form rows t.awards
StandFor Contracts rows t = RowsStand contract_form rows t.contracts
StandFor Entries rows t = RowsStand entry_form rows t.entries
StandFor Releases rows t = RowsStand release_form rows t.releases
StandFor Compiled rows t = RowsStand compiled_form rows t.compiled
StandFor Office rows t = RowsStand clock_form rows (t.clock ∷ [])
StandFor LateRules rows t = RowsStand late_form rows t.late_rules
StandFor FormerNotices rows t = rows ≡ []
StandFor Performances rows t = RowsStand performance_form rows t.performances

-- the records of a table are read back from their rows
abbrev pub ComeBack : OfficeTable → Type 0
ComeBack Lines = ComesBack line_form
ComeBack Batches = ComesBack batch_form
ComeBack Tenderers = ComesBack tenderer_form
ComeBack Notices = ComesBack notice_form
ComeBack Lots = LotComesBack
ComeBack Envelopes = ComesBack envelope_form
ComeBack Seals = ComesBack seal_form
ComeBack Securities = ComesBack security_form
ComeBack Awards = ComesBack award_form
ComeBack Contracts = ComesBack contract_form
ComeBack Entries = ComesBack entry_form
ComeBack Releases = ComesBack release_form
ComeBack Compiled = ComesBack compiled_form
ComeBack Office = ComesBack clock_form
ComeBack LateRules = ComesBack late_form
ComeBack FormerNotices = FormerComesBack
ComeBack Performances = ComesBack performance_form

-- the records of every table are read back from their rows
abbrev pub RecordsComeBack : Type 0
RecordsComeBack = (k : OfficeTable) → ComeBack k

-- the SQL text of a put
abbrev pub statement_of : Put → List ℕ
statement_of (put.Line row) = upsert_lines
statement_of (put.Batch row) = upsert_batches
statement_of (put.Tenderer row) = upsert_tenderers
statement_of (put.Notice row) = upsert_notices
statement_of (put.Lot row) = upsert_lots
statement_of (put.Envelope row) = upsert_envelopes
statement_of (put.Seal row) = upsert_seals
statement_of (put.DropSeal receipt) = delete_seal
statement_of (put.Security row) = upsert_securities
statement_of (put.Award row) = upsert_awards
statement_of (put.Contract row) = upsert_contracts
statement_of (put.Entry row) = upsert_entries
statement_of (put.Release row) = upsert_releases
statement_of (put.Compiled row) = upsert_compiled
statement_of (put.Late row) = upsert_late_rules
statement_of (put.Performance row) = upsert_performance
statement_of (put.Clock row) = upsert_office

-- the parameters of that text: the record's columns in order, or the receipt whose bytes are deleted
abbrev pub values_of_put : Put → Row
values_of_put (put.Line row) = line_values row
values_of_put (put.Batch row) = batch_values row
values_of_put (put.Tenderer row) = tenderer_values row
values_of_put (put.Notice row) = notice_values row
values_of_put (put.Lot row) = lot_values row
values_of_put (put.Envelope row) = envelope_values row
values_of_put (put.Seal row) = seal_values row
values_of_put (put.DropSeal receipt) = Int (pos receipt) ∷ []
values_of_put (put.Security row) = security_values row
values_of_put (put.Award row) = award_values row
values_of_put (put.Contract row) = contract_values row
values_of_put (put.Entry row) = entry_values row
values_of_put (put.Release row) = release_values row
values_of_put (put.Compiled row) = compiled_values row
values_of_put (put.Late row) = late_values row
values_of_put (put.Performance row) = performance_values row
values_of_put (put.Clock row) = clock_values row

-- the record of a put is read back from its row; only a lot needs a proof, because of the text of its items
abbrev pub IsReadBack : Put → Type 0
IsReadBack (put.Lot row) = items_in_text (items_text row.items) ≡ row.items
IsReadBack p = ⊤

-- the statement of the put has this text and these values, and its record is read back
pub record IsStatementOf (p : Put) (sql : List ℕ) (params : Row) : Type 0 where
  pub text : statement_of p ≡ sql
  pub values : values_of_put p ≡ params
  pub back : IsReadBack p
