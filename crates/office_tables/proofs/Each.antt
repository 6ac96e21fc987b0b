-- Each table of an office, and each change.
use Rattle.office_tables.proofs.Names.{◌≡◌, List, ℕ, [], ◌∷◌, Ok, Some, length, slice_get, pos, true, false, refl, sym, subst, ◌∙◌, bytes_eq, AllByRecursion, position_or_len, Ordering, Value, Int, Row, Command, Has, all_has, place_has, Database, Executes, ExecutesInside, Tables, no_tables, after_put, Put, ClockRow, Form, RowsStand, Stand, IsIn, Places, HasTables, OfficeTable, table_of, all_tables, StandFor, ComeBack, values_of_put, IsReadBack, Stands, line_form, batch_form, tenderer_form, notice_form, lot_form, envelope_form, delete_seal, seal_form, security_form, award_form, contract_form, entry_form, release_form, compiled_form, clock_form, late_form, performance_form, Lines, Batches, Tenderers, Notices, Lots, Envelopes, Seals, Securities, Awards, Contracts, Entries, Releases, Office, LateRules, FormerNotices, Performances}
use Rattle.sqlite.specs.State.{State}
use Rattle.office_base.specs.declared.puts.Put.TheVariants as put
use Rattle.office_tables.specs.Schema.{statement_of}
use Rattle.office_tables.specs.Steps.{Puts}
use Rattle.office_tables.specs.Schema.OfficeTable.{Compiled}
use Rattle.office_tables.proofs.Cells.{and_true, number_tested, same_number_is}
use Rattle.office_tables.proofs.Drops.{drops_row}
use Rattle.office_tables.proofs.Held.{holds_put, goes_with}
use Rattle.office_tables.proofs.Made.{is_change, shows, made_of}
use Rattle.office_tables.proofs.Meanings.{StatementMeans, IsOne}
use Rattle.office_tables.proofs.RowsBack.{notice_back, former_back, lot_back, envelope_back, security_back, award_back, contract_back, entry_back, performance_back}
use Rattle.office_tables.proofs.Upserts.{Shape}
use Rattle.office_tables.proofs.Writes.{IsBare, puts_row, with_rows}
use Rattle.office_tables.proofs.ByTable.Lines.{lines_made, line_shape, line_put, after_line}
use Rattle.office_tables.proofs.ByTable.Batches.{batches_made, batch_shape, batch_put, after_batch}
use Rattle.office_tables.proofs.ByTable.Tenderers.{tenderers_made, tenderer_shape, tenderer_put, after_tenderer}
use Rattle.office_tables.proofs.ByTable.Notices.{notices_made, former_notices_made, notice_shape, notice_put, after_notice}
use Rattle.office_tables.proofs.ByTable.Lots.{lots_made, lot_shape, lot_put, after_lot}
use Rattle.office_tables.proofs.ByTable.Envelopes.{envelopes_made, envelope_shape, envelope_put, after_envelope}
use Rattle.office_tables.proofs.ByTable.Seals.{seals_made, seal_shape, seal_put, after_seal, drop_seal_one, drop_seal_means, after_drop}
use Rattle.office_tables.proofs.ByTable.Securities.{securities_made, security_shape, security_put, after_security}
use Rattle.office_tables.proofs.ByTable.Awards.{awards_made, award_shape, award_put, after_award}
use Rattle.office_tables.proofs.ByTable.Contracts.{contracts_made, contract_shape, contract_put, after_contract}
use Rattle.office_tables.proofs.ByTable.Entries.{entries_made, entry_shape, entry_put, after_entry}
use Rattle.office_tables.proofs.ByTable.Releases.{releases_made, release_shape, release_put, after_release}
use Rattle.office_tables.proofs.ByTable.Compiled.{compiled_made, compiled_shape, compiled_put, after_compiled}
use Rattle.office_tables.proofs.ByTable.Office.{office_made, clock_shape, clock_put, after_clock}
use Rattle.office_tables.proofs.ByTable.LateRules.{late_rules_made, late_shape, late_put, after_late}
use Rattle.office_tables.proofs.ByTable.Performances.{performances_made, performance_shape, performance_put, after_performance}
use Rattle.office_tables.proofs.TableTools.{IsOfficeTable, IsPutOf, StaysBeside, put_means}

-- ---- each table

pub each : (k : OfficeTable) → IsOfficeTable k
each Lines = lines_made
each Batches = batches_made
each Tenderers = tenderers_made
each Notices = notices_made
each Lots = lots_made
each Envelopes = envelopes_made
each Seals = seals_made
each Securities = securities_made
each Awards = awards_made
each Contracts = contracts_made
each Entries = entries_made
each Releases = releases_made
each Compiled = compiled_made
each Office = office_made
each LateRules = late_rules_made
each FormerNotices = former_notices_made
each Performances = performances_made

pub bare : (k : OfficeTable) → IsBare (table_of k)
bare k = (each k).bare

-- the records of each table are read back from their rows
pub all_come_back : (k : OfficeTable) → ComeBack k
all_come_back Lines = record { row = λ x. refl; entry = λ rowid x. refl }
all_come_back Batches = record { row = λ x. refl; entry = λ rowid x. refl }
all_come_back Tenderers = record { row = λ x. refl; entry = λ rowid x. refl }
all_come_back Notices = record { row = notice_back; entry = λ rowid. notice_back }
all_come_back Lots = record { row = lot_back; entry = λ rowid. lot_back }
all_come_back Envelopes = record { row = envelope_back; entry = λ rowid. envelope_back }
all_come_back Seals = record { row = λ x. refl; entry = λ rowid x. refl }
all_come_back Securities = record { row = security_back; entry = λ rowid. security_back }
all_come_back Awards = record { row = award_back; entry = λ rowid. award_back }
all_come_back Contracts = record { row = contract_back; entry = λ rowid. contract_back }
all_come_back Entries = record { row = entry_back; entry = λ rowid. entry_back }
all_come_back Releases = record { row = λ x. refl; entry = λ rowid x. refl }
all_come_back Compiled = record { row = λ x. refl; entry = λ rowid x. refl }
all_come_back Office = record { row = λ x. refl; entry = λ rowid x. refl }
all_come_back LateRules = record { row = λ x. refl; entry = λ rowid x. refl }
all_come_back FormerNotices = former_back
all_come_back Performances = record { row = performance_back; entry = λ rowid. performance_back }

-- ---- what each put makes

puts_by : (k : OfficeTable) {K X : Type 0} (f : Form K X) (s : Shape) (p : Put) (x : X) (part : Tables → List X) → IsPutOf k f s (statement_of p)
    → ((t : Tables) (rows : OfficeTable → List Row) → Stands rows t → RowsStand f (rows k) (part t)) → StaysBeside k f p x part → ((v : Value) → f.back (f.stored v x) ≡ x) → values_of_put p ≡ f.row x
    → (old new : State) (count : ℕ) → ExecutesInside 0 (statement_of p) (values_of_put p) old new (Ok count) → Puts old new (p ∷ [])
puts_by k f s p x part of stood beside back same old new count h =
    goes_with old new p h.1 (λ t was. made_of (statement_of p) (values_of_put p) old new _ (put_means of old.now.schema (was.places k) (was.tables k)) refl refl count h.0) (λ t was.
    let done = puts_row k bare f s of.stored old new was.places was.tables (statement_of p) x count (part t) (put_means of old.now.schema (was.places k) (was.tables k)) back
    (stood t (λ j. old.now.trees (was.places j)) was.stands) (subst (λ v. Executes (statement_of p) v old new (Ok count)) same h.0) in
    holds_put k f.cmp f.key f.stored f.back old.now new.now t (after_put p t) was _ done (beside t (λ j. old.now.trees (was.places j)) (new.now.trees (was.places k)) was.stands))

drops_seal : (n : ℕ) (old new : State) (count : ℕ) → ExecutesInside 0 delete_seal (Int (pos n) ∷ []) old new (Ok count) → Puts old new (put.DropSeal n ∷ [])
drops_seal n old new count h =
    goes_with old new (put.DropSeal n) h.1 (λ t was. made_of delete_seal (Int (pos n) ∷ []) old new _ (drop_seal_means old.now.schema (was.places Seals) (was.tables Seals)) refl refl count h.0) (λ t was.
    let done = drops_row Seals bare seal_form seal_shape seal_put.stored old new was.places was.tables (0 ∷ []) delete_seal (Int (pos n) ∷ []) count t.seals n
    (drop_seal_means old.now.schema (was.places Seals) (was.tables Seals)) (λ v x. and_true _ ∙ number_tested x.receipt n ∙ same_number_is x.receipt n) (was.stands Seals) h.0 in
    holds_put Seals seal_form.cmp seal_form.key seal_form.stored seal_form.back old.now new.now t (after_put (put.DropSeal n) t) was _ done
    (after_drop (λ j. old.now.trees (was.places j)) (new.now.trees (was.places Seals)) t n was.stands))

pub puts_of : (p : Put) → IsReadBack p → (old new : State) (count : ℕ) → ExecutesInside 0 (statement_of p) (values_of_put p) old new (Ok count) → Puts old new (p ∷ [])
puts_of (put.Line x) back = puts_by Lines line_form line_shape (put.Line x) x (λ t. t.lines) line_put (λ t rows was. was Lines) (after_line x) (λ v. refl) refl
puts_of (put.Batch x) back = puts_by Batches batch_form batch_shape (put.Batch x) x (λ t. t.batches) batch_put (λ t rows was. was Batches) (after_batch x) (λ v. refl) refl
puts_of (put.Tenderer x) back = puts_by Tenderers tenderer_form tenderer_shape (put.Tenderer x) x (λ t. t.tenderers) tenderer_put (λ t rows was. was Tenderers) (after_tenderer x) (λ v. refl) refl
puts_of (put.Notice x) back = puts_by Notices notice_form notice_shape (put.Notice x) x (λ t. t.notices) notice_put (λ t rows was. was Notices) (after_notice x) (λ v. notice_back x) refl
puts_of (put.Lot x) back = puts_by Lots lot_form lot_shape (put.Lot x) x (λ t. t.lots) lot_put (λ t rows was. was Lots) (after_lot x) (λ v. lot_back x back) refl
puts_of (put.Envelope x) back = puts_by Envelopes envelope_form envelope_shape (put.Envelope x) x (λ t. t.envelopes) envelope_put (λ t rows was. was Envelopes) (after_envelope x) (λ v. envelope_back x) refl
puts_of (put.Seal x) back = puts_by Seals seal_form seal_shape (put.Seal x) x (λ t. t.seals) seal_put (λ t rows was. was Seals) (after_seal x) (λ v. refl) refl
puts_of (put.DropSeal receipt) back = drops_seal receipt
puts_of (put.Security x) back = puts_by Securities security_form security_shape (put.Security x) x (λ t. t.securities) security_put (λ t rows was. was Securities) (after_security x) (λ v. security_back x) refl
puts_of (put.Award x) back = puts_by Awards award_form award_shape (put.Award x) x (λ t. t.awards) award_put (λ t rows was. was Awards) (after_award x) (λ v. award_back x) refl
puts_of (put.Contract x) back = puts_by Contracts contract_form contract_shape (put.Contract x) x (λ t. t.contracts) contract_put (λ t rows was. was Contracts) (after_contract x) (λ v. contract_back x) refl
puts_of (put.Entry x) back = puts_by Entries entry_form entry_shape (put.Entry x) x (λ t. t.entries) entry_put (λ t rows was. was Entries) (after_entry x) (λ v. entry_back x) refl
puts_of (put.Release x) back = puts_by Releases release_form release_shape (put.Release x) x (λ t. t.releases) release_put (λ t rows was. was Releases) (after_release x) (λ v. refl) refl
puts_of (put.Compiled x) back = puts_by Compiled compiled_form compiled_shape (put.Compiled x) x (λ t. t.compiled) compiled_put (λ t rows was. was Compiled) (after_compiled x) (λ v. refl) refl
puts_of (put.Late x) back = puts_by LateRules late_form late_shape (put.Late x) x (λ t. t.late_rules) late_put (λ t rows was. was LateRules) (after_late x) (λ v. refl) refl
puts_of (put.Performance x) back = puts_by Performances performance_form performance_shape (put.Performance x) x (λ t. t.performances) performance_put (λ t rows was. was Performances) (after_performance x) (λ v. performance_back x) refl
puts_of (put.Clock x) back = puts_by Office clock_form clock_shape (put.Clock x) x (λ t. t.clock ∷ []) clock_put (λ t rows was. was Office) (after_clock x) (λ v. refl) refl

-- ---- what is known of the statement of a put, in a database with the tables of an office

pub record IsKnown (old : State) (p : Put) : Type 0 where
  pub command : Command
  pub means : StatementMeans old.now.schema (statement_of p) command
  pub one : IsOne (statement_of p) (length (values_of_put p))
  pub change : is_change command ≡ true
  pub silent : shows command ≡ false

known_by : (old : State) (places : Places) → HasTables old.now.schema places → (k : OfficeTable) {K X : Type 0} (f : Form K X) (s : Shape) (p : Put) → IsPutOf k f s (statement_of p) → s.base ≡ length (values_of_put p)
    → IsKnown old p
known_by old places tables k f s p of count = record {
  command = _;
  means = put_means of old.now.schema (places k) (tables k);
  one = subst (IsOne (statement_of p)) count of.reads.one;
  change = refl;
  silent = refl;
}

pub known : (old : State) (places : Places) → HasTables old.now.schema places → (p : Put) → IsKnown old p
known old places tables (put.Line x) = known_by old places tables Lines line_form line_shape (put.Line x) line_put refl
known old places tables (put.Batch x) = known_by old places tables Batches batch_form batch_shape (put.Batch x) batch_put refl
known old places tables (put.Tenderer x) = known_by old places tables Tenderers tenderer_form tenderer_shape (put.Tenderer x) tenderer_put refl
known old places tables (put.Notice x) = known_by old places tables Notices notice_form notice_shape (put.Notice x) notice_put refl
known old places tables (put.Lot x) = known_by old places tables Lots lot_form lot_shape (put.Lot x) lot_put refl
known old places tables (put.Envelope x) = known_by old places tables Envelopes envelope_form envelope_shape (put.Envelope x) envelope_put refl
known old places tables (put.Seal x) = known_by old places tables Seals seal_form seal_shape (put.Seal x) seal_put refl
known old places tables (put.DropSeal receipt) = record { command = _; means = drop_seal_means old.now.schema (places Seals) (tables Seals); one = drop_seal_one; change = refl; silent = refl }
known old places tables (put.Security x) = known_by old places tables Securities security_form security_shape (put.Security x) security_put refl
known old places tables (put.Award x) = known_by old places tables Awards award_form award_shape (put.Award x) award_put refl
known old places tables (put.Contract x) = known_by old places tables Contracts contract_form contract_shape (put.Contract x) contract_put refl
known old places tables (put.Entry x) = known_by old places tables Entries entry_form entry_shape (put.Entry x) entry_put refl
known old places tables (put.Release x) = known_by old places tables Releases release_form release_shape (put.Release x) release_put refl
known old places tables (put.Compiled x) = known_by old places tables Compiled compiled_form compiled_shape (put.Compiled x) compiled_put refl
known old places tables (put.Late x) = known_by old places tables LateRules late_form late_shape (put.Late x) late_put refl
known old places tables (put.Performance x) = known_by old places tables Performances performance_form performance_shape (put.Performance x) performance_put refl
known old places tables (put.Clock x) = known_by old places tables Office clock_form clock_shape (put.Clock x) clock_put refl

-- ---- all tables

abbrev pub Found : Database → OfficeTable → Type 0
Found db k = (n : ℕ) × IsIn db.schema (table_of k) n × (db.trees n ≡ [])

-- each table is in the list of all tables, at the place of its name
abbrev place_of : OfficeTable → ℕ
place_of k = position_or_len (λ (j : OfficeTable). bytes_eq (table_of j).name (table_of k).name) all_tables

at_place : (k : OfficeTable) → slice_get all_tables (place_of k) ≡ Some k
at_place Lines = refl
at_place k = refl

pub listed : (k : OfficeTable) → Has all_tables k
listed k = place_has all_tables (place_of k) k (at_place k)

-- a property of all tables in the list is one of each table
pub found : {db : Database} (k : OfficeTable) → AllByRecursion (Found db) all_tables → Found db k
found {db} k all = all_has (Found db) all_tables k all (listed k)

-- no rows hold no records
pub nothing : {K X : Type 0} {R : K → K → Ordering} {key : X → K} {form : Value → X → Row} {decode : Row → X} {rows : List Row} → rows ≡ [] → Stand R key form decode rows []
nothing {R} {key} {form} {decode} e = subst (λ r. Stand R key form decode r []) (sym e) (record { kept = record { rising = tt; each = tt; one = λ a b h k s. absurd h }; is = refl })

-- the clock's row among empty tables
pub stands_empty : (rows : OfficeTable → List Row) (changed : List Row) (x : ClockRow) → ((k : OfficeTable) → rows k ≡ []) → StandFor Office changed (record no_tables { clock = x })
    → Stands (with_rows rows Office changed) (record no_tables { clock = x })
stands_empty rows changed x empty stand Office = stand
stands_empty rows changed x empty stand FormerNotices = empty FormerNotices
stands_empty rows changed x empty stand k = nothing (empty k)

same : {K X : Type 0} {R : K → K → Ordering} {key : X → K} {form : Value → X → Row} {decode : Row → X} {rows : List Row} {xs ys : List X} → Stand R key form decode rows xs → Stand R key form decode rows ys → xs ≡ ys
same a b = sym a.is ∙ b.is

one_of : {X : Type 0} {x y : X} → ◌≡◌ {A = List X} (x ∷ []) (y ∷ []) → x ≡ y
one_of e = cc

-- the rows of all tables hold one content alone
pub one_content : (rows : OfficeTable → List Row) (t u : Tables) → Stands rows t → Stands rows u → t ≡ u
one_content rows t u a b = λ i. record { lines = same (a Lines) (b Lines) i; batches = same (a Batches) (b Batches) i; tenderers = same (a Tenderers) (b Tenderers) i; notices = same (a Notices) (b Notices) i; lots = same (a Lots) (b Lots) i; envelopes = same (a Envelopes) (b Envelopes) i; seals = same (a Seals) (b Seals) i; securities = same (a Securities) (b Securities) i; awards = same (a Awards) (b Awards) i; contracts = same (a Contracts) (b Contracts) i; entries = same (a Entries) (b Entries) i; releases = same (a Releases) (b Releases) i; compiled = same (a Compiled) (b Compiled) i; late_rules = same (a LateRules) (b LateRules) i; performances = same (a Performances) (b Performances) i; clock = one_of (same (a Office) (b Office)) i }
