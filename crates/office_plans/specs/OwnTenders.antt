-- The rows that a submission looks up. Of the tenders of the lot it needs only the caller's own.
use Rattle.std.specs.Prelude.{ℕ, List, []}
use Rattle.office_commands.specs.declared.command.Caller.{Caller}
use Rattle.office_commands.specs.declared.command.Caller.TheVariants.{Public, Clerk, Tenderer}
use Rattle.office_base.specs.Tables.{Tables, notice_at, lot_at, envelopes_of_tenderer}
use Rattle.office_base.specs.declared.records.EnvelopeRow.{EnvelopeRow}
use Rattle.tender_core.specs.declared.present.PresentRows.{PresentRows}

-- The caller's own tenders of a lot. The clerk and the public have none.
abbrev pub own_envelopes : Caller → List ℕ → List ℕ → Tables → List EnvelopeRow
own_envelopes Public notice lot s = []
own_envelopes Clerk notice lot s = []
own_envelopes (Tenderer id) notice lot s = envelopes_of_tenderer notice lot id s

-- The rows of the rule for a submission; of the tenders only the caller's own.
abbrev pub own_rows : Caller → Tables → List ℕ → List ℕ → PresentRows
own_rows caller s notice lot = record {
  notice = notice_at notice s;
  lot = lot_at (notice, lot) s;
  envelopes = own_envelopes caller notice lot s;
  clock = s.clock;
}
