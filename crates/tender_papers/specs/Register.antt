-- The register of a notice's tenders, as a text: the moment and the length of each, but nothing of its content (UNCITRAL Model Law 2011, article 40).
use Rattle.std.specs.Prelude.{ℕ, List, [], ◌∷◌, ◌++◌, codes, decimal}
use Rattle.std.specs.List.{flat_map}
use Rattle.office_values.specs.Moments.{moment_text}
use Rattle.office_base.specs.declared.records.EnvelopeRow.{EnvelopeRow}
use Rattle.office_base.specs.declared.records.EnvelopeState.{EnvelopeState}
use Rattle.office_base.specs.declared.records.EnvelopeState.TheVariants as state
use Rattle.tender_papers.specs.Lines.{line}

-- the word for the state of a tender
abbrev pub state_word : EnvelopeState → List ℕ
state_word state.Sealed = codes "sealed"
state_word state.Withdrawn = codes "withdrawn"
state_word state.Returned = codes "returned"
state_word state.Opened = codes "opened"

-- the line of a tender: its receipt, lot, moment, length and state, but neither its digest nor its tenderer
abbrev pub register_line : EnvelopeRow → List ℕ
register_line row = line (decimal row.receipt ∷ row.lot ∷ moment_text row.moment ∷ decimal row.length ∷ state_word row.state ∷ [])

-- the text: a line that names the notice, and a line for each tender
abbrev pub register_text : List ℕ → List EnvelopeRow → List ℕ
register_text notice rows = line (codes "REGISTER" ∷ notice ∷ []) ++ flat_map register_line rows
