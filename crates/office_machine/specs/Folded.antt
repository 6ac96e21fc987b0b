-- The rows of tenders, seals, securities and performance securities are functions of the accepted commands.
use Rattle.std.specs.Prelude.{◌≡◌, ℕ, cond, false, List, length, Option, Some, None, option_map}
use Rattle.office_commands.specs.declared.tender.NamedSecurity.{NamedSecurity}
use Rattle.office_base.specs.Tables.{Tables, envelope_at, performance_at, seal_at, security_at}
use Rattle.office_base.specs.declared.records.EnvelopeRow.{EnvelopeRow}
use Rattle.office_base.specs.declared.records.EnvelopeState.{EnvelopeState}
use Rattle.office_base.specs.declared.records.PerformanceRow.{PerformanceRow}
use Rattle.office_base.specs.declared.records.SealRow.{SealRow}
use Rattle.office_base.specs.declared.records.SecurityRow.{SecurityRow}
use Rattle.office_base.specs.declared.records.SecurityState.{SecurityState}
use Rattle.office_machine.specs.Fates.{Reception, fate_of_performance, fate_of_security, fate_of_tender, is_kept, performance_named, received_at}
use Rattle.office_machine.specs.Machine.{Given, Means, Reaches}

-- A tender's row without what its opening and its examination write.
abbrev pub as_received : EnvelopeRow → EnvelopeRow
as_received e = record e { reading = None; responsive = None; quality = None; failed = false }

-- The row of a tender that came in with a receipt, in the state of its fate.
abbrev pub tender_row : (List ℕ → List ℕ) → ℕ → Option Reception → Option EnvelopeState → Option EnvelopeRow
tender_row digest r (Some c) (Some state) = Some (record {
  receipt = r;
  notice = c.notice;
  lot = c.lot;
  tenderer = c.tenderer;
  moment = c.moment;
  length = length c.bytes;
  digest = digest c.bytes;
  security = c.security;
  state = state;
  reading = None;
  responsive = None;
  quality = None;
  failed = false;
})
tender_row digest r None fate = None
tender_row digest r (Some c) None = None

-- The bytes of that tender, while they are kept.
abbrev pub seal_row : ℕ → Option Reception → Option EnvelopeState → Option SealRow
seal_row r (Some c) (Some state) = cond (is_kept state) (Some (record { receipt = r; bytes = c.bytes })) None
seal_row r None fate = None
seal_row r (Some c) None = None

-- The row of a security that was named with a tender, in the state of its fate.
abbrev pub named_row : ℕ → Reception → Option NamedSecurity → Option SecurityState → Option SecurityRow
named_row s c (Some n) (Some state) =
    Some (record { security = s; notice = c.notice; lot = c.lot; tenderer = c.tenderer; reference = n.reference; amount = n.amount; state = state })
named_row s c None fate = None
named_row s c (Some n) None = None

abbrev pub security_row : ℕ → Option Reception → Option SecurityState → Option SecurityRow
security_row s None fate = None
security_row s (Some c) fate = named_row s c c.named fate

-- The row of a performance security that was named at a signing, in the state of its fate.
abbrev pub performance_row : ℕ → Option NamedSecurity → Option SecurityState → Option PerformanceRow
performance_row c (Some n) (Some state) = Some (record { contract = c; reference = n.reference; amount = n.amount; state = state })
performance_row c None fate = None
performance_row c (Some n) None = None

-- The rows of these four tables are the ones that the accepted commands make.
pub record AreFolded (means : Means) (xs : List Given) (t : Tables) : Type 0 where
  pub tenders : (r : ℕ) → option_map as_received (envelope_at r t) ≡ tender_row means.readings.digest r (received_at xs r) (fate_of_tender xs r)
  pub seals : (r : ℕ) → seal_at r t ≡ seal_row r (received_at xs r) (fate_of_tender xs r)
  pub securities : (s : ℕ) → security_at s t ≡ security_row s (received_at xs s) (fate_of_security xs s)
  pub performances : (c : ℕ) → performance_at c t ≡ performance_row c (performance_named xs c) (fate_of_performance xs c)

-- The law: this is true of every reached office.
abbrev pub RowsAreFolded : Type 0
RowsAreFolded = (means : Means) (xs : List Given) (t : Tables) → Reaches means xs t → AreFolded means xs t
