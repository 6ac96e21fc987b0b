-- States and kinds as words, and back. Any word that isn't one of the others is read as the last one.
use Rattle.std.specs.Prelude.{ℕ, if◌then◌else◌, List, codes}
use Rattle.office_commands.specs.declared.contract.How.{How}
use Rattle.office_commands.specs.declared.contract.How.TheVariants as how
use Rattle.office_base.specs.declared.records.NoticeState.{NoticeState}
use Rattle.office_base.specs.declared.records.NoticeState.TheVariants as notice
use Rattle.office_base.specs.declared.records.LotState.{LotState}
use Rattle.office_base.specs.declared.records.LotState.TheVariants as lot
use Rattle.office_base.specs.declared.records.EnvelopeState.{EnvelopeState}
use Rattle.office_base.specs.declared.records.EnvelopeState.TheVariants as envelope
use Rattle.office_base.specs.declared.records.SecurityState.{SecurityState}
use Rattle.office_base.specs.declared.records.SecurityState.TheVariants as security
use Rattle.office_base.specs.declared.records.AwardState.{AwardState}
use Rattle.office_base.specs.declared.records.AwardState.TheVariants as award
use Rattle.office_base.specs.declared.records.EntryKind.{EntryKind}
use Rattle.office_base.specs.declared.records.EntryKind.TheVariants as entry
use Rattle.office_tables.specs.Values.{same_text}

-- the state of a notice as a word
abbrev pub notice_state_text : NoticeState → List ℕ
notice_state_text notice.Receiving = codes "receiving"
notice_state_text notice.Opened = codes "opened"
notice_state_text notice.Cancelled = codes "cancelled"

abbrev pub notice_state_in : List ℕ → NoticeState
notice_state_in word =
    if same_text word (codes "receiving") then notice.Receiving
    else if same_text word (codes "opened") then notice.Opened
    else notice.Cancelled

-- the state of a lot as a word
abbrev pub lot_state_text : LotState → List ℕ
lot_state_text lot.Undecided = codes "undecided"
lot_state_text lot.Awarded = codes "awarded"
lot_state_text lot.Contracted = codes "contracted"
lot_state_text lot.Unsuccessful = codes "unsuccessful"
lot_state_text lot.Cancelled = codes "cancelled"

abbrev pub lot_state_in : List ℕ → LotState
lot_state_in word =
    if same_text word (codes "undecided") then lot.Undecided
    else if same_text word (codes "awarded") then lot.Awarded
    else if same_text word (codes "contracted") then lot.Contracted
    else if same_text word (codes "unsuccessful") then lot.Unsuccessful
    else lot.Cancelled

-- the state of a tender as a word
abbrev pub envelope_state_text : EnvelopeState → List ℕ
envelope_state_text envelope.Sealed = codes "sealed"
envelope_state_text envelope.Withdrawn = codes "withdrawn"
envelope_state_text envelope.Returned = codes "returned"
envelope_state_text envelope.Opened = codes "opened"

abbrev pub envelope_state_in : List ℕ → EnvelopeState
envelope_state_in word =
    if same_text word (codes "sealed") then envelope.Sealed
    else if same_text word (codes "withdrawn") then envelope.Withdrawn
    else if same_text word (codes "returned") then envelope.Returned
    else envelope.Opened

-- the state of a security as a word
abbrev pub security_state_text : SecurityState → List ℕ
security_state_text security.Held = codes "held"
security_state_text security.Returned = codes "returned"
security_state_text security.Forfeited = codes "forfeited"

abbrev pub security_state_in : List ℕ → SecurityState
security_state_in word =
    if same_text word (codes "held") then security.Held
    else if same_text word (codes "returned") then security.Returned
    else security.Forfeited

-- the state of an award as a word
abbrev pub award_state_text : AwardState → List ℕ
award_state_text award.Active = codes "active"
award_state_text award.Failed = codes "failed"
award_state_text award.Cancelled = codes "cancelled"
award_state_text award.Signed = codes "signed"

abbrev pub award_state_in : List ℕ → AwardState
award_state_in word =
    if same_text word (codes "active") then award.Active
    else if same_text word (codes "failed") then award.Failed
    else if same_text word (codes "cancelled") then award.Cancelled
    else award.Signed

-- the way in which a contract ended, as a word
abbrev pub how_text : How → List ℕ
how_text how.Regular = codes "regular"
how_text how.ForDefault = codes "default"

abbrev pub how_in : List ℕ → How
how_in word = if same_text word (codes "regular") then how.Regular else how.ForDefault

-- the kind of an entry as a word
abbrev pub entry_kind_text : EntryKind → List ℕ
entry_kind_text entry.Raise = codes "raise"
entry_kind_text entry.Cut = codes "cut"
entry_kind_text entry.Payment = codes "payment"

abbrev pub entry_kind_in : List ℕ → EntryKind
entry_kind_in word =
    if same_text word (codes "raise") then entry.Raise
    else if same_text word (codes "cut") then entry.Cut
    else entry.Payment
