-- The terms of a notice and of a lot are those that accepted commands gave them.
use Rattle.std.specs.Prelude.{◌≡◌, ℕ, cond, List, [], ◌∷◌, Option, Some, None, option_map}
use Rattle.office_values.specs.Ids.{same_id}
use Rattle.office_commands.specs.Notices.{weight_of}
use Rattle.office_commands.specs.declared.item.Item.{Item}
use Rattle.office_commands.specs.declared.commands.Command.{Command}
use Rattle.office_commands.specs.declared.commands.Command.TheVariants.{Publish, AmendNotice}
use Rattle.office_commands.specs.declared.lot.NewLot.{NewLot}
use Rattle.office_commands.specs.declared.notice.NewNotice.{NewNotice}
use Rattle.office_base.specs.declared.records.LotRow.{LotRow}
use Rattle.office_base.specs.declared.records.NoticeRow.{NoticeRow}
use Rattle.office_base.specs.Tables.{Tables, notice_at, lot_at}
use Rattle.office_machine.specs.Machine.{Means, Given, Reaches, time_of}

-- The terms of a notice (UNCITRAL Model Law 2011, article 39): its row without its state, its opening and its counts.
pub record NoticeTerms : Type 0 where
  pub title : List ℕ
  pub published : ℕ
  pub deadline : ℕ
  pub validity : ℕ
  pub standstill : ℕ
  pub weight : ℕ
  pub performance : ℕ

abbrev pub notice_terms : NoticeRow → NoticeTerms
notice_terms n = record {
  title = n.title;
  published = n.published;
  deadline = n.deadline;
  validity = n.validity;
  standstill = n.standstill;
  weight = n.weight;
  performance = n.performance;
}

-- The terms that a publication gives its notice.
abbrev pub published_terms : ℕ → NewNotice → NoticeTerms
published_terms t new = record {
  title = new.title;
  published = t;
  deadline = new.deadline;
  validity = new.validity;
  standstill = new.standstill;
  weight = weight_of new.criteria;
  performance = new.performance;
}

abbrev pub with_deadline : ℕ → NoticeTerms → NoticeTerms
with_deadline deadline terms = record terms { deadline = deadline }

-- A notice's terms after a command: its publication sets them, its amendment moves the deadline, and no other command changes them.
abbrev pub notice_terms_by : Command → ℕ → List ℕ → Option NoticeTerms → Option NoticeTerms
notice_terms_by (Publish name new) t notice terms = cond (same_id name notice) (Some (published_terms t new)) terms
notice_terms_by (AmendNotice name deadline rationale) t notice terms = cond (same_id name notice) (option_map (with_deadline deadline) terms) terms
notice_terms_by _ t notice terms = terms

-- The terms that these accepted commands, the last one first, gave a notice.
abbrev pub notice_terms_after : List Given → List ℕ → Option NoticeTerms
notice_terms_after [] notice = None
notice_terms_after (x ∷ xs) notice = notice_terms_by x.command (time_of x) notice (notice_terms_after xs notice)

-- The terms of a lot: its row without its state and its reserved money.
pub record LotTerms : Type 0 where
  pub title : List ℕ
  pub line : List ℕ
  pub estimate : ℕ
  pub security : ℕ
  pub items : List Item

abbrev pub lot_terms : LotRow → LotTerms
lot_terms l = record { title = l.title; line = l.line; estimate = l.estimate; security = l.security; items = l.items }

-- The terms that a publication gives a lot of its notice.
abbrev pub new_lot_terms : NewLot → LotTerms
new_lot_terms l = record { title = l.title; line = l.line; estimate = l.estimate; security = l.security; items = l.items }

-- The lot that has this identifier.
abbrev pub lot_named : List NewLot → List ℕ → Option NewLot
lot_named [] lot = None
lot_named (l ∷ lots) lot = cond (same_id lot l.id) (Some l) (lot_named lots lot)

-- A lot's terms after a command: the publication of its notice sets them, and no other command changes them.
abbrev pub lot_terms_by : Command → List ℕ × List ℕ → Option LotTerms → Option LotTerms
lot_terms_by (Publish name new) lot terms = cond (same_id name lot.0) (option_map new_lot_terms (lot_named new.lots lot.1)) terms
lot_terms_by _ lot terms = terms

-- The terms that these accepted commands gave a lot.
abbrev pub lot_terms_after : List Given → List ℕ × List ℕ → Option LotTerms
lot_terms_after [] lot = None
lot_terms_after (x ∷ xs) lot = lot_terms_by x.command lot (lot_terms_after xs lot)

-- The office has the notices and the lots that commands gave terms, with these terms, and no others.
pub record HasTerms (xs : List Given) (t : Tables) : Type 0 where
  pub notices : (notice : List ℕ) → option_map notice_terms (notice_at notice t) ≡ notice_terms_after xs notice
  pub lots : (lot : List ℕ × List ℕ) → option_map lot_terms (lot_at lot t) ≡ lot_terms_after xs lot

-- Wherever accepted commands lead, a notice has the terms of its publication, with the deadline of its last amendment, and a lot has the
-- terms of its notice's publication.
abbrev pub TermsAreKept : Type 0
TermsAreKept = (means : Means) (xs : List Given) (t : Tables) → Reaches means xs t → HasTerms xs t
