-- The texts of replies: JSON objects, and the texts of the ledger, registers, minutes and evaluations.
use Rattle.std.specs.Prelude.{ℕ, ◌++◌, List, [], ◌∷◌, map, Option, Result, Ok, Err, codes, decimal, option_map, unwrap_or}
use Rattle.std.specs.List.{flat_map}
use Rattle.serde_json.specs.Data.{boolean}
use Rattle.office_values.specs.Moments.{moment_text}
use Rattle.office_values.specs.declared.refusal.Refusal.{Refusal}
use Rattle.office_base.specs.declared.reading.Reading.TheVariants.{Unreadable}
use Rattle.office_base.specs.declared.records.EnvelopeState.{EnvelopeState}
use Rattle.office_base.specs.declared.records.TendererRow.{TendererRow}
use Rattle.tender_papers.specs.Evaluation.{evaluation_end, evaluation_head, findings_text}
use Rattle.tender_papers.specs.Ledger.{ledger_text}
use Rattle.tender_papers.specs.Lines.{line}
use Rattle.tender_papers.specs.Minutes.{minutes_text}
use Rattle.tender_papers.specs.Register.{state_word}
use Rattle.tender_papers.specs.declared.evaluation.Finding.{Finding}
use Rattle.tender_papers.specs.declared.minutes.OpenedTender.{OpenedTender}
use Rattle.office_machine.specs.Replies.{Reply, Winning, Registered, Minuted, EvaluatedTender, EvaluatedLot, Refused, Imported, Enrolled, OfNotice, OpenedAll, Received, Withdrew}
use Rattle.office_machine.specs.Replies.{Examined, Awarded, Failed, Signed, OfContract, LineSeen, LedgerSeen, Tender, Security, PerformanceSeen, Registry, Minutes, Package}
use Rattle.office_machine.specs.Replies.{NoticesSeen, TermsSeen, OwnTendersSeen, EvaluationSeen, SecuritiesSeen, TenderersSeen, ContractSeen}
use Rattle.office_plans.specs.Json.{Member, text_entry, number_entry, count_entry, moment_entry, digest_entry, with_objects, object_text}
use Rattle.office_plans.specs.RowMembers.{notice_entries, own_tender_entries, listed_security_entries, listed_tenderer_entries, page_entries, terms_entries, contract_entries}
use Rattle.office_plans.specs.Words.{security_word}

-- Entries that several replies have.
abbrev pub release_entry : ℕ → Member
release_entry release = number_entry (codes "release") release

abbrev pub state_entry : EnvelopeState → Member
state_entry state = text_entry (codes "state") (state_word state)

-- The members of a reply in JSON. If nobody wins, that of an award has null for the winner's award number, price and receipt.
abbrev pub reply_entries : Reply → List Member
reply_entries (Imported batch rows moment) = text_entry (codes "batch") batch ∷ moment_entry moment ∷ number_entry (codes "rows") rows ∷ []
reply_entries (Enrolled tenderer moment) = moment_entry moment ∷ text_entry (codes "tenderer") tenderer ∷ []
reply_entries (OfNotice notice release moment) = moment_entry moment ∷ text_entry (codes "notice") notice ∷ release_entry release ∷ []
reply_entries (OpenedAll notice count release moment) =
    moment_entry moment ∷ text_entry (codes "notice") notice ∷ number_entry (codes "opened") count ∷ release_entry release ∷ []
reply_entries (Received digest receipt security state moment) =
    digest_entry digest ∷ moment_entry moment ∷ number_entry (codes "receipt") receipt ∷ count_entry (codes "security") security ∷ state_entry state ∷ []
reply_entries (Withdrew receipt state moment) = moment_entry moment ∷ number_entry (codes "receipt") receipt ∷ state_entry state ∷ []
reply_entries (Examined receipt responsive moment) = moment_entry moment ∷ (codes "responsive", boolean responsive) ∷ number_entry (codes "tender") receipt ∷ []
reply_entries (Awarded lot best release moment) =
    count_entry (codes "award") (option_map (λ (w : Winning). w.award) best) ∷ text_entry (codes "lot") lot ∷ moment_entry moment
    ∷ count_entry (codes "price") (option_map (λ (w : Winning). w.price) best) ∷ release_entry release ∷ count_entry (codes "tender") (option_map (λ (w : Winning). w.tender) best) ∷ []
reply_entries (Failed award release moment) = number_entry (codes "award") award ∷ moment_entry moment ∷ release_entry release ∷ []
reply_entries (Signed contract release moment) = number_entry (codes "contract") contract ∷ moment_entry moment ∷ release_entry release ∷ []
reply_entries (OfContract contract left release moment) =
    number_entry (codes "contract") contract ∷ moment_entry moment ∷ number_entry (codes "outstanding") left ∷ release_entry release ∷ []
reply_entries (LineSeen line title pots) =
    number_entry (codes "appropriation") pots.appropriation ∷ number_entry (codes "contracted") pots.contracted ∷ number_entry (codes "free") pots.free
    ∷ text_entry (codes "line") line ∷ number_entry (codes "paid") pots.paid ∷ number_entry (codes "reserved") pots.reserved
    ∷ text_entry (codes "title") title ∷ []
reply_entries (Tender digest length notice lot moment receipt security state) =
    digest_entry digest ∷ number_entry (codes "length") length ∷ text_entry (codes "lot") lot ∷ moment_entry moment ∷ text_entry (codes "notice") notice
    ∷ number_entry (codes "receipt") receipt ∷ count_entry (codes "security") security ∷ state_entry state ∷ []
reply_entries (Security amount reference security state tenderer) =
    number_entry (codes "amount") amount ∷ text_entry (codes "reference") reference ∷ number_entry (codes "security") security
    ∷ text_entry (codes "state") (security_word state) ∷ text_entry (codes "tenderer") tenderer ∷ []
reply_entries (PerformanceSeen amount contract reference state tenderer) =
    number_entry (codes "amount") amount ∷ number_entry (codes "contract") contract ∷ text_entry (codes "reference") reference
    ∷ text_entry (codes "state") (security_word state) ∷ text_entry (codes "tenderer") tenderer ∷ []
reply_entries (NoticesSeen next rows) = page_entries next (codes "notices") (map notice_entries rows)
reply_entries (TermsSeen notice late lots) = terms_entries notice late lots
reply_entries (OwnTendersSeen rows) = with_objects [] (codes "tenders") (map own_tender_entries rows) []
reply_entries (SecuritiesSeen rows) = with_objects [] (codes "securities") (map listed_security_entries rows) []
reply_entries (TenderersSeen next rows) = page_entries next (codes "tenderers") (map listed_tenderer_entries rows)
reply_entries (ContractSeen contract left paid entries) = contract_entries contract left paid entries
reply_entries _ = []

-- The line of a tender in a register, and the register's text. They show no digest and no tenderer.
abbrev pub registered_line : Registered → List ℕ
registered_line row = line (decimal row.receipt ∷ row.lot ∷ moment_text row.moment ∷ decimal row.length ∷ state_word row.state ∷ [])

abbrev pub registry_text : List ℕ → List Registered → List ℕ
registry_text notice rows = line (codes "REGISTER" ∷ notice ∷ []) ++ flat_map registered_line rows

-- The row of the tenderer who submitted a tender. A reached office always has it.
abbrev pub presenter_of : List ℕ → Option TendererRow → TendererRow
presenter_of tenderer row = unwrap_or row (record { tenderer = tenderer; name = []; address = []; key = [] })

-- A tender in the minutes. Each opened tender was read, so its reading exists.
abbrev pub minuted_tender : Minuted → OpenedTender
minuted_tender m = record { lot = m.lot; receipt = m.receipt; tenderer = presenter_of m.tenderer m.party; reading = unwrap_or m.reading Unreadable }

-- The office's findings about an opened tender. Each opened tender was read, so its reading exists.
abbrev pub finding_of : EvaluatedTender → Finding
finding_of t = record {
  receipt = t.receipt;
  tenderer = t.tenderer;
  reading = unwrap_or t.reading Unreadable;
  responsive = t.responsive;
  quality = t.quality;
  points = t.points;
  admissible = t.admissible;
  failed = t.failed;
}

-- The lines of a lot in an evaluation.
abbrev pub evaluated_lines : EvaluatedLot → List ℕ
evaluated_lines l = findings_text l.lot l.state (map finding_of l.tenders) l.awards

-- The text of a reply. It is empty for a refusal, which has a response of its own.
abbrev pub reply_text : Reply → List ℕ
reply_text (Refused why) = []
reply_text (LedgerSeen rows) = ledger_text rows
reply_text (Registry notice rows) = registry_text notice rows
reply_text (Minutes notice lots rows) = minutes_text notice (unwrap_or notice.opened 0) lots (map minuted_tender rows)
reply_text (Package text) = text
reply_text (EvaluationSeen notice lots) = evaluation_head notice ++ flat_map evaluated_lines lots ++ evaluation_end
reply_text reply = object_text (reply_entries reply)

-- The refusal, or else the reply's text.
abbrev pub text_of : Reply → Result (List ℕ) Refusal
text_of (Refused why) = Err why
text_of reply = Ok (reply_text reply)
