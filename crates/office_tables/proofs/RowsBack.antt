-- Each record is read back from its row: field by field, and by cases for a state, a reading or an optional value.
use Rattle.office_tables.proofs.Names.{◌≡◌, ℕ, Bool, true, false, List, Option, Some, None, refl, option_map, How, Reading, Unreadable, Nonconforming, Priced, NoticeState, LotState, EnvelopeState, SecurityState, AwardState, EntryKind, NoticeRow, LotRow, EnvelopeRow, SecurityRow, AwardRow, ContractRow, EntryRow, PerformanceRow, or_null, perhaps_in, text_or_null, perhaps_text_in, as_number, truth_in, perhaps_truth_in, notice_state_text, notice_state_in, lot_state_text, lot_state_in, envelope_state_text, envelope_state_in, security_state_text, security_state_in, award_state_text, award_state_in, how_text, how_in, entry_kind_text, entry_kind_in, reading_word, stated_price, corrected_price, count_of_corrections, reading_in, items_text, items_in_text, notice_values, notice_read, former_values, former_read, asks_nothing, lot_values, lot_read, envelope_values, envelope_read, security_values, security_read, award_values, award_read, contract_values, contract_read, entry_values, entry_read, performance_values, performance_read, Int, pos}
use Rattle.office_commands.specs.declared.contract.How.TheVariants as how
use Rattle.office_base.specs.declared.records.NoticeState.TheVariants as notice
use Rattle.office_base.specs.declared.records.LotState.TheVariants as lot
use Rattle.office_base.specs.declared.records.EnvelopeState.TheVariants as envelope
use Rattle.office_base.specs.declared.records.SecurityState.TheVariants as security
use Rattle.office_base.specs.declared.records.AwardState.TheVariants as award
use Rattle.office_base.specs.declared.records.EntryKind.TheVariants as entry

perhaps_back : (o : Option ℕ) → perhaps_in (or_null o) ≡ o
perhaps_back None = refl
perhaps_back (Some n) = refl

perhaps_text_back : (o : Option (List ℕ)) → perhaps_text_in (text_or_null o) ≡ o
perhaps_text_back None = refl
perhaps_text_back (Some t) = refl

yes_back : (b : Bool) → truth_in (Int (pos (as_number b))) ≡ b
yes_back true = refl
yes_back false = refl

perhaps_yes_back : (o : Option Bool) → perhaps_truth_in (or_null (option_map as_number o)) ≡ o
perhaps_yes_back None = refl
perhaps_yes_back (Some true) = refl
perhaps_yes_back (Some false) = refl

how_back : (o : Option How) → option_map how_in (perhaps_text_in (text_or_null (option_map how_text o))) ≡ o
how_back None = refl
how_back (Some how.Regular) = refl
how_back (Some how.ForDefault) = refl

reading_back : (o : Option Reading) → reading_in (text_or_null (option_map reading_word o)) (or_null (stated_price o)) (or_null (corrected_price o)) (or_null (count_of_corrections o)) ≡ o
reading_back None = refl
reading_back (Some Unreadable) = refl
reading_back (Some Nonconforming) = refl
reading_back (Some (Priced stated corrected corrections)) = refl

notice_state_back : (s : NoticeState) → notice_state_in (notice_state_text s) ≡ s
notice_state_back notice.Receiving = refl
notice_state_back notice.Opened = refl
notice_state_back notice.Cancelled = refl

lot_state_back : (s : LotState) → lot_state_in (lot_state_text s) ≡ s
lot_state_back lot.Undecided = refl
lot_state_back lot.Awarded = refl
lot_state_back lot.Contracted = refl
lot_state_back lot.Unsuccessful = refl
lot_state_back lot.Cancelled = refl

envelope_state_back : (s : EnvelopeState) → envelope_state_in (envelope_state_text s) ≡ s
envelope_state_back envelope.Sealed = refl
envelope_state_back envelope.Withdrawn = refl
envelope_state_back envelope.Returned = refl
envelope_state_back envelope.Opened = refl

security_state_back : (s : SecurityState) → security_state_in (security_state_text s) ≡ s
security_state_back security.Held = refl
security_state_back security.Returned = refl
security_state_back security.Forfeited = refl

award_state_back : (s : AwardState) → award_state_in (award_state_text s) ≡ s
award_state_back award.Active = refl
award_state_back award.Failed = refl
award_state_back award.Cancelled = refl
award_state_back award.Signed = refl

entry_kind_back : (k : EntryKind) → entry_kind_in (entry_kind_text k) ≡ k
entry_kind_back entry.Raise = refl
entry_kind_back entry.Cut = refl
entry_kind_back entry.Payment = refl

pub notice_back : (x : NoticeRow) → notice_read (notice_values x) ≡ x
notice_back x = λ i. record x { state = notice_state_back x.state i; opened = perhaps_back x.opened i }

pub former_back : (x : NoticeRow) → former_read (former_values x) ≡ asks_nothing x
former_back x = λ i. record x { state = notice_state_back x.state i; opened = perhaps_back x.opened i; performance = 0 }

pub lot_back : (x : LotRow) → items_in_text (items_text x.items) ≡ x.items → lot_read (lot_values x) ≡ x
lot_back x items = λ i. record x { items = items i; state = lot_state_back x.state i }

pub envelope_back : (x : EnvelopeRow) → envelope_read (envelope_values x) ≡ x
envelope_back x = λ i. record x {
  security = perhaps_back x.security i;
  state = envelope_state_back x.state i;
  reading = reading_back x.reading i;
  responsive = perhaps_yes_back x.responsive i;
  quality = perhaps_back x.quality i;
  failed = yes_back x.failed i;
}

pub security_back : (x : SecurityRow) → security_read (security_values x) ≡ x
security_back x = λ i. record x { state = security_state_back x.state i }

pub award_back : (x : AwardRow) → award_read (award_values x) ≡ x
award_back x = λ i. record x { state = award_state_back x.state i }

pub contract_back : (x : ContractRow) → contract_read (contract_values x) ≡ x
contract_back x = λ i. record x { ended = perhaps_back x.ended i; how = how_back x.how i }

pub entry_back : (x : EntryRow) → entry_read (entry_values x) ≡ x
entry_back x = λ i. record x { kind = entry_kind_back x.kind i; rationale = perhaps_text_back x.rationale i }

pub performance_back : (x : PerformanceRow) → performance_read (performance_values x) ≡ x
performance_back x = λ i. record x { state = security_state_back x.state i }
