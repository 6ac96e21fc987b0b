-- The accepted commands make the rows of tenders, seals, securities and performance securities.
use Rattle.office_machine.proofs.Names.{◌≡◌, ℕ, false, List, Option, Some, None, option_map, refl, sym, ap, ◌∙◌, found_key, NamedSecurity, envelope_at, performance_at, seal_at, security_at, EnvelopeRow, EnvelopeState, PerformanceRow, SealRow, SecurityRow, SecurityState, HasFate, HasPerformance, NamedIs, Reception, TenderIs, fate_of_performance, fate_of_security, fate_of_tender, performance_named, received_at, RowsAreFolded, as_received, named_row, seal_row, tender_row}
use Rattle.office_machine.specs.Folded.{performance_row, security_row}
use Rattle.office_machine.proofs.FateLaws.FatesKept.{securities_kept, tenders_kept}
use Rattle.office_machine.proofs.FateLaws.PerformancesKept.{performances_kept}
use Rattle.office_machine.proofs.Rows.Keyed as keyed

tender_by : (digest : List ℕ → List ℕ) (r : ℕ) (came : Option Reception) (fate : Option EnvelopeState) (row : Option EnvelopeRow) (seal : Option SealRow) → TenderIs digest r came fate row seal
    → ((e : EnvelopeRow) → row ≡ Some e → e.receipt ≡ r) → option_map as_received row ≡ tender_row digest r came fate
tender_by digest r None fate None seal h own = refl
tender_by digest r None fate (Some e) seal h own = absurd h
tender_by digest r (Some c) fate None seal h own = absurd h
tender_by digest r (Some c) fate (Some e) seal h own =
    let number : e.receipt ≡ r = own e refl in
    (λ i. Some (record {
      receipt = number i;
      notice = h.of_notice i;
      lot = h.of_lot i;
      tenderer = h.of_tenderer i;
      moment = h.moment_is i;
      length = h.length_is i;
      digest = h.digest_is i;
      security = h.security_is i;
      state = e.state;
      reading = None;
      responsive = None;
      quality = None;
      failed = false;
    })) ∙ sym (ap (tender_row digest r (Some c)) h.fate_is)

seal_by : (digest : List ℕ → List ℕ) (r : ℕ) (came : Option Reception) (fate : Option EnvelopeState) (row : Option EnvelopeRow) (seal : Option SealRow) → TenderIs digest r came fate row seal → seal ≡ seal_row r came fate
seal_by digest r None fate None seal h = h.1
seal_by digest r None fate (Some e) seal h = absurd h
seal_by digest r (Some c) fate None seal h = absurd h
seal_by digest r (Some c) fate (Some e) seal h = h.seal_is ∙ sym (ap (seal_row r (Some c)) h.fate_is)

named_by : (s : ℕ) (c : Reception) (named : Option NamedSecurity) (fate : Option SecurityState) (row : Option SecurityRow) → NamedIs s c named fate row → row ≡ named_row s c named fate
named_by s c None fate None h = refl
named_by s c None fate (Some w) h = absurd h
named_by s c (Some n) fate None h = absurd h
named_by s c (Some n) fate (Some w) h =
    (λ i. Some (record { security = h.number_is i; notice = h.of_notice i; lot = h.of_lot i; tenderer = h.of_tenderer i; reference = h.reference_is i; amount = h.amount_is i; state = w.state }))
    ∙ sym (ap (named_row s c (Some n)) h.fate_is)

security_by : (s : ℕ) (came : Option Reception) (fate : Option SecurityState) (row : Option SecurityRow) → HasFate s came fate row → row ≡ security_row s came fate
security_by s None fate None h = refl
security_by s None fate (Some w) h = absurd h
security_by s (Some c) fate row h = named_by s c c.named fate row h

performance_by : (c : ℕ) (named : Option NamedSecurity) (fate : Option SecurityState) (row : Option PerformanceRow) → HasPerformance c named fate row → row ≡ performance_row c named fate
performance_by c None fate None h = refl
performance_by c None fate (Some w) h = absurd h
performance_by c (Some n) fate None h = absurd h
performance_by c (Some n) fate (Some w) h =
    (λ i. Some (record { contract = h.contract_is i; reference = h.reference_is i; amount = h.amount_is i; state = w.state })) ∙ sym (ap (performance_row c (Some n)) h.fate_is)

pub rows_folded : RowsAreFolded
rows_folded means xs t reached = record {
  tenders = λ r.
      tender_by means.readings.digest r (received_at xs r) (fate_of_tender xs r) (envelope_at r t) (seal_at r t) ((tenders_kept means xs t reached).each r)
      (λ e is. found_key keyed.envelopes t.envelopes r e is);
  seals = λ r. seal_by means.readings.digest r (received_at xs r) (fate_of_tender xs r) (envelope_at r t) (seal_at r t) ((tenders_kept means xs t reached).each r);
  securities = λ s. security_by s (received_at xs s) (fate_of_security xs s) (security_at s t) ((securities_kept means xs t reached).each s);
  performances = λ c. performance_by c (performance_named xs c) (fate_of_performance xs c) (performance_at c t) (performances_kept means xs t reached c);
}
