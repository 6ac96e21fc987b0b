-- A contract has the lot, the price and the tenderer of its award.
use Rattle.office_machine.proofs.Names.{◌≡◌, ℕ, ◌+◌, Bool, true, false, cond, List, [], ◌∷◌, map, filter, Option, Some, None, is_some, refl, sym, ap, ◌∙◌, subst, inl, inr, arith, AllByRecursion, eq_by_cmp, Ordering, IsCommand, Caller, Command, How, NamedSecurity, envelope_of_award, line_of_lot, lot_of_award, lot_of_contract, notice_of_award, notice_of_contract, row_at, row_put, first_of, IsSorted, Tables, award_at, awards_of_notice, contract_at, envelope_at, envelopes_of_lot, envelopes_of_notice, find_award, find_envelope, lot_at, lots_of_notice, no_tables, notice_at, securities_of_lot, securities_of_notice, after_put, after_puts, is_held_security, passed_over, performance_settled, put_if, securities_returned, security_returned, security_settled, Put, AwardRow, ContractRow, EnvelopeRow, LineRow, LotRow, NoticeRow, ReleaseRow, SecurityRow, equal_keys, row_at-row_put, IsKeyed, found_key, award_put, cancelled_award, cancel_puts, cancel_rows, cancelled_lot_put, drop_put, envelope_put, freed_line_put, is_ended_award, is_ended_envelope, is_ended_security, is_open_lot, award_puts, award_row, award_rows, decision_puts, winner, end_puts, end_rows, ended_state, fail_puts, fail_rows, failed_award, contract_row, performance_put, sign_puts, sign_rows, signed_award, tenderer_in, ContractsAreOfAwards, IsOfAward, Reception, received_at, Readings, Given, Means, Reaches, command_tests, effect, publication, publication_puts, time_of}
use Rattle.office_commands.specs.declared.commands.Command.TheVariants as commands
use Rattle.office_base.specs.declared.puts.Put.TheVariants as puts
use Rattle.office_base.specs.declared.records.AwardState.TheVariants as award_states
use Rattle.office_base.specs.declared.records.SecurityState.TheVariants as security_states
use Rattle.office_machine.proofs.Accounts.AccountsKept as accounts
use Rattle.office_machine.proofs.Accounts.Aside.{after-append}
use Rattle.office_machine.proofs.Commands.{lawful}
use Rattle.office_machine.proofs.Commands.Footprint.{Awards, Contracts, Reads}
use Rattle.office_machine.proofs.FateLaws.FatesHold.{FatesStand, HaveFates}
use Rattle.office_machine.proofs.FateLaws.FatesKept as fates
use Rattle.office_machine.proofs.FateLaws.NextReceipt.{came_old}
use Rattle.office_machine.proofs.FateLaws.QuietFates.{all_append, all_of_map}
use Rattle.office_machine.proofs.Parents.ParentsPut.{all-filter, all-table}
use Rattle.office_machine.proofs.Parents.ParentsThere.{parents_there}
use Rattle.office_machine.proofs.Passed.{allowed_by}
use Rattle.office_machine.proofs.Rows.Keyed.{elsewhere, found}
use Rattle.office_machine.proofs.Rows.SortedTables.{sorted}
use Rattle.office_machine.proofs.Runs.{along}
use Rattle.office_machine.proofs.Terms.Said.{all_if}
use Rattle.office_machine.proofs.Terms.TermsKept.{all_made}
use Rattle.office_machine.proofs.Untouched.{untouched}
use Rattle.office_machine.proofs.Rows.Keyed as keyed

-- an award without its state, which alone changes
abbrev stateless : AwardRow → AwardRow
stateless a = record a { state = award_states.Active }

-- a put leaves an award as it was made, or its contract has its award
abbrev KeepsMade : Tables → Put → Type 0
KeepsMade s (puts.Award r) = (a : AwardRow) → award_at r.award s ≡ Some a → stateless r ≡ stateless a
KeepsMade s (puts.Contract r) = IsOfAward s r
KeepsMade s _ = Unit {0}

reads_made : (s : Tables) → Reads (Awards ∷ Contracts ∷ []) (KeepsMade s)
reads_made s (puts.Award r) other = absurd (let no : true ≡ false = other in cc)
reads_made s (puts.Contract r) other = absurd (let no : true ≡ false = other in cc)
reads_made s _ other = tt

-- after such puts
record Stay (s t : Tables) : Type 0 where
  awards : (n : ℕ) (a : AwardRow) → award_at n s ≡ Some a → (b : AwardRow) × (award_at n t ≡ Some b) × (stateless b ≡ stateless a)
  contracts : (n : ℕ) (c : ContractRow) → contract_at n t ≡ Some c → IsOfAward s c

kept_at : {K X : Type 0} {R : K → K → Ordering} {key : X → K} (k : IsKeyed R key) (P : X → Type 0) (xs : List X) (r : X) (n : K) → (n ≡ key r → P r)
    → (x : X) × (row_at R key xs n ≡ Some x) × P x → (x : X) × (row_at R key (row_put R key xs r) n ≡ Some x) × P x
kept_at {X = X} {R = R} {key = key} k P xs r n here (x, is, holds) = by (eq_by_cmp R n (key r)) refl
  where
    by : (b : Bool) → eq_by_cmp R n (key r) ≡ b → (x : X) × (row_at R key (row_put R key xs r) n ≡ Some x) × P x
    by true e = (r, row_at-row_put k.total key xs r n ∙ ap (λ b. cond b (Some r) (row_at R key xs n)) e, here (equal_keys k.exact n (key r) e))
    by false e = (x, elsewhere k xs r n e ∙ is, holds)

put_stays : (s : Tables) (p : Put) (t : Tables) → KeepsMade s p → Stay s t → Stay s (after_put p t)
put_stays s (puts.Award r) t keeps stay = record {
  awards = λ n a is. kept_at keyed.awards (λ b. stateless b ≡ stateless a) t.awards r n (λ e. keeps a (ap (λ n. award_at n s) (sym e) ∙ is)) (stay.awards n a is);
  contracts = λ n c is. stay.contracts n c is;
}
put_stays s (puts.Contract r) t keeps stay = record {
  awards = λ n a is. stay.awards n a is;
  contracts = λ n c is.
      elim (found keyed.contracts t.contracts r n c is) as (λ _. IsOfAward s c) [
        | inl new ↦ subst (IsOfAward s) (sym new.1) keeps
        | inr old ↦ stay.contracts n c old.1
      ];
}
put_stays s _ t keeps stay = record { awards = λ n a is. stay.awards n a is; contracts = λ n c is. stay.contracts n c is }

puts_stay : (s : Tables) (ps : List Put) (t : Tables) → AllByRecursion (KeepsMade s) ps → Stay s t → Stay s (after_puts ps t)
puts_stay s [] t keeps stay = stay
puts_stay s (p ∷ ps) t keeps stay = puts_stay s ps (after_put p t) keeps.1 (put_stays s p t keeps.0 stay)

-- a tender that came in is of the same tenderer after a command
tender_stays : (readings : Readings) (xs : List Given) (x : Given) (s t : Tables) → FatesStand readings xs s → HaveFates readings (x ∷ xs) t → (n : ℕ) (e : EnvelopeRow) → envelope_at n s ≡ Some e
    → (o : Option EnvelopeRow) → envelope_at n t ≡ o → (f : EnvelopeRow) × (envelope_at n t ≡ Some f) × (f.tenderer ≡ e.tenderer)
tender_stays readings xs x s t before later n e is None at =
    let was = before.tenders.received n e is in
    let came : received_at (x ∷ xs) n ≡ received_at xs n = came_old (received_at xs n) _ was.came was.came_is in
    absurd (let no : None ≡ Some was.came = sym (later.tenders.others n at).no_reception ∙ came ∙ was.came_is in cc)
tender_stays readings xs x s t before later n e is (Some f) at =
    let was = before.tenders.received n e is in
    let now = later.tenders.received n f at in
    let came : received_at (x ∷ xs) n ≡ received_at xs n = came_old (received_at xs n) _ was.came was.came_is in
    let same : now.came ≡ was.came = (let both : Some now.came ≡ Some was.came = sym now.came_is ∙ came ∙ was.came_is in cc) in
    (f, at, now.stands.of_tenderer ∙ ap (λ (c : Reception). c.tenderer) same ∙ sym was.stands.of_tenderer)

still_of : (s t : Tables) → Stay s t → ((n : ℕ) (e : EnvelopeRow) → envelope_at n s ≡ Some e → (f : EnvelopeRow) × (envelope_at n t ≡ Some f) × (f.tenderer ≡ e.tenderer)) → (c : ContractRow) → IsOfAward s c → IsOfAward t c
still_of s t stay tenders c h =
    let award = stay.awards c.contract h.award h.awarded in
    let tender = tenders h.award.receipt h.tender h.presented in
    record {
      award = award.0;
      tender = tender.0;
      awarded = award.1;
      presented = ap (λ (a : AwardRow). envelope_at a.receipt t) award.2 ∙ tender.1;
      notice_is = h.notice_is ∙ sym (ap (λ (a : AwardRow). a.notice) award.2);
      lot_is = h.lot_is ∙ sym (ap (λ (a : AwardRow). a.lot) award.2);
      price_is = h.price_is ∙ sym (ap (λ (a : AwardRow). a.price) award.2);
      tenderer_is = h.tenderer_is ∙ sym tender.2;
    }

module _ (means : Means) (xs : List Given) (s : Tables) (moment : ℕ) (caller : Caller) (reached : Reaches means xs s) (old : (n : ℕ) (c : ContractRow) → contract_at n s ≡ Some c → IsOfAward s c) where
  abbrev given : Command → Given
  given command = record { before = s; moment = moment; caller = caller; command = command }

  abbrev AllMade : List Put → Type 0
  AllMade ps = AllByRecursion (KeepsMade s) ps

  order : IsSorted s
  order = sorted means xs s reached

  -- an award that exists, in another state
  award_made : (k : ℕ) (a r : AwardRow) → award_at k s ≡ Some a → r.award ≡ a.award → stateless r ≡ stateless a → KeepsMade s (puts.Award r)
  award_made k a r is own same b found_b =
      let there : award_at r.award s ≡ Some a = ap (λ n. award_at n s) (own ∙ found_key keyed.awards s.awards k a is) ∙ is in
      let one : a ≡ b = (let both : Some a ≡ Some b = sym there ∙ found_b in cc) in
      same ∙ ap stateless one

  -- a new award
  award_new : (r : AwardRow) → r.award ≡ s.clock.awards + 1 → KeepsMade s (puts.Award r)
  award_new r next a is = absurd (let drawn = ((accounts.all_kept means xs s reached).awards r.award a is).drawn in omega (arith, drawn, next))

  returned_made : (securities : List SecurityRow) → AllMade (securities_returned securities)
  returned_made securities = all_of_map (KeepsMade s) security_returned (filter is_held_security securities) (λ _. tt)

  decided_made : (t : ℕ) (n : NoticeRow) (l : LotRow) (r : LineRow) (ws : List SecurityRow) (o : Option EnvelopeRow) → AllMade (decision_puts s.clock t n l r o ws)
  decided_made t n l r ws None = (tt, (tt, (tt, (tt, returned_made ws))))
  decided_made t n l r ws (Some e) = (award_new (award_row s.clock t l e) refl, (tt, (tt, (tt, (tt, tt)))))

  award_all_made : (t : ℕ) (notice lot : List ℕ) (n : Option NoticeRow) (l : Option LotRow) (r : Option LineRow) → AllMade (award_puts (record (award_rows s notice lot) { notice = n; lot = l; line = r }) t)
  award_all_made t notice lot None l r = tt
  award_all_made t notice lot (Some n) None r = tt
  award_all_made t notice lot (Some n) (Some l) None = tt
  award_all_made t notice lot (Some n) (Some l) (Some r) = decided_made t n l r (securities_of_lot notice lot s) (winner (Some n) (envelopes_of_lot notice lot s))

  fail_made : (t award : ℕ) (o : Option AwardRow) (n : Option NoticeRow) (l : Option LotRow) (e : Option EnvelopeRow) → award_at award s ≡ o
      → AllMade (fail_puts (record (fail_rows s award) { award = o; notice = n; lot = l; envelope = e }) t)
  fail_made t award None n l e is = tt
  fail_made t award (Some a) None l e is = tt
  fail_made t award (Some a) (Some n) None e is = tt
  fail_made t award (Some a) (Some n) (Some l) e is = (
    award_made award a (failed_award a) is refl refl,
    (
      tt,
      (
        tt,
        (
          tt,
          all_append (KeepsMade s) (put_if (λ e. puts.Envelope (passed_over e)) e) (put_if (security_settled security_states.Forfeited) (fail_rows s award).security) (all_if (KeepsMade s) (λ e. puts.Envelope (passed_over e)) e (λ _. tt))
              (all_if (KeepsMade s) (security_settled security_states.Forfeited) (fail_rows s award).security (λ _. tt)),
        ),
      ),
    ),
  )

  -- the contract of an award that exists
  signed_made : (t award : ℕ) (a : AwardRow) → award_at award s ≡ Some a → (e : Option EnvelopeRow) → envelope_at a.receipt s ≡ e → IsOfAward s (contract_row t a (tenderer_in e))
  signed_made t award a is None of =
      absurd (let no : false ≡ true = sym (ap is_some of) ∙ ((parents_there means xs s reached).awards award a is).envelope in cc)
  signed_made t award a is (Some e) of = record {
    award = a;
    tender = e;
    awarded = ap (λ n. award_at n s) (found_key keyed.awards s.awards award a is) ∙ is;
    presented = of;
    notice_is = refl;
    lot_is = refl;
    price_is = refl;
    tenderer_is = refl;
  }

  sign_made : (t award : ℕ) (named : Option NamedSecurity) (o : Option AwardRow) (n : Option NoticeRow) (l : Option LotRow) (e : Option EnvelopeRow) → award_at award s ≡ o → envelope_of_award o s ≡ e
      → AllMade (sign_puts (record (sign_rows s award) { award = o; notice = n; lot = l; envelope = e }) t named)
  sign_made t award named None n l e is of = tt
  sign_made t award named (Some a) None l e is of = tt
  sign_made t award named (Some a) (Some n) None e is of = tt
  sign_made t award named (Some a) (Some n) (Some l) e is of =
      let ws : List SecurityRow = (sign_rows s award).securities in (
        award_made award a (signed_award a) is refl refl,
        (
          tt,
          (
            signed_made t award a is e of,
            (
              tt,
              (
                tt,
                all_append (KeepsMade s) (securities_returned ws) (put_if (performance_put a) named) (returned_made ws) (all_if (KeepsMade s) (performance_put a) named (λ _. tt)),
              ),
            ),
          ),
        ),
      )

  end_made : (t contract : ℕ) (how : How) (o : Option ContractRow) (n : Option NoticeRow) (r : Option LineRow) → contract_at contract s ≡ o
      → AllMade (end_puts (record (end_rows s contract) { contract = o; notice = n; line = r }) t how)
  end_made t contract how None n r is = tt
  end_made t contract how (Some c) None r is = tt
  end_made t contract how (Some c) (Some n) None is = tt
  end_made t contract how (Some c) (Some n) (Some r) is =
      let h = old contract c is in (
        record { award = h.award; tender = h.tender; awarded = h.awarded; presented = h.presented; notice_is = h.notice_is; lot_is = h.lot_is; price_is = h.price_is; tenderer_is = h.tenderer_is },
        (tt, (tt, (tt, all_if (KeepsMade s) (performance_settled (ended_state how)) (end_rows s contract).performance (λ _. tt)))),
      )

  cancel_made : (t : ℕ) (notice : List ℕ) (o : Option NoticeRow) → AllMade (cancel_puts (record (cancel_rows s notice) { notice = o }) t)
  cancel_made t notice None = tt
  cancel_made t notice (Some n) =
      let lots : List LotRow = lots_of_notice notice s in
      let ended : List LotRow = filter is_open_lot lots in
      let awards : List AwardRow = filter (is_ended_award lots) (awards_of_notice notice s) in
      let gone : List EnvelopeRow = filter (is_ended_envelope lots) (envelopes_of_notice notice s) in
      let freed : List SecurityRow = filter (is_ended_security lots) (securities_of_notice notice s) in
      let P : Put → Type 0 = KeepsMade s in
      all_append P (map (freed_line_put s.lines ended) ended) _ (all_of_map P (freed_line_put s.lines ended) ended (λ _. tt))
      (all_append P (map cancelled_lot_put ended) _ (all_of_map P cancelled_lot_put ended (λ _. tt))
      (all_append P (map award_put awards) _
      (all_made P award_put awards
      (all-filter _ (is_ended_award lots) (awards_of_notice notice s)
      (all-filter _ _ s.awards (all-table keyed.awards (λ (a : AwardRow). P (award_put a)) s.awards order.awards (λ k a is. award_made k a (cancelled_award a) is refl refl)))))
      (all_append P (map envelope_put gone) _ (all_of_map P envelope_put gone (λ _. tt))
      (all_append P (map drop_put gone) _ (all_of_map P drop_put gone (λ _. tt))
      (all_append P (map security_returned freed) _ (all_of_map P security_returned freed (λ _. tt)) (tt, (tt, tt)))))))

  one_made : (command : Command) → first_of (command_tests (given command)) ≡ None → AllMade (effect means.readings (given command))
  one_made (commands.Cancel notice rationale) allowed = cancel_made (time_of (given (commands.Cancel notice rationale))) notice (notice_at notice s)
  one_made (commands.Award notice lot) allowed =
      award_all_made (time_of (given (commands.Award notice lot))) notice lot (notice_at notice s) (lot_at (notice, lot) s) (line_of_lot (lot_at (notice, lot) s) s)
  one_made (commands.Fail award) allowed =
      let o : Option AwardRow = award_at award s in
      fail_made (time_of (given (commands.Fail award))) award o (notice_of_award o s) (lot_of_award o s) (envelope_of_award o s) refl
  one_made (commands.Sign award named) allowed =
      let o : Option AwardRow = award_at award s in
      sign_made (time_of (given (commands.Sign award named))) award named o (notice_of_award o s) (lot_of_award o s) (envelope_of_award o s) refl refl
  one_made (commands.End contract how) allowed =
      let o : Option ContractRow = contract_at contract s in
      end_made (time_of (given (commands.End contract how))) contract how o (notice_of_contract o s) (line_of_lot (lot_of_contract o s) s) refl
  one_made command allowed = untouched means xs s moment caller reached (KeepsMade s) (Awards ∷ Contracts ∷ []) (reads_made s) command refl allowed

  first_stay : Stay s s
  first_stay = record { awards = λ n a is. (a, is, refl); contracts = old }

  made_after : (command : Command) → IsCommand command → first_of (command_tests (given command)) ≡ None
      → (n : ℕ) (c : ContractRow) → contract_at n (after_puts (effect means.readings (given command)) s) ≡ Some c → IsOfAward (after_puts (effect means.readings (given command)) s) c
  made_after command own allowed n c is =
      let before = fates.all_kept means xs s reached in
      let later = (lawful command).fates means.readings xs s moment caller before own allowed in
      let u : Tables = after_puts (effect means.readings (given command)) s in
      let stay = puts_stay s (effect means.readings (given command)) s (one_made command allowed) first_stay in
      still_of s u stay (λ n e is. tender_stays means.readings xs (given command) s u before later n e is (envelope_at n u) refl) c (stay.contracts n c is)

abbrev AreOfAwards : Tables → Type 0
AreOfAwards t = (n : ℕ) (c : ContractRow) → contract_at n t ≡ Some c → IsOfAward t c

same_of : (t u : Tables) → u.awards ≡ t.awards → u.envelopes ≡ t.envelopes → (c : ContractRow) → IsOfAward t c → IsOfAward u c
same_of t u awards envelopes c h = record {
  award = h.award;
  tender = h.tender;
  awarded = ap (λ rows. find_award rows c.contract) awards ∙ h.awarded;
  presented = ap (λ rows. find_envelope rows h.award.receipt) envelopes ∙ h.presented;
  notice_is = h.notice_is;
  lot_is = h.lot_is;
  price_is = h.price_is;
  tenderer_is = h.tenderer_is;
}

published_of : (t : Tables) (p : Option ReleaseRow) → AreOfAwards t → AreOfAwards (after_puts (publication_puts p) t)
published_of t None h = h
published_of t (Some p) h = λ n c is. same_of t (after_puts (publication_puts (Some p)) t) refl refl c (h n c is)

none_of_awards : AreOfAwards no_tables
unfolding row_at
none_of_awards n c is = absurd (let none : ◌≡◌ {A = Option ContractRow} None (Some c) = is in cc)

pub contracts_of_awards : ContractsAreOfAwards
contracts_of_awards means = along means (λ xs t. AreOfAwards t) none_of_awards
    (λ merges in_order xs t of_notices h n c is. same_of t (record t { compiled = merges }) refl refl c (h n c is))
    (λ xs x accepted h.
    subst AreOfAwards (sym (after-append (effect means.readings x) (publication_puts (publication means x)) x.before))
    (published_of (after_puts (effect means.readings x) x.before) (publication means x)
    (made_after means xs x.before x.moment x.caller accepted.reached h x.command accepted.given.0 (allowed_by x accepted.allowed))))
