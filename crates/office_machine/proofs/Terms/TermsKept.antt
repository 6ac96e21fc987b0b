-- The terms of notices and lots, and the entries of contracts, are those that accepted commands gave them.
use Rattle.office_machine.proofs.Names.{◌≡◌, ℕ, Bool, true, false, cond, ◌&&◌, List, [], ◌∷◌, ◌++◌, map, filter, Option, Some, None, option_map, is_some, refl, sym, ap, ◌∙◌, subst, nat_cmp_total, nat_cmp-IsAntisymmetric, list_any, AllByRecursion, eq_by_cmp, IsCommand, repeats_id, lot_id, Caller, Command, ChangeKind, How, NewLot, LateWithdrawal, Forfeits, NewNotice, NamedSecurity, id_cmp, same_id, line_of_lot, lot_of_award, lot_of_contract, notice_of_award, notice_of_contract, row_at, first_of, IsSorted, Tables, award_at, awards_of_notice, contract_at, entry_cmp, envelopes_of_lot, envelopes_of_notice, lot_at, lot_cmp, lots_of_notice, no_tables, notice_at, same_number, securities_of_lot, securities_of_notice, after_puts, is_held_security, passed_over, performance_settled, put_if, securities_returned, security_returned, security_settled, Put, AwardRow, ClockRow, ContractRow, Payment, EntryRow, EnvelopeRow, LineRow, LotRow, NoticeRow, ReleaseRow, SecurityRow, TendererRow, equal_ids, equal_keys, same_id_is, same_itself, entries_total, lots_total, found_key, own_key, amend_notice_puts, amend_notice_rows, amend_notice_tests, amended, award_put, cancel_puts, cancel_rows, cancel_tests, cancelled_lot_put, cancelled_notice, drop_put, envelope_put, freed_line_put, is_ended_award, is_ended_envelope, is_ended_security, is_open_lot, SealedTender, open_puts, open_rows, open_tests, opened_notice, opened_put, late_puts, new_lot_put, notice_row, publish_parts, publish_puts, publish_rows, publish_tests, reserving_line_put, register_puts, register_rows, amend_contract_puts, amend_contract_rows, amend_contract_tests, entry_kind, award_puts, award_rows, decision_puts, winner, end_puts, end_rows, ended_state, fail_puts, fail_rows, pay_puts, pay_rows, pay_tests, performance_put, sign_puts, sign_rows, EntriesAreKept, entry_after, entry_made, is_entry, Given, Means, Reaches, command_tests, effect, publication, publication_puts, time_of, TenderersAreKept, tenderer_after, sealed_tenders, NoticeTerms, TermsAreKept, lot_named, lot_terms, lot_terms_after, new_lot_terms, notice_terms, notice_terms_after, notice_terms_by, with_deadline}
use Rattle.office_commands.specs.declared.commands.Command.TheVariants as commands
use Rattle.office_commands.specs.declared.notice.LateWithdrawal.TheVariants.{Refused}
use Rattle.office_base.specs.declared.puts.Put.TheVariants as puts
use Rattle.office_base.specs.declared.records.SecurityState.TheVariants as security_states
use Rattle.office_machine.proofs.Accounts.Aside.{after-append}
use Rattle.office_machine.proofs.Commands.Footprint.{Entries, Lots, Notices, Reads, Tenderers}
use Rattle.office_machine.proofs.FateLaws.QuietFates.{all_append, all_of_map}
use Rattle.office_machine.proofs.Parents.ParentsPut.{all-filter, all-table}
use Rattle.office_machine.proofs.Parents.ParentsThere.{parents_there}
use Rattle.office_machine.proofs.Parents.SpokenOf.{of_contract}
use Rattle.office_machine.proofs.Passed.{allowed_by, neither, none_holds, not_false}
use Rattle.office_machine.proofs.Rows.SortedTables.{sorted}
use Rattle.office_machine.proofs.Runs.{along}
use Rattle.office_machine.proofs.Terms.Said.{Has, Said, Says, Tells, all_if, none_of, puts_entry, puts_lot, puts_notice, puts_tenderer, told_after, uncounted}
use Rattle.office_machine.proofs.Untouched.{untouched}
use Rattle.office_machine.proofs.Rows.Keyed as keyed

-- what accepted commands made of a notice, but for its count of releases
abbrev pub with_change : Bool → (NoticeRow → NoticeRow) → Option NoticeRow → Option NoticeRow
with_change here change old = cond here (option_map (λ n. uncounted (change n)) old) old

abbrev pub notice_by : Command → ℕ → List ℕ → Option NoticeRow → Option NoticeRow
notice_by (commands.Publish name new) t q old = cond (same_id name q) (Some (uncounted (notice_row t name new))) old
notice_by (commands.AmendNotice name deadline rationale) t q old = with_change (same_id name q) (amended deadline) old
notice_by (commands.Open name) t q old = with_change (same_id name q) (opened_notice t) old
notice_by (commands.Cancel name rationale) t q old = with_change (same_id name q) cancelled_notice old
notice_by _ t q old = old

abbrev pub notice_after : List Given → List ℕ → Option NoticeRow
notice_after [] q = None
notice_after (x ∷ xs) q = notice_by x.command (time_of x) q (notice_after xs q)

-- what accepted commands said
abbrev pub said : List Given → Said
said xs = record { notice = λ q. notice_after xs q; lot = λ q. lot_terms_after xs q; entry = λ q. entry_after xs q; tenderer = λ q. tenderer_after xs q }

reads_said : (w : Said) → Reads (Notices ∷ Lots ∷ Entries ∷ Tenderers ∷ []) (Says w)
reads_said w (puts.Notice r) other = absurd (let no : true ≡ false = other in cc)
reads_said w (puts.Lot r) other = absurd (let no : true ≡ false = other in cc)
reads_said w (puts.Entry r) other = absurd (let no : true ≡ false = other in cc)
reads_said w (puts.Tenderer r) other = absurd (let no : true ≡ false = other in cc)
reads_said w _ other = tt

pub all_made : {X Y : Type 0} (P : Y → Type 0) (make : X → Y) (rows : List X) → AllByRecursion (λ x. P (make x)) rows → AllByRecursion P (map make rows)
all_made P make [] h = tt
all_made P make (x ∷ rows) h = (h.0, all_made P make rows h.1)

-- each lot of a publication is found by its identifier
later_named : (l : NewLot) (all lots : List NewLot) → list_any (λ (y : NewLot). same_id y.id l.id) lots ≡ false → AllByRecursion (λ (y : NewLot). lot_named all y.id ≡ Some y) lots
    → AllByRecursion (λ (y : NewLot). lot_named (l ∷ all) y.id ≡ Some y) lots
later_named l all [] apart named = tt
later_named l all (y ∷ lots) apart named =
    let each = neither _ _ apart in
    (ap (λ b. cond b (Some l) (lot_named all y.id)) each.0 ∙ named.0, later_named l all lots each.1 named.1)

each_named : (lots : List NewLot) → repeats_id lot_id lots ≡ false → AllByRecursion (λ (y : NewLot). lot_named lots y.id ≡ Some y) lots
each_named [] own = tt
each_named (l ∷ lots) own =
    let each = neither _ _ own in
    (ap (λ b. cond b (Some l) (lot_named lots l.id)) (same_itself l.id), later_named l lots lots each.0 (each_named lots each.1))

-- where none of them is put under a name, none has that name
not_own : (notice k id : List ℕ) → eq_by_cmp lot_cmp (notice, k) (notice, id) ≡ false → (b : Bool) → same_id k id ≡ b → b ≡ false
not_own notice k id apart false e = refl
not_own notice k id apart true e =
    let same : k ≡ id = equal_ids k id e in
    let no : true ≡ false = sym (ap (λ q. eq_by_cmp lot_cmp (notice, q) (notice, id)) same ∙ own_key lots_total (notice, id)) ∙ apart in cc

none_named : (notice k : List ℕ) (lots : List NewLot) → list_any (puts_lot (notice, k)) (map (new_lot_put notice) lots) ≡ false → lot_named lots k ≡ None
none_named notice k [] none = refl
none_named notice k (l ∷ lots) none =
    let each = neither _ _ none in
    ap (λ b. cond b (Some l) (lot_named lots k)) (not_own notice k l.id each.0 (same_id k l.id) refl) ∙ none_named notice k lots each.1

-- the key of an entry
both_true : (a b : Bool) → (a && b) ≡ true → (a ≡ true) × (b ≡ true)
both_true true b e = (refl, e)
both_true false b e = cc

own_entry : (contract n : ℕ) (entry : List ℕ) → n ≡ contract → is_entry contract entry (n, entry) ≡ true
own_entry contract n entry e =
    ap (λ n. same_number n contract && same_id entry entry) e
    ∙ ap (λ b. b && same_id entry entry) (own_key nat_cmp_total contract)
    ∙ same_itself entry

other_entry : (contract n : ℕ) (entry : List ℕ) (q : ℕ × List ℕ) → n ≡ contract → eq_by_cmp entry_cmp q (n, entry) ≡ false → (b : Bool) → is_entry contract entry q ≡ b → b ≡ false
other_entry contract n entry q e apart false is = refl
other_entry contract n entry q e apart true is =
    let both = both_true (same_number q.0 contract) (same_id entry q.1) is in
    let first : q.0 ≡ n = equal_keys nat_cmp-IsAntisymmetric q.0 contract both.0 ∙ sym e in
    let second : q.1 ≡ entry = sym (equal_ids entry q.1 both.1) in
    let same : q ≡ (n, entry) = λ i. (first i, second i) in
    let no : true ≡ false = sym (ap (λ k. eq_by_cmp entry_cmp k (n, entry)) same ∙ own_key entries_total (n, entry)) ∙ apart in cc

module _ (means : Means) (xs : List Given) (s : Tables) (moment : ℕ) (caller : Caller) (has : Has (said xs) s) (reached : Reaches means xs s) where
  abbrev given : Command → Given
  given command = record { before = s; moment = moment; caller = caller; command = command }

  abbrev w : Said
  w = said xs

  abbrev v : Command → Said
  v command = said (given command ∷ xs)

  abbrev AreSaid : List Put → Type 0
  AreSaid ps = AllByRecursion (Says w) ps

  -- a command that says nothing of them
  quiet : (after : Said) (ps : List Put) → after ≡ w → AreSaid ps → Tells w after ps
  quiet after ps same says =
      subst (λ after. Tells w after ps) (sym same) (record { says = says; notices = λ q none. refl; lots = λ q none. refl; entries = λ q none. refl; tenderers = λ q none. refl })

  -- a notice and a lot that existed are as commands gave them
  notice_said : (k : List ℕ) (n : NoticeRow) → notice_at k s ≡ Some n → Some (uncounted n) ≡ w.notice n.notice
  notice_said k n is =
      sym (ap (λ q. option_map uncounted (notice_at q s)) (found_key keyed.notices s.notices k n is) ∙ ap (option_map uncounted) is) ∙ has.notices n.notice

  lot_said : (k : List ℕ × List ℕ) (l : LotRow) → lot_at k s ≡ Some l → Some (lot_terms l) ≡ w.lot (l.notice, l.lot)
  lot_said k l is =
      sym (ap (λ q. option_map lot_terms (lot_at q s)) (found_key keyed.lots s.lots k l is) ∙ ap (option_map lot_terms) is) ∙ has.lots (l.notice, l.lot)

  returned_said : (securities : List SecurityRow) → AreSaid (securities_returned securities)
  returned_said securities = all_of_map (Says w) security_returned (filter is_held_security securities) (λ _. tt)

  decided_said : (t : ℕ) (n : NoticeRow) (l : LotRow) (r : LineRow) (ws : List SecurityRow) → Some (uncounted n) ≡ w.notice n.notice → Some (lot_terms l) ≡ w.lot (l.notice, l.lot)
      → (o : Option EnvelopeRow) → AreSaid (decision_puts s.clock t n l r o ws)
  decided_said t n l r ws notice lot None = (lot, (tt, (notice, (tt, returned_said ws))))
  decided_said t n l r ws notice lot (Some e) = (tt, (lot, (tt, (notice, (tt, tt)))))

  award_said : (t : ℕ) (notice lot : List ℕ) (n : Option NoticeRow) (l : Option LotRow) (r : Option LineRow) → notice_at notice s ≡ n → lot_at (notice, lot) s ≡ l
      → AreSaid (award_puts (record (award_rows s notice lot) { notice = n; lot = l; line = r }) t)
  award_said t notice lot None l r there is = tt
  award_said t notice lot (Some n) None r there is = tt
  award_said t notice lot (Some n) (Some l) None there is = tt
  award_said t notice lot (Some n) (Some l) (Some r) there is =
      decided_said t n l r (securities_of_lot notice lot s) (notice_said notice n there) (lot_said (notice, lot) l is) (winner (Some n) (envelopes_of_lot notice lot s))

  fail_said : (t award : ℕ) (o : Option AwardRow) (n : Option NoticeRow) (l : Option LotRow) → notice_of_award o s ≡ n → lot_of_award o s ≡ l
      → AreSaid (fail_puts (record (fail_rows s award) { award = o; notice = n; lot = l }) t)
  fail_said t award None n l there is = tt
  fail_said t award (Some a) None l there is = tt
  fail_said t award (Some a) (Some n) None there is = tt
  fail_said t award (Some a) (Some n) (Some l) there is =
      let e : Option EnvelopeRow = (fail_rows s award).envelope in
      let security : Option SecurityRow = (fail_rows s award).security in (
        tt,
        (
          lot_said (a.notice, a.lot) l is,
          (
            notice_said a.notice n there,
            (
              tt,
              all_append (Says w) (put_if (λ e. puts.Envelope (passed_over e)) e) (put_if (security_settled security_states.Forfeited) security)
                  (all_if (Says w) (λ e. puts.Envelope (passed_over e)) e (λ _. tt)) (all_if (Says w) (security_settled security_states.Forfeited) security (λ _. tt)),
            ),
          ),
        ),
      )

  sign_said : (t award : ℕ) (named : Option NamedSecurity) (o : Option AwardRow) (n : Option NoticeRow) (l : Option LotRow) → notice_of_award o s ≡ n → lot_of_award o s ≡ l
      → AreSaid (sign_puts (record (sign_rows s award) { award = o; notice = n; lot = l }) t named)
  sign_said t award named None n l there is = tt
  sign_said t award named (Some a) None l there is = tt
  sign_said t award named (Some a) (Some n) None there is = tt
  sign_said t award named (Some a) (Some n) (Some l) there is =
      let ws : List SecurityRow = (sign_rows s award).securities in (
        tt,
        (
          lot_said (a.notice, a.lot) l is,
          (
            tt,
            (
              notice_said a.notice n there,
              (
                tt,
                all_append (Says w) (securities_returned ws) (put_if (performance_put a) named) (returned_said ws) (all_if (Says w) (performance_put a) named (λ _. tt)),
              ),
            ),
          ),
        ),
      )

  end_said : (t contract : ℕ) (how : How) (o : Option ContractRow) (n : Option NoticeRow) (r : Option LineRow) → notice_of_contract o s ≡ n
      → AreSaid (end_puts (record (end_rows s contract) { contract = o; notice = n; line = r }) t how)
  end_said t contract how None n r there = tt
  end_said t contract how (Some c) None r there = tt
  end_said t contract how (Some c) (Some n) None there = tt
  end_said t contract how (Some c) (Some n) (Some r) there =
      (tt, (tt, (notice_said c.notice n there, (tt, all_if (Says w) (performance_settled (ended_state how)) (end_rows s contract).performance (λ _. tt)))))

  -- a publication
  module _ (notice : List ℕ) (new : NewNotice) where
    abbrev x : Given
    x = given (commands.Publish notice new)

    late_said : (late : LateWithdrawal) → AllByRecursion (Says (v (commands.Publish notice new))) (late_puts notice late)
    late_said Refused = tt
    late_said Forfeits = (tt, tt)

    lots_said : (lots : List NewLot) → AllByRecursion (λ (l : NewLot). lot_named new.lots l.id ≡ Some l) lots
        → AllByRecursion (λ (l : NewLot). Says (v (commands.Publish notice new)) (new_lot_put notice l)) lots
    lots_said [] named = tt
    lots_said (l ∷ lots) named = (
      sym (ap (λ b. cond b (option_map new_lot_terms (lot_named new.lots l.id)) (w.lot (notice, l.id))) (same_itself notice) ∙ ap (option_map new_lot_terms) named.0),
      lots_said lots named.1,
    )

    -- a lot without a notice doesn't exist
    no_lot : is_some (notice_at notice s) ≡ false → (q : List ℕ × List ℕ) → notice ≡ q.0 → (o : Option LotRow) → lot_at q s ≡ o → w.lot q ≡ None
    no_lot fresh q of None is = sym (has.lots q) ∙ ap (option_map lot_terms) is
    no_lot fresh q of (Some l) is =
        let there : is_some (notice_at l.notice s) ≡ true = ((parents_there means xs s reached).lots q l is).notice in
        let same : l.notice ≡ notice = ap (λ (k : List ℕ × List ℕ). k.0) (found_key keyed.lots s.lots q l is) ∙ sym of in
        let no : true ≡ false = sym (ap (λ k. is_some (notice_at k s)) (sym same) ∙ there) ∙ fresh in cc

    lots_same : is_some (notice_at notice s) ≡ false → (q : List ℕ × List ℕ) → list_any (puts_lot q) (map (new_lot_put notice) new.lots) ≡ false → (b : Bool) → same_id notice q.0 ≡ b
        → w.lot q ≡ cond b (option_map new_lot_terms (lot_named new.lots q.1)) (w.lot q)
    lots_same fresh q none false e = refl
    lots_same fresh q none true e =
        let of : notice ≡ q.0 = equal_ids notice q.0 e in
        let here : list_any (puts_lot (notice, q.1)) (map (new_lot_put notice) new.lots) ≡ false = subst (λ k. list_any (puts_lot (k, q.1)) (map (new_lot_put notice) new.lots) ≡ false) (sym of) none in
        no_lot fresh q of (lot_at q s) refl ∙ ap (option_map new_lot_terms) (sym (none_named notice q.1 new.lots here))

    publish_told : repeats_id lot_id new.lots ≡ false → is_some (notice_at notice s) ≡ false
        → Tells w (v (commands.Publish notice new)) (publish_puts (publish_rows s notice) (time_of x) notice new)
    publish_told own fresh =
        let parts : List Put = publish_parts s.clock (time_of x) notice s.lines new in
        let lines : List Put = map (reserving_line_put s.lines new.lots) new.lots in
        let lots : List Put = map (new_lot_put notice) new.lots in
        let P : Put → Type 0 = Says (v (commands.Publish notice new)) in
        record {
          says =
              all_append P parts (late_puts notice new.late_withdrawal)
              (all_append P (lines ++ lots) _
              (all_append P lines lots (all_of_map P (reserving_line_put s.lines new.lots) new.lots (λ _. tt)) (all_made P (new_lot_put notice) new.lots (lots_said new.lots (each_named new.lots own))))
              (sym (ap (λ b. cond b (Some (uncounted (notice_row (time_of x) notice new))) (w.notice notice)) (same_itself notice)), (tt, tt)))
              (late_said new.late_withdrawal);
          notices = λ q none.
              let ends = (none_of (puts_notice q) (lines ++ lots) _ (none_of (puts_notice q) parts (late_puts notice new.late_withdrawal) none).0).1 in
              let apart : same_id notice q ≡ false = same_id_is notice q ∙ (neither _ _ ends).0 in
              sym (ap (λ b. cond b (Some (uncounted (notice_row (time_of x) notice new))) (w.notice q)) apart);
          lots = λ q none.
              let front = (none_of (puts_lot q) (lines ++ lots) _ (none_of (puts_lot q) parts (late_puts notice new.late_withdrawal) none).0).0 in
              lots_same fresh q (none_of (puts_lot q) lines lots front).1 (same_id notice q.0) refl;
          entries = λ q none. refl;
          tenderers = λ q none. refl;
        }

  -- rows that are as commands gave them, and puts after them
  front_told : (after : Said) (fs ps : List Put) → AllByRecursion (Says after) fs → Tells w after ps → Tells w after (fs ++ ps)
  front_told after fs ps front tells = record {
    says = all_append (Says after) fs ps front tells.says;
    notices = λ q none. tells.notices q (none_of (puts_notice q) fs ps none).1;
    lots = λ q none. tells.lots q (none_of (puts_lot q) fs ps none).1;
    entries = λ q none. tells.entries q (none_of (puts_entry q) fs ps none).1;
    tenderers = λ q none. tells.tenderers q (none_of (puts_tenderer q) fs ps none).1;
  }

  -- a change of a notice that exists
  module _ (command : Command) (name : List ℕ) (change : NoticeRow → NoticeRow) (n : NoticeRow) (is : notice_at name s ≡ Some n)
      (keeps : (change n).notice ≡ n.notice) (blind : uncounted (change (uncounted n)) ≡ uncounted (change n))
      (by : v command ≡ record w { notice = λ q. with_change (same_id name q) change (w.notice q) }) where
    named : n.notice ≡ name
    named = found_key keyed.notices s.notices name n is

    abbrev u : Said
    u = record w { notice = λ q. with_change (same_id name q) change (w.notice q) }

    change_said : Some (uncounted (change n)) ≡ u.notice (change n).notice
    change_said =
        ap Some (sym blind)
        ∙ ap (option_map (λ n. uncounted (change n))) (notice_said name n is)
        ∙ sym (ap (λ b. cond b (option_map (λ n. uncounted (change n)) (w.notice n.notice)) (w.notice n.notice)) (ap (same_id name) named ∙ same_itself name))
        ∙ ap u.notice (sym keeps)

    changed_told : (clock : ClockRow) → Tells w (v command) (puts.Notice (change n) ∷ puts.Clock clock ∷ [])
    changed_told clock =
        subst (λ after. Tells w after (puts.Notice (change n) ∷ puts.Clock clock ∷ [])) (sym by)
        (record {
          says = (change_said, (tt, tt));
          notices = λ q none.
              let apart : same_id name q ≡ false = same_id_is name q ∙ ap (eq_by_cmp id_cmp q) (sym (keeps ∙ named)) ∙ (neither _ _ none).0 in
              sym (ap (λ b. with_change b change (w.notice q)) apart);
          lots = λ q none. refl;
          entries = λ q none. refl;
          tenderers = λ q none. refl;
        })

  amend_told : (notice : List ℕ) (deadline : ℕ) (rationale : List ℕ) (o : Option NoticeRow) → notice_at notice s ≡ o → is_some o ≡ true
      → Tells w (v (commands.AmendNotice notice deadline rationale)) (amend_notice_puts (record (amend_notice_rows s notice) { notice = o }) (time_of (given (commands.AmendNotice notice deadline rationale))) deadline)
  amend_told notice deadline rationale None is there = absurd (let no : false ≡ true = there in cc)
  amend_told notice deadline rationale (Some n) is there = changed_told (commands.AmendNotice notice deadline rationale) notice (amended deadline) n is refl refl refl _

  open_told : (notice : List ℕ) (tenders : List SealedTender) (o : Option NoticeRow) → notice_at notice s ≡ o → is_some o ≡ true
      → Tells w (v (commands.Open notice)) (open_puts means.readings.read (record (open_rows s notice) { notice = o }) (time_of (given (commands.Open notice))) tenders)
  open_told notice tenders None is there = absurd (let no : false ≡ true = there in cc)
  open_told notice tenders (Some n) is there =
      let after : Said = v (commands.Open notice) in
      front_told after (map (opened_put means.readings.read) tenders) _ (all_of_map (Says after) (opened_put means.readings.read) tenders (λ _. tt))
      (changed_told (commands.Open notice) notice (opened_notice (time_of (given (commands.Open notice)))) n is refl refl refl _)

  cancel_told : (notice rationale : List ℕ) (o : Option NoticeRow) → notice_at notice s ≡ o → is_some o ≡ true
      → Tells w (v (commands.Cancel notice rationale)) (cancel_puts (record (cancel_rows s notice) { notice = o }) (time_of (given (commands.Cancel notice rationale))))
  cancel_told notice rationale None is there = absurd (let no : false ≡ true = there in cc)
  cancel_told notice rationale (Some n) is there =
      let lots : List LotRow = lots_of_notice notice s in
      let ended : List LotRow = filter is_open_lot lots in
      let awards : List AwardRow = filter (is_ended_award lots) (awards_of_notice notice s) in
      let gone : List EnvelopeRow = filter (is_ended_envelope lots) (envelopes_of_notice notice s) in
      let freed : List SecurityRow = filter (is_ended_security lots) (securities_of_notice notice s) in
      let order : IsSorted s = sorted means xs s reached in
      let after : Said = v (commands.Cancel notice rationale) in
      front_told after (map (freed_line_put s.lines ended) ended) _ (all_of_map (Says after) (freed_line_put s.lines ended) ended (λ _. tt))
      (front_told after (map cancelled_lot_put ended) _
      (all_made (Says after) cancelled_lot_put ended
      (all-filter _ is_open_lot lots
      (all-filter _ _ s.lots (all-table keyed.lots (λ (l : LotRow). Some (lot_terms l) ≡ w.lot (l.notice, l.lot)) s.lots order.lots lot_said))))
      (front_told after (map award_put awards) _ (all_of_map (Says after) award_put awards (λ _. tt))
      (front_told after (map envelope_put gone) _ (all_of_map (Says after) envelope_put gone (λ _. tt))
      (front_told after (map drop_put gone) _ (all_of_map (Says after) drop_put gone (λ _. tt))
      (front_told after (map security_returned freed) _ (all_of_map (Says after) security_returned freed (λ _. tt))
      (changed_told (commands.Cancel notice rationale) notice cancelled_notice n is refl refl refl _))))))

  register_told : (tenderer name address key : List ℕ)
      → Tells w (v (commands.Register tenderer name address key)) (register_puts (register_rows s tenderer) (time_of (given (commands.Register tenderer name address key))) tenderer name address key)
  register_told tenderer name address key =
      let row : TendererRow = record { tenderer = tenderer; name = name; address = address; key = key } in
      record {
        says = (sym (ap (λ b. cond b (Some row) (w.tenderer tenderer)) (same_itself tenderer)), (tt, tt));
        notices = λ q none. refl;
        lots = λ q none. refl;
        entries = λ q none. refl;
        tenderers = λ q none. sym (ap (λ b. cond b (Some row) (w.tenderer q)) (same_id_is tenderer q ∙ (neither _ _ none).0));
      }

  -- a raise or a cut of a contract, and a payment
  change_told : (contract : ℕ) (entry : List ℕ) (kind : ChangeKind) (amount : ℕ) (rationale : List ℕ) (o : Option ContractRow) (n : Option NoticeRow) (r : Option LineRow)
      → contract_at contract s ≡ o → notice_of_contract o s ≡ n → is_some o ≡ true → is_some n ≡ true → is_some r ≡ true
      → let x = given (commands.AmendContract contract entry kind amount rationale) in
      Tells w (v (commands.AmendContract contract entry kind amount rationale)) (amend_contract_puts (record (amend_contract_rows s contract) { contract = o; notice = n; line = r }) (time_of x) entry kind amount rationale)
  change_told contract entry kind amount rationale None n r is of a b c = absurd (let no : false ≡ true = a in cc)
  change_told contract entry kind amount rationale (Some c) None r is of a b d = absurd (let no : false ≡ true = b in cc)
  change_told contract entry kind amount rationale (Some c) (Some n) None is of a b d = absurd (let no : false ≡ true = d in cc)
  change_told contract entry kind amount rationale (Some c) (Some n) (Some r) is of a b d =
      let x : Given = given (commands.AmendContract contract entry kind amount rationale) in
      let key : c.contract ≡ contract = found_key keyed.contracts s.contracts contract c is in
      let made : (q : ℕ × List ℕ) → Option EntryRow = λ q. Some (entry_made q (entry_kind kind) amount (time_of x) (Some rationale)) in
      record {
        says = (
          sym (ap (λ b. cond b (made (c.contract, entry)) (w.entry (c.contract, entry))) (own_entry contract c.contract entry key)),
          (tt, (notice_said c.notice n of, (tt, tt))),
        );
        notices = λ q none. refl;
        lots = λ q none. refl;
        entries = λ q none. sym (ap (λ b. cond b (made q) (w.entry q)) (other_entry contract c.contract entry q key (neither _ _ none).0 (is_entry contract entry q) refl));
        tenderers = λ q none. refl;
      }

  pay_told : (contract : ℕ) (entry : List ℕ) (amount : ℕ) (o : Option ContractRow) (n : Option NoticeRow)
      → contract_at contract s ≡ o → notice_of_contract o s ≡ n → is_some o ≡ true → is_some n ≡ true
      → Tells w (v (commands.Pay contract entry amount)) (pay_puts (record (pay_rows s contract) { contract = o; notice = n }) (time_of (given (commands.Pay contract entry amount))) entry amount)
  pay_told contract entry amount None n is of a b = absurd (let no : false ≡ true = a in cc)
  pay_told contract entry amount (Some c) None is of a b = absurd (let no : false ≡ true = b in cc)
  pay_told contract entry amount (Some c) (Some n) is of a b =
      let x : Given = given (commands.Pay contract entry amount) in
      let key : c.contract ≡ contract = found_key keyed.contracts s.contracts contract c is in
      let made : (q : ℕ × List ℕ) → Option EntryRow = λ q. Some (entry_made q Payment amount (time_of x) None) in
      record {
        says = (
          sym (ap (λ b. cond b (made (c.contract, entry)) (w.entry (c.contract, entry))) (own_entry contract c.contract entry key)),
          (notice_said c.notice n of, (tt, tt)),
        );
        notices = λ q none. refl;
        lots = λ q none. refl;
        entries = λ q none. sym (ap (λ b. cond b (made q) (w.entry q)) (other_entry contract c.contract entry q key (neither _ _ none).0 (is_entry contract entry q) refl));
        tenderers = λ q none. refl;
      }

  one_told : (command : Command) → IsCommand command → first_of (command_tests (given command)) ≡ None → Tells w (v command) (effect means.readings (given command))
  one_told (commands.Register tenderer name address key) own allowed = register_told tenderer name address key
  one_told (commands.Publish notice new) own allowed =
      publish_told notice new own (none_holds (publish_tests (publish_rows s notice) (time_of (given (commands.Publish notice new))) new) allowed).1.0
  one_told (commands.AmendNotice notice deadline rationale) own allowed =
      let x = given (commands.AmendNotice notice deadline rationale) in
      amend_told notice deadline rationale (notice_at notice s) refl (not_false _ (none_holds (amend_notice_tests (amend_notice_rows s notice) (time_of x) deadline) allowed).0)
  one_told (commands.Cancel notice rationale) own allowed =
      cancel_told notice rationale (notice_at notice s) refl (not_false _ (none_holds (cancel_tests (cancel_rows s notice)) allowed).0)
  one_told (commands.Open notice) own allowed =
      let x = given (commands.Open notice) in
      open_told notice (sealed_tenders notice s) (notice_at notice s) refl (not_false _ (none_holds (open_tests (open_rows s notice) (time_of x)) allowed).0)
  one_told (commands.Award notice lot) own allowed =
      let x = given (commands.Award notice lot) in
      quiet (v x.command) _ refl (award_said (time_of x) notice lot (notice_at notice s) (lot_at (notice, lot) s) (line_of_lot (lot_at (notice, lot) s) s) refl refl)
  one_told (commands.Fail award) own allowed =
      let x = given (commands.Fail award) in
      let o : Option AwardRow = award_at award s in
      quiet (v x.command) _ refl (fail_said (time_of x) award o (notice_of_award o s) (lot_of_award o s) refl refl)
  one_told (commands.Sign award named) own allowed =
      let x = given (commands.Sign award named) in
      let o : Option AwardRow = award_at award s in
      quiet (v x.command) _ refl (sign_said (time_of x) award named o (notice_of_award o s) (lot_of_award o s) refl refl)
  one_told (commands.AmendContract contract entry kind amount rationale) own allowed =
      let x = given (commands.AmendContract contract entry kind amount rationale) in
      let tests = none_holds (amend_contract_tests (amend_contract_rows s contract) entry kind amount) allowed in
      let there = not_false _ tests.0 in
      let of = of_contract s (parents_there means xs s reached) contract there in
      let o : Option ContractRow = contract_at contract s in
      change_told contract entry kind amount rationale o (notice_of_contract o s) (line_of_lot (lot_of_contract o s) s) refl refl there (ap is_some of.notice) (ap is_some of.line)
  one_told (commands.Pay contract entry amount) own allowed =
      let x = given (commands.Pay contract entry amount) in
      let there = not_false _ (none_holds (pay_tests (pay_rows s contract) entry amount) allowed).0 in
      let of = of_contract s (parents_there means xs s reached) contract there in
      let o : Option ContractRow = contract_at contract s in
      pay_told contract entry amount o (notice_of_contract o s) refl refl there (ap is_some of.notice)
  one_told (commands.End contract how) own allowed =
      let x = given (commands.End contract how) in
      let o : Option ContractRow = contract_at contract s in
      quiet (v x.command) _ refl (end_said (time_of x) contract how o (notice_of_contract o s) (line_of_lot (lot_of_contract o s) s) refl)
  one_told command own allowed = quiet (v command) _ refl (untouched means xs s moment caller reached (Says w) (Notices ∷ Lots ∷ Entries ∷ Tenderers ∷ []) (reads_said w) command refl allowed)

-- a release and merges say nothing of them
published_has : (w : Said) (t : Tables) (p : Option ReleaseRow) → Has w t → Has w (after_puts (publication_puts p) t)
published_has w t None has = has
published_has w t (Some p) has = record { notices = λ q. has.notices q; lots = λ q. has.lots q; entries = λ q. has.entries q; tenderers = λ q. has.tenderers q }

none_has : Has (said []) no_tables
unfolding row_at
none_has = record { notices = λ q. refl; lots = λ q. refl; entries = λ q. refl; tenderers = λ q. refl }

pub all_has : (means : Means) (xs : List Given) (t : Tables) → Reaches means xs t → Has (said xs) t
all_has means = along means (λ xs t. Has (said xs) t) none_has
    (λ merges in_order xs t of_notices has. record { notices = λ q. has.notices q; lots = λ q. has.lots q; entries = λ q. has.entries q; tenderers = λ q. has.tenderers q })
    (λ xs x accepted has.
    subst (Has (said (x ∷ xs))) (sym (after-append (effect means.readings x) (publication_puts (publication means x)) x.before))
    (published_has (said (x ∷ xs)) (after_puts (effect means.readings x) x.before) (publication means x)
    (told_after (said xs) (said (x ∷ xs)) (effect means.readings x) x.before has (one_told means xs x.before x.moment x.caller has accepted.reached x.command accepted.given.0 (allowed_by x accepted.allowed)))))

-- the terms that commands gave a notice
terms_changed : (b : Bool) (change : NoticeRow → NoticeRow) (terms : NoticeTerms → NoticeTerms) → ((n : NoticeRow) → notice_terms (uncounted (change n)) ≡ terms (notice_terms n))
    → (o : Option NoticeRow) → option_map notice_terms (with_change b change o) ≡ cond b (option_map terms (option_map notice_terms o)) (option_map notice_terms o)
terms_changed true change terms same None = refl
terms_changed true change terms same (Some n) = ap Some (same n)
terms_changed false change terms same o = refl

terms_kept_by : (b : Bool) (change : NoticeRow → NoticeRow) → ((n : NoticeRow) → notice_terms (uncounted (change n)) ≡ notice_terms n)
    → (o : Option NoticeRow) → option_map notice_terms (with_change b change o) ≡ option_map notice_terms o
terms_kept_by true change same None = refl
terms_kept_by true change same (Some n) = ap Some (same n)
terms_kept_by false change same o = refl

terms_set : (b : Bool) (n : NoticeRow) (o : Option NoticeRow) → option_map notice_terms (cond b (Some n) o) ≡ cond b (Some (notice_terms n)) (option_map notice_terms o)
terms_set true n o = refl
terms_set false n o = refl

terms_by : (command : Command) (t : ℕ) (q : List ℕ) (o : Option NoticeRow) → option_map notice_terms (notice_by command t q o) ≡ notice_terms_by command t q (option_map notice_terms o)
terms_by (commands.Publish name new) t q o = terms_set (same_id name q) (uncounted (notice_row t name new)) o
terms_by (commands.AmendNotice name deadline rationale) t q o = terms_changed (same_id name q) (amended deadline) (with_deadline deadline) (λ n. refl) o
terms_by (commands.Open name) t q o = terms_kept_by (same_id name q) (opened_notice t) (λ n. refl) o
terms_by (commands.Cancel name rationale) t q o = terms_kept_by (same_id name q) cancelled_notice (λ n. refl) o
terms_by _ t q o = refl

terms_said : (xs : List Given) (q : List ℕ) → option_map notice_terms (notice_after xs q) ≡ notice_terms_after xs q
terms_said [] q = refl
terms_said (x ∷ xs) q = terms_by x.command (time_of x) q (notice_after xs q) ∙ ap (notice_terms_by x.command (time_of x) q) (terms_said xs q)

same_terms : (o : Option NoticeRow) → option_map notice_terms o ≡ option_map notice_terms (option_map uncounted o)
same_terms None = refl
same_terms (Some n) = refl

pub terms_kept : TermsAreKept
terms_kept means xs t reached =
    let has = all_has means xs t reached in
    record {
      notices = λ q. same_terms (notice_at q t) ∙ ap (option_map notice_terms) (has.notices q) ∙ terms_said xs q;
      lots = has.lots;
    }

pub entries_kept : EntriesAreKept
entries_kept means xs t reached = (all_has means xs t reached).entries

pub tenderers_kept : TenderersAreKept
tenderers_kept means xs t reached = (all_has means xs t reached).tenderers
