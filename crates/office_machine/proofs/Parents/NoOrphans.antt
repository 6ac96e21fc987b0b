-- In a reached office, each row has its parent, and no row has the next number.
use Rattle.office_machine.proofs.Names.{◌≡◌, ℕ, ◌+◌, Bool, true, false, cond, not, ◌&&◌, ◌||◌, List, [], ◌∷◌, filter, nat_eq, Option, Some, None, IsSome, is_some, refl, sym, ◌∙◌, ap, arith, nat_tests, nat_cmp-IsAntisymmetric, AllByRecursion, list_any, Ordering, same_id, BudgetRow, row_at, IsInOrder, holds_of, envelope_of_award, lot_of_award, is_read, is_sealed, IsSorted, Tables, award_at, contract_at, envelope_at, line_at, lot_at, notice_at, late_at, compiled_at, performance_at, same_number, seal_at, of_line, of_notice, awards_of_notice, contracts_of_notice, entries_of_contract, envelopes_of_notice, lots_of_line, lots_of_notice, releases_of_notice, securities_of_notice, AwardRow, ContractRow, EnvelopeRow, EnvelopeState, EntryRow, LineRow, LotRow, SecurityRow, NoticeRow, ReleaseRow, equal_ids, equal_keys, IsKeyed, found_key, isnt_sealed, is_sealed_envelope, cant_be_taken_back, isnt_active, lacks_tender, is_kept, Given, award_is_taken, contract_is_taken, has_rows_of_notice, is_torn, lacks_its_security, lacks_seal, names_lost_line, receipt_is_taken, reserves_another, has_rows, is_named, HaveParents, has_seal_and_lot}
use Rattle.office_base.specs.declared.records.EnvelopeState.TheVariants as states
use Rattle.office_machine.specs.References.{OfContract}
use Rattle.office_machine.proofs.Parents.ParentsPut.{all-filter, all-table}
use Rattle.office_machine.proofs.Parents.Whole.{IsWhole, security_there}
use Rattle.office_machine.proofs.Passed.{neither, not_false, witness}
use Rattle.office_machine.proofs.Rows.Keyed as keyed

-- If no element passes, none is left.
none_pass : {X : Type 0} (p : X → Bool) (xs : List X) → AllByRecursion (λ x. p x ≡ false) xs → filter p xs ≡ []
none_pass p [] h = refl
none_pass p (x ∷ xs) h = ap (λ b. cond b (x ∷ filter p xs) (filter p xs)) h.0 ∙ none_pass p xs h.1

none_found : {K X : Type 0} {R : K → K → Ordering} {key : X → K} (t : IsKeyed R key) (p : X → Bool) (xs : List X) → IsInOrder R key xs
    → ((k : K) (x : X) → row_at R key xs k ≡ Some x → p x ≡ false) → has_rows (filter p xs) ≡ false
none_found t p xs order h = ap has_rows (none_pass p xs (all-table t (λ x. p x ≡ false) xs order h))

-- A row whose parent exists isn't a row of a missing parent.
apart : {X : Type 0} (find : List ℕ → Option X) (a b : List ℕ) → IsSome (find a) → find b ≡ None → same_id a b ≡ false
apart find a b there none = by (same_id a b) refl
  where
    by : (c : Bool) → same_id a b ≡ c → same_id a b ≡ false
    by false is = is
    by true is = absurd (let no : true ≡ false = sym there ∙ ap (λ k. is_some (find k)) (equal_ids a b is) ∙ ap is_some none in cc)

apart_numbers : {X : Type 0} (find : ℕ → Option X) (a b : ℕ) → IsSome (find a) → is_some (find b) ≡ false → same_number a b ≡ false
apart_numbers find a b there none = by (same_number a b) refl
  where
    by : (c : Bool) → same_number a b ≡ c → same_number a b ≡ false
    by false is = is
    by true is = absurd (let no : true ≡ false = sym there ∙ ap (λ k. is_some (find k)) (equal_keys nat_cmp-IsAntisymmetric a b is) ∙ none in cc)

-- If each row has its parent, and this parent is missing, the row is missing too.
none_there : {X : Type 0} (o : Option X) {parent : Bool} → ((x : X) → o ≡ Some x → parent ≡ true) → parent ≡ false → is_some o ≡ false
none_there None has none = refl
none_there (Some x) has none = absurd (let no : true ≡ false = sym (has x refl) ∙ none in cc)

module _ (s : Tables) (have : HaveParents s s) (order : IsSorted s) where
  pub no_rows_of_notice : (notice : List ℕ) → notice_at notice s ≡ None → has_rows_of_notice notice s ≡ false
  no_rows_of_notice notice none =
      let at : List ℕ → Option NoticeRow = λ k. notice_at k s in
      let lots : has_rows (lots_of_notice notice s) ≡ false =
      none_found keyed.lots (of_notice notice) s.lots order.lots (λ k l is. apart at l.notice notice (have.lots k l is).notice none) in
      let tenders : has_rows (envelopes_of_notice notice s) ≡ false =
      none_found keyed.envelopes (λ (e : EnvelopeRow). same_id e.notice notice) s.envelopes order.envelopes (λ k e is. apart at e.notice notice (have.envelopes k e is).notice none) in
      let releases : has_rows (releases_of_notice notice s) ≡ false =
      none_found keyed.releases (λ (r : ReleaseRow). same_id r.notice notice) s.releases order.releases (λ k r is. apart at r.notice notice (have.releases k r is).notice none) in
      let securities : has_rows (securities_of_notice notice s) ≡ false =
      none_found keyed.securities (λ (r : SecurityRow). same_id r.notice notice) s.securities order.securities (λ k r is. apart at r.notice notice (have.securities k r is).notice none) in
      let awards : has_rows (awards_of_notice notice s) ≡ false =
      none_found keyed.awards (λ (r : AwardRow). same_id r.notice notice) s.awards order.awards (λ k r is. apart at r.notice notice (have.awards k r is).notice none) in
      let contracts : has_rows (contracts_of_notice notice s) ≡ false =
      none_found keyed.contracts (λ (r : ContractRow). same_id r.notice notice) s.contracts order.contracts (λ k r is. apart at r.notice notice (have.contracts k r is).notice none) in
      let late : is_some (late_at notice s) ≡ false =
      none_there (late_at notice s) (λ r is. ap (λ k. is_some (notice_at k s)) (sym (found_key keyed.late_rules s.late_rules notice r is)) ∙ (have.late_rules notice r is).notice) (ap is_some none) in
      let merge : is_some (compiled_at notice s) ≡ false =
      none_there (compiled_at notice s) (λ r is. ap (λ k. is_some (notice_at k s)) (sym (found_key keyed.compiled s.compiled notice r is)) ∙ (have.merges notice r is).notice) (ap is_some none) in
      λ i. lots i || tenders i || releases i || securities i || awards i || contracts i || late i || merge i

  -- A contract that is missing has no rows.
  pub no_rows_of_contract : (contract : ℕ) → is_some (contract_at contract s) ≡ false → is_named (OfContract contract) s ≡ false
  no_rows_of_contract contract none =
      let entries : has_rows (entries_of_contract contract s) ≡ false =
      none_found keyed.entries (λ (e : EntryRow). same_number e.contract contract) s.entries order.entries (λ k e is. apart_numbers (λ k. contract_at k s) e.contract contract (have.entries k e is).contract none) in
      let performance : is_some (performance_at contract s) ≡ false =
      none_there (performance_at contract s) (λ r is. ap (λ k. is_some (contract_at k s)) (sym (found_key keyed.performances s.performances contract r is)) ∙ (have.performances contract r is).contract) none in
      λ i. entries i || performance i

  no_lots_of : (line : List ℕ) (o : Option LineRow) → line_at line s ≡ o → (not (is_some o) && has_rows (lots_of_line line s)) ≡ false
  no_lots_of line (Some l) is = refl
  no_lots_of line None is = none_found keyed.lots (of_line line) s.lots order.lots (λ k l at. apart (λ k. line_at k s) l.line line (have.lots k l at).line is)

  pub no_lost_lines : (rows : List BudgetRow) → list_any (names_lost_line s) rows ≡ false
  no_lost_lines [] = refl
  no_lost_lines (row ∷ rows) = λ i. no_lots_of row.line (line_at row.line s) refl i || no_lost_lines rows i

-- No number is taken.
equal_numbers : (n : ℕ) → nat_eq n n ≡ true
equal_numbers n = grind (arith, nat_tests)

never : (a b : Bool) → b ≡ false → (a && b) ≡ false
never true b none = none
never false b none = refl

module _ (xs : List Given) (s : Tables) (whole : IsWhole xs s) where
  no_award : (o : Option AwardRow) → award_at (s.clock.awards + 1) s ≡ o → is_some o ≡ false
  no_award None is = refl
  no_award (Some a) is = absurd (let drawn = (whole.accounts.awards (s.clock.awards + 1) a is).drawn in omega (arith, drawn))

  pub award_is_new : (notice lot : List ℕ) → award_is_taken notice lot s ≡ false
  award_is_new notice lot =
      let n = s.clock.awards + 1 in
      let none : is_some (award_at n s) ≡ false = no_award (award_at n s) refl in
      let contract : is_some (contract_at n s) ≡ false = none_there (contract_at n s) (λ c is. ap is_some (whole.accounts.contracts n c is).of_award.1) none in
      let rows : is_named (OfContract n) s ≡ false = no_rows_of_contract s whole.parents whole.order n contract in
      let each = neither (has_rows (entries_of_contract n s)) (is_some (performance_at n s)) rows in
      never _ _ (λ i. none i || (contract i || each.0 i || each.1 i))

  -- The award of a contract isn't active.
  no_contract : (award : ℕ) → holds_of isnt_active (award_at award s) ≡ false → (o : Option ContractRow) → contract_at award s ≡ o → is_some o ≡ false
  no_contract award active None is = refl
  no_contract award active (Some c) is =
      let of = (whole.accounts.contracts award c is).of_award in
      let no : true ≡ false = ap not (sym of.2) ∙ sym (ap (holds_of isnt_active) of.1) ∙ active in cc

  pub contract_is_new : (award : ℕ) → holds_of isnt_active (award_at award s) ≡ false → contract_is_taken award s ≡ false
  contract_is_new award active =
      let none : is_some (contract_at award s) ≡ false = no_contract award active (contract_at award s) refl in
      λ i. none i || no_rows_of_contract s whole.parents whole.order award none i

  -- The lot of an active award reserves its price.
  pub price_is_reserved : (award : ℕ) (o : Option AwardRow) → award_at award s ≡ o → holds_of isnt_active o ≡ false → holds_of (reserves_another (lot_of_award o s)) o ≡ false
  price_is_reserved award None is active = refl
  price_is_reserved award (Some a) is active =
      let lot = witness _ (whole.parents.awards award a is).lot in
      ap (holds_of (λ (l : LotRow). not (nat_eq l.reserved a.price))) lot.1
      ∙ ap (λ n. not (nat_eq n a.price)) ((whole.accounts.awards award a is).of_lot lot.0 lot.1 (not_false _ active)).1 ∙ ap not (equal_numbers a.price)

pub receipt_is_new : (xs : List Given) (s : Tables) → IsWhole xs s → receipt_is_taken s ≡ false
receipt_is_new xs s whole = λ i. is_some (whole.unused i) || (is_some (whole.no_seal i) || is_some (whole.no_security i))

-- A tender that is sealed, or one that a withdrawal takes back, has its seal.
sealed_kept : (st : EnvelopeState) → is_sealed st ≡ true → is_kept st ≡ true
sealed_kept states.Sealed is = refl
sealed_kept states.Withdrawn is = cc
sealed_kept states.Returned is = cc
sealed_kept states.Opened is = cc

taken_kept : (late : Bool) (st : EnvelopeState) → cond late (not (is_sealed st) && not (is_read st)) (not (is_sealed st)) ≡ false → is_kept st ≡ true
taken_kept true states.Sealed is = refl
taken_kept true states.Withdrawn is = cc
taken_kept true states.Returned is = cc
taken_kept true states.Opened is = refl
taken_kept false states.Sealed is = refl
taken_kept false states.Withdrawn is = cc
taken_kept false states.Returned is = cc
taken_kept false states.Opened is = cc

-- The rows of a tender, if there is one.
module _ (xs : List Given) (s : Tables) (whole : IsWhole xs s) where
  seal_found : (k : ℕ) (e : EnvelopeRow) → envelope_at k s ≡ Some e → is_kept e.state ≡ true → lacks_seal s e ≡ false
  seal_found k e is kept = ap not (ap (λ n. is_some (seal_at n s)) (found_key keyed.envelopes s.envelopes k e is) ∙ whole.seals k e is kept)

  pub has_seal : (late : Bool) (k : ℕ) (o : Option EnvelopeRow) → envelope_at k s ≡ o → holds_of (cant_be_taken_back late) o ≡ false → holds_of (lacks_seal s) o ≡ false
  has_seal late k None is can = refl
  has_seal late k (Some e) is can = seal_found k e is (taken_kept late e.state can)

  pub has_security : (k : ℕ) (o : Option EnvelopeRow) → envelope_at k s ≡ o → holds_of (lacks_its_security s) o ≡ false
  has_security k None is = refl
  has_security k (Some e) is = security_there s whole.parents e (whole.parents.envelopes k e is)

  pub isnt_torn : (k : ℕ) (o : Option EnvelopeRow) → envelope_at k s ≡ o → holds_of isnt_sealed o ≡ false → is_torn s o ≡ false
  isnt_torn k None is sealed = refl
  isnt_torn k (Some e) is sealed =
      let h = whole.parents.envelopes k e is in
      let seal = seal_found k e is (taken_kept false e.state sealed) in
      let security = security_there s whole.parents e h in
      λ i. seal i || ap not h.lot i || security i

  pub winner_has_security : (o : Option AwardRow) → holds_of (lacks_its_security s) (envelope_of_award o s) ≡ false
  winner_has_security None = refl
  winner_has_security (Some a) = has_security a.receipt (envelope_at a.receipt s) refl

-- Each tender that is still sealed has its seal and its lot.
module _ (xs : List Given) (s : Tables) (whole : IsWhole xs s) where
  has_both : (k : ℕ) (e : EnvelopeRow) → envelope_at k s ≡ Some e → is_sealed_envelope e ≡ true → has_seal_and_lot s e ≡ true
  has_both k e is sealed =
      let seal : is_some (seal_at e.receipt s) ≡ true = ap (λ n. is_some (seal_at n s)) (found_key keyed.envelopes s.envelopes k e is) ∙ whole.seals k e is (sealed_kept e.state sealed) in
      let lot : is_some (lot_at (e.notice, e.lot) s) ≡ true = (whole.parents.envelopes k e is).lot in
      λ i. seal i && lot i

  none_lost : (es : List EnvelopeRow) → AllByRecursion (λ e. is_sealed_envelope e ≡ true → has_seal_and_lot s e ≡ true) es
      → list_any (λ e. not (has_seal_and_lot s e)) (filter is_sealed_envelope es) ≡ false
  none_lost [] h = refl
  none_lost (e ∷ es) h = by (none_lost es h.1) (is_sealed_envelope e) refl
    where
      rest : Bool → Bool
      rest b = list_any (λ e. not (has_seal_and_lot s e)) (cond b (e ∷ filter is_sealed_envelope es) (filter is_sealed_envelope es))

      by : list_any (λ e. not (has_seal_and_lot s e)) (filter is_sealed_envelope es) ≡ false → (b : Bool) → is_sealed_envelope e ≡ b → list_any (λ e. not (has_seal_and_lot s e)) (filter is_sealed_envelope (e ∷ es)) ≡ false
      by later true is = ap rest is ∙ (λ i. not (h.0 is i) || later i)
      by later false is = ap rest is ∙ later

  pub no_tender_lost : (notice : List ℕ) → lacks_tender notice s ≡ false
  no_tender_lost notice =
      none_lost (envelopes_of_notice notice s)
      (all-filter _ (λ (e : EnvelopeRow). same_id e.notice notice) s.envelopes
      (all-table keyed.envelopes (λ e. is_sealed_envelope e ≡ true → has_seal_and_lot s e ≡ true) s.envelopes whole.order.envelopes has_both))
