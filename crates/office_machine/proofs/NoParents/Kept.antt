-- Over any tables, a put of a row that exists makes no parent, and keeps the owner of the row if it names the same.
use Rattle.office_machine.proofs.Names.{ℕ, Bool, true, false, cond, not, ◌&&◌, ◌≡◌, List, [], ◌∷◌, Option, Some, None, is_some, filter, option_and_then, refl, sym, ◌∙◌, ap, subst, AllByRecursion, Ordering, IsKeyed, found_key, is_held, security_of_envelope, line_of_lot, row_at, Tables, IsSorted, award_at, contract_at, envelope_at, line_at, lot_at, notice_at, performance_at, security_at, securities_of_lot, put_if, securities_returned, security_returned, security_settled, is_held_security, Put, AwardRow, ContractRow, EnvelopeRow, LineRow, LotRow, NoticeRow, PerformanceRow, SecurityRow, Returned, SecurityState, LotsAgree, EnvelopesAgree, SecuritiesAgree, AwardsAgree, ContractsAgree, PerformancesAgree, OfLine, OfNotice, OfLot, OfReceipt, OfAward, is_named, is_there}
use Rattle.office_base.specs.declared.puts.Put.TheVariants as puts
use Rattle.office_machine.specs.References.{OfContract}
use Rattle.office_machine.proofs.NoParents.Gentle.{AreGentle, IsGentle, gentle-map}
use Rattle.office_machine.proofs.Rows.Keyed.{all_found}
use Rattle.office_machine.proofs.Rows.Keyed as keyed

pub settled_by : (there named : Bool) → there ≡ true → (not there && named) ≡ false
settled_by true named e = refl
settled_by false named e = cc

module _ {K X : Type 0} {R : K → K → Ordering} {key : X → K} (t : IsKeyed R key) (xs : List X) (k : K) (old : X) (is : row_at R key xs k ≡ Some old) where
  at_own : row_at R key xs (key old) ≡ Some old
  at_own = ap (row_at R key xs) (found_key t xs k old is) ∙ is

  there_own : is_some (row_at R key xs (key old)) ≡ true
  there_own = ap is_some at_own

  agrees_with : (Agree : X → X → Type 0) (row : X) → Agree old row → (a : X) → row_at R key xs (key old) ≡ Some a → Agree a row
  agrees_with Agree row own a was = let same : Some old ≡ Some a = sym at_own ∙ was in let one : old ≡ a = cc in subst (λ a. Agree a row) one own

module _ (s : Tables) where
  pub notice_kept : (k : List ℕ) (n row : NoticeRow) → notice_at k s ≡ Some n → row.notice ≡ n.notice → IsGentle s (puts.Notice row)
  notice_kept k n row is same = (settled_by (is_there (OfNotice row.notice) s) (is_named (OfNotice row.notice) s) (ap (λ k. is_there (OfNotice k) s) same ∙ there_own keyed.notices s.notices k n is), tt)

  pub line_kept : (k : List ℕ) (row : LineRow) → is_some (line_at k s) ≡ true → row.line ≡ k → IsGentle s (puts.Line row)
  line_kept k row there same = (settled_by (is_there (OfLine row.line) s) (is_named (OfLine row.line) s) (ap (λ k. is_there (OfLine k) s) same ∙ there), tt)

  pub line_of : (k : List ℕ) (r : LineRow) (free : ℕ) → line_at k s ≡ Some r → IsGentle s (puts.Line (record r { free = free }))
  line_of k r free is = line_kept r.line (record r { free = free }) (there_own keyed.lines s.lines k r is) refl

  -- a lot in another state, with another amount reserved
  pub lot_kept : (k : List ℕ × List ℕ) (l row : LotRow) → lot_at k s ≡ Some l → row.notice ≡ l.notice → row.lot ≡ l.lot → l.line ≡ row.line → IsGentle s (puts.Lot row)
  lot_kept k l row is notice lot line =
      let key : ◌≡◌ {A = List ℕ × List ℕ} (row.notice, row.lot) (l.notice, l.lot) = λ i. (notice i, lot i) in (
        settled_by (is_there (OfLot row.notice row.lot) s) (is_named (OfLot row.notice row.lot) s) (ap (λ k. is_some (lot_at k s)) key ∙ there_own keyed.lots s.lots k l is),
        λ a was. agrees_with keyed.lots s.lots k l is LotsAgree row line a (ap (λ k. lot_at k s) (sym key) ∙ was),
      )

  pub envelope_kept : (k : ℕ) (e row : EnvelopeRow) → envelope_at k s ≡ Some e → row.receipt ≡ e.receipt → e.notice ≡ row.notice → e.lot ≡ row.lot → e.tenderer ≡ row.tenderer → e.digest ≡ row.digest
      → IsGentle s (puts.Envelope row)
  envelope_kept k e row is key notice lot tenderer digest = (
    settled_by (is_there (OfReceipt row.receipt) s) (is_named (OfReceipt row.receipt) s) (ap (λ k. is_there (OfReceipt k) s) key ∙ there_own keyed.envelopes s.envelopes k e is),
    λ a was.
        agrees_with keyed.envelopes s.envelopes k e is EnvelopesAgree row (notice, lot, tenderer, digest) a
        (ap (λ k. envelope_at k s) (sym key) ∙ was),
  )

  pub security_kept : (state : SecurityState) (k : ℕ) (r : SecurityRow) → security_at k s ≡ Some r → IsGentle s (puts.Security (record r { state = state }))
  security_kept state k r is = (
    refl,
    agrees_with keyed.securities s.securities k r is
        SecuritiesAgree (record r { state = state }) (refl, refl, refl, refl, refl),
  )

  pub award_kept : (k : ℕ) (a row : AwardRow) → award_at k s ≡ Some a → row.award ≡ a.award → a.notice ≡ row.notice → a.lot ≡ row.lot → a.receipt ≡ row.receipt → IsGentle s (puts.Award row)
  award_kept k w row is key notice lot receipt = (
    settled_by (is_there (OfAward row.award) s) (is_named (OfAward row.award) s) (ap (λ k. is_there (OfAward k) s) key ∙ there_own keyed.awards s.awards k w is),
    λ a was.
        agrees_with keyed.awards s.awards k w is AwardsAgree row (notice, lot, receipt) a (ap (λ k. award_at k s) (sym key) ∙ was),
  )

  pub contract_kept : (k : ℕ) (c row : ContractRow) → contract_at k s ≡ Some c → row.contract ≡ c.contract → c.notice ≡ row.notice → c.lot ≡ row.lot → c.tenderer ≡ row.tenderer → IsGentle s (puts.Contract row)
  contract_kept k c row is key notice lot tenderer = (
    settled_by (is_there (OfContract row.contract) s) (is_named (OfContract row.contract) s) (ap (λ k. is_there (OfContract k) s) key ∙ there_own keyed.contracts s.contracts k c is),
    λ a was.
        agrees_with keyed.contracts s.contracts k c is ContractsAgree row (notice, lot, tenderer) a (ap (λ k. contract_at k s) (sym key) ∙ was),
  )

  pub performance_kept : (state : SecurityState) (k : ℕ) (w : PerformanceRow) → performance_at k s ≡ Some w → IsGentle s (puts.Performance (record w { state = state }))
  performance_kept state k w is = (
    refl,
    agrees_with keyed.performances s.performances k w is PerformancesAgree (record w { state = state }) (refl, refl),
  )

pub all_filter : {X : Type 0} (P : X → Type 0) (p : X → Bool) (xs : List X) → AllByRecursion P xs → AllByRecursion P (filter p xs)
all_filter P p [] h = tt
all_filter P p (x ∷ xs) h = elim (p x) as (λ b. AllByRecursion P (cond b (x ∷ filter p xs) (filter p xs))) [ true ↦ (h.0, all_filter P p xs h.1) | false ↦ all_filter P p xs h.1 ]

pub gentle-if : {X : Type 0} (s : Tables) (make : X → Put) (o : Option X) → ((x : X) → o ≡ Some x → IsGentle s (make x)) → AreGentle s (put_if make o)
gentle-if s make None h = tt
gentle-if s make (Some x) h = (h x refl, tt)

-- the securities that are returned
pub returned_gently : (s : Tables) (order : IsSorted s) → AllByRecursion (λ r. IsGentle s (security_returned r)) s.securities
returned_gently s order = all_found keyed.securities (λ r. IsGentle s (security_returned r)) s.securities order.securities (λ r is. security_kept s Returned r.security r is)

pub lot_returned : (s : Tables) (order : IsSorted s) (notice lot : List ℕ) → AreGentle s (securities_returned (securities_of_lot notice lot s))
lot_returned s order notice lot =
    gentle-map s security_returned (filter is_held_security (securities_of_lot notice lot s)) (all_filter _ is_held_security (securities_of_lot notice lot s) (all_filter _ _ s.securities (returned_gently s order)))

-- the security of a tender
pub security_settles : (s : Tables) (state : SecurityState) (o : Option EnvelopeRow) (r : SecurityRow) → security_of_envelope o s ≡ Some r → IsGentle s (security_settled state r)
security_settles s state None r is = cc
security_settles s state (Some e) r is = by e.security is
  where
    by : (o : Option ℕ) → option_and_then (λ n. security_at n s) o ≡ Some r → IsGentle s (security_settled state r)
    by None is = cc
    by (Some n) is = security_kept s (cond (is_held r.state) state r.state) n r is

pub line_found : (s : Tables) (o : Option LotRow) (r : LineRow) → line_of_lot o s ≡ Some r → (k : List ℕ) × (line_at k s ≡ Some r)
line_found s None r is = cc
line_found s (Some l) r is = (l.line, is)
