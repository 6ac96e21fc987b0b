-- Over any tables, a row without a parent has none after puts that make no missing parent.
use Rattle.office_machine.proofs.Names.{max, ℕ, Bool, true, false, cond, not, ◌&&◌, ◌≡◌, List, [], ◌∷◌, ◌++◌, Option, Some, None, is_some, map, refl, sym, ◌∙◌, ap, subst, inl, inr, AllByRecursion, Ordering, eq_by_cmp, Caller, Command, first_of, row_at, row_put, holds_of, Tables, IsSorted, after_put, after_puts, award_at, contract_at, entry_at, envelope_at, lot_at, performance_at, seal_at, security_at, Put, AwardRow, ContractRow, EntryRow, EnvelopeRow, LotRow, PerformanceRow, SealRow, SecurityRow, equal_keys, sorted-puts, row_at-row_drop, IsKeyed, rule_of, tests_for, puts_for, Readings, Parent, OfLine, OfNotice, OfLot, OfReceipt, OfAward, is_named, is_there, LotsAgree, EnvelopesAgree, SecuritiesAgree, AwardsAgree, ContractsAgree, PerformancesAgree, OwnersStay}
use Rattle.office_base.specs.declared.puts.Put.TheVariants as puts
use Rattle.office_machine.specs.References.{OfContract}
use Rattle.office_machine.proofs.Rows.Keyed.{elsewhere, found}
use Rattle.office_machine.proofs.Rows.Keyed as keyed

-- The row that others may refer to, if the change stores one.
abbrev pub made : Put → Option Parent
made (puts.Line r) = Some (OfLine r.line)
made (puts.Notice r) = Some (OfNotice r.notice)
made (puts.Lot r) = Some (OfLot r.notice r.lot)
made (puts.Envelope r) = Some (OfReceipt r.receipt)
made (puts.Award r) = Some (OfAward r.award)
made (puts.Contract r) = Some (OfContract r.contract)
made _ = None

-- The change makes a parent for a row that has none.
abbrev pub makes_parent : Tables → Put → Bool
makes_parent t p = holds_of (λ parent. not (is_there parent t) && is_named parent t) (made p)

-- The change keeps the owner of the row that it replaces.
abbrev pub KeepsOwner : Tables → Put → Type 0
KeepsOwner t (puts.Lot r) = (a : LotRow) → lot_at (r.notice, r.lot) t ≡ Some a → LotsAgree a r
KeepsOwner t (puts.Envelope r) = (a : EnvelopeRow) → envelope_at r.receipt t ≡ Some a → EnvelopesAgree a r
KeepsOwner t (puts.Seal r) = (a : SealRow) → seal_at r.receipt t ≡ Some a → a ≡ r
KeepsOwner t (puts.Security r) = (a : SecurityRow) → security_at r.security t ≡ Some a → SecuritiesAgree a r
KeepsOwner t (puts.Award r) = (a : AwardRow) → award_at r.award t ≡ Some a → AwardsAgree a r
KeepsOwner t (puts.Contract r) = (a : ContractRow) → contract_at r.contract t ≡ Some a → ContractsAgree a r
KeepsOwner t (puts.Entry r) = (a : EntryRow) → entry_at (r.contract, r.entry) t ≡ Some a → a ≡ r
KeepsOwner t (puts.Performance r) = (a : PerformanceRow) → performance_at r.contract t ≡ Some a → PerformancesAgree a r
KeepsOwner t _ = Unit {0}

abbrev pub IsGentle : Tables → Put → Type 0
IsGentle t p = (makes_parent t p ≡ false) × KeepsOwner t p

abbrev pub AreGentle : Tables → List Put → Type 0
AreGentle t ps = AllByRecursion (IsGentle t) ps

-- The rows that an accepted command puts, if it misses no row, over tables in the order of their keys.
abbrev pub PutsGently : Command → Type 0
PutsGently command = (readings : Readings) (s : Tables) (moment : ℕ) (caller : Caller) → IsSorted s → first_of (tests_for s (max moment s.clock.moment) caller command) ≡ None
    → (rule_of command).lacks s ≡ false → AreGentle s (puts_for readings s (max moment s.clock.moment) caller command)

-- A row that is missing is still missing after a put of another row.
still_missing : {K X : Type 0} {R : K → K → Ordering} {key : X → K} (t : IsKeyed R key) (xs : List X) (r : X) (q : K) → (q ≡ key r → ⊥) → is_some (row_at R key xs q) ≡ false
    → is_some (row_at R key (row_put R key xs r) q) ≡ false
still_missing {R = R} {key = key} t xs r q other none = by (eq_by_cmp R q (key r)) refl
  where
    by : (b : Bool) → eq_by_cmp R q (key r) ≡ b → is_some (row_at R key (row_put R key xs r) q) ≡ false
    by true e = absurd (other (equal_keys t.exact q (key r) e))
    by false e = ap is_some (elsewhere t xs r q e) ∙ none

clash : (there named : Bool) → (not there && named) ≡ false → there ≡ false → named ≡ true → ⊥
clash true named e f g = cc
clash false true e f g = cc
clash false false e f g = cc

missing_step : (parent : Parent) (p : Put) (t u : Tables) → is_named parent t ≡ true → is_there parent t ≡ false → makes_parent t p ≡ false → is_there parent u ≡ false
    → is_there parent (after_put p u) ≡ false
missing_step (OfLine k) (puts.Line r) t u named none gentle gone =
    still_missing keyed.lines u.lines r k
    (λ e. clash (is_there (OfLine r.line) t) (is_named (OfLine r.line) t) gentle (ap (λ k. is_there (OfLine k) t) (sym e) ∙ none) (ap (λ k. is_named (OfLine k) t) (sym e) ∙ named)) gone
missing_step (OfLine k) _ t u named none gentle gone = gone
missing_step (OfNotice k) (puts.Notice r) t u named none gentle gone =
    still_missing keyed.notices u.notices r k
    (λ e. clash (is_there (OfNotice r.notice) t) (is_named (OfNotice r.notice) t) gentle (ap (λ k. is_there (OfNotice k) t) (sym e) ∙ none) (ap (λ k. is_named (OfNotice k) t) (sym e) ∙ named)) gone
missing_step (OfNotice k) _ t u named none gentle gone = gone
missing_step (OfLot n l) (puts.Lot r) t u named none gentle gone =
    still_missing keyed.lots u.lots r (n, l)
    (λ e. clash (is_there (OfLot r.notice r.lot) t) (is_named (OfLot r.notice r.lot) t) gentle (ap (λ k. is_there (OfLot k.0 k.1) t) (sym e) ∙ none) (ap (λ k. is_named (OfLot k.0 k.1) t) (sym e) ∙ named)) gone
missing_step (OfLot n l) _ t u named none gentle gone = gone
missing_step (OfReceipt k) (puts.Envelope r) t u named none gentle gone =
    still_missing keyed.envelopes u.envelopes r k
    (λ e. clash (is_there (OfReceipt r.receipt) t) (is_named (OfReceipt r.receipt) t) gentle (ap (λ k. is_there (OfReceipt k) t) (sym e) ∙ none) (ap (λ k. is_named (OfReceipt k) t) (sym e) ∙ named)) gone
missing_step (OfReceipt k) _ t u named none gentle gone = gone
missing_step (OfAward k) (puts.Award r) t u named none gentle gone =
    still_missing keyed.awards u.awards r k
    (λ e. clash (is_there (OfAward r.award) t) (is_named (OfAward r.award) t) gentle (ap (λ k. is_there (OfAward k) t) (sym e) ∙ none) (ap (λ k. is_named (OfAward k) t) (sym e) ∙ named)) gone
missing_step (OfAward k) _ t u named none gentle gone = gone
missing_step (OfContract k) (puts.Contract r) t u named none gentle gone =
    still_missing keyed.contracts u.contracts r k
    (λ e. clash (is_there (OfContract r.contract) t) (is_named (OfContract r.contract) t) gentle (ap (λ k. is_there (OfContract k) t) (sym e) ∙ none) (ap (λ k. is_named (OfContract k) t) (sym e) ∙ named)) gone
missing_step (OfContract k) _ t u named none gentle gone = gone

pub orphans_stay : (ps : List Put) (t u : Tables) → AreGentle t ps → (parent : Parent) → is_named parent t ≡ true → is_there parent t ≡ false → is_there parent u ≡ false
    → is_there parent (after_puts ps u) ≡ false
orphans_stay [] t u gentle parent named none gone = gone
orphans_stay (p ∷ ps) t u gentle parent named none gone = orphans_stay ps t (after_put p u) gentle.1 parent named none (missing_step parent p t u named none gentle.0.0 gone)

-- The row that is found after a put agrees with the earlier one.
agrees_after : {K X : Type 0} {R : K → K → Ordering} {key : X → K} (t : IsKeyed R key) (Agree : X → X → Type 0) (before now : List X) (r : X) → ((a : X) → row_at R key before (key r) ≡ Some a → Agree a r)
    → ((k : K) (a b : X) → row_at R key before k ≡ Some a → row_at R key now k ≡ Some b → Agree a b)
    → (k : K) (a b : X) → row_at R key before k ≡ Some a → row_at R key (row_put R key now r) k ≡ Some b → Agree a b
agrees_after {R = R} {key = key} t Agree before now r own old k a b was is =
    elim (found t now r k b is) as (λ _. Agree a b) [
      | inl p ↦ subst (Agree a) (sym p.1) (own a (ap (row_at R key before) (sym p.0) ∙ was))
      | inr p ↦ old k a b was p.1
    ]

none_cond : {X : Type 0} (b : Bool) (o : Option X) (x : X) → cond b None o ≡ Some x → o ≡ Some x
none_cond true o x e = cc
none_cond false o x e = e

agrees_dropped : (t u : Tables) (n : ℕ) → IsSorted u → ((k : ℕ) (a b : SealRow) → seal_at k t ≡ Some a → seal_at k u ≡ Some b → a ≡ b)
    → (k : ℕ) (a b : SealRow) → seal_at k t ≡ Some a → seal_at k (after_put (puts.DropSeal n) u) ≡ Some b → a ≡ b
agrees_dropped t u n order old k a b was is = old k a b was (none_cond _ (seal_at k u) b (sym (row_at-row_drop keyed.seals u.seals n k order.seals) ∙ is))

owner_step : (p : Put) (t u : Tables) → IsSorted u → KeepsOwner t p → OwnersStay t u → OwnersStay t (after_put p u)
owner_step (puts.Lot r) t u order own h = record { lots = agrees_after keyed.lots LotsAgree t.lots u.lots r own h.lots; envelopes = h.envelopes; seals = h.seals; securities = h.securities; awards = h.awards; contracts = h.contracts; entries = h.entries; performances = h.performances }
owner_step (puts.Envelope r) t u order own h = record { lots = h.lots; envelopes = agrees_after keyed.envelopes EnvelopesAgree t.envelopes u.envelopes r own h.envelopes; seals = h.seals; securities = h.securities; awards = h.awards; contracts = h.contracts; entries = h.entries; performances = h.performances }
owner_step (puts.Seal r) t u order own h = record { lots = h.lots; envelopes = h.envelopes; seals = agrees_after keyed.seals (λ a b. a ≡ b) t.seals u.seals r own h.seals; securities = h.securities; awards = h.awards; contracts = h.contracts; entries = h.entries; performances = h.performances }
owner_step (puts.Security r) t u order own h = record { lots = h.lots; envelopes = h.envelopes; seals = h.seals; securities = agrees_after keyed.securities SecuritiesAgree t.securities u.securities r own h.securities; awards = h.awards; contracts = h.contracts; entries = h.entries; performances = h.performances }
owner_step (puts.Award r) t u order own h = record { lots = h.lots; envelopes = h.envelopes; seals = h.seals; securities = h.securities; awards = agrees_after keyed.awards AwardsAgree t.awards u.awards r own h.awards; contracts = h.contracts; entries = h.entries; performances = h.performances }
owner_step (puts.Contract r) t u order own h = record { lots = h.lots; envelopes = h.envelopes; seals = h.seals; securities = h.securities; awards = h.awards; contracts = agrees_after keyed.contracts ContractsAgree t.contracts u.contracts r own h.contracts; entries = h.entries; performances = h.performances }
owner_step (puts.Entry r) t u order own h = record { lots = h.lots; envelopes = h.envelopes; seals = h.seals; securities = h.securities; awards = h.awards; contracts = h.contracts; entries = agrees_after keyed.entries (λ a b. a ≡ b) t.entries u.entries r own h.entries; performances = h.performances }
owner_step (puts.Performance r) t u order own h = record { lots = h.lots; envelopes = h.envelopes; seals = h.seals; securities = h.securities; awards = h.awards; contracts = h.contracts; entries = h.entries; performances = agrees_after keyed.performances PerformancesAgree t.performances u.performances r own h.performances }
owner_step (puts.DropSeal n) t u order own h = record { lots = h.lots; envelopes = h.envelopes; seals = agrees_dropped t u n order h.seals; securities = h.securities; awards = h.awards; contracts = h.contracts; entries = h.entries; performances = h.performances }
owner_step _ t u order own h = record { lots = h.lots; envelopes = h.envelopes; seals = h.seals; securities = h.securities; awards = h.awards; contracts = h.contracts; entries = h.entries; performances = h.performances }

pub owners_stay : (ps : List Put) (t u : Tables) → IsSorted u → AreGentle t ps → OwnersStay t u → OwnersStay t (after_puts ps u)
owners_stay [] t u order gentle h = h
owners_stay (p ∷ ps) t u order gentle h = owners_stay ps t (after_put p u) (sorted-puts (p ∷ []) u order) gentle.1 (owner_step p t u order gentle.0.1 h)

one_row : {X : Type 0} (o : Option X) (a b : X) → o ≡ Some a → o ≡ Some b → a ≡ b
one_row o a b e f = let same : Some a ≡ Some b = sym e ∙ f in cc

agrees_itself : {X : Type 0} (Agree : X → X → Type 0) → ((x : X) → Agree x x) → (o : Option X) (a b : X) → o ≡ Some a → o ≡ Some b → Agree a b
agrees_itself Agree own o a b e f = subst (Agree a) (one_row o a b e f) (own a)

pub owners_there : (t : Tables) → OwnersStay t t
owners_there t = record {
  lots = λ k. agrees_itself LotsAgree (λ x. refl) (lot_at k t);
  envelopes = λ k. agrees_itself EnvelopesAgree (λ x. (refl, refl, refl, refl)) (envelope_at k t);
  seals = λ k. agrees_itself (λ a b. a ≡ b) (λ x. refl) (seal_at k t);
  securities = λ k. agrees_itself SecuritiesAgree (λ x. (refl, refl, refl, refl, refl)) (security_at k t);
  awards = λ k. agrees_itself AwardsAgree (λ x. (refl, refl, refl)) (award_at k t);
  contracts = λ k. agrees_itself ContractsAgree (λ x. (refl, refl, refl)) (contract_at k t);
  entries = λ k. agrees_itself (λ a b. a ≡ b) (λ x. refl) (entry_at k t);
  performances = λ k. agrees_itself PerformancesAgree (λ x. (refl, refl)) (performance_at k t);
}

pub gentle-append : (t : Tables) (ps qs : List Put) → AreGentle t ps → AreGentle t qs → AreGentle t (ps ++ qs)
gentle-append t [] qs a b = b
gentle-append t (p ∷ ps) qs a b = (a.0, gentle-append t ps qs a.1 b)

pub gentle-map : {X : Type 0} (t : Tables) (make : X → Put) (xs : List X) → AllByRecursion (λ x. IsGentle t (make x)) xs → AreGentle t (map make xs)
gentle-map t make [] h = tt
gentle-map t make (x ∷ xs) h = (h.0, gentle-map t make xs h.1)
