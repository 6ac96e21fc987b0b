-- After puts, the rows that other rows refer to still exist.
use Rattle.office_machine.proofs.Names.{◌≡◌, ℕ, Bool, true, false, List, [], ◌∷◌, ◌++◌, map, filter, Option, Some, None, refl, sym, subst, inl, inr, cond, IsSome, AllByRecursion, Ordering, row_at, row_put, IsInOrder, LotRow, EnvelopeRow, SecurityRow, AwardRow, ContractRow, Tables, line_at, tenderer_at, notice_at, lot_at, envelope_at, security_at, contract_at, after_put, after_puts, Put, put_if, LotHas, EnvelopeHas, SecurityHas, AwardHas, ContractHas, EntryHas, PerformanceHas, ReleaseHas, MergeHas, LateHas, HaveParents, IsKeyed}
use Rattle.office_base.specs.declared.puts.Put.TheVariants as puts
use Rattle.office_machine.proofs.Rows.Keyed.{found, still_there}
use Rattle.office_machine.proofs.Rows.Keyed as keyed

-- every row of the one office still exists in the other
pub record Grows (t u : Tables) : Type 0 where
  pub lines : (k : List ℕ) → IsSome (line_at k t) → IsSome (line_at k u)
  pub notices : (k : List ℕ) → IsSome (notice_at k t) → IsSome (notice_at k u)
  pub lots : (k : List ℕ × List ℕ) → IsSome (lot_at k t) → IsSome (lot_at k u)
  pub envelopes : (k : ℕ) → IsSome (envelope_at k t) → IsSome (envelope_at k u)
  pub securities : (k : ℕ) → IsSome (security_at k t) → IsSome (security_at k u)
  pub contracts : (k : ℕ) → IsSome (contract_at k t) → IsSome (contract_at k u)
  pub tenderers : (k : List ℕ) → IsSome (tenderer_at k t) → IsSome (tenderer_at k u)

pub grows_itself : (t : Tables) → Grows t t
grows_itself t = record { lines = λ k h. h; notices = λ k h. h; lots = λ k h. h; envelopes = λ k h. h; securities = λ k h. h; contracts = λ k h. h; tenderers = λ k h. h }

pub grows_on : (t u v : Tables) → Grows t u → Grows u v → Grows t v
grows_on t u v g h = record {
  lines = λ k is. h.lines k (g.lines k is);
  notices = λ k is. h.notices k (g.notices k is);
  lots = λ k is. h.lots k (g.lots k is);
  envelopes = λ k is. h.envelopes k (g.envelopes k is);
  securities = λ k is. h.securities k (g.securities k is);
  contracts = λ k is. h.contracts k (g.contracts k is);
  tenderers = λ k is. h.tenderers k (g.tenderers k is);
}

grows-put : (p : Put) (t : Tables) → Grows t (after_put p t)
grows-put (puts.Line r) t = record { lines = still_there keyed.lines t.lines r; notices = λ k h. h; lots = λ k h. h; envelopes = λ k h. h; securities = λ k h. h; contracts = λ k h. h; tenderers = λ k h. h }
grows-put (puts.Tenderer r) t = record { lines = λ k h. h; notices = λ k h. h; lots = λ k h. h; envelopes = λ k h. h; securities = λ k h. h; contracts = λ k h. h; tenderers = still_there keyed.tenderers t.tenderers r }
grows-put (puts.Notice r) t = record { lines = λ k h. h; notices = still_there keyed.notices t.notices r; lots = λ k h. h; envelopes = λ k h. h; securities = λ k h. h; contracts = λ k h. h; tenderers = λ k h. h }
grows-put (puts.Lot r) t = record { lines = λ k h. h; notices = λ k h. h; lots = still_there keyed.lots t.lots r; envelopes = λ k h. h; securities = λ k h. h; contracts = λ k h. h; tenderers = λ k h. h }
grows-put (puts.Envelope r) t = record { lines = λ k h. h; notices = λ k h. h; lots = λ k h. h; envelopes = still_there keyed.envelopes t.envelopes r; securities = λ k h. h; contracts = λ k h. h; tenderers = λ k h. h }
grows-put (puts.Security r) t = record { lines = λ k h. h; notices = λ k h. h; lots = λ k h. h; envelopes = λ k h. h; securities = still_there keyed.securities t.securities r; contracts = λ k h. h; tenderers = λ k h. h }
grows-put (puts.Contract r) t = record { lines = λ k h. h; notices = λ k h. h; lots = λ k h. h; envelopes = λ k h. h; securities = λ k h. h; contracts = still_there keyed.contracts t.contracts r; tenderers = λ k h. h }
grows-put _ t = record { lines = λ k h. h; notices = λ k h. h; lots = λ k h. h; envelopes = λ k h. h; securities = λ k h. h; contracts = λ k h. h; tenderers = λ k h. h }

pub grows-puts : (ps : List Put) (t : Tables) → Grows t (after_puts ps t)
grows-puts [] t = grows_itself t
grows-puts (p ∷ ps) t = grows_on t (after_put p t) (after_puts ps (after_put p t)) (grows-put p t) (grows-puts ps (after_put p t))

-- the rows that the row of a put refers to exist
abbrev pub Parents : Tables → Put → Type 0
Parents u (puts.Lot r) = LotHas u r
Parents u (puts.Envelope r) = EnvelopeHas u r
Parents u (puts.Security r) = SecurityHas u r
Parents u (puts.Award r) = AwardHas u r
Parents u (puts.Contract r) = ContractHas u r
Parents u (puts.Entry r) = EntryHas u r
Parents u (puts.Release r) = ReleaseHas u r
Parents u (puts.Compiled r) = MergeHas u r
Parents u (puts.Late r) = LateHas u r
Parents u (puts.Performance r) = PerformanceHas u r
Parents u _ = Unit {0}

abbrev pub AllParents : Tables → List Put → Type 0
AllParents u ps = AllByRecursion (Parents u) ps

-- a property of each row of a table and of a put row is one of each row after the put
row_has : {K X : Type 0} {R : K → K → Ordering} {key : X → K} (t : IsKeyed R key) (P : X → Type 0) (xs : List X) (r : X) → P r → ((k : K) (x : X) → row_at R key xs k ≡ Some x → P x)
    → (k : K) (x : X) → row_at R key (row_put R key xs r) k ≡ Some x → P x
row_has {R = R} {key = key} t P xs r own old k x h =
    elim (found t xs r k x h) as (λ _. P x) [
      | inl p ↦ subst P (sym p.1) own
      | inr p ↦ old k x p.1
    ]

put_has : (u : Tables) (p : Put) (t : Tables) → Parents u p → HaveParents u t → HaveParents u (after_put p t)
put_has u (puts.Lot r) t own h = record { lots = row_has keyed.lots (LotHas u) t.lots r own h.lots; envelopes = h.envelopes; securities = h.securities; awards = h.awards; contracts = h.contracts; entries = h.entries; performances = h.performances; releases = h.releases; merges = h.merges; late_rules = h.late_rules }
put_has u (puts.Envelope r) t own h = record { lots = h.lots; envelopes = row_has keyed.envelopes (EnvelopeHas u) t.envelopes r own h.envelopes; securities = h.securities; awards = h.awards; contracts = h.contracts; entries = h.entries; performances = h.performances; releases = h.releases; merges = h.merges; late_rules = h.late_rules }
put_has u (puts.Security r) t own h = record { lots = h.lots; envelopes = h.envelopes; securities = row_has keyed.securities (SecurityHas u) t.securities r own h.securities; awards = h.awards; contracts = h.contracts; entries = h.entries; performances = h.performances; releases = h.releases; merges = h.merges; late_rules = h.late_rules }
put_has u (puts.Award r) t own h = record { lots = h.lots; envelopes = h.envelopes; securities = h.securities; awards = row_has keyed.awards (AwardHas u) t.awards r own h.awards; contracts = h.contracts; entries = h.entries; performances = h.performances; releases = h.releases; merges = h.merges; late_rules = h.late_rules }
put_has u (puts.Contract r) t own h = record { lots = h.lots; envelopes = h.envelopes; securities = h.securities; awards = h.awards; contracts = row_has keyed.contracts (ContractHas u) t.contracts r own h.contracts; entries = h.entries; performances = h.performances; releases = h.releases; merges = h.merges; late_rules = h.late_rules }
put_has u (puts.Entry r) t own h = record { lots = h.lots; envelopes = h.envelopes; securities = h.securities; awards = h.awards; contracts = h.contracts; entries = row_has keyed.entries (EntryHas u) t.entries r own h.entries; performances = h.performances; releases = h.releases; merges = h.merges; late_rules = h.late_rules }
put_has u (puts.Release r) t own h = record { lots = h.lots; envelopes = h.envelopes; securities = h.securities; awards = h.awards; contracts = h.contracts; entries = h.entries; performances = h.performances; releases = row_has keyed.releases (ReleaseHas u) t.releases r own h.releases; merges = h.merges; late_rules = h.late_rules }
put_has u (puts.Compiled r) t own h = record { lots = h.lots; envelopes = h.envelopes; securities = h.securities; awards = h.awards; contracts = h.contracts; entries = h.entries; performances = h.performances; releases = h.releases; merges = row_has keyed.compiled (MergeHas u) t.compiled r own h.merges; late_rules = h.late_rules }
put_has u (puts.Late r) t own h = record { lots = h.lots; envelopes = h.envelopes; securities = h.securities; awards = h.awards; contracts = h.contracts; entries = h.entries; performances = h.performances; releases = h.releases; merges = h.merges; late_rules = row_has keyed.late_rules (LateHas u) t.late_rules r own h.late_rules }
put_has u (puts.Performance r) t own h = record { lots = h.lots; envelopes = h.envelopes; securities = h.securities; awards = h.awards; contracts = h.contracts; entries = h.entries; performances = row_has keyed.performances (PerformanceHas u) t.performances r own h.performances; releases = h.releases; merges = h.merges; late_rules = h.late_rules }
put_has u _ t own h = record { lots = h.lots; envelopes = h.envelopes; securities = h.securities; awards = h.awards; contracts = h.contracts; entries = h.entries; performances = h.performances; releases = h.releases; merges = h.merges; late_rules = h.late_rules }

puts_have : (u : Tables) (ps : List Put) (t : Tables) → AllParents u ps → HaveParents u t → HaveParents u (after_puts ps t)
puts_have u [] t own h = h
puts_have u (p ∷ ps) t own h = puts_have u ps (after_put p t) own.1 (put_has u p t own.0 h)

-- the notice and the line of a lot still exist
pub lot_still : (t u : Tables) → Grows t u → (l : LotRow) → LotHas t l → LotHas u l
lot_still t u g l h = record { notice = g.notices l.notice h.notice; line = g.lines l.line h.line }

pub envelope_still : (t u : Tables) → Grows t u → (e : EnvelopeRow) → EnvelopeHas t e → EnvelopeHas u e
envelope_still t u g e h = record { notice = g.notices e.notice h.notice; lot = g.lots (e.notice, e.lot) h.lot; tenderer = g.tenderers e.tenderer h.tenderer; security = λ n is. g.securities n (h.security n is) }

pub security_still : (t u : Tables) → Grows t u → (s : SecurityRow) → SecurityHas t s → SecurityHas u s
security_still t u g s h = record { notice = g.notices s.notice h.notice; lot = g.lots (s.notice, s.lot) h.lot; tenderer = g.tenderers s.tenderer h.tenderer }

pub award_still : (t u : Tables) → Grows t u → (a : AwardRow) → AwardHas t a → AwardHas u a
award_still t u g a h = record { notice = g.notices a.notice h.notice; lot = g.lots (a.notice, a.lot) h.lot; envelope = g.envelopes a.receipt h.envelope }

pub contract_still : (t u : Tables) → Grows t u → (c : ContractRow) → ContractHas t c → ContractHas u c
contract_still t u g c h = record { notice = g.notices c.notice h.notice; lot = g.lots (c.notice, c.lot) h.lot; tenderer = g.tenderers c.tenderer h.tenderer }

have_still : (t u : Tables) → Grows t u → HaveParents t t → HaveParents u t
have_still t u g h = record {
  lots = λ k l is. lot_still t u g l (h.lots k l is);
  envelopes = λ k e is. envelope_still t u g e (h.envelopes k e is);
  securities = λ k s is. security_still t u g s (h.securities k s is);
  awards = λ k a is. award_still t u g a (h.awards k a is);
  contracts = λ k c is. contract_still t u g c (h.contracts k c is);
  entries = λ k e is. record { contract = g.contracts e.contract (h.entries k e is).contract };
  performances = λ k w is. record { contract = g.contracts w.contract (h.performances k w is).contract };
  releases = λ k r is. record { notice = g.notices r.notice (h.releases k r is).notice };
  merges = λ k r is. record { notice = g.notices r.notice (h.merges k r is).notice };
  late_rules = λ k r is. record { notice = g.notices r.notice (h.late_rules k r is).notice };
}

-- if the rows that the put rows refer to exist, every row's do after the puts
pub parents_after : (ps : List Put) (t : Tables) → HaveParents t t → AllParents (after_puts ps t) ps → HaveParents (after_puts ps t) (after_puts ps t)
parents_after ps t h own = puts_have (after_puts ps t) ps t own (have_still t (after_puts ps t) (grows-puts ps t) h)

pub parents-append : (u : Tables) (ps qs : List Put) → AllParents u ps → AllParents u qs → AllParents u (ps ++ qs)
parents-append u [] qs a b = b
parents-append u (p ∷ ps) qs a b = (a.0, parents-append u ps qs a.1 b)

pub parents-map : {X : Type 0} (u : Tables) (make : X → Put) (xs : List X) → ((x : X) → Parents u (make x)) → AllParents u (map make xs)
parents-map u make [] h = tt
parents-map u make (x ∷ xs) h = (h x, parents-map u make xs h)

pub parents-if : {X : Type 0} (u : Tables) (make : X → Put) (o : Option X) → ((x : X) → o ≡ Some x → Parents u (make x)) → AllParents u (put_if make o)
parents-if u make None h = tt
parents-if u make (Some x) h = (h x refl, tt)

-- puts that are made of rows, if the rows that each of these refers to exist
pub parents-all : {X : Type 0} (u : Tables) (make : X → Put) (xs : List X) → AllByRecursion (λ x. Parents u (make x)) xs → AllParents u (map make xs)
parents-all u make [] h = tt
parents-all u make (x ∷ xs) h = (h.0, parents-all u make xs h.1)

pub all-filter : {X : Type 0} (P : X → Type 0) (p : X → Bool) (xs : List X) → AllByRecursion P xs → AllByRecursion P (filter p xs)
all-filter P p [] h = tt
all-filter P p (x ∷ xs) h = elim (p x) as (λ b. AllByRecursion P (cond b (x ∷ filter p xs) (filter p xs))) [ true ↦ (h.0, all-filter P p xs h.1) | false ↦ all-filter P p xs h.1 ]

pub all-table : {K X : Type 0} {R : K → K → Ordering} {key : X → K} (t : IsKeyed R key) (P : X → Type 0) (xs : List X) → IsInOrder R key xs → ((k : K) (x : X) → row_at R key xs k ≡ Some x → P x) → AllByRecursion P xs
all-table {R = R} {key = key} t P xs o h = Rattle.office_machine.proofs.Rows.Keyed.all_found t P xs o (λ x is. h (key x) x is)
