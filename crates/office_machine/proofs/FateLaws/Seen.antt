-- The part of the tables that the fates see, and changes that they don't see.
use Rattle.office_machine.proofs.Names.{◌≡◌, ℕ, Bool, true, false, cond, ◌&&◌, ◌||◌, List, [], ◌∷◌, ◌++◌, map, filter, Option, Some, None, option_map, refl, sym, ap, ◌∙◌, subst, AllByRecursion, nat_cmp_total, nat_list_cmp_total, nat_cmp-IsAntisymmetric, nat_cmp, eq_by_cmp, id_cmp, row_at, row_drop, IsInOrder, LineRow, NoticeRow, LotRow, EnvelopeRow, SealRow, SecurityRow, AwardRow, LotState, NoticeState, Tables, lot_cmp, line_key, notice_key, lot_key, envelope_key, seal_key, security_key, award_key, find_notice, put_notice, envelope_at, security_at, award_at, lot_at, notice_at, after_put, after_puts, Put, ids_exact, equal_keys, row_at-row_put, in_order-drop, row_at-row_drop}
use Rattle.office_base.specs.declared.puts.Put.TheVariants as puts
use Rattle.office_machine.proofs.Rows.RowsChanged.{rows_put, rows_drop, some_passes}
use Rattle.office_machine.proofs.FateLaws.Views.{View}
use Rattle.office_machine.proofs.Rows.Keyed as keyed

abbrev pub lot_state : LotRow → LotState
lot_state r = r.state

abbrev pub notice_state : NoticeRow → NoticeState
notice_state r = r.state

abbrev pub seen : Tables → View
seen t = record {
  envelope_at = λ r. envelope_at r t;
  security_at = λ s. security_at s t;
  award_at = λ a. award_at a t;
  lot_at = λ k. option_map lot_state (lot_at k t);
  notice_at = λ n. option_map notice_state (notice_at n t);
}

pub alike : (V W : View) → ((r : ℕ) → V.envelope_at r ≡ W.envelope_at r) → ((s : ℕ) → V.security_at s ≡ W.security_at s)
    → ((a : ℕ) → V.award_at a ≡ W.award_at a)
    → ((k : List ℕ × List ℕ) → V.lot_at k ≡ W.lot_at k) → ((n : List ℕ) → V.notice_at n ≡ W.notice_at n) → V ≡ W
alike V W e s a l n =
    λ i. record { envelope_at = λ r. e r i; security_at = λ q. s q i; award_at = λ b. a b i; lot_at = λ k. l k i; notice_at = λ m. n m i }

-- the states of the notices after the row of one is put in another form
notice_step : (r : NoticeRow) (q : List ℕ) (found : Option NoticeRow) (b : Bool) → (b ≡ true → option_map notice_state found ≡ Some r.state)
    → option_map notice_state (cond b (Some r) found) ≡ option_map notice_state found
notice_step r q found true h = sym (h refl)
notice_step r q found false h = refl

pub notices-same : (rows : List NoticeRow) (r : NoticeRow) → option_map notice_state (find_notice rows r.notice) ≡ Some r.state
    → (q : List ℕ) → option_map notice_state (find_notice (put_notice rows r) q) ≡ option_map notice_state (find_notice rows q)
notices-same rows r same q =
    ap (option_map notice_state) (row_at-row_put nat_list_cmp_total notice_key rows r q)
    ∙ notice_step r q (find_notice rows q) (eq_by_cmp id_cmp q r.notice) (λ e. ap (λ n. option_map notice_state (find_notice rows n)) (equal_keys ids_exact q r.notice e) ∙ same)

-- the fates don't see this change
abbrev pub IsQuiet : View → ℕ → Put → Type 0
IsQuiet V n (puts.Notice r) = V.notice_at r.notice ≡ Some r.state
IsQuiet V n (puts.Lot r) = ⊥
IsQuiet V n (puts.Envelope r) = ⊥
IsQuiet V n (puts.Seal r) = ⊥
IsQuiet V n (puts.DropSeal r) = ⊥
IsQuiet V n (puts.Security r) = ⊥
IsQuiet V n (puts.Award r) = ⊥
IsQuiet V n (puts.Clock r) = r.receipts ≡ n
IsQuiet V n _ = Unit {0}

pub record Same (t u : Tables) : Type 0 where
  pub seen_is : seen u ≡ seen t
  pub seals_are : u.seals ≡ t.seals
  pub receipts_are : u.clock.receipts ≡ t.clock.receipts

quiet_put : (p : Put) (t : Tables) → IsQuiet (seen t) t.clock.receipts p → Same t (after_put p t)
quiet_put (puts.Notice r) t h = record {
  seen_is = alike (seen (after_put (puts.Notice r) t)) (seen t) (λ r. refl) (λ s. refl) (λ a. refl) (λ k. refl) (notices-same t.notices r h);
  seals_are = refl;
  receipts_are = refl;
}
quiet_put (puts.Lot r) t h = absurd h
quiet_put (puts.Envelope r) t h = absurd h
quiet_put (puts.Seal r) t h = absurd h
quiet_put (puts.DropSeal r) t h = absurd h
quiet_put (puts.Security r) t h = absurd h
quiet_put (puts.Award r) t h = absurd h
quiet_put (puts.Clock r) t h = record { seen_is = refl; seals_are = refl; receipts_are = h }
quiet_put _ t h = record { seen_is = refl; seals_are = refl; receipts_are = refl }

pub quiet_puts : (V : View) (n : ℕ) (ps : List Put) (t : Tables) → seen t ≡ V → t.clock.receipts ≡ n → AllByRecursion (IsQuiet V n) ps
    → Same t (after_puts ps t)
quiet_puts V n [] t e f h = record { seen_is = refl; seals_are = refl; receipts_are = refl }
quiet_puts V n (p ∷ ps) t e f h =
    let first = quiet_put p t (subst (λ n. IsQuiet (seen t) n p) (sym f) (subst (λ V. IsQuiet V n p) (sym e) h.0)) in
    let rest = quiet_puts V n ps (after_put p t) (first.seen_is ∙ e) (first.receipts_are ∙ f) h.1 in
    record { seen_is = rest.seen_is ∙ first.seen_is; seals_are = rest.seals_are ∙ first.seals_are; receipts_are = rest.receipts_are ∙ first.receipts_are }

pub quiet : (ps : List Put) (t : Tables) → AllByRecursion (IsQuiet (seen t) t.clock.receipts) ps → Same t (after_puts ps t)
quiet ps t h = quiet_puts (seen t) t.clock.receipts ps t refl refl h

-- puts one after another, in two parts
pub after-append : (ps qs : List Put) (t : Tables) → after_puts (ps ++ qs) t ≡ after_puts qs (after_puts ps t)
after-append [] qs t = refl
after-append (p ∷ ps) qs t = after-append ps qs (after_put p t)

pub after_envelopes : {X : Type 0} (make : X → EnvelopeRow) (xs : List X) (t : Tables)
    → after_puts (map (λ x. puts.Envelope (make x)) xs) t ≡ record t { envelopes = rows_put nat_cmp envelope_key t.envelopes (map make xs) }
after_envelopes make [] t = refl
after_envelopes make (x ∷ xs) t = after_envelopes make xs (after_put (puts.Envelope (make x)) t)

pub after_securities : {X : Type 0} (make : X → SecurityRow) (xs : List X) (t : Tables)
    → after_puts (map (λ x. puts.Security (make x)) xs) t ≡ record t { securities = rows_put nat_cmp security_key t.securities (map make xs) }
after_securities make [] t = refl
after_securities make (x ∷ xs) t = after_securities make xs (after_put (puts.Security (make x)) t)

pub after_awards : {X : Type 0} (make : X → AwardRow) (xs : List X) (t : Tables)
    → after_puts (map (λ x. puts.Award (make x)) xs) t ≡ record t { awards = rows_put nat_cmp award_key t.awards (map make xs) }
after_awards make [] t = refl
after_awards make (x ∷ xs) t = after_awards make xs (after_put (puts.Award (make x)) t)

pub after_lots : {X : Type 0} (make : X → LotRow) (xs : List X) (t : Tables)
    → after_puts (map (λ x. puts.Lot (make x)) xs) t ≡ record t { lots = rows_put lot_cmp lot_key t.lots (map make xs) }
after_lots make [] t = refl
after_lots make (x ∷ xs) t = after_lots make xs (after_put (puts.Lot (make x)) t)

pub after_lines : {X : Type 0} (make : X → LineRow) (xs : List X) (t : Tables)
    → after_puts (map (λ x. puts.Line (make x)) xs) t ≡ record t { lines = rows_put id_cmp line_key t.lines (map make xs) }
after_lines make [] t = refl
after_lines make (x ∷ xs) t = after_lines make xs (after_put (puts.Line (make x)) t)

pub after_drops : {X : Type 0} (make : X → ℕ) (xs : List X) (t : Tables)
    → after_puts (map (λ x. puts.DropSeal (make x)) xs) t ≡ record t { seals = rows_drop nat_cmp seal_key t.seals (map make xs) }
after_drops make [] t = refl
after_drops make (x ∷ xs) t = after_drops make xs (after_put (puts.DropSeal (make x)) t)

-- the receipts of the envelopes that pass
abbrev receipt_of : EnvelopeRow → ℕ
receipt_of e = e.receipt

map_cond : (b : Bool) (e : EnvelopeRow) (es : List EnvelopeRow)
    → map receipt_of (cond b (e ∷ es) es) ≡ cond b (e.receipt ∷ map receipt_of es) (map receipt_of es)
map_cond true e es = refl
map_cond false e es = refl

either_none : {X : Type 0} (a b : Bool) (o : Option X) → cond b None (cond a None o) ≡ cond (a || b) None o
either_none true true o = refl
either_none true false o = refl
either_none false true o = refl
either_none false false o = refl

drops_step : (e : EnvelopeRow) (rest : List ℕ) (seals : List SealRow) (q : ℕ) (others : Bool) → IsInOrder nat_cmp seal_key seals
    → ((seals : List SealRow) → IsInOrder nat_cmp seal_key seals → row_at nat_cmp seal_key (rows_drop nat_cmp seal_key seals rest) q ≡ cond others None (row_at nat_cmp seal_key seals q))
    → (b : Bool) → row_at nat_cmp seal_key (rows_drop nat_cmp seal_key seals (cond b (e.receipt ∷ rest) rest)) q ≡ cond ((b && eq_by_cmp nat_cmp q e.receipt) || others) None (row_at nat_cmp seal_key seals q)
drops_step e rest seals q others order ih true =
    ih (row_drop nat_cmp seal_key seals e.receipt) (in_order-drop nat_cmp_total seal_key seals e.receipt order)
    ∙ ap (cond others None) (row_at-row_drop keyed.seals seals e.receipt q order)
    ∙ either_none (eq_by_cmp nat_cmp q e.receipt) others (row_at nat_cmp seal_key seals q)
drops_step e rest seals q others order ih false = ih seals order

pub row_at-drops : (p : EnvelopeRow → Bool) (es : List EnvelopeRow) (seals : List SealRow) (q : ℕ) → IsInOrder nat_cmp seal_key seals
    → row_at nat_cmp seal_key (rows_drop nat_cmp seal_key seals (map receipt_of (filter p es))) q
    ≡ cond (some_passes nat_cmp_total nat_cmp-IsAntisymmetric envelope_key p es q) None (row_at nat_cmp seal_key seals q)
row_at-drops p [] seals q order = refl
row_at-drops p (e ∷ es) seals q order =
    ap (λ ks. row_at nat_cmp seal_key (rows_drop nat_cmp seal_key seals ks) q) (map_cond (p e) e (filter p es))
    ∙ drops_step e (map receipt_of (filter p es)) seals q (some_passes nat_cmp_total nat_cmp-IsAntisymmetric envelope_key p es q) order (λ seals order. row_at-drops p es seals q order) (p e)
