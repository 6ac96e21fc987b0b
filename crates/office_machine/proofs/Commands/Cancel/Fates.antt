-- A cancellation keeps the fates.
use Rattle.office_machine.proofs.Names.{◌≡◌, ℕ, Bool, true, false, cond, ◌&&◌, List, [], ◌∷◌, ◌++◌, map, filter, Option, Some, None, option_map, max, refl, sym, ap, ◌∙◌, subst, AllByRecursion, nat_cmp_total, nat_cmp-IsAntisymmetric, nat_cmp, id_cmp, same_id, NamedSecurity, Caller, Cancel, Refusal, holds_of, if_passes, filter_filter, row_at-filter, found_key, NoticeRow, LotRow, EnvelopeRow, SecurityRow, AwardRow, EnvelopeState, SecurityState, Put, is_sealed, is_held, is_active, is_receiving, first_of, clock_put, security_returned, returned, is_open_lot, cancelled_lot, cancelled_lot_put, freed_line, freed_line_put, ends, is_ended_award, cancelled_award, award_put, is_ended_envelope, returned_envelope, envelope_put, drop_put, is_ended_security, cancelled_notice, cancel_tests, cancel_puts, Tables, lot_cmp, line_key, lot_key, envelope_key, seal_key, security_key, award_key, find_lot, of_notice, envelope_at, seal_at, security_at, award_at, lot_at, notice_at, lots_of_notice, envelopes_of_notice, securities_of_notice, awards_of_notice, after_puts, Given, Readings, Reception, received_at, is_of_notice, tender_decided, fate_of_tender, security_decided, fate_of_security, is_kept, EnvelopeIs, SecurityIs, lots_total, lots_exact, equal_ids, same_itself}
use Rattle.office_base.specs.declared.records.EnvelopeState.TheVariants as envelope
use Rattle.office_base.specs.declared.records.SecurityState.TheVariants as security
use Rattle.office_base.specs.declared.records.LotState.TheVariants as lot
use Rattle.office_base.specs.declared.records.NoticeState.TheVariants as notice
use Rattle.office_base.specs.declared.puts.Put.TheVariants as puts
use Rattle.office_machine.proofs.Rows.Counting.{is_live}
use Rattle.office_machine.proofs.Passed.{none_holds}
use Rattle.office_machine.proofs.Rows.RowsChanged.{rows_put, rows_drop, changed, row_at-changed, some_passes_is}
use Rattle.office_machine.proofs.FateLaws.Views.{Change, after_change}
use Rattle.office_machine.proofs.FateLaws.Steps.{cond_keeps}
use Rattle.office_machine.proofs.FateLaws.Decisions.{cancelling, fair_cancelling}
use Rattle.office_machine.proofs.FateLaws.Seen.{seen, alike, lot_state, after-append, after_lines, after_lots, after_awards, after_envelopes, after_securities, after_drops, row_at-drops}
use Rattle.office_machine.proofs.FateLaws.FatesHold.{FatesStand, HaveFates, Keeps, given}
use Rattle.office_machine.proofs.FateLaws.FatesChanged.{kept_by_change, sealed_live}
use Rattle.office_machine.proofs.FateLaws.States.{notices_put}
use Rattle.office_machine.proofs.Rows.Keyed as keyed

no_both : (a b : Bool) → (a && (b && false)) ≡ (b && false)
no_both true true = refl
no_both true false = refl
no_both false true = refl
no_both false false = refl

-- two tests that agree on the found row change it alike
tests_agree : {X : Type 0} (p q : X → Bool) (g : X → X) (o : Option X) → ((x : X) → o ≡ Some x → p x ≡ q x)
    → option_map (changed p g) o ≡ option_map (changed q g) o
tests_agree p q g None h = refl
tests_agree p q g (Some x) h = ap (λ b. Some (cond b (g x) x)) (h x refl)

module _ (readings : Readings) (name : List ℕ) (rationale : List ℕ) (xs : List Given) (t : Tables) (m : ℕ) (caller : Caller) (kept : FatesStand readings xs t)
    (n : NoticeRow) (found : notice_at name t ≡ Some n) where
  abbrev T : ℕ
  T = max m t.clock.moment

  abbrev x : Given
  x = given t m caller (Cancel name rationale)

  abbrev lots : List LotRow
  lots = lots_of_notice name t

  abbrev E : List ℕ → List ℕ → Bool
  E q k = ends lots q k

  ends_is : (q k : List ℕ) → E q k ≡ holds_of is_open_lot (if_passes (of_notice name) (lot_at (q, k) t))
  ends_is q k = ap (holds_of is_open_lot) (row_at-filter keyed.lots (of_notice name) t.lots (q, k) kept.order.lots)

  ends_by : (q k : List ℕ) (o : Option LotRow) → lot_at (q, k) t ≡ o → holds_of is_open_lot (if_passes (of_notice name) o) ≡ true → q ≡ name
  ends_by q k None at h = let no : false ≡ true = h in cc
  ends_by q k (Some r) at h =
      sym (ap (λ (k : List ℕ × List ℕ). k.0) (found_key keyed.lots t.lots (q, k) r at)) ∙ equal_ids r.notice name (passes (of_notice name r) h)
    where
      passes : (b : Bool) → holds_of is_open_lot (cond b (Some r) None) ≡ true → b ≡ true
      passes true h = refl
      passes false h = h

  ends_only : (q k : List ℕ) → E q k ≡ true → q ≡ name
  ends_only q k h = ends_by q k (lot_at (q, k) t) refl (sym (ends_is q k) ∙ h)

  all_by : (q k : List ℕ) (o : Option LotRow) → lot_at (q, k) t ≡ o → q ≡ name → is_live (option_map lot_state o) ≡ true
      → holds_of is_open_lot (if_passes (of_notice name) o) ≡ true
  all_by q k None at e live = live
  all_by q k (Some r) at e live =
      let own : r.notice ≡ name = ap (λ (k : List ℕ × List ℕ). k.0) (found_key keyed.lots t.lots (q, k) r at) ∙ e in
      ap (λ b. holds_of is_open_lot (cond b (Some r) None)) (ap (λ n. same_id n name) own ∙ same_itself name) ∙ live

  ends_all : (q k : List ℕ) → q ≡ name → is_live ((seen t).lot_at (q, k)) ≡ true → E q k ≡ true
  ends_all q k e live = ends_is q k ∙ all_by q k (lot_at (q, k) t) refl e live

  -- a row of a lot that ends is a row of the notice
  of_notice_too : (q k : List ℕ) (a b : Bool) → E q k ≡ b → (same_id q name && (a && b)) ≡ (a && b)
  of_notice_too q k a true e = ap (λ s. s && (a && true)) (ap (λ n. same_id n name) (ends_only q k e) ∙ same_itself name)
  of_notice_too q k a false e = no_both (same_id q name) a

  -- a live lot ends exactly if it is a lot of the notice
  ends_here : (q k : List ℕ) → is_live ((seen t).lot_at (q, k)) ≡ true → (b c : Bool) → E q k ≡ b → same_id q name ≡ c → b ≡ c
  ends_here q k live true true e s = refl
  ends_here q k live true false e s = let no : true ≡ false = sym (ap (λ n. same_id n name) (ends_only q k e) ∙ same_itself name) ∙ s in cc
  ends_here q k live false true e s = let no : false ≡ true = sym e ∙ ends_all q k (equal_ids q name s) live in cc
  ends_here q k live false false e s = refl

  abbrev c : Change
  c = cancelling (seen t) kept.sound name E ends_only ends_all

  abbrev open_lots : List LotRow
  open_lots = filter is_open_lot lots

  abbrev ended_awards : List AwardRow
  ended_awards = filter (is_ended_award lots) (awards_of_notice name t)

  abbrev ended_envelopes : List EnvelopeRow
  ended_envelopes = filter (is_ended_envelope lots) (envelopes_of_notice name t)

  abbrev ended_securities : List SecurityRow
  ended_securities = filter (is_ended_security lots) (securities_of_notice name t)

  abbrev ps : List Put
  ps = cancel_puts (record { notice = Some n; lines = t.lines; lots = lots; awards = awards_of_notice name t; envelopes = envelopes_of_notice name t; securities = securities_of_notice name t; clock = t.clock }) T

  abbrev last_puts : List Put
  last_puts = puts.Notice (cancelled_notice n) ∷ clock_put t.clock T ∷ []

  abbrev t1 : Tables
  t1 = record t { lines = rows_put id_cmp line_key t.lines (map (freed_line t.lines open_lots) open_lots) }

  abbrev t2 : Tables
  t2 = record t1 { lots = rows_put lot_cmp lot_key t.lots (map cancelled_lot open_lots) }

  abbrev t3 : Tables
  t3 = record t2 { awards = rows_put nat_cmp award_key t.awards (map cancelled_award ended_awards) }

  abbrev t4 : Tables
  t4 = record t3 { envelopes = rows_put nat_cmp envelope_key t.envelopes (map returned_envelope ended_envelopes) }

  abbrev t5 : Tables
  t5 = record t4 { seals = rows_drop nat_cmp seal_key t.seals (map (λ (e : EnvelopeRow). e.receipt) ended_envelopes) }

  abbrev t6 : Tables
  t6 = record t5 { securities = rows_put nat_cmp security_key t.securities (map returned ended_securities) }

  abbrev after : Tables
  after = after_puts last_puts t6

  after_is : after_puts ps t ≡ after
  after_is =
      after-append (map (freed_line_put t.lines open_lots) open_lots) (map cancelled_lot_put open_lots ++ (map award_put ended_awards ++ (map envelope_put ended_envelopes ++ (map drop_put ended_envelopes ++ (map security_returned ended_securities ++ last_puts))))) t
      ∙ ap (after_puts (map cancelled_lot_put open_lots ++ (map award_put ended_awards ++ (map envelope_put ended_envelopes ++ (map drop_put ended_envelopes ++ (map security_returned ended_securities ++ last_puts)))))) (after_lines (freed_line t.lines open_lots) open_lots t)
      ∙ after-append (map cancelled_lot_put open_lots) (map award_put ended_awards ++ (map envelope_put ended_envelopes ++ (map drop_put ended_envelopes ++ (map security_returned ended_securities ++ last_puts)))) t1
      ∙ ap (after_puts (map award_put ended_awards ++ (map envelope_put ended_envelopes ++ (map drop_put ended_envelopes ++ (map security_returned ended_securities ++ last_puts))))) (after_lots cancelled_lot open_lots t1)
      ∙ after-append (map award_put ended_awards) (map envelope_put ended_envelopes ++ (map drop_put ended_envelopes ++ (map security_returned ended_securities ++ last_puts))) t2
      ∙ ap (after_puts (map envelope_put ended_envelopes ++ (map drop_put ended_envelopes ++ (map security_returned ended_securities ++ last_puts)))) (after_awards cancelled_award ended_awards t2)
      ∙ after-append (map envelope_put ended_envelopes) (map drop_put ended_envelopes ++ (map security_returned ended_securities ++ last_puts)) t3
      ∙ ap (after_puts (map drop_put ended_envelopes ++ (map security_returned ended_securities ++ last_puts))) (after_envelopes returned_envelope ended_envelopes t3)
      ∙ after-append (map drop_put ended_envelopes) (map security_returned ended_securities ++ last_puts) t4
      ∙ ap (after_puts (map security_returned ended_securities ++ last_puts)) (after_drops (λ (e : EnvelopeRow). e.receipt) ended_envelopes t4)
      ∙ after-append (map security_returned ended_securities) last_puts t5
      ∙ ap (after_puts last_puts) (after_securities returned ended_securities t5)

  -- the tender is returned
  abbrev envelope_test : EnvelopeRow → Bool
  envelope_test e = same_id e.notice name && is_ended_envelope lots e

  envelopes_are : (r : ℕ) → envelope_at r after ≡ option_map (c.envelope_to r) (envelope_at r t)
  envelopes_are r =
      ap (λ rows. Rattle.office_base.specs.Tables.find_envelope (rows_put nat_cmp envelope_key t.envelopes (map returned_envelope rows)) r) (filter_filter (is_ended_envelope lots) (λ (e : EnvelopeRow). same_id e.notice name) t.envelopes)
      ∙ row_at-changed nat_cmp_total nat_cmp-IsAntisymmetric envelope_key returned_envelope (λ e. refl) envelope_test t.envelopes r kept.order.envelopes
      ∙ tests_agree envelope_test (λ (e : EnvelopeRow). is_sealed e.state && E e.notice e.lot) returned_envelope (envelope_at r t) (λ e at. of_notice_too e.notice e.lot (is_sealed e.state) (E e.notice e.lot) refl)

  securities_are : (s : ℕ) → security_at s after ≡ option_map (c.security_to s) (security_at s t)
  securities_are s =
      ap (λ rows. Rattle.office_base.specs.Tables.find_security (rows_put nat_cmp security_key t.securities (map returned rows)) s) (filter_filter (is_ended_security lots) (λ (w : SecurityRow). same_id w.notice name) t.securities)
      ∙ row_at-changed nat_cmp_total nat_cmp-IsAntisymmetric security_key returned (λ w. refl) (λ (w : SecurityRow). same_id w.notice name && is_ended_security lots w) t.securities s kept.order.securities
      ∙ tests_agree (λ (w : SecurityRow). same_id w.notice name && is_ended_security lots w) (λ (w : SecurityRow). is_held w.state && E w.notice w.lot) returned (security_at s t)
      (λ w at. of_notice_too w.notice w.lot (is_held w.state) (E w.notice w.lot) refl)

  awards_are : (a : ℕ) → award_at a after ≡ option_map (c.award_to a) (award_at a t)
  awards_are a =
      ap (λ rows. Rattle.office_base.specs.Tables.find_award (rows_put nat_cmp award_key t.awards (map cancelled_award rows)) a) (filter_filter (is_ended_award lots) (λ (w : AwardRow). same_id w.notice name) t.awards)
      ∙ row_at-changed nat_cmp_total nat_cmp-IsAntisymmetric award_key cancelled_award (λ w. refl) (λ (w : AwardRow). same_id w.notice name && is_ended_award lots w) t.awards a kept.order.awards
      ∙ tests_agree (λ (w : AwardRow). same_id w.notice name && is_ended_award lots w) (λ (w : AwardRow). is_active w.state && E w.notice w.lot) cancelled_award (award_at a t)
      (λ w at. of_notice_too w.notice w.lot (is_active w.state) (E w.notice w.lot) refl)

  lot_by : (r : LotRow) (b : Bool)
      → (let o : Option LotRow = cond (b && is_open_lot r) (Some (cancelled_lot r)) (Some r) in option_map lot_state o) ≡ Some (cond (holds_of is_open_lot (cond b (Some r) None)) lot.Cancelled r.state)
  lot_by r true = by (is_open_lot r)
    where
      by : (b : Bool)
          → (let o : Option LotRow = cond b (Some (cancelled_lot r)) (Some r) in option_map lot_state o) ≡ Some (cond b lot.Cancelled r.state)
      by true = refl
      by false = refl
  lot_by r false = refl

  changed_out : (b : Bool) (y x : LotRow) → Some (cond b y x) ≡ cond b (Some y) (Some x)
  changed_out true y x = refl
  changed_out false y x = refl

  lots_by : (o : Option LotRow) → option_map lot_state (option_map (changed (λ (r : LotRow). of_notice name r && is_open_lot r) cancelled_lot) o)
      ≡ option_map (λ s. cond (holds_of is_open_lot (if_passes (of_notice name) o)) lot.Cancelled s) (option_map lot_state o)
  lots_by None = refl
  lots_by (Some r) = ap (option_map lot_state) (changed_out (of_notice name r && is_open_lot r) (cancelled_lot r) r) ∙ lot_by r (of_notice name r)

  lots_are : (k : List ℕ × List ℕ) → (seen after).lot_at k ≡ option_map (c.lot_to k) ((seen t).lot_at k)
  lots_are k =
      ap (λ rows. option_map lot_state (find_lot (rows_put lot_cmp lot_key t.lots (map cancelled_lot rows)) k)) (filter_filter is_open_lot (of_notice name) t.lots)
      ∙ ap (option_map lot_state) (row_at-changed lots_total lots_exact lot_key cancelled_lot (λ l. refl) (λ (r : LotRow). of_notice name r && is_open_lot r) t.lots k kept.order.lots)
      ∙ lots_by (lot_at k t)
      ∙ ap (λ b. option_map (λ s. cond b lot.Cancelled s) ((seen t).lot_at k)) (sym (ends_is k.0 k.1))

  seen_is : seen after ≡ after_change c (seen t)
  seen_is =
      alike (seen after) (after_change c (seen t)) envelopes_are securities_are awards_are lots_are
      (λ q. notices_put t.notices name q n cancelled_notice (λ s. cond (is_receiving s) notice.Cancelled s) (λ n. refl) (λ n. refl) found)

  -- the seals after the cancellation
  seal_is : (r : ℕ) → seal_at r after ≡ cond (holds_of envelope_test (envelope_at r t)) None (seal_at r t)
  seal_is r =
      ap (λ rows. Rattle.office_base.specs.Tables.find_seal (rows_drop nat_cmp seal_key t.seals (map (λ (e : EnvelopeRow). e.receipt) rows)) r) (filter_filter (is_ended_envelope lots) (λ (e : EnvelopeRow). same_id e.notice name) t.envelopes)
      ∙ row_at-drops envelope_test t.envelopes t.seals r kept.order.seals
      ∙ ap (λ b. cond b None (seal_at r t)) (some_passes_is nat_cmp_total nat_cmp-IsAntisymmetric envelope_key envelope_test t.envelopes r kept.order.envelopes)

  seal_goes : (r : ℕ) (d : EnvelopeRow) (a : Reception) → envelope_at r t ≡ Some d → EnvelopeIs readings.digest r a (fate_of_tender xs r) d (seal_at r t)
      → seal_at r after ≡ cond (is_kept (c.envelope_to r d).state) (Some (record { receipt = r; bytes = a.bytes })) None
  seal_goes r d a at is =
      seal_is r
      ∙ ap (λ b. cond b None (seal_at r t)) (ap (holds_of envelope_test) at ∙ of_notice_too d.notice d.lot (is_sealed d.state) (E d.notice d.lot) refl)
      ∙ by (is_sealed d.state && E d.notice d.lot)
    where
      by : (b : Bool)
          → cond b None (seal_at r t) ≡ cond (is_kept (let d' : EnvelopeRow = cond b (returned_envelope d) d in d'.state)) (Some (record { receipt = r; bytes = a.bytes })) None
      by true = refl
      by false = is.seal_is

  tender_goes : (r : ℕ) (d : EnvelopeRow) (a : Reception) → envelope_at r t ≡ Some d → received_at xs r ≡ Some a
      → EnvelopeIs readings.digest r a (fate_of_tender xs r) d (seal_at r t)
      → (c.envelope_to r d).state ≡ cond (is_sealed d.state) (tender_decided (Cancel name rationale) x (received_at xs) r) d.state
  tender_goes r d a at came_is is =
      by d.state refl
      ∙ ap (λ b. cond (is_sealed d.state) (cond b envelope.Returned envelope.Sealed) d.state) (ap (λ q. same_id q name) is.of_notice ∙ sym (ap (is_of_notice name) came_is))
    where
      by : (s : EnvelopeState) → d.state ≡ s
          → (let d' : EnvelopeRow = cond (is_sealed s && E d.notice d.lot) (returned_envelope d) d in d'.state) ≡ cond (is_sealed s) (cond (same_id d.notice name) envelope.Returned envelope.Sealed) s
      by envelope.Sealed e =
          let same = ends_here d.notice d.lot (sealed_live (seen t) kept.sound d (kept.sound.envelopes r d at) e) (E d.notice d.lot) (same_id d.notice name) refl refl in
          ap (λ b. let d' : EnvelopeRow = cond b (returned_envelope d) d in d'.state) same ∙ both (same_id d.notice name)
        where
          both : (b : Bool) → (let d' : EnvelopeRow = cond b (returned_envelope d) d in d'.state) ≡ cond b envelope.Returned envelope.Sealed
          both true = refl
          both false = e
      by envelope.Withdrawn e = e
      by envelope.Returned e = e
      by envelope.Opened e = e

  security_goes : (s : ℕ) (w : SecurityRow) (a : Reception) (named : NamedSecurity) → security_at s t ≡ Some w → received_at xs s ≡ Some a
      → SecurityIs s a named (fate_of_security xs s) w
      → (c.security_to s w).state ≡ cond (is_held w.state) (security_decided (Cancel name rationale) x (received_at xs) s) w.state
  security_goes s w a named at came_is is =
      by w.state refl
      ∙ ap (λ b. cond (is_held w.state) (cond b security.Returned security.Held) w.state) (ap (λ q. same_id q name) is.of_notice ∙ sym (ap (is_of_notice name) came_is))
    where
      by : (st : SecurityState) → w.state ≡ st
          → (let w' : SecurityRow = cond (is_held st && E w.notice w.lot) (returned w) w in w'.state) ≡ cond (is_held st) (cond (same_id w.notice name) security.Returned security.Held) st
      by security.Held e =
          let same = ends_here w.notice w.lot (kept.sound.securities s w at e) (E w.notice w.lot) (same_id w.notice name) refl refl in
          ap (λ b. let w' : SecurityRow = cond b (returned w) w in w'.state) same ∙ both (same_id w.notice name)
        where
          both : (b : Bool) → (let w' : SecurityRow = cond b (returned w) w in w'.state) ≡ cond b security.Returned security.Held
          both true = refl
          both false = e
      by security.Returned e = e
      by security.Forfeited e = e

  cancelled_kept : HaveFates readings (x ∷ xs) after
  cancelled_kept =
      kept_by_change readings xs x t after c kept (fair_cancelling (seen t) kept.sound name E ends_only ends_all)
      (record {
        none = refl;
        seen_is = seen_is;
        receipts_are = refl;
        e_keeps = record {
          notice = λ r d. cond_keeps (λ (e : EnvelopeRow). e.notice) (is_sealed d.state && E d.notice d.lot) (returned_envelope d) d refl;
          lot = λ r d. cond_keeps (λ (e : EnvelopeRow). e.lot) (is_sealed d.state && E d.notice d.lot) (returned_envelope d) d refl;
          tenderer = λ r d. cond_keeps (λ (e : EnvelopeRow). e.tenderer) (is_sealed d.state && E d.notice d.lot) (returned_envelope d) d refl;
          security = λ r d. cond_keeps (λ (e : EnvelopeRow). e.security) (is_sealed d.state && E d.notice d.lot) (returned_envelope d) d refl;
          moment = λ r d. cond_keeps (λ (e : EnvelopeRow). e.moment) (is_sealed d.state && E d.notice d.lot) (returned_envelope d) d refl;
          len = λ r d. cond_keeps (λ (e : EnvelopeRow). e.length) (is_sealed d.state && E d.notice d.lot) (returned_envelope d) d refl;
          digest = λ r d. cond_keeps (λ (e : EnvelopeRow). e.digest) (is_sealed d.state && E d.notice d.lot) (returned_envelope d) d refl;
        };
        s_keeps = record {
          number = λ s w. cond_keeps (λ (w : SecurityRow). w.security) (is_held w.state && E w.notice w.lot) (returned w) w refl;
          notice = λ s w. cond_keeps (λ (w : SecurityRow). w.notice) (is_held w.state && E w.notice w.lot) (returned w) w refl;
          lot = λ s w. cond_keeps (λ (w : SecurityRow). w.lot) (is_held w.state && E w.notice w.lot) (returned w) w refl;
          tenderer = λ s w. cond_keeps (λ (w : SecurityRow). w.tenderer) (is_held w.state && E w.notice w.lot) (returned w) w refl;
          reference = λ s w. cond_keeps (λ (w : SecurityRow). w.reference) (is_held w.state && E w.notice w.lot) (returned w) w refl;
          amount = λ s w. cond_keeps (λ (w : SecurityRow). w.amount) (is_held w.state && E w.notice w.lot) (returned w) w refl;
        };
        tender_goes = tender_goes;
        seal_goes = seal_goes;
        no_seal = λ r at none. seal_is r ∙ ap (λ b. cond b None (seal_at r t)) (ap (holds_of envelope_test) at) ∙ none;
        security_goes = security_goes;
      })

cancel_by : (readings : Readings) (name rationale : List ℕ) (xs : List Given) (t : Tables) (m : ℕ) (caller : Caller) (kept : FatesStand readings xs t) (o : Option NoticeRow) → notice_at name t ≡ o
    → first_of (cancel_tests (record { notice = o; lines = []; lots = lots_of_notice name t; awards = []; envelopes = []; securities = []; clock = t.clock })) ≡ None
    → HaveFates readings (given t m caller (Cancel name rationale) ∷ xs)
    (after_puts (cancel_puts (record { notice = o; lines = t.lines; lots = lots_of_notice name t; awards = awards_of_notice name t; envelopes = envelopes_of_notice name t; securities = securities_of_notice name t; clock = t.clock }) (max m t.clock.moment)) t)
cancel_by readings name rationale xs t m caller kept None found allowed =
    let passes : AllByRecursion (λ (test : Bool × Refusal). test.0 ≡ false) (cancel_tests (record { notice = None; lines = []; lots = lots_of_notice name t; awards = []; envelopes = []; securities = []; clock = t.clock })) = none_holds (cancel_tests (record { notice = None; lines = []; lots = lots_of_notice name t; awards = []; envelopes = []; securities = []; clock = t.clock })) allowed in
    let no : true ≡ false = passes.0 in absurd cc
cancel_by readings name rationale xs t m caller kept (Some n) found allowed =
    subst (HaveFates readings (given t m caller (Cancel name rationale) ∷ xs)) (sym (after_is readings name rationale xs t m caller kept n found)) (cancelled_kept readings name rationale xs t m caller kept n found)

pub cancel_keeps : (readings : Readings) (notice : List ℕ) (rationale : List ℕ) → Keeps readings (Cancel notice rationale)
cancel_keeps readings name rationale xs t m caller kept _ allowed = cancel_by readings name rationale xs t m caller kept (notice_at name t) refl allowed
