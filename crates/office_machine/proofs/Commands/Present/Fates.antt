-- A submission keeps the fates.
use Rattle.office_machine.proofs.Names.{◌≡◌, ℕ, ◌+◌, Bool, true, false, cond, not, List, ◌∷◌, Option, Some, None, option_map, is_some, max, nat_le, refl, sym, ap, ◌∙◌, subst, AllByRecursion, nat_cmp_total, nat_cmp, eq_by_cmp, same_number, Tables, envelope_key, seal_key, security_key, envelope_at, seal_at, security_at, notice_at, lot_at, envelopes_of_lot, after_puts, Caller, NamedSecurity, Present, Refusal, holds_of, NoticeRow, EnvelopeRow, SealRow, SecurityRow, LotState, Put, is_cancelled, is_opened, is_in_time, received, received_puts, present_tests, Given, Readings, presented, received_at, received_by, tender_decided, fate_after, fate_of_tender, first_state, security_received, security_decided, security_after, fate_of_security, is_kept, row_at-row_put}
use Rattle.office_base.specs.declared.records.EnvelopeState.TheVariants as envelope
use Rattle.office_base.specs.declared.records.SecurityState.TheVariants as security
use Rattle.office_base.specs.declared.records.NoticeState.TheVariants as notice
use Rattle.office_base.specs.declared.records.LotState.TheVariants as lot
use Rattle.tender_core.specs.Rules.Present.{security_made}
use Rattle.office_machine.proofs.Rows.Counting.{is_live}
use Rattle.office_machine.proofs.Passed.{none_holds, not_false}
use Rattle.office_machine.proofs.FateLaws.Views.{View, IsSound, IsSecured, EnvelopeFits}
use Rattle.office_machine.proofs.FateLaws.Added.{added, sound_envelope, sound_security}
use Rattle.office_machine.proofs.FateLaws.Matched.{EnvelopesMatch, EnvelopeStands, SecuritiesMatch, SecurityStands, named_in, same_itself, envelopes_received, securities_added}
use Rattle.office_machine.proofs.FateLaws.Steps.{both_true}
use Rattle.office_machine.proofs.FateLaws.Seen.{seen, alike, lot_state, notice_state}
use Rattle.office_machine.proofs.FateLaws.FatesHold.{FatesStand, HaveFates, Keeps, given, fate_goes, security_goes, still_sealed, still_held, all_keep}
use Rattle.office_machine.proofs.FateLaws.States.{map_same, receiving_state}
use Rattle.office_machine.proofs.FateLaws.NextReceipt.{none_fate, none_security, came_other, came_here, no_envelope_yet, nothing_yet, no_security_yet, securities_stay}

there_some : {X Y : Type 0} (f : X → Y) (o : Option X) → is_some o ≡ true → is_some (option_map f o) ≡ true
there_some f None h = h
there_some f (Some x) h = refl

lives : (o : Option LotState) → is_some o ≡ true → ((l : LotState) → o ≡ Some l → l ≡ lot.Undecided) → is_live o ≡ true
lives None there h = there
lives (Some l) there h = ap (λ x. is_live (Some x)) (h l refl)

-- if the tender is in time and its notice isn't cancelled, the notice is receiving
in_time_receiving : (t : ℕ) (o : Option NoticeRow) → holds_of (λ (n : NoticeRow). is_cancelled n.state) o ≡ false → holds_of (is_in_time t) o ≡ true
    → option_map notice_state o ≡ Some notice.Receiving
in_time_receiving t None unended in_time = cc
in_time_receiving t (Some n) unended in_time =
    ap Some (receiving_state n.state unended (negated (is_opened n.state) (both_true (nat_le t n.deadline) (not (is_opened n.state)) in_time).1))
  where
    negated : (b : Bool) → not b ≡ true → b ≡ false
    negated true h = cc
    negated false h = refl

module _ (readings : Readings) (name lot_name : List ℕ) (bytes : List ℕ) (xs : List Given) (t : Tables) (m : ℕ) (caller : Caller)
    (kept : FatesStand readings xs t) (sec : Option NamedSecurity)
    (b : Bool) (b_is : holds_of (is_in_time (max m t.clock.moment)) (notice_at name t) ≡ b)
    (notice_there : is_some (notice_at name t) ≡ true) (lot_there : is_some (lot_at (name, lot_name) t) ≡ true)
    (unended : holds_of (λ (n : NoticeRow). is_cancelled n.state) (notice_at name t) ≡ false) where
  abbrev T : ℕ
  T = max m t.clock.moment

  abbrev x : Given
  x = given t m caller (Present name lot_name sec bytes)

  abbrev k : ℕ
  k = t.clock.receipts + 1

  abbrev new : EnvelopeRow
  new = received readings.digest t.clock T caller name lot_name sec bytes b

  abbrev V : View
  V = seen t

  receiving : b ≡ true → V.notice_at name ≡ Some notice.Receiving
  receiving in_time = in_time_receiving T (notice_at name t) unended (b_is ∙ in_time)

  live : b ≡ true → is_live (V.lot_at (name, lot_name)) ≡ true
  live in_time =
      lives (V.lot_at (name, lot_name)) (there_some lot_state (lot_at (name, lot_name) t) lot_there)
      (λ l at. kept.sound.undecided (name, lot_name) l (receiving in_time) at)

  sealed_in_time : cond b envelope.Sealed envelope.Returned ≡ envelope.Sealed → b ≡ true
  sealed_in_time h = by b h
    where
      by : (b : Bool) → cond b envelope.Sealed envelope.Returned ≡ envelope.Sealed → b ≡ true
      by true h = refl
      by false h = cc

  held_in_time : cond b security.Held security.Returned ≡ security.Held → b ≡ true
  held_in_time h = by b h
    where
      by : (b : Bool) → cond b security.Held security.Returned ≡ security.Held → b ≡ true
      by true h = refl
      by false h = cc

  -- the office after the new security
  module _ (S : ℕ → Option SecurityRow) (sound_S : IsSound (record V { security_at = S }))
      (secured : (s : ℕ) → new.security ≡ Some s → IsSecured (record V { security_at = S }) new s) where
    abbrev W : View
    W = record V { security_at = S }

    new_fits : EnvelopeFits W new
    new_fits = record {
      noticed = there_some notice_state (notice_at name t) notice_there;
      housed = there_some lot_state (lot_at (name, lot_name) t) lot_there;
      receiving = λ h. receiving (sealed_in_time h);
      secured = secured;
    }

    sound_new : IsSound (record W { envelope_at = added k new (λ r. envelope_at r t) })
    sound_new =
        sound_envelope k new W sound_S (no_envelope_yet readings xs t kept) new_fits

  abbrev new_seal : SealRow
  new_seal = record { receipt = k; bytes = bytes }

  came_new : received_at (x ∷ xs) k ≡ Some (presented x name lot_name sec bytes)
  came_new =
      came_here (received_at xs k) (Some (presented x name lot_name sec bytes)) (same_number k k) (nothing_yet readings xs t kept).no_reception (same_itself k)

  -- the tables after the command
  module _ (u : Tables) (envelopes_are : (r : ℕ) → envelope_at r u ≡ added k new (λ r. envelope_at r t) r)
      (seals_are : (r : ℕ) → seal_at r u ≡ cond b (cond (eq_by_cmp nat_cmp r k) (Some new_seal) (seal_at r t)) (seal_at r t)) where
    other_seal : (r : ℕ) → eq_by_cmp nat_cmp r k ≡ false → seal_at r u ≡ seal_at r t
    other_seal r other = seals_are r ∙ ap (λ a. cond b (cond a (Some new_seal) (seal_at r t)) (seal_at r t)) other ∙ by b
      where
        by : (b : Bool) → cond b (seal_at r t) (seal_at r t) ≡ seal_at r t
        by true = refl
        by false = refl

    here_seal : seal_at k u ≡ cond (is_kept new.state) (Some new_seal) None
    here_seal =
        seals_are k
        ∙ ap (λ a. cond b (cond a (Some new_seal) (seal_at k t)) (seal_at k t)) (same_itself k)
        ∙ ap (λ o. cond b (Some new_seal) o) (nothing_yet readings xs t kept).no_seal
        ∙ by b
      where
        by : (b : Bool) → cond b (Some new_seal) None ≡ cond (is_kept (cond b envelope.Sealed envelope.Returned)) (Some new_seal) None
        by true = refl
        by false = refl

    new_stands : EnvelopeStands readings.digest k (received_at (x ∷ xs) k) (fate_of_tender (x ∷ xs) k) new (seal_at k u)
    new_stands = record {
      came = presented x name lot_name sec bytes;
      came_is = came_new;
      stands = record {
        of_notice = refl;
        of_lot = refl;
        of_tenderer = refl;
        security_is = refl;
        moment_is = refl;
        length_is = refl;
        digest_is = refl;
        fate_is =
            ap (λ o. fate_after o (received_at (x ∷ xs) k) (tender_decided (Present name lot_name sec bytes) x (received_at xs) k)) (nothing_yet readings xs t kept).no_fate
            ∙ ap (option_map first_state) came_new
            ∙ ap (λ b. Some (cond b envelope.Sealed envelope.Returned)) b_is;
        seal_is = here_seal;
      };
    }

    tenders_after : EnvelopesMatch readings.digest (received_at (x ∷ xs)) (fate_of_tender (x ∷ xs)) (λ r. seal_at r u) k (added k new (λ r. option_map (λ e. e) (envelope_at r t)))
    tenders_after =
        envelopes_received readings.digest (received_at xs) (received_at (x ∷ xs)) (fate_of_tender xs) (fate_of_tender (x ∷ xs)) (λ r. seal_at r t) (λ r. seal_at r u) t.clock.receipts (λ r. envelope_at r t)
        kept.tenders (λ r e. e) (all_keep readings.digest) new
        (λ r other. came_other (received_at xs r) (received_by (Present name lot_name sec bytes) x (λ q. received_at xs q)) (same_number r k) other)
        (λ r d other at a came_is is. record {
          fate_is =
              fate_goes (fate_of_tender xs r) d.state (received_at (x ∷ xs) r) (tender_decided (Present name lot_name sec bytes) x (received_at xs) r) is.fate_is
              ∙ sym (ap Some (still_sealed d.state));
          seal_is = other_seal r other ∙ is.seal_is;
        })
        (λ r other at was.
        let none = came_other (received_at xs r) (received_by (Present name lot_name sec bytes) x (λ q. received_at xs q)) (same_number r k) other ∙ was.no_reception in
        record {
          no_reception = none;
          no_fate =
              none_fate (fate_of_tender xs r) (received_at (x ∷ xs) r) (tender_decided (Present name lot_name sec bytes) x (received_at xs) r) was.no_fate none;
          no_seal = other_seal r other ∙ was.no_seal;
        })
        new_stands

    envelopes_same : (r : ℕ) → added k new (λ r. option_map (λ e. e) (envelope_at r t)) r ≡ envelope_at r u
    envelopes_same r = ap (cond (eq_by_cmp nat_cmp r k) (Some new)) (sym (map_same (envelope_at r t))) ∙ sym (envelopes_are r)

    pub tenders_are : EnvelopesMatch readings.digest (received_at (x ∷ xs)) (fate_of_tender (x ∷ xs)) (λ r. seal_at r u) k (λ r. envelope_at r u)
    tenders_are =
        subst (EnvelopesMatch readings.digest (received_at (x ∷ xs)) (fate_of_tender (x ∷ xs)) (λ r. seal_at r u) k) (λ i r. envelopes_same r i) tenders_after

-- the fates after a submission, with a security and without one
module _ (readings : Readings) (name lot_name : List ℕ) (bytes : List ℕ) (xs : List Given) (t : Tables) (m : ℕ) (caller : Caller) (kept : FatesStand readings xs t)
    (notice_there : is_some (notice_at name t) ≡ true) (lot_there : is_some (lot_at (name, lot_name) t) ≡ true)
    (unended : holds_of (λ (n : NoticeRow). is_cancelled n.state) (notice_at name t) ≡ false) where
  abbrev given_present : Option NamedSecurity → Given
  given_present sec = given t m caller (Present name lot_name sec bytes)

  abbrev next : ℕ
  next = t.clock.receipts + 1

  abbrev ps : Option NamedSecurity → Bool → List Put
  ps sec b = received_puts readings.digest t.clock (max m t.clock.moment) caller name lot_name sec bytes b

  abbrev row : Option NamedSecurity → Bool → EnvelopeRow
  row sec b = received readings.digest t.clock (max m t.clock.moment) caller name lot_name sec bytes b

  envelopes_put : (sec : Option NamedSecurity) (b : Bool) (r : ℕ)
      → Rattle.office_base.specs.Tables.find_envelope (Rattle.office_base.specs.Tables.put_envelope t.envelopes (row sec b)) r ≡ added next (row sec b) (λ r. envelope_at r t) r
  envelopes_put sec b r = row_at-row_put nat_cmp_total envelope_key t.envelopes (row sec b) r

  abbrev kept_seal : SealRow
  kept_seal = record { receipt = next; bytes = bytes }

  seals_put : (r : ℕ)
      → Rattle.office_base.specs.Tables.find_seal (Rattle.office_base.specs.Tables.put_seal t.seals kept_seal) r ≡ cond (eq_by_cmp nat_cmp r next) (Some kept_seal) (seal_at r t)
  seals_put r = row_at-row_put nat_cmp_total seal_key t.seals kept_seal r

  -- without a security
  module _ (b : Bool) (b_is : holds_of (is_in_time (max m t.clock.moment)) (notice_at name t) ≡ b) (u : Tables)
      (envelopes_are : (r : ℕ) → envelope_at r u ≡ added next (row None b) (λ r. envelope_at r t) r)
      (seals_are : (r : ℕ) → seal_at r u ≡ cond b (cond (eq_by_cmp nat_cmp r next) (Some kept_seal) (seal_at r t)) (seal_at r t))
      (rest : seen u ≡ record (seen t) { envelope_at = λ r. envelope_at r u }) (receipts_are : u.clock.receipts ≡ next)
      (securities_same : u.securities ≡ t.securities) where
    no_number : {A : Type 0} (s : ℕ) → (let o : Option ℕ = None in o) ≡ Some s → A
    no_number s h = absurd (let no : (let o : Option ℕ = None in o) ≡ Some s = h in cc)

    unnamed_kept : HaveFates readings (given_present None ∷ xs) u
    unnamed_kept = record {
      sound =
          subst IsSound (ap (λ (E : ℕ → Option EnvelopeRow). record (seen t) { envelope_at = E }) (sym (λ i r. envelopes_are r i)) ∙ sym rest)
          (sound_new readings name lot_name bytes xs t m caller kept None b b_is notice_there lot_there unended (λ s. security_at s t) kept.sound (λ s h. no_number s h));
      tenders =
          subst (λ (n : ℕ). EnvelopesMatch readings.digest (received_at (given_present None ∷ xs)) (fate_of_tender (given_present None ∷ xs)) (λ r. seal_at r u) n (λ r. envelope_at r u)) (sym receipts_are)
          (tenders_are readings name lot_name bytes xs t m caller kept None b b_is notice_there lot_there unended u envelopes_are seals_are);
      named =
          subst (λ (rows : List SecurityRow). SecuritiesMatch (received_at (given_present None ∷ xs)) (fate_of_security (given_present None ∷ xs)) (λ s. Rattle.office_base.specs.Tables.find_security rows s)) (sym securities_same)
          (securities_stay readings xs t kept (given_present None) refl (λ s. refl));
    }

  unnamed : (b : Bool) → holds_of (is_in_time (max m t.clock.moment)) (notice_at name t) ≡ b
      → HaveFates readings (given_present None ∷ xs) (after_puts (ps None b) t)
  unnamed true b_is =
      unnamed_kept true b_is (after_puts (ps None true) t) (envelopes_put None true) seals_put refl refl refl
  unnamed false b_is =
      unnamed_kept false b_is (after_puts (ps None false) t) (envelopes_put None false)
      (λ r. refl) refl refl refl

  -- with a security
  module _ (named : NamedSecurity) (b : Bool) (b_is : holds_of (is_in_time (max m t.clock.moment)) (notice_at name t) ≡ b) (u : Tables)
      (envelopes_are : (r : ℕ) → envelope_at r u ≡ added next (row (Some named) b) (λ r. envelope_at r t) r)
      (seals_are : (r : ℕ) → seal_at r u ≡ cond b (cond (eq_by_cmp nat_cmp r next) (Some kept_seal) (seal_at r t)) (seal_at r t))
      (securities_are : (s : ℕ) → security_at s u ≡ added next (security_made t.clock caller name lot_name b named) (λ s. security_at s t) s)
      (rest : seen u ≡ record (seen t) { envelope_at = λ r. envelope_at r u; security_at = λ s. security_at s u })
      (receipts_are : u.clock.receipts ≡ next) where
    abbrev w : SecurityRow
    w = security_made t.clock caller name lot_name b named

    abbrev S : ℕ → Option SecurityRow
    S = added next w (λ s. security_at s t)

    abbrev N : View
    N = record (seen t) { security_at = S }

    sound_N : IsSound N
    sound_N =
        sound_security next w (seen t) kept.sound (no_security_yet readings xs t kept)
        (λ h. live readings name lot_name bytes xs t m caller kept (Some named) b b_is notice_there lot_there unended (held_in_time readings name lot_name bytes xs t m caller kept (Some named) b b_is notice_there lot_there unended h))

    number_is : (s : ℕ) → (row (Some named) b).security ≡ Some s → s ≡ next
    number_is s h = let same : Some next ≡ Some s = h in cc

    secured : (s : ℕ) → (row (Some named) b).security ≡ Some s → IsSecured N (row (Some named) b) s
    secured s h = record {
      row = w;
      found = ap S (number_is s h) ∙ ap (λ a. cond a (Some w) (security_at next t)) (same_itself next);
      of_notice = refl;
      of_lot = refl;
    }

    came_is : received_at (given_present (Some named) ∷ xs) next ≡ Some (presented (given_present (Some named)) name lot_name (Some named) bytes)
    came_is = came_new readings name lot_name bytes xs t m caller kept (Some named) b b_is notice_there lot_there unended

    security_stands : SecurityStands next (received_at (given_present (Some named) ∷ xs) next) (fate_of_security (given_present (Some named) ∷ xs) next) w
    security_stands = record {
      came_with = presented (given_present (Some named)) name lot_name (Some named) bytes;
      came_is = came_is;
      named = named;
      named_is = refl;
      stands = record {
        number_is = refl;
        of_notice = refl;
        of_lot = refl;
        of_tenderer = refl;
        reference_is = refl;
        amount_is = refl;
        fate_is =
            ap (λ o. security_after o (received_at (given_present (Some named) ∷ xs) next) (security_decided (Present name lot_name (Some named) bytes) (given_present (Some named)) (received_at xs) next))
            (nothing_named (kept.named.none next (no_security_yet readings xs t kept)))
            ∙ ap security_received came_is
            ∙ ap (λ b. Some (cond b security.Held security.Returned)) b_is;
      };
    } where
      nothing_named : Rattle.office_machine.proofs.FateLaws.Matched.NoSecurity (received_at xs next) (fate_of_security xs next) → fate_of_security xs next ≡ None
      nothing_named was = was.no_fate

    securities_after : SecuritiesMatch (received_at (given_present (Some named) ∷ xs)) (fate_of_security (given_present (Some named) ∷ xs)) S
    securities_after =
        securities_added (received_at xs) (received_at (given_present (Some named) ∷ xs)) (fate_of_security xs) (fate_of_security (given_present (Some named) ∷ xs)) (λ s. security_at s t) kept.named next w
        (λ s other. came_other (received_at xs s) (Some (presented (given_present (Some named)) name lot_name (Some named) bytes)) (same_number s next) other)
        (λ s v other found fate_is.
        security_goes (fate_of_security xs s) v.state (received_at (given_present (Some named) ∷ xs) s) security.Held fate_is ∙ ap Some (sym (still_held v.state)))
        (λ s other found was.
        let same = came_other (received_at xs s) (Some (presented (given_present (Some named)) name lot_name (Some named) bytes)) (same_number s next) other in
        let none = ap named_in same ∙ was.none_named in
        record { none_named = none; no_fate = none_security (fate_of_security xs s) (received_at (given_present (Some named) ∷ xs) s) security.Held was.no_fate none })
        security_stands

    named_kept : HaveFates readings (given_present (Some named) ∷ xs) u
    named_kept = record {
      sound =
          subst IsSound
          (alike (record N { envelope_at = added next (row (Some named) b) (λ r. envelope_at r t) }) (record (seen t) { envelope_at = λ r. envelope_at r u; security_at = λ s. security_at s u })
          (λ r. sym (envelopes_are r)) (λ s. sym (securities_are s)) (λ a. refl) (λ k. refl) (λ n. refl)
          ∙ sym rest)
          (sound_new readings name lot_name bytes xs t m caller kept (Some named) b b_is notice_there lot_there unended S sound_N secured);
      tenders =
          subst (λ (n : ℕ). EnvelopesMatch readings.digest (received_at (given_present (Some named) ∷ xs)) (fate_of_tender (given_present (Some named) ∷ xs)) (λ r. seal_at r u) n (λ r. envelope_at r u)) (sym receipts_are)
          (tenders_are readings name lot_name bytes xs t m caller kept (Some named) b b_is notice_there lot_there unended u envelopes_are seals_are);
      named =
          subst (SecuritiesMatch (received_at (given_present (Some named) ∷ xs)) (fate_of_security (given_present (Some named) ∷ xs))) (sym (λ i s. securities_are s i)) securities_after;
    }

  securities_put : (named : NamedSecurity) (b : Bool) (s : ℕ)
      → Rattle.office_base.specs.Tables.find_security (Rattle.office_base.specs.Tables.put_security t.securities (security_made t.clock caller name lot_name b named)) s
      ≡ added next (security_made t.clock caller name lot_name b named) (λ s. security_at s t) s
  securities_put named b s = row_at-row_put nat_cmp_total security_key t.securities (security_made t.clock caller name lot_name b named) s

  with_security : (named : NamedSecurity) (b : Bool) → holds_of (is_in_time (max m t.clock.moment)) (notice_at name t) ≡ b
      → HaveFates readings (given_present (Some named) ∷ xs) (after_puts (ps (Some named) b) t)
  with_security named true b_is =
      named_kept named true b_is (after_puts (ps (Some named) true) t) (envelopes_put (Some named) true) seals_put (securities_put named true) refl refl
  with_security named false b_is =
      named_kept named false b_is (after_puts (ps (Some named) false) t) (envelopes_put (Some named) false) (λ r. refl) (securities_put named false) refl refl

  presented_kept : (sec : Option NamedSecurity) (b : Bool) → holds_of (is_in_time (max m t.clock.moment)) (notice_at name t) ≡ b
      → HaveFates readings (given_present sec ∷ xs) (after_puts (ps sec b) t)
  presented_kept None b b_is = unnamed b b_is
  presented_kept (Some named) b b_is = with_security named b b_is

pub present_keeps : (readings : Readings) (notice lot : List ℕ) (security : Option NamedSecurity) (bytes : List ℕ)
    → Keeps readings (Present notice lot security bytes)
present_keeps readings name lot_name sec bytes xs t m caller kept _ allowed =
    let tests = present_tests (record { notice = notice_at name t; lot = (lot_at (name, lot_name) t); envelopes = envelopes_of_lot name lot_name t; clock = t.clock }) (max m t.clock.moment) caller sec in
    let passes : AllByRecursion (λ (test : Bool × Refusal). test.0 ≡ false) tests = none_holds tests allowed in
    presented_kept readings name lot_name bytes xs t m caller kept (not_false (is_some (notice_at name t)) passes.0) (not_false (is_some (lot_at (name, lot_name) t)) passes.1.0) passes.1.1.0 sec
    (holds_of (is_in_time (max m t.clock.moment)) (notice_at name t)) refl
