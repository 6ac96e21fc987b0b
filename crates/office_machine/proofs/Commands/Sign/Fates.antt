-- A signing keeps the fates.
use Rattle.office_machine.proofs.Names.{◌≡◌, ℕ, Bool, true, false, cond, List, [], ◌∷◌, map, filter, Option, Some, None, max, ◌++◌, refl, sym, ap, ◌∙◌, subst, AllByRecursion, nat_cmp_total, nat_cmp-IsAntisymmetric, nat_cmp, eq_by_cmp, Caller, Sign, Refusal, NamedSecurity, NoticeRow, LotRow, EnvelopeRow, AwardRow, Put, first_of, clock_put, with_next_release, is_held_security, returned, put_if, signed_award, contracted_lot, contract_row, tenderer_in, sign_parts, performance_put, sign_tests, sign_puts, Tables, award_key, security_key, award_at, lot_at, notice_at, envelope_at, securities_of_lot, after_puts, notice_of_award, lot_of_award, envelope_of_award, securities_of_award, Given, Readings, received_at, is_of_award, found_key}
use Rattle.office_base.specs.declared.records.SecurityState.TheVariants as security
use Rattle.office_base.specs.declared.records.AwardState.TheVariants as award
use Rattle.office_base.specs.declared.records.LotState.TheVariants as lot
use Rattle.office_base.specs.declared.puts.Put.TheVariants as puts
use Rattle.office_machine.proofs.Passed.{none_holds}
use Rattle.office_machine.proofs.Rows.RowsChanged.{rows_put, row_at-changed_put}
use Rattle.office_machine.proofs.FateLaws.Views.{AwardFits}
use Rattle.office_machine.proofs.FateLaws.Matched.{same_itself}
use Rattle.office_machine.proofs.FateLaws.Steps.{choose, cond_keeps}
use Rattle.office_machine.proofs.FateLaws.Seen.{seen, notices-same, after_securities, IsQuiet, after-append}
use Rattle.office_machine.proofs.FateLaws.FatesHold.{FatesStand, HaveFates, Keeps, given}
use Rattle.office_machine.proofs.FateLaws.QuietFates.{notice_stands, kept_after}
use Rattle.office_machine.proofs.FateLaws.States.{lots_put, active_state}
use Rattle.office_machine.proofs.Commands.Fail.Fates.{rows_there}
use Rattle.office_machine.proofs.FateLaws.LotClosed.{closing_kept, securities_go_back}
use Rattle.office_machine.proofs.Rows.Keyed as keyed

module _ (readings : Readings) (number : ℕ) (named : Option NamedSecurity) (xs : List Given) (t : Tables) (m : ℕ) (caller : Caller) (kept : FatesStand readings xs t)
    (w : AwardRow) (found : award_at number t ≡ Some w) (active : w.state ≡ award.Active) where
  abbrev T : ℕ
  T = max m t.clock.moment

  abbrev x : Given
  x = given t m caller (Sign number named)

  abbrev fits : AwardFits (seen t) w
  fits = kept.sound.awards number w found active

  abbrev award_to : ℕ → AwardRow → AwardRow
  award_to a v = cond (eq_by_cmp nat_cmp a number) (signed_award v) v

  other_award : (a : ℕ) (v : AwardRow) → (award_to a v).state ≡ award.Active → (v.state ≡ award.Active) × (eq_by_cmp nat_cmp a number ≡ false)
  other_award a v =
      choose (λ (z : AwardRow). z.state ≡ award.Active → (v.state ≡ award.Active) × (eq_by_cmp nat_cmp a number ≡ false)) (eq_by_cmp nat_cmp a number) (signed_award v) v
      (λ _ h. cc) (λ e h. (h, e))

  apart : (a : ℕ) (v : AwardRow) → award_at a t ≡ Some v → (award_to a v).state ≡ award.Active → v.notice ≡ w.notice → v.lot ≡ w.lot → ⊥
  apart a v at is n l =
      let other = other_award a v is in
      let one : a ≡ number = kept.sound.one_award a number v w at found other.0 active n l in
      let no : eq_by_cmp nat_cmp a number ≡ true = ap (λ a. eq_by_cmp nat_cmp a number) one ∙ same_itself number in
      cc

  module _ (n : NoticeRow) (notice_found : notice_at w.notice t ≡ Some n) (l : LotRow) (lot_found : lot_at (w.notice, w.lot) t ≡ Some l)
      (e : EnvelopeRow) where
    abbrev ps : List Put
    ps = sign_parts t.clock T w n l (Some e) (securities_of_lot w.notice w.lot t)

    abbrev first : Tables
    first =
        after_puts (puts.Award (signed_award w) ∷ puts.Lot (contracted_lot l) ∷ puts.Contract (contract_row T w (tenderer_in (Some e))) ∷ puts.Notice (with_next_release n) ∷ clock_put t.clock T ∷ []) t

    abbrev after : Tables
    after = record first {
      securities =
          rows_put nat_cmp security_key t.securities (map returned (filter is_held_security (securities_of_lot w.notice w.lot t)));
    }

    after_is : after_puts ps t ≡ after
    after_is = after_securities returned (filter is_held_security (securities_of_lot w.notice w.lot t)) first

    after_kept : HaveFates readings (x ∷ xs) after
    after_kept =
        closing_kept readings xs x t after kept w.notice w.lot lot.Contracted refl award_to
        (λ h r. let no : lot.Awarded ≡ lot.Undecided = let both : Some lot.Awarded ≡ Some lot.Undecided = sym fits.awarded ∙ h in cc in cc)
        (λ a v. cond_keeps (λ (w : AwardRow). w.notice) (eq_by_cmp nat_cmp a number) (signed_award v) v refl)
        (λ a v. cond_keeps (λ (w : AwardRow). w.lot) (eq_by_cmp nat_cmp a number) (signed_award v) v refl)
        (λ a v. cond_keeps (λ (w : AwardRow). w.receipt) (eq_by_cmp nat_cmp a number) (signed_award v) v refl)
        (λ a v at is. (other_award a v is).0)
        apart
        refl
        (λ r. refl)
        (λ s. ap (λ o. cond (is_of_award o (received_at xs s)) security.Returned security.Held) found)
        (λ r. refl)
        (λ r. refl)
        (λ s. securities_go_back t w.notice w.lot s kept.order)
        (λ a. row_at-changed_put nat_cmp_total nat_cmp-IsAntisymmetric award_key signed_award t.awards number a w found (found_key keyed.awards t.awards number w found))
        (λ k. lots_put t.lots (w.notice, w.lot) k l contracted_lot (λ s. lot.Contracted) (λ l. refl) (λ l. refl) lot_found)
        (notices-same t.notices (with_next_release n) (notice_stands t w.notice n notice_found))
        refl

    performance_quiet : (named : Option NamedSecurity) (u : Tables) → AllByRecursion (IsQuiet (seen u) u.clock.receipts) (put_if (performance_put w) named)
    performance_quiet None u = tt
    performance_quiet (Some n) u = (tt, tt)

    signed_kept : HaveFates readings (x ∷ xs) (after_puts (ps ++ put_if (performance_put w) named) t)
    signed_kept =
        subst (HaveFates readings (x ∷ xs)) (sym (after-append ps (put_if (performance_put w) named) t))
        (kept_after readings (x ∷ xs) (put_if (performance_put w) named) (after_puts ps t) (performance_quiet named (after_puts ps t)) (subst (HaveFates readings (x ∷ xs)) (sym after_is) after_kept))

  sign_kept : HaveFates readings (x ∷ xs) (after_puts (sign_puts (record { award = Some w; notice = notice_at w.notice t; lot = (lot_at (w.notice, w.lot) t); envelope = envelope_at w.receipt t; securities = securities_of_lot w.notice w.lot t; clock = t.clock }) T named) t)
  sign_kept =
      rows_there readings number xs t m caller kept w found active
      (λ n l o. HaveFates readings (x ∷ xs) (after_puts (sign_puts (record { award = Some w; notice = n; lot = l; envelope = o; securities = securities_of_lot w.notice w.lot t; clock = t.clock }) T named) t))
      (λ n n_is l l_is. signed_kept n n_is l l_is fits.tender)

sign_by : (readings : Readings) (number : ℕ) (named : Option NamedSecurity) (xs : List Given) (t : Tables) (m : ℕ) (caller : Caller) (kept : FatesStand readings xs t) (o : Option AwardRow)
    → award_at number t ≡ o
    → first_of (sign_tests (record { award = o; notice = notice_of_award o t; lot = None; envelope = None; securities = []; clock = t.clock }) (max m t.clock.moment) named) ≡ None
    → HaveFates readings (given t m caller (Sign number named) ∷ xs)
    (after_puts (sign_puts (record { award = o; notice = notice_of_award o t; lot = lot_of_award o t; envelope = envelope_of_award o t; securities = securities_of_award o t; clock = t.clock }) (max m t.clock.moment) named) t)
sign_by readings number named xs t m caller kept None found allowed =
    let passes : AllByRecursion (λ (test : Bool × Refusal). test.0 ≡ false) (sign_tests (record { award = None; notice = None; lot = None; envelope = None; securities = []; clock = t.clock }) (max m t.clock.moment) named) = none_holds (sign_tests (record { award = None; notice = None; lot = None; envelope = None; securities = []; clock = t.clock }) (max m t.clock.moment) named) allowed in
    let no : true ≡ false = passes.0 in absurd cc
sign_by readings number named xs t m caller kept (Some w) found allowed =
    let tests = sign_tests (record { award = Some w; notice = notice_at w.notice t; lot = None; envelope = None; securities = []; clock = t.clock }) (max m t.clock.moment) named in
    let passes : AllByRecursion (λ (test : Bool × Refusal). test.0 ≡ false) tests = none_holds tests allowed in
    sign_kept readings number named xs t m caller kept w found (active_state w.state passes.1.1.1.1.0)

pub sign_keeps : (readings : Readings) (award : ℕ) (named : Option NamedSecurity) → Keeps readings (Sign award named)
sign_keeps readings number named xs t m caller kept _ allowed = sign_by readings number named xs t m caller kept (award_at number t) refl allowed
