-- Over any tables, a failed award makes no missing parent of a row, and replaces no row of another owner.
use Rattle.office_machine.proofs.Names.{max, ℕ, ◌≡◌, Option, Some, None, refl, notice_of_award, lot_of_award, envelope_of_award, security_of_envelope, Tables, award_at, passed_over, put_if, security_settled, with_next_release, AwardRow, ClockRow, LotRow, NoticeRow, Forfeited, fail_puts, failed_award, undecided_again, Fail}
use Rattle.office_base.specs.declared.puts.Put.TheVariants as puts
use Rattle.office_machine.proofs.NoParents.Gentle.{AreGentle, gentle-append}
use Rattle.office_machine.proofs.NoParents.Gentle.{PutsGently}
use Rattle.office_machine.proofs.NoParents.Kept.{notice_kept, lot_kept, envelope_kept, award_kept, gentle-if, security_settles}

fail_by : (s : Tables) (clock : ClockRow) (t award : ℕ) (o : Option AwardRow) (n : Option NoticeRow) (l : Option LotRow) → award_at award s ≡ o → notice_of_award o s ≡ n → lot_of_award o s ≡ l
    → AreGentle s (fail_puts (record { award = o; notice = n; lot = l; envelope = envelope_of_award o s; security = security_of_envelope (envelope_of_award o s) s; clock = clock }) t)
fail_by s clock t award (Some a) (Some n) (Some l) is notice lot = (
  award_kept s award a (failed_award a) is refl refl refl refl,
  (
    lot_kept s (a.notice, a.lot) l (undecided_again l) lot refl refl refl,
    (
      notice_kept s a.notice n (with_next_release n) notice refl,
      (
        (refl, tt),
        gentle-append s (put_if (λ e. puts.Envelope (passed_over e)) (envelope_of_award (Some a) s)) _
            (gentle-if s (λ e. puts.Envelope (passed_over e)) (envelope_of_award (Some a) s) (λ e at. envelope_kept s a.receipt e (passed_over e) at refl refl refl refl refl))
            (gentle-if s (security_settled Forfeited) (security_of_envelope (envelope_of_award (Some a) s) s) (λ r at. security_settles s Forfeited (envelope_of_award (Some a) s) r at)),
      ),
    ),
  ),
)
fail_by s clock t award None n l is notice lot = tt
fail_by s clock t award (Some a) None l is notice lot = tt
fail_by s clock t award (Some a) (Some n) None is notice lot = tt

pub fail_gently : (award : ℕ) → PutsGently (Fail award)
fail_gently award readings s moment caller order allowed whole =
    fail_by s s.clock (max moment s.clock.moment) award (award_at award s) (notice_of_award (award_at award s) s) (lot_of_award (award_at award s) s) refl refl refl
