-- Over any tables, a change of a deadline makes no missing parent of a row, and replaces no row of another owner.
use Rattle.office_machine.proofs.Names.{max, ℕ, ◌≡◌, List, Option, Some, None, refl, Tables, notice_at, ClockRow, NoticeRow, amend_notice_puts, amended, AmendNotice}
use Rattle.office_machine.proofs.NoParents.Gentle.{AreGentle}
use Rattle.office_machine.proofs.NoParents.Gentle.{PutsGently}
use Rattle.office_machine.proofs.NoParents.Kept.{notice_kept}

amend_notice_by : (s : Tables) (clock : ClockRow) (t : ℕ) (notice : List ℕ) (deadline : ℕ) (o : Option NoticeRow) → notice_at notice s ≡ o → AreGentle s (amend_notice_puts (record { notice = o; clock = clock }) t deadline)
amend_notice_by s clock t notice deadline None is = tt
amend_notice_by s clock t notice deadline (Some n) is = (notice_kept s notice n (amended deadline n) is refl, ((refl, tt), tt))

pub amend_notice_gently : (notice : List ℕ) (deadline : ℕ) (rationale : List ℕ) → PutsGently (AmendNotice notice deadline rationale)
amend_notice_gently notice deadline rationale readings s moment caller order allowed whole =
    amend_notice_by s s.clock (max moment s.clock.moment) notice deadline (notice_at notice s) refl
