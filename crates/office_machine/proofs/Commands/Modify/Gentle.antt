-- Over any tables, a modification makes no missing parent of a row, and replaces no row of another owner.
use Rattle.office_machine.proofs.Names.{max, ℕ, false, ◌||◌, ◌≡◌, List, Option, Some, None, refl, notice_of_envelope, Tables, envelope_at, EnvelopeRow, NoticeRow, modify_puts, modify_lacks, modify_rows, withdrawn, replacing, is_torn, receipt_is_taken, Modify}
use Rattle.office_machine.proofs.NoParents.Gentle.{AreGentle}
use Rattle.office_machine.proofs.Passed.{neither}
use Rattle.office_machine.proofs.NoParents.Gentle.{PutsGently}
use Rattle.office_machine.proofs.NoParents.Kept.{envelope_kept}
use Rattle.office_machine.proofs.NoParents.New.{new_tender, new_seal}

modify_by : (s : Tables) → receipt_is_taken s ≡ false → (digest : List ℕ → List ℕ) (t receipt : ℕ) (bytes : List ℕ) (o : Option EnvelopeRow) (n : Option NoticeRow) → envelope_at receipt s ≡ o
    → AreGentle s (modify_puts digest (record { envelope = o; notice = n; clock = s.clock }) t bytes)
modify_by s new digest t receipt bytes None n is = tt
modify_by s new digest t receipt bytes (Some e) n is =
    (envelope_kept s receipt e (withdrawn e) is refl refl refl refl refl, ((refl, tt), (new_tender s new (replacing digest s.clock t e bytes) refl, (new_seal s new bytes, ((refl, tt), tt)))))

pub modify_gently : (receipt : ℕ) (bytes : List ℕ) → PutsGently (Modify receipt bytes)
modify_gently receipt bytes readings s moment caller order allowed whole =
    modify_by s (neither (modify_lacks (modify_rows s receipt)) (receipt_is_taken s) (neither (modify_lacks (modify_rows s receipt) || receipt_is_taken s) (is_torn s (envelope_at receipt s)) whole).0).1 readings.digest (max moment s.clock.moment) receipt bytes (envelope_at receipt s) (notice_of_envelope (envelope_at receipt s) s) refl
