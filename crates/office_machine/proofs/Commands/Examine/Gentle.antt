-- Over any tables, an examination makes no missing parent of a row, and replaces no row of another owner.
use Rattle.office_machine.proofs.Names.{max, ℕ, Bool, ◌≡◌, Option, Some, None, refl, Tables, envelope_at, EnvelopeRow, examine_puts, examine_rows, examined, ExamineRows, Examine}
use Rattle.office_machine.proofs.NoParents.Gentle.{AreGentle}
use Rattle.office_machine.proofs.NoParents.Gentle.{PutsGently}
use Rattle.office_machine.proofs.NoParents.Kept.{envelope_kept}

examine_by : (s : Tables) (rows : ExamineRows) (t receipt : ℕ) (responsive : Bool) (quality : Option ℕ) (o : Option EnvelopeRow) → envelope_at receipt s ≡ o
    → AreGentle s (examine_puts (record rows { envelope = o }) t responsive quality)
examine_by s rows t receipt responsive quality None is = tt
examine_by s rows t receipt responsive quality (Some e) is = (envelope_kept s receipt e (examined responsive quality e) is refl refl refl refl refl, ((refl, tt), tt))

pub examine_gently : (receipt : ℕ) (responsive : Bool) (quality : Option ℕ) → PutsGently (Examine receipt responsive quality)
examine_gently receipt responsive quality readings s moment caller order allowed whole =
    examine_by s (examine_rows s receipt) (max moment s.clock.moment) receipt responsive quality (envelope_at receipt s) refl
