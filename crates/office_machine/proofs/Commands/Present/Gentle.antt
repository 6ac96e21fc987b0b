-- Over any tables, a tender makes no missing parent of a row, and replaces no row of another owner.
use Rattle.office_machine.proofs.Names.{max, ℕ, Bool, List, Option, refl, NamedSecurity, holds_of, notice_at, put_if, is_in_time, received, seal_puts, security_put, Present}
use Rattle.office_machine.proofs.NoParents.Gentle.{gentle-append}
use Rattle.office_machine.proofs.NoParents.Gentle.{PutsGently}
use Rattle.office_machine.proofs.NoParents.Kept.{gentle-if}
use Rattle.office_machine.proofs.NoParents.New.{new_tender, new_seals, new_security}

pub present_gently : (notice lot : List ℕ) (security : Option NamedSecurity) (bytes : List ℕ) → PutsGently (Present notice lot security bytes)
present_gently notice lot security bytes readings s moment caller order allowed whole =
    let in_time : Bool = holds_of (is_in_time (max moment s.clock.moment)) (notice_at notice s) in (
      new_tender s whole (received readings.digest s.clock (max moment s.clock.moment) caller notice lot security bytes in_time) refl,
      (
        (refl, tt),
        gentle-append s (seal_puts s.clock bytes in_time) (put_if (security_put s.clock caller notice lot in_time) security) (new_seals s whole bytes in_time)
            (gentle-if s (security_put s.clock caller notice lot in_time) security (λ named is. new_security s whole caller notice lot in_time named)),
      ),
    )
