-- Over any tables, a signing makes no missing parent of a row, and replaces no row of another owner.
use Rattle.office_machine.proofs.Names.{max, ℕ, false, ◌||◌, ◌≡◌, Option, Some, None, is_some, refl, ◌∙◌, ap, NamedSecurity, found_key, notice_of_award, lot_of_award, envelope_of_award, securities_of_award, holds_of, Tables, IsSorted, award_at, contract_at, performance_at, securities_of_lot, entries_of_contract, put_if, securities_returned, with_next_release, AwardRow, ClockRow, LotRow, NoticeRow, sign_puts, sign_rows, sign_lacks, performance_put, signed_award, contracted_lot, contract_is_taken, lacks_its_security, reserves_another, has_rows, is_named, is_there, Sign}
use Rattle.office_machine.specs.References.{OfContract}
use Rattle.office_machine.proofs.NoParents.Gentle.{AreGentle, gentle-append}
use Rattle.office_machine.proofs.Passed.{neither}
use Rattle.office_machine.proofs.Rows.Keyed as keyed
use Rattle.office_machine.proofs.NoParents.Gentle.{PutsGently}
use Rattle.office_machine.proofs.NoParents.Kept.{notice_kept, lot_kept, award_kept, gentle-if, lot_returned}
use Rattle.office_machine.proofs.NoParents.New.{unnamed, no_row}

sign_by : (s : Tables) (order : IsSorted s) (clock : ClockRow) (t award : ℕ) (named : Option NamedSecurity) (o : Option AwardRow) (n : Option NoticeRow) (l : Option LotRow) → contract_is_taken award s ≡ false
    → award_at award s ≡ o → notice_of_award o s ≡ n → lot_of_award o s ≡ l
    → AreGentle s (sign_puts (record { award = o; notice = n; lot = l; envelope = envelope_of_award o s; securities = securities_of_award o s; clock = clock }) t named)
sign_by s order clock t award named (Some a) (Some n) (Some l) new is notice lot =
    let number : a.award ≡ award = found_key keyed.awards s.awards award a is in
    let each = neither (is_some (contract_at a.award s)) (is_named (OfContract a.award) s) (ap (λ k. contract_is_taken k s) number ∙ new) in (
      award_kept s award a (signed_award a) is refl refl refl refl,
      (
        lot_kept s (a.notice, a.lot) l (contracted_lot l) lot refl refl refl,
        (
          (unnamed (is_there (OfContract a.award) s) (is_named (OfContract a.award) s) each.1, λ c was. no_row (contract_at a.award s) c each.0 was),
          (
            notice_kept s a.notice n (with_next_release n) notice refl,
            (
              (refl, tt),
              gentle-append s (securities_returned (securities_of_lot a.notice a.lot s)) (put_if (performance_put a) named) (lot_returned s order a.notice a.lot)
                  (gentle-if s (performance_put a) named (λ given at. (refl, λ w was. no_row (performance_at a.award s) w (neither (has_rows (entries_of_contract a.award s)) (is_some (performance_at a.award s)) each.1).1 was))),
            ),
          ),
        ),
      ),
    )
sign_by s order clock t award named None n l new is notice lot = tt
sign_by s order clock t award named (Some a) None l new is notice lot = tt
sign_by s order clock t award named (Some a) (Some n) None new is notice lot = tt

pub sign_gently : (award : ℕ) (named : Option NamedSecurity) → PutsGently (Sign award named)
sign_gently award named readings s moment caller order allowed whole =
    let lacks = sign_lacks (sign_rows s award) in
    let taken = contract_is_taken award s in
    let security = holds_of (lacks_its_security s) (envelope_of_award (award_at award s) s) in
    let another = holds_of (reserves_another (lot_of_award (award_at award s) s)) (award_at award s) in
    sign_by s order s.clock (max moment s.clock.moment) award named (award_at award s) (notice_of_award (award_at award s) s) (lot_of_award (award_at award s) s)
    (neither lacks taken (neither (lacks || taken) security (neither (lacks || taken || security) another whole).0).0).1 refl refl refl
