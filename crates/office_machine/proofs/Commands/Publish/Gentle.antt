-- Over any tables, a publication makes no missing parent of a row, and replaces no row of another owner.
use Rattle.office_machine.proofs.Names.{max, ℕ, Bool, true, false, cond, ◌&&◌, ◌||◌, ◌≡◌, List, [], ◌∷◌, ◌++◌, Some, is_some, map, filter, refl, sym, ◌∙◌, ap, AllByRecursion, list_any, same_id, NewLot, Forfeits, LateWithdrawal, NewNotice, same_itself, of_found, found_key, Tables, lot_at, awards_of_notice, envelopes_of_notice, lots_of_notice, securities_of_notice, of_notice, lot_cmp, lot_key, late_at, compiled_at, contracts_of_notice, releases_of_notice, AwardRow, ContractRow, EnvelopeRow, LotRow, SecurityRow, is_on_no_line, publish_parts, late_puts, reserving_line, reserving_line_put, new_lot_put, publish_tests, publish_rows, OfNotice, OfLot, has_rows, is_named, is_there, Publish}
use Rattle.office_commands.specs.declared.notice.LateWithdrawal.TheVariants.{Refused}
use Rattle.office_machine.proofs.NoParents.Gentle.{AreGentle, IsGentle, gentle-append, gentle-map}
use Rattle.office_machine.proofs.Passed.{neither, none_holds, not_false}
use Rattle.office_machine.proofs.Rows.Keyed as keyed
use Rattle.office_machine.proofs.NoParents.Gentle.{PutsGently}
use Rattle.office_machine.proofs.NoParents.Kept.{line_kept}
use Rattle.office_machine.proofs.NoParents.New.{unnamed, none_of}

fewer : {X : Type 0} (p q : X → Bool) (xs : List X) → AllByRecursion (λ x. p x ≡ false) xs → has_rows (filter (λ x. p x && q x) xs) ≡ false
fewer p q [] h = refl
fewer p q (x ∷ xs) h = ap (λ b. has_rows (cond (b && q x) (x ∷ filter (λ x. p x && q x) xs) (filter (λ x. p x && q x) xs))) h.0 ∙ fewer p q xs h.1

-- if no row names a notice, none names a lot of it
eight : (a b c d e f g h : Bool) → (a || b || c || d || e || f || g || h) ≡ false → (a ≡ false) × (b ≡ false) × (d ≡ false) × (e ≡ false) × (f ≡ false)
eight a b c d e f g h none =
    let all = neither (a || b || c || d || e || f || g) h none in
    let seven = neither (a || b || c || d || e || f) g all.0 in
    let six = neither (a || b || c || d || e) f seven.0 in
    let five = neither (a || b || c || d) e six.0 in
    let four = neither (a || b || c) d five.0 in
    let three = neither (a || b) c four.0 in
    let two = neither a b three.0 in
    (two.0, two.1, four.1, five.1, six.1)

-- the lots, the tenders, the securities, the awards and the contracts of a notice that no row names
none_of_notice : (s : Tables) (notice : List ℕ) → is_named (OfNotice notice) s ≡ false
    → (has_rows (lots_of_notice notice s) ≡ false) × (has_rows (envelopes_of_notice notice s) ≡ false) × (has_rows (securities_of_notice notice s) ≡ false) × (has_rows (awards_of_notice notice s) ≡ false) × (has_rows (contracts_of_notice notice s) ≡ false)
none_of_notice s notice none =
    eight (has_rows (lots_of_notice notice s)) (has_rows (envelopes_of_notice notice s)) (has_rows (releases_of_notice notice s)) (has_rows (securities_of_notice notice s))
    (has_rows (awards_of_notice notice s)) (has_rows (contracts_of_notice notice s)) (is_some (late_at notice s)) (is_some (compiled_at notice s)) none

no_lot_named : (s : Tables) (notice lot : List ℕ) → is_named (OfNotice notice) s ≡ false → is_named (OfLot notice lot) s ≡ false
no_lot_named s notice lot none =
    let each = none_of_notice s notice none in
    let tenders = fewer (λ (r : EnvelopeRow). same_id r.notice notice) (λ (r : EnvelopeRow). same_id r.lot lot) s.envelopes (none_of (λ (r : EnvelopeRow). same_id r.notice notice) s.envelopes each.1) in
    let securities = fewer (λ (r : SecurityRow). same_id r.notice notice) (λ (r : SecurityRow). same_id r.lot lot) s.securities (none_of (λ (r : SecurityRow). same_id r.notice notice) s.securities each.2) in
    let awards = fewer (λ (r : AwardRow). same_id r.notice notice) (λ (r : AwardRow). same_id r.lot lot) s.awards (none_of (λ (r : AwardRow). same_id r.notice notice) s.awards each.3) in
    let contracts = fewer (λ (r : ContractRow). same_id r.notice notice) (λ (r : ContractRow). same_id r.lot lot) s.contracts (none_of (λ (r : ContractRow). same_id r.notice notice) s.contracts each.4) in
    λ i. tenders i || securities i || awards i || contracts i

-- and the notice has no lot
no_lot_there : (s : Tables) (notice lot : List ℕ) → is_named (OfNotice notice) s ≡ false → (a : LotRow) → lot_at (notice, lot) s ≡ Some a → ⊥
no_lot_there s notice lot none a is =
    let apart : same_id a.notice notice ≡ false =
    of_found lot_cmp lot_key (λ (l : LotRow). same_id l.notice notice ≡ false) s.lots (notice, lot) a (none_of (of_notice notice) s.lots (none_of_notice s notice none).0) is in
    let same : same_id a.notice notice ≡ true = ap (λ (k : List ℕ × List ℕ). same_id k.0 notice) (found_key keyed.lots s.lots (notice, lot) a is) ∙ same_itself notice in
    let no : true ≡ false = sym same ∙ apart in cc

-- the line of each lot exists
on_lines : (s : Tables) (lots all : List NewLot) → list_any (is_on_no_line s.lines) lots ≡ false → AllByRecursion (λ l. IsGentle s (reserving_line_put s.lines all l)) lots
on_lines s [] all none = tt
on_lines s (l ∷ lots) all none = let each = neither _ _ none in (line_kept s l.line (reserving_line s.lines all l) (not_false _ each.0) refl, on_lines s lots all each.1)

new_lots : (s : Tables) (notice : List ℕ) → is_named (OfNotice notice) s ≡ false → (lots : List NewLot) → AllByRecursion (λ (l : NewLot). IsGentle s (new_lot_put notice l)) lots
new_lots s notice none [] = tt
new_lots s notice none (l ∷ lots) = (
  (unnamed (is_there (OfLot notice l.id) s) (is_named (OfLot notice l.id) s) (no_lot_named s notice l.id none), λ a is. absurd (no_lot_there s notice l.id none a is)),
  new_lots s notice none lots,
)

late_gently : (s : Tables) (notice : List ℕ) (late : LateWithdrawal) → AreGentle s (late_puts notice late)
late_gently s notice Refused = tt
late_gently s notice Forfeits = ((refl, tt), tt)

pub publish_gently : (notice : List ℕ) (content : NewNotice) → PutsGently (Publish notice content)
publish_gently notice content readings s moment caller order allowed whole =
    let t : ℕ = max moment s.clock.moment in
    let tests = none_holds (publish_tests (publish_rows s notice) t content) allowed in
    gentle-append s (publish_parts s.clock t notice s.lines content) (late_puts notice content.late_withdrawal)
    (gentle-append s (map (reserving_line_put s.lines content.lots) content.lots ++ map (new_lot_put notice) content.lots) _
    (gentle-append s (map (reserving_line_put s.lines content.lots) content.lots) (map (new_lot_put notice) content.lots)
    (gentle-map s (reserving_line_put s.lines content.lots) content.lots (on_lines s content.lots content.lots tests.0))
    (gentle-map s (new_lot_put notice) content.lots (new_lots s notice whole content.lots)))
    ((unnamed (is_there (OfNotice notice) s) (is_named (OfNotice notice) s) whole, tt), ((refl, tt), tt)))
    (late_gently s notice content.late_withdrawal)
