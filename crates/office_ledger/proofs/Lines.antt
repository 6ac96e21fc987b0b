-- The rows of all lines, taken one line after another, give the ledger.
use Rattle.office_ledger.proofs.Names.{◌≡◌, ℕ, ◌-◌, ◌≤◌, Bool, true, false, cond, ◌&&◌, nat_eq, nat_le, List, [], ◌∷◌, ◌++◌, map, flat_map, Option, Some, None, refl, sym, ap, subst, ◌∙◌, arith, and_parts, and_from, leb-true, le-leb, eqb-true, eq-eqb, append_assoc, append-nil, AllByRecursion, is_eq, tied_itself, texts_ties, nat_list_cmp_total, id_cmp, same_id, total_limit, StartsAbove, IsInOrder, sum_over, Tables, IsSorted, lot_cmp, lot_key, line_key, lots_of_line, ledger_row, ledger_of, pots_of, LineFits, LinesFit, reservations, sums_of_line, outstanding_in, paid_in, JoinedSums, ContractSums, LedgerRow, Pots, LineRow, LotRow, with_lot, joined_lot, joined_line, joined, IsJoinOfNoOffice, Added, overdrawn_in, no_sums, nothing_added, settled, sums_fit, pots_by, row_by, and_row, close, closed, is_line, line_opened, enter_line, take_row, take_lot, fold_rows, added, JoinedLot, JoinedRow, OpenLine, LineSums, lots_total, in_order-filter}
use Rattle.office_ledger.proofs.Lots.{lots_sums, lots_taken, reserved_are, outstanding_are, overdrawn_are, paid_are}
use Rattle.office_ledger.proofs.Taken.{fold_rows-append, fold_rows-flat_map, grouped}

same_itself : (a : List ℕ) → same_id a a ≡ true
same_itself a = texts_ties a a ∙ ap is_eq (tied_itself nat_list_cmp_total a)

-- ---- the balances of a line

all_from_zero : {X : Type 0} (f g : X → ℕ) (xs : List X) → sum_over (λ x. f x - g x) xs ≡ 0 → AllByRecursion (λ x. f x ≤ g x) xs
all_from_zero f g [] h = tt
all_from_zero f g (x ∷ xs) h = (omega (arith, h), all_from_zero f g xs (omega (arith, h)))

zero_from_all : {X : Type 0} (f g : X → ℕ) (xs : List X) → AllByRecursion (λ x. f x ≤ g x) xs → sum_over (λ x. f x - g x) xs ≡ 0
zero_from_all f g [] h = refl
zero_from_all f g (x ∷ xs) h = omega (arith, h.0, zero_from_all f g xs h.1)

-- the row of a line in the ledger, or none if a sum of the line is out of its range
abbrev pub IsLedgerRow : Tables → LineRow → Option LedgerRow → Type 0
IsLedgerRow t row (Some ledger) = (ledger ≡ ledger_row t row) × LineFits row.line t
IsLedgerRow t row None = ¬ (LineFits row.line t)

-- the ledger, or none if a sum of some line is out of its range
abbrev pub IsLedger : Tables → Option (List LedgerRow) → Type 0
IsLedger t (Some rows) = (rows ≡ ledger_of t) × LinesFit t
IsLedger t None = ¬ (LinesFit t)

module _ (law : JoinedSums) (t : Tables) (sorted : IsSorted t) where
  module _ (r : LineRow) where
    abbrev lots : List LotRow
    lots = lots_of_line r.line t

    -- the sums of its rows
    abbrev sums : LineSums
    sums = lots_sums t sorted lots no_sums

    abbrev here : OpenLine
    here = line_opened (with_lot r None)

    abbrev pub found : Option LedgerRow
    found = row_by here sums

    four : (a b c d a' b' c' : ℕ) → a ≡ a' → b ≡ b' → c ≡ c'
        → ◌≡◌ {A = Pots} (record { appropriation = r.appropriation; free = r.free; reserved = a; contracted = b; paid = c }) (record { appropriation = r.appropriation; free = r.free; reserved = a'; contracted = b'; paid = c' })
    four a b c d a' b' c' p q s =
        ap (λ n. record { appropriation = r.appropriation; free = r.free; reserved = n; contracted = b; paid = c }) p
        ∙ ap (λ n. record { appropriation = r.appropriation; free = r.free; reserved = a'; contracted = n; paid = c }) q
        ∙ ap (λ n. record { appropriation = r.appropriation; free = r.free; reserved = a'; contracted = b'; paid = n }) s

    abbrev reserved : ℕ
    reserved = sum_over (λ n. n) (reservations r.line t)

    abbrev owed : ℕ
    owed = sum_over outstanding_in (sums_of_line r.line t)

    abbrev gone : ℕ
    gone = sum_over paid_in (sums_of_line r.line t)

    abbrev drawn : ℕ
    drawn = sum_over overdrawn_in (sums_of_line r.line t)

    reserved_is : sums.reserved ≡ reserved
    reserved_is = omega (arith, reserved_are t sorted lots no_sums)

    owed_is : sums.outstanding ≡ owed
    owed_is = omega (arith, outstanding_are t sorted lots no_sums)

    gone_is : sums.paid ≡ gone
    gone_is = omega (arith, paid_are t sorted lots no_sums)

    drawn_is : sums.overdrawn ≡ drawn
    drawn_is = omega (arith, overdrawn_are t sorted lots no_sums)

    pots_are : pots_by r.appropriation r.free sums ≡ pots_of r t
    pots_are =
        four sums.reserved sums.outstanding sums.paid 0 reserved owed gone reserved_is owed_is gone_is
        ∙ (law t sorted r).pots

    fits : sums_fit sums ≡ true → LineFits r.line t
    fits e =
        let e1 = and_parts (nat_eq sums.overdrawn 0 && nat_le sums.reserved total_limit && nat_le sums.outstanding total_limit) (nat_le sums.paid total_limit) e in
        let e2 = and_parts (nat_eq sums.overdrawn 0 && nat_le sums.reserved total_limit) (nat_le sums.outstanding total_limit) e1.0 in
        let e3 = and_parts (nat_eq sums.overdrawn 0) (nat_le sums.reserved total_limit) e2.0 in
        (law t sorted r).fits.0 (record {
          within = all_from_zero (λ (s : ContractSums). s.lost) (λ (s : ContractSums). s.gained) (sums_of_line r.line t) (sym drawn_is ∙ eqb-true sums.overdrawn 0 e3.0);
          reserved_fits = subst (λ n. n ≤ total_limit) reserved_is (leb-true sums.reserved total_limit e3.1);
          contracted_fits = subst (λ n. n ≤ total_limit) owed_is (leb-true sums.outstanding total_limit e2.1);
          paid_fits = subst (λ n. n ≤ total_limit) gone_is (leb-true sums.paid total_limit e1.1);
        })

    fit : LineFits r.line t → sums_fit sums ≡ true
    fit h =
        let s = (law t sorted r).fits.1 h in
        let none : drawn ≡ 0 = zero_from_all (λ (s : ContractSums). s.lost) (λ (s : ContractSums). s.gained) (sums_of_line r.line t) s.within in
        let all = λ (n m : ℕ) (e : n ≡ m) (h : m ≤ total_limit). le-leb n total_limit (subst (λ k. k ≤ total_limit) (sym e) h) in
        and_from _ _ (and_from _ _ (and_from _ _ (eq-eqb sums.overdrawn 0 (drawn_is ∙ none)) (all sums.reserved reserved reserved_is s.reserved_fits))
        (all sums.outstanding owed owed_is s.contracted_fits))
        (all sums.paid gone gone_is s.paid_fits)

    pub row_is : IsLedgerRow t r found
    row_is = by (sums_fit sums) refl
      where
        by : (b : Bool) → sums_fit sums ≡ b → IsLedgerRow t r (cond b (Some (record { line = r.line; pots = pots_by r.appropriation r.free sums })) None)
        by true e = (ap (λ (p : Pots). record { line = r.line; pots = p }) pots_are, fits e)
        by false e = λ h. absurd (let yes = fit h in cc)

    -- ---- a line

    abbrev enter : Added → Added
    enter s = enter_line (with_lot r None) s

    abbrev IsIn : Added → Type 0
    IsIn s = is_line r.line s.line ≡ true

    entered_by : (b : Bool) (s : Added) → is_line r.line s.line ≡ b → is_line r.line (cond b s (record { rows = closed s; line = Some here; sums = no_sums })).line ≡ true
    entered_by true s e = e
    entered_by false s e = same_itself r.line

    stays : (s : Added) → IsIn s → enter s ≡ s
    stays s h = rw h refl

    -- a row of a lot, with the line begun
    abbrev inner : JoinedLot → Added → Added
    inner l s = record s { sums = take_lot l s.sums }

    inner_all : (rows : List JoinedLot) (s : Added) → fold_rows inner rows s ≡ record s { sums = fold_rows take_lot rows s.sums }
    inner_all [] s = refl
    inner_all (l ∷ rows) s = inner_all rows (inner l s)

    abbrev begun : Added → Added
    begun s = record { rows = closed s; line = Some here; sums = no_sums }

    lots_in_order : IsInOrder lot_cmp lot_key lots
    lots_in_order = in_order-filter lots_total lot_key _ t.lots sorted.lots

    rows_taken : (s : Added) → is_line r.line s.line ≡ false → fold_rows take_row (joined_line t r) s ≡ record (begun s) { sums = fold_rows (λ l. fold_rows take_lot (joined_lot t l)) lots no_sums }
    rows_taken s new =
        grouped take_row (with_lot r) enter inner IsIn (λ s. refl) (λ l s. refl) (λ s. entered_by (is_line r.line s.line) s refl) (λ l s h. h) stays (flat_map (joined_lot t) lots) s
        ∙ ap (λ b. fold_rows inner (flat_map (joined_lot t) lots) (cond b s (begun s))) new
        ∙ inner_all (flat_map (joined_lot t) lots) (begun s)
        ∙ ap (λ z. record (begun s) { sums = z }) (fold_rows-flat_map take_lot (joined_lot t) lots no_sums)

    pub line_taken : (s : Added) → is_line r.line s.line ≡ false
        → (closed (fold_rows take_row (joined_line t r) s) ≡ and_row (closed s) found) × ((fold_rows take_row (joined_line t r) s).line ≡ Some here)
    line_taken s new = (
      ap closed (rows_taken s new) ∙ ap (λ z. and_row (closed s) (row_by here z)) (lots_taken t sorted lots no_sums lots_in_order tt),
      ap (λ (z : Added). z.line) (rows_taken s new),
    )

  -- ---- all lines

  abbrev and_rows : List LineRow → Option (List LedgerRow) → Option (List LedgerRow)
  and_rows [] rows = rows
  and_rows (r ∷ rs) rows = and_rows rs (and_row rows (found r))

  abbrev LinesAbove : Option OpenLine → List LineRow → Type 0
  LinesAbove None rs = Unit {0}
  LinesAbove (Some current) rs = StartsAbove id_cmp line_key current.line rs

  not_open : (current : Option OpenLine) (r : LineRow) (rs : List LineRow) → LinesAbove current (r ∷ rs) → is_line r.line current ≡ false
  not_open None r rs h = refl
  not_open (Some current) r rs h = texts_ties current.line r.line ∙ ap is_eq h

  abbrev take_all : List LineRow → Added → Added
  take_all rs s = fold_rows (λ r. fold_rows take_row (joined_line t r)) rs s

  lines_taken : (rs : List LineRow) (s : Added) → IsInOrder id_cmp line_key rs → LinesAbove s.line rs → closed (take_all rs s) ≡ and_rows rs (closed s)
  lines_taken [] s order above = refl
  lines_taken (r ∷ rs) s order above =
      let one = line_taken r s (not_open s.line r rs above) in
      lines_taken rs (fold_rows take_row (joined_line t r) s) order.1 (above_next (fold_rows take_row (joined_line t r) s).line one.1) ∙ ap (and_rows rs) one.0
    where
      above_next : (current : Option OpenLine) → current ≡ Some (here r) → LinesAbove current rs
      above_next current e = rw e order.0

  none_and : (rs : List LineRow) → and_rows rs None ≡ None
  none_and [] = refl
  none_and (r ∷ rs) = none_and rs

  -- these rows, followed by the rows of the remaining lines
  abbrev IsLedgerWith : List LedgerRow → List LineRow → Option (List LedgerRow) → Type 0
  IsLedgerWith rows rs (Some all) = (all ≡ rows ++ map (ledger_row t) rs) × AllByRecursion (λ (r : LineRow). LineFits r.line t) rs
  IsLedgerWith rows rs None = ¬ (AllByRecursion (λ (r : LineRow). LineFits r.line t) rs)

  one_more : (r : LineRow) (rs : List LineRow) (rows : List LedgerRow) (row : LedgerRow) → row ≡ ledger_row t r → LineFits r.line t
      → (all : Option (List LedgerRow)) → IsLedgerWith (rows ++ row ∷ []) rs all → IsLedgerWith rows (r ∷ rs) all
  one_more r rs rows row is fits (Some all) h = (h.0 ∙ append_assoc rows (row ∷ []) (map (ledger_row t) rs) ∙ ap (λ z. rows ++ z ∷ map (ledger_row t) rs) is, (fits, h.1))
  one_more r rs rows row is fits None h = λ a. h a.1

  with_found : (r : LineRow) (rs : List LineRow) (rows : List LedgerRow) → ((more : List LedgerRow) → IsLedgerWith more rs (and_rows rs (Some more)))
      → (f : Option LedgerRow) → IsLedgerRow t r f → IsLedgerWith rows (r ∷ rs) (and_rows rs (and_row (Some rows) f))
  with_found r rs rows ih (Some row) h = one_more r rs rows row h.0 h.1 (and_rows rs (Some (rows ++ row ∷ []))) (ih (rows ++ row ∷ []))
  with_found r rs rows ih None h = subst (IsLedgerWith rows (r ∷ rs)) (sym (none_and rs)) (λ a. h a.0)

  ledger_with : (rs : List LineRow) (rows : List LedgerRow) → IsLedgerWith rows rs (and_rows rs (Some rows))
  ledger_with [] rows = (sym (append-nil rows), tt)
  ledger_with (r ∷ rs) rows = with_found r rs rows (λ more. ledger_with rs more) (found r) (row_is r)

  -- the sums of the whole join are the ledger
  pub adds_up : IsLedger t (closed (added (joined t)))
  adds_up = subst (IsLedger t) (sym (ap closed (fold_rows-flat_map take_row (joined_line t) t.lines nothing_added) ∙ lines_taken t.lines nothing_added sorted.lines tt)) (whole (and_rows t.lines (Some [])) (ledger_with t.lines []))
    where
      whole : (all : Option (List LedgerRow)) → IsLedgerWith [] t.lines all → IsLedger t all
      whole (Some all) h = h
      whole None h = h

-- ---- after a line that doesn't fit, there is no ledger

unfit_row : (r : JoinedRow) (s : Added) → s.rows ≡ None → (b : Bool) → (cond b s (record { rows = closed s; line = Some (line_opened r); sums = no_sums })).rows ≡ None
unfit_row r s none true = none
unfit_row r s none false = unclosed s.line
  where
    unclosed : (current : Option OpenLine) → close current s ≡ None
    unclosed None = none
    unclosed (Some current) = ap (λ rows. and_row rows (row_by current (settled s.sums))) none

unfit : (rows : List JoinedRow) (s : Added) → s.rows ≡ None → (fold_rows take_row rows s).rows ≡ None
unfit [] s none = none
unfit (r ∷ rows) s none = unfit rows (take_row r s) (unfit_row r s none (is_line r.line s.line))

unclosed : (s : Added) (current : Option OpenLine) → s.rows ≡ None → close current s ≡ None
unclosed s None none = none
unclosed s (Some current) none = ap (λ rows. and_row rows (row_by current (settled s.sums))) none

pub none_fits : JoinedSums → (rows : List JoinedRow) → (added rows).rows ≡ None → IsJoinOfNoOffice rows
none_fits law rows none t rest sorted is fit =
    let whole : (added (joined t)).rows ≡ None = ap (λ z. (added z).rows) is ∙ ap (λ (s : Added). s.rows) (fold_rows-append take_row rows rest nothing_added) ∙ unfit rest (added rows) none in
    let all : closed (added (joined t)) ≡ None = unclosed (added (joined t)) (added (joined t)).line whole in
    subst (IsLedger t) all (adds_up law t sorted) fit
