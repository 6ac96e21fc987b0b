-- A row is the list of its columns. A row with a column that no office writes isn't read.
use Rattle.office_tables.proofs.Names.{◌≡◌, ℕ, zero, suc, ◌<◌, List, [], ◌∷◌, ◌++◌, length, get_or, map, Result, Ok, Err, refl, sym, ap, subst, ◌∙◌, arith, IfErr, IsErrAnd, AllByRecursion, Value, Row, ShelfFault, NoMemory, Store, IsFaultOf, columns_from, IsUnwritten}
use Rattle.sqlite_value.specs.Order.{column}

shifted : (v : Value) (r : Row) (at n : ℕ) → columns_from (v ∷ r) (suc at) n ≡ columns_from r at n
shifted v r at zero = refl
shifted v r at (suc n) = ap (λ t. column r at ∷ t) (shifted v r (suc at) n)

all_columns : (r : Row) → columns_from r 0 (length r) ≡ r
all_columns [] = refl
all_columns (v ∷ r) = ap (λ t. v ∷ t) (shifted v r 0 (length r) ∙ all_columns r)

-- a row of this length is the list of its columns
pub columns_are : (r : Row) (n : ℕ) → length r ≡ n → columns_from r 0 n ≡ r
columns_are r n e = subst (λ m. columns_from r 0 m ≡ r) e (all_columns r)

-- if one reason implies another, a fault for the first is a fault for the second
pub fault_of : {P Q : Type 0} → (P → Q) → (fault : ShelfFault) → IsFaultOf P fault → IsFaultOf Q fault
fault_of f NoMemory h = tt
fault_of f Store h = f h

-- a `?` returns the fault of the call
pub exit : {T : Type 0} (e : ShelfFault) (r : Result T ShelfFault) (P Q : Type 0) → IsErrAnd r (λ y. y ≡ e) → (P → Q) → IsFaultOf P e → IfErr r (IsFaultOf Q)
exit e (Ok x) P Q same f h = tt
exit e (Err d) P Q same f h = subst (IsFaultOf Q) (sym same) (fault_of f e h)

-- an element of a list of rows is the row of an element of the list of records
one_of : {R : Type 0} (row_of : R → Row) (fits : R → Type 0) (xs : List R) (row : Row) (at : ℕ) → at < length (map row_of xs) → get_or (map row_of xs) at row ≡ row → AllByRecursion fits xs
    → (x : R) × fits x × (row_of x ≡ row)
one_of row_of fits [] row at within is f = absurd (omega (arith, within))
one_of row_of fits (x ∷ xs) row zero within is f = (x, f.0, is)
one_of row_of fits (x ∷ xs) row (suc at) within is f = one_of row_of fits xs row at (omega (arith, within)) is f.1

-- if one row is no record's, the list of rows is no list of records'
pub one_unwritten : {R : Type 0} (row_of : R → Row) (fits : R → Type 0) (rows : List Row) (row : Row) (at : ℕ) → at < length rows → get_or rows at row ≡ row
    → IsUnwritten row_of fits row → IsUnwritten (map row_of) (AllByRecursion fits) rows
one_unwritten row_of fits rows row at within is h =
    record { none = λ xs f e. let x = one_of row_of fits xs row at (subst (λ l. at < length l) (sym e) within) (subst (λ l. get_or l at row ≡ row) (sym e) is) f in h.none x.0 x.1 x.2 }

-- an element that fits keeps a list of such elements so
pub all_fit_push : {R : Type 0} (fits : R → Type 0) (xs : List R) (x : R) → AllByRecursion fits xs → fits x → AllByRecursion fits (xs ++ x ∷ [])
all_fit_push fits [] x all one = (one, tt)
all_fit_push fits (y ∷ xs) x all one = (all.0, all_fit_push fits xs x all.1 one)
