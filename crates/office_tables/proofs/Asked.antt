-- An answer over the last commit is an answer over the content that this commit holds.
use Rattle.office_tables.proofs.Names.{◌≡◌, ◌⊎◌, inl, inr, ℕ, List, [], ◌∷◌, map, slice_get, Option, Some, ap, Result, Ok, Err, true, IsTrue, sym, subst, ◌∙◌, ◌≤◌, IfOk, IfErr, OnOk, option_map, Row, Ghosts, Database, Held, state, Error, HasCleanDisk, FailsToQuery, IsTooLate, IsFaultOf, ShelfFault, Tables, IsUnread, Holds, IsAsked, IsRefusal, IsRefusedBy, ShowsTables, Tells, FindsPart}
use Rattle.sqlite.specs.State.{State, Shown}

pub asked : {S : Type 0} (g : Ghosts S) (sql : List ℕ) (params : Row) (old : Held S) (rows : List Row) (t : Tables) (Q : Type 0) → IsAsked g sql params old rows → ShowsTables (state g old) t
    → ((before after : State) → Holds before.now t → Shown sql params before after rows → Q) → Q
asked g sql params old rows t Q h shows use_it =
    use_it (state g (record old { in_transaction = true })) (state g h.after) (subst (λ d. Holds d t) (sym h.settled) (shows h.was_open)) h.shown

-- the first record of a single row
pub only_one : {X Y : Type 0} (read : Y → X) (rows : List Y) (x : X) → map read rows ≡ x ∷ [] → option_map read (slice_get rows 0) ≡ Some x
only_one read [] x h = absurd (cc)
only_one read (r ∷ rows) x h = let same : read r ≡ x = cc in ap Some same

-- the record that was found is the one that the rows mean
pub same_found : {A E : Type 0} (r : Result A E) (found : Option A) (x : A) → IfOk r (λ a. found ≡ Some a) → found ≡ Some x → IfOk r (λ a. a ≡ x)
same_found (Ok a) found x h e = let same : Some a ≡ Some x = sym h ∙ e in cc
same_found (Err e) found x h k = tt

pub asks : {S A E : Type 0} (g : Ghosts S) (sql : List ℕ) (params : Row) (old mid : Held S) (rows_of : A → List Row) (r : Result A E)
    → (IsTrue (state g old).is_open → (state g old).now ≡ (state g old).committed)
    → IfOk r (λ a. Shown sql params (state g (record old { in_transaction = true })) (state g mid) (rows_of a)) → OnOk r (IsTrue (state g old).is_open)
    → IfOk r (λ a. IsAsked g sql params old (rows_of a))
asks g sql params old mid rows_of (Ok a) settled shown opened = record { was_open = opened; settled = settled opened; after = mid; shown = shown }
asks g sql params old mid rows_of (Err e) settled shown opened = tt

pub refusals : {S A : Type 0} (g : Ghosts S) (sql : List ℕ) (params : Row) (old mid : Held S) (r : Result A Error)
    → IfErr r (λ e. FailsToQuery sql params (state g (record old { in_transaction = true })) (state g mid) e ⊎ IsTooLate sql params (state g (record old { in_transaction = true })) (state g mid) e)
    → IfErr r (IsRefusal g sql params old)
refusals g sql params old mid (Ok a) h = tt
refusals g sql params old mid (Err e) h = inl (mid, h)

pub refused_by : {S A : Type 0} (g : Ghosts S) (sql : List ℕ) (params : Row) (old mid new : Held S) (r : Result A Error) → (state g mid).faults ≤ (state g new).faults
    → IfErr r (λ e. FailsToQuery sql params (state g (record old { in_transaction = true })) (state g mid) e ⊎ IsTooLate sql params (state g (record old { in_transaction = true })) (state g mid) e)
    → IfErr r (IsRefusedBy g sql params old new)
refused_by g sql params old mid new (Ok a) up h = tt
refused_by g sql params old mid new (Err e) up h = inl (mid, up, h)

-- the answer that was found in the rows is right, because every answer in these rows is right
told : {S A E : Type 0} (g : Ghosts S) (sql : List ℕ) (params : Row) (old : Held S) (r : Result A E) (From : A → List Row → Type 0) (t : Tables) (Right : A → Type 0)
    → IfOk r (λ a. (rows : List Row) × IsAsked g sql params old rows × From a rows) → ShowsTables (state g old) t
    → ((before after : Held S) (rows : List Row) (a : A) → Holds (state g before).now t → Shown sql params (state g before) (state g after) rows → From a rows → Right a) → IfOk r Right
told g sql params old (Ok a) From t Right h shows right =
    right (record old { in_transaction = true }) h.1.after h.0 a (subst (λ d. Holds d t) (sym h.1.settled) (shows h.1.was_open)) h.1.shown h.2
told g sql params old (Err e) From t Right h shows right = tt

-- the record or the records that were found are right, and so is the whole result of a look-up
pub tells_one : {S X E : Type 0} (g : Ghosts S) (sql : List ℕ) (params : Row) (old new : Held S) (r : Result (Option X) E) (read : Row → X) (part : Tables → Option X)
    → (HasCleanDisk (state g new) → IfOk r (λ found. (rows : List Row) × IsAsked g sql params old rows × (found ≡ option_map read (slice_get rows 0))))
    → FindsPart g sql params (λ rows. option_map read (slice_get rows 0)) part → Tells g old new r (λ t found. found ≡ part t)
tells_one g sql params old new r read part asked finds clean t shows =
    told g sql params old r (λ found rows. found ≡ option_map read (slice_get rows 0)) t (λ found. found ≡ part t) (asked clean) shows (λ before after rows found holds shown from. from ∙ finds before after rows t holds shown)

pub tells_all : {S A X E : Type 0} (g : Ghosts S) (sql : List ℕ) (params : Row) (old new : Held S) (r : Result A E) (items : A → List X) (read : Row → X) (part : Tables → List X)
    → (HasCleanDisk (state g new) → IfOk r (λ found. (rows : List Row) × IsAsked g sql params old rows × (items found ≡ map read rows)))
    → FindsPart g sql params (map read) part → Tells g old new r (λ t found. items found ≡ part t)
tells_all g sql params old new r items read part asked finds clean t shows =
    told g sql params old r (λ found rows. items found ≡ map read rows) t (λ found. items found ≡ part t) (asked clean) shows (λ before after rows found holds shown from. from ∙ finds before after rows t holds shown)

-- an answer that was found in some rows of the query is one found in rows of the query
pub from_rows : {S A E : Type 0} (g : Ghosts S) (sql : List ℕ) (params : Row) (old : Held S) (rows : List Row) (r : Result A E) (From : A → List Row → Type 0)
    → IsAsked g sql params old rows → IfOk r (λ a. From a rows) → IfOk r (λ a. (rows : List Row) × IsAsked g sql params old rows × From a rows)
from_rows g sql params old rows (Ok a) From h found = (rows, h, found)
from_rows g sql params old rows (Err e) From h found = tt

-- the reason why the rows of the query aren't read
pub rows_unread : {S A : Type 0} (g : Ghosts S) (sql : List ℕ) (params : Row) (old : Held S) (rows : List Row) (r : Result A ShelfFault) (unwritten : List Row → Type 0)
    → IsAsked g sql params old rows → IfErr r (IsFaultOf (unwritten rows)) → IfErr r (IsUnread g sql params old unwritten)
rows_unread g sql params old rows (Ok a) unwritten h why = tt
rows_unread g sql params old rows (Err e) unwritten h why = inr (rows, h, why)

-- an answer is right if the last commit has any property `P` that makes every answer right
pub told_of : {S A E : Type 0} (P : Database → Type 0) (g : Ghosts S) (sql : List ℕ) (params : Row) (old : Held S) (r : Result A E) (From : A → List Row → Type 0) (Right : A → Type 0)
    → IfOk r (λ a. (rows : List Row) × IsAsked g sql params old rows × From a rows) → (IsTrue (state g old).is_open → P (state g old).committed)
    → ((before after : State) (rows : List Row) (a : A) → P before.now → Shown sql params before after rows → From a rows → Right a) → IfOk r Right
told_of P g sql params old (Ok a) From Right h shows right =
    right (state g (record old { in_transaction = true })) (state g h.1.after) h.0 a (subst P (sym h.1.settled) (shows h.1.was_open)) h.1.shown h.2
told_of P g sql params old (Err e) From Right h shows right = tt
