-- The effect of each call of the store on its content.
use Rattle.office_store.proofs.Names.{Ok, Err, Result, ℕ, arith, ◌≡◌, ◌⊎◌, inl, inr, List, refl, sym, subst, IsTrue, ⊤, IfErr, Database, Held, state, State, HasCleanDisk, IsLive, Survives, one_fault_more, count_after, IsFaultOf, Keeps, LooksUp, SumsAnswer, AddsUp, Alters, PutsFail, Changes, Tables, IsSorted, after_puts, ChangesKeepOrder, Put, ShelfFault, NoMemory, Store, fault_of, IsExcused, ChangeFails, TreesTellOneOffice, Holds, Refused, Applied, Leaves, LeavesPuts, ShowsTables, TellsOnly, sql_meaning, LeavesOffices, KeepsOffice}
use Rattle.sqlite_trees.specs.declared.store.Store.{Ghosts}
use Rattle.sqlite.specs.declared.error.Error.{Error}
use Rattle.office_tables.specs.Steps.{MayLeave}
use Rattle.office_store.proofs.Once.{schema_once}

-- ---- the last commit

pub still_shows : (old new : State) (t : Tables) → Refused old new → ShowsTables old t → ShowsTables new t
still_shows old new t it shows open_now = subst (λ d. Holds d t) (sym (it.committed open_now)) (shows (it.was_open open_now))

applied_shows : (old new : State) (puts : List Put) (t : Tables) → Applied old new puts → ShowsTables old t → ShowsTables new (after_puts puts t)
applied_shows old new puts t it shows open_now = it.tables t (shows it.was_open)

applied_leaves : TreesTellOneOffice → (old new : State) (puts : List Put) (t u : Tables) → Applied old new puts → ShowsTables old t → MayLeave new u → u ≡ after_puts puts t
applied_leaves once old new puts t u it shows left = once left.0 new.committed u (after_puts puts t) left.2 (it.tables t (shows it.was_open)) (it.only left.0.trees left.1)

applied_stops : TreesTellOneOffice → (old new : State) (puts : List Put) (u : Tables) → HasCleanDisk new → Survives old new (LeavesPuts old puts) → MayLeave new u
    → MayLeave old u ⊎ ((t : Tables) → IsSorted t × ShowsTables old t → u ≡ after_puts puts t)
applied_stops once old new puts u clean survives left = elim (survives.crash clean left.0.trees left.1) [
  | inl before ↦ inl (left.0, before, left.2)
  | inr commits ↦ inr (λ t held. let it = commits.1 t (held.1 commits.0) in once left.0 it.0 u (after_puts puts t) left.2 it.2 it.1)
]

-- ---- whole offices

-- a stop of an open store may leave its last commit, which holds an office if stops leave only offices
last_office : (s : State) → IsLive s → (IsTrue s.is_open → s.may_leave s.committed.trees) → LeavesOffices s → IsTrue s.is_open → (u : Tables) × Holds s.committed u
last_office s live stays was open_now =
    let it = was s.committed.trees (stays open_now) in
    let left : Leaves it.0 s.committed.trees = it.1 in
    let schema : s.committed.schema ≡ left.0.schema = schema_once s.committed left.0 (live open_now).1 left.2.sound left.1 in
    let same : left.0 ≡ s.committed = λ i. record { schema = (sym schema) i; trees = (sym left.1) i } in
    (it.0, subst (λ (d : Database). Holds d it.0) same left.2)

looks_leave : (old new : State) → HasCleanDisk new → Survives old new (λ _. ⊥) → LeavesOffices old → LeavesOffices new
looks_leave old new clean survives was db left = elim (survives.crash clean db left) [ inl before ↦ was db before | inr none ↦ absurd none ]

puts_leave : (old new : State) (puts : List Put) → IsLive old → (IsTrue old.is_open → old.may_leave old.committed.trees) → HasCleanDisk new → Survives old new (LeavesPuts old puts)
    → LeavesOffices old → LeavesOffices new
puts_leave old new puts live stays clean survives was db left = elim (survives.crash clean db left) [
  | inl before ↦ was db before
  | inr commits ↦ (let last = last_office old live stays was commits.0 in (after_puts puts last.0, commits.1 last.0 last.1))
]

-- an error with a cause is reported as a fault with this cause
caused : {Cause : Type 0} (fault : ShelfFault) → Cause → IsFaultOf Cause fault
caused NoMemory cause = tt
caused Store cause = cause

pub has_cause : {Cause : Type 0} (e : Error) → IsExcused Cause e → IsFaultOf Cause (fault_of e)
has_cause {Cause} e (inl memory) = subst (λ e. IsFaultOf Cause (fault_of e)) (sym memory) tt
has_cause e (inr cause) = caused (fault_of e) cause

-- a store may fail for causes of its own
no_sums : {T : Type 0} (fault : ShelfFault) (right : Tables → T → Type 0) (Fits : Tables → Type 0) (t : Tables) → SumsAnswer {T = T} ⊤ right Fits (Err fault) t
no_sums NoMemory right Fits t = tt
no_sums Store right Fits t = inl tt

module _ {S : Type 0} (g : Ghosts S) (old new : Held S) where
  -- ---- a query

  pub keeps : (n m : ℕ) → (HasCleanDisk (state g new) → Refused (state g old) (state g new)) → Survives (state g old) (state g new) (λ _. ⊥) → Keeps (sql_meaning g) (old, n) (new, m)
  keeps n m kept survives = record {
    before = λ clean. omega (arith, clean, survives.clean);
    same = λ clean t h. (h.0, still_shows (state g old) (state g new) t (kept clean) h.1);
    stop = λ clean u left. elim (survives.crash clean left.0.trees left.1) [ inl before ↦ (left.0, before, left.2) | inr none ↦ absurd none ];
    sound = λ clean was. looks_leave (state g old) (state g new) clean survives was;
  }

  -- the answer of a call, with the count of faults; the store is known by its view
  pub looked_sorted : {T : Type 0} (entry : Held S × ℕ) (n : ℕ) (value : T) (right : Tables → T → Type 0) → (old, n) ≡ entry
      → (HasCleanDisk (state g new) → Refused (state g old) (state g new)) → Survives (state g old) (state g new) (λ _. ⊥)
      → (HasCleanDisk (state g new) → (t : Tables) → IsSorted t → ShowsTables (state g old) t → right t value) → LooksUp (sql_meaning g) entry (new, n) (Ok value) right
  looked_sorted entry n value right is kept survives got =
      subst (λ e. LooksUp (sql_meaning g) e (new, n) (Ok value) right) is
      ((keeps n n kept survives, λ clean t h. got clean t h.0 h.1), record { counted = refl; cause = tt })

  looked : {T : Type 0} (entry : Held S × ℕ) (n : ℕ) (value : T) (right : Tables → T → Type 0) → (old, n) ≡ entry
      → (HasCleanDisk (state g new) → Refused (state g old) (state g new)) → Survives (state g old) (state g new) (λ _. ⊥)
      → (HasCleanDisk (state g new) → (t : Tables) → ShowsTables (state g old) t → right t value) → LooksUp (sql_meaning g) entry (new, n) (Ok value) right
  looked entry n value right is kept survives got = looked_sorted entry n value right is kept survives (λ clean t sorted shows. got clean t shows)

  pub unanswered : {T : Type 0} (entry after : Held S × ℕ) (n : ℕ) (fault : ShelfFault) (right : Tables → T → Type 0) → (old, n) ≡ entry → after.0 ≡ new → after.1 ≡ one_fault_more n → IsFaultOf ⊤ fault
      → (HasCleanDisk (state g new) → Refused (state g old) (state g new)) → Survives (state g old) (state g new) (λ _. ⊥) → LooksUp (sql_meaning g) entry after (Err fault) right
  unanswered entry after n fault right is same counted cause kept survives =
      subst (λ e. LooksUp (sql_meaning g) e after (Err fault) right) is
      ((subst (λ h. Keeps (sql_meaning g) (old, n) (h, after.1)) (sym same) (keeps n after.1 kept survives), λ clean t h. tt), record { counted = counted; cause = cause })

  -- the answer stays right when a fault is counted
  recounts : {T : Type 0} (entry after : Held S × ℕ) (n : ℕ) (answer : Result T ShelfFault) (right : Tables → T → Type 0) → (old, n) ≡ entry → after.0 ≡ new → after.1 ≡ count_after answer n
      → IfErr answer (IsFaultOf ⊤) → TellsOnly g old new answer right → LooksUp (sql_meaning g) entry after answer right
  recounts entry after n (Ok value) right is same counted cause tells =
      subst (λ h. LooksUp (sql_meaning g) entry (h, after.1) (Ok value) right) (sym same)
      (subst (λ m. LooksUp (sql_meaning g) entry (new, m) (Ok value) right) (sym counted) (looked entry n value right is tells.1 tells.2 tells.0))
  recounts entry after n (Err fault) right is same counted cause tells = unanswered entry after n fault right is same counted cause tells.1 tells.2

  pub told_counted : {T : Type 0} {entry after : Held S × ℕ} {n : ℕ} {answer result : Result T ShelfFault} (right : Tables → T → Type 0) → (old, n) ≡ entry → result ≡ answer → after.0 ≡ new
      → after.1 ≡ count_after result n → IfErr result (IsFaultOf ⊤) → TellsOnly g old new answer right → LooksUp (sql_meaning g) entry after result right
  told_counted {entry} {after} {n} {result} right is answered same counted cause tells =
      recounts entry after n result right is same counted cause (subst (λ r. TellsOnly g old new r right) (sym answered) tells)

  -- ---- a call that adds up amounts

  -- the count of faults isn't part of the office
  recounted : (n m : ℕ) → KeepsOffice g old new → Keeps (sql_meaning g) (old, n) (new, m)
  recounted n m kept = record { before = (kept n).before; same = (kept n).same; stop = (kept n).stop; sound = (kept n).sound }

  pub added : {T : Type 0} (entry : Held S × ℕ) (n : ℕ) (value : T) (right : Tables → T → Type 0) (Fits : Tables → Type 0) → (old, n) ≡ entry → KeepsOffice g old new
      → (HasCleanDisk (state g new) → (t : Tables) → IsSorted t → ShowsTables (state g old) t → right t value × Fits t) → AddsUp (sql_meaning g) entry (new, n) (Ok value) right Fits
  added entry n value right Fits is kept got =
      subst (λ e. AddsUp (sql_meaning g) e (new, n) (Ok value) right Fits) is ((kept n, λ clean t h. got clean t h.0 h.1), refl)

  pub not_added : {T : Type 0} (entry after : Held S × ℕ) (n : ℕ) (fault : ShelfFault) (right : Tables → T → Type 0) (Fits : Tables → Type 0) → (old, n) ≡ entry → after.0 ≡ new → after.1 ≡ one_fault_more n
      → KeepsOffice g old new → AddsUp (sql_meaning g) entry after (Err fault) right Fits
  not_added entry after n fault right Fits is same counted kept =
      subst (λ e. AddsUp (sql_meaning g) e after (Err fault) right Fits) is
      ((subst (λ h. Keeps (sql_meaning g) (old, n) (h, after.1)) (sym same) (recounted n after.1 kept), λ clean t h. no_sums fault right Fits t), counted)

  -- ---- a change

  module _ (once : TreesTellOneOffice) (sorted : ChangesKeepOrder) (live : IsLive (state g old)) (stays : IsTrue (state g old).is_open → (state g old).may_leave (state g old).committed.trees)
      (puts : List Put) (survives : Survives (state g old) (state g new) (LeavesPuts (state g old) puts)) where
    alters_all : {T : Type 0} (n m : ℕ) (value : T) → (HasCleanDisk (state g new) → Applied (state g old) (state g new) puts)
        → Alters {T = T} {E = ShelfFault} (sql_meaning g) (old, n) (new, m) (Ok value) (after_puts puts)
    alters_all n m value applied = record {
      before = λ clean. omega (arith, clean, survives.clean);
      all = λ clean t h. (sorted puts t h.0, applied_shows (state g old) (state g new) puts t (applied clean) h.1);
      none = λ clean t h. tt;
      stop_all = λ clean t h u left. applied_leaves once (state g old) (state g new) puts t u (applied clean) h.1 left;
      stop_none = λ clean. tt;
      sound = λ clean was. puts_leave (state g old) (state g new) puts live stays clean survives was;
    }

    alters_none : {T : Type 0} (n m : ℕ) (fault : ShelfFault) → (HasCleanDisk (state g new) → Refused (state g old) (state g new))
        → Alters {T = T} {E = ShelfFault} (sql_meaning g) (old, n) (new, m) (Err fault) (after_puts puts)
    alters_none n m fault refused = record {
      before = λ clean. omega (arith, clean, survives.clean);
      all = λ clean t h. tt;
      none = λ clean t h. (h.0, still_shows (state g old) (state g new) t (refused clean) h.1);
      stop_all = λ clean t h. tt;
      stop_none = λ clean u left. applied_stops once (state g old) (state g new) puts u clean survives left;
      sound = λ clean was. puts_leave (state g old) (state g new) puts live stays clean survives was;
    }

    pub applied_ok : (entry : Held S × ℕ) (n : ℕ) → (old, n) ≡ entry → (HasCleanDisk (state g new) → Applied (state g old) (state g new) puts)
        → Changes {T = Unit {0}} (sql_meaning g) entry (new, n) (Ok tt) puts
    applied_ok entry n is applied =
        subst (λ e. Changes {T = Unit {0}} (sql_meaning g) e (new, n) (Ok tt) puts) is (alters_all n n tt applied, refl, λ clean t h. tt)

    pub applied_err : (entry after : Held S × ℕ) (n : ℕ) (e : Error) (fault : ShelfFault) → (old, n) ≡ entry → after.0 ≡ new → after.1 ≡ one_fault_more n → fault ≡ fault_of e
        → (HasCleanDisk (state g new) → Refused (state g old) (state g new)) → (HasCleanDisk (state g new) → (t : Tables) → ShowsTables (state g old) t → IsExcused (ChangeFails (state g old) (state g new) puts) e)
        → Changes {T = Unit {0}} (sql_meaning g) entry after (Err fault) puts
    applied_err entry after n e fault is same counted told refused failed =
        subst (λ e. Changes {T = Unit {0}} (sql_meaning g) e after (Err fault) puts) is (
          subst (λ h. Alters {T = Unit {0}} {E = ShelfFault} (sql_meaning g) (old, n) (h, after.1) (Err fault) (after_puts puts)) (sym same) (alters_none n after.1 fault refused),
          counted,
          subst (λ h. PutsFail {T = Unit {0}} (sql_meaning g) (old, n) (h, after.1) (Err fault) puts) (sym same)
              (λ clean t h. subst (IsFaultOf (ChangeFails (state g old) (state g new) puts)) (sym told) (has_cause e (failed clean t h.1))),
        )
