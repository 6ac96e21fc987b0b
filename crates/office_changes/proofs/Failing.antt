-- The reasons why a list of changes wasn't made.
use Rattle.office_changes.proofs.Names.{◌≡◌, inl, inr, ◌≤◌, ℕ, true, false, List, [], ◌∷◌, ◌++◌, Option, Result, Ok, Err, refl, sym, ap, subst, ◌∙◌, IsTrue, true≢false, arith, IsErrAnd, IfErr, cases_Bool, append_assoc, StoreError, Database, FailsToCommit, State, HasCause, store_error, Error, Tables, after_put, after_puts, Put, IsExcused, OneIsDeclined, StoreFails, ChangeFails, Holds, MakeAll, Puts, ShowsTables}
use Rattle.sqlite_trees.specs.declared.error.StoreError.TheVariants as stores
use Rattle.office_changes.proofs.Steps.{made_then}

pub excused_with : (P Q : Type 0) (e : Error) → IsExcused P e → (P → Q) → IsExcused Q e
excused_with P Q e (inl memory) f = inl memory
excused_with P Q e (inr cause) f = inr (f cause)

pub if_err_with : {A E : Type 0} (r : Result A E) (P Q : E → Type 0) → IfErr r P → ((e : E) → P e → Q e) → IfErr r Q
if_err_with (Ok a) P Q h f = tt
if_err_with (Err e) P Q h f = f e h

-- a `?` returns the error of the call
pub same_err : {T E : Type 0} (r : Result T E) (e : E) (P : E → Type 0) → IsErrAnd r (λ y. y ≡ e) → P e → IfErr r P
same_err (Ok a) e P same h = tt
same_err (Err y) e P same h = subst P (sym same) h

-- ---- lists of puts

after_both : (xs ys : List Put) (t : Tables) → after_puts (xs ++ ys) t ≡ after_puts ys (after_puts xs t)
after_both [] ys t = refl
after_both (x ∷ xs) ys t = after_both xs ys (after_put x t)

-- if one of the later or of the earlier puts is rejected, one of all puts is rejected
declined_later : (limit : Option ℕ) (start mid : Database) (xs ys : List Put) → MakeAll limit xs start mid → ((t : Tables) → Holds start t → Holds mid (after_puts xs t)) → OneIsDeclined limit mid ys
    → OneIsDeclined limit start (xs ++ ys)
declined_later limit start mid xs ys made holds d = record {
  done = xs ++ d.done;
  put = d.put;
  more = d.more;
  is = ap (λ l. xs ++ l) d.is ∙ sym (append_assoc xs d.done (d.put ∷ d.more));
  db = d.db;
  made = made_then limit xs d.done start mid d.db made d.made;
  holds = λ t held. subst (Holds d.db) (sym (after_both xs d.done t)) (d.holds (after_puts xs t) (holds t held));
  declined = d.declined;
}

declined_early : (limit : Option ℕ) (start : Database) (xs ys : List Put) → OneIsDeclined limit start xs → OneIsDeclined limit start (xs ++ ys)
declined_early limit start xs ys d = record {
  done = d.done;
  put = d.put;
  more = d.more ++ ys;
  is = ap (λ l. l ++ ys) d.is ∙ append_assoc d.done (d.put ∷ d.more) ys;
  db = d.db;
  made = d.made;
  holds = d.holds;
  declined = d.declined;
}

-- ---- within a transaction

pub fails_early : (old new : State) (start : Database) (xs ys : List Put) → StoreFails old new start xs → StoreFails old new start (xs ++ ys)
fails_early old new start xs ys (inl disk) = inl disk
fails_early old new start xs ys (inr (inl shut)) = inr (inl shut)
fails_early old new start xs ys (inr (inr d)) = inr (inr (declined_early old.step_limit start xs ys d))

open_not_shut : (s : State) → IsTrue s.is_open → s.is_open ≡ false → ⊥
open_not_shut s open_now shut = true≢false (sym open_now ∙ shut)

pub fails_later : (old mid new : State) (xs ys : List Put) (t : Tables) → Holds old.now t → Puts old mid xs → old.faults ≤ mid.faults → mid.step_limit ≡ old.step_limit → StoreFails mid new mid.now ys → StoreFails old new old.now (xs ++ ys)
fails_later old mid new xs ys t was done up limit (inl disk) = inl (omega arith)
fails_later old mid new xs ys t was done up limit (inr (inl shut)) = absurd (open_not_shut mid done.goes.is_open shut)
fails_later old mid new xs ys t was done up limit (inr (inr d)) =
    inr (inr (declined_later old.step_limit old.now mid.now xs ys (done.made t was) done.tables (subst (λ l. OneIsDeclined l mid.now ys) limit d)))

-- ---- the whole transaction

-- the puts failed, and their changes were undone
pub undone_fails : (old mid end : State) (puts : List Put) (e : Error) → (IsTrue old.is_open → old.now ≡ old.committed) → mid.faults ≤ end.faults → (t : Tables) → ShowsTables old t
    → (Holds old.now t → IsExcused (StoreFails (record old { in_transaction = true }) mid old.now puts) e) → IsExcused (ChangeFails old end puts) e
undone_fails old mid end puts e settled up t shows failed = elim (cases_Bool old.is_open) [
  | inl open_now ↦ (let same = settled open_now in excused_with _ _ e (failed (subst (λ d. Holds d t) (sym same) (shows open_now))) (λ cause. inr (by same cause)))
  | inr shut ↦ inr (inr (inr (inl shut)))
]
  where
    by : old.now ≡ old.committed → StoreFails (record old { in_transaction = true }) mid old.now puts → StoreFails old end old.committed puts
    by same (inl disk) = inl (omega arith)
    by same (inr (inl shut)) = inr (inl shut)
    by same (inr (inr d)) = inr (inr (subst (λ db. OneIsDeclined old.step_limit db puts) same d))

-- the puts were made, and their commit failed
pub commit_fails : (old mid end : State) (puts : List Put) (e : Error) → Puts (record old { in_transaction = true }) mid puts → old.faults ≤ mid.faults → FailsToCommit mid end e → IsExcused (ChangeFails old end puts) e
commit_fails old mid end puts e done up (inl (cause, is, why, back, tells)) = by cause is why
  where
    by : (cause : StoreError) → e ≡ store_error cause → HasCause mid end ⊥ cause → IsExcused (ChangeFails old end puts) e
    by stores.OutOfMemory is why = inl is
    by stores.Io is why = inr (inr (inl (omega arith)))
    by stores.Corrupt is why = inr (inr (inl (omega arith)))
    by stores.Full is why = inr (inr (inl (omega arith)))
    by stores.Broken is why = absurd (open_not_shut mid done.goes.is_open why)
    by stores.Unstorable is why = absurd why
commit_fails old mid end puts e done up (inr late) = absurd (true≢false (sym done.goes.mode ∙ late.1))
