-- Changes that are made one after another.
use Rattle.office_changes.proofs.Names.{◌≡◌, Err, Ok, true, false, ℕ, Option, Result, List, [], ◌∷◌, ◌++◌, refl, sym, subst, ◌∙◌, IsTrue, OnErr, OnOk, Trees, Database, State, IsRolledBack, Shows, Tables, after_put, after_puts, Put, Holds, Goes, MakeAll, Puts, Refused, Applied, LeavesPuts}

pub after_puts-push : (t : Tables) (done : List Put) (p : Put) → after_puts (done ++ p ∷ []) t ≡ after_put p (after_puts done t)
after_puts-push t [] p = refl
after_puts-push t (q ∷ done) p = after_puts-push (after_put q t) done p

pub on_err : {A E : Type 0} (r : Result A E) (P : Type 0) → P → OnErr r P
on_err (Ok a) P h = tt
on_err (Err e) P h = h

pub on_ok_with : {A E : Type 0} (r : Result A E) (P Q : Type 0) → OnOk r P → (P → Q) → OnOk r Q
on_ok_with (Ok a) P Q h f = f h
on_ok_with (Err e) P Q h f = tt

pub on_err_with : {A E : Type 0} (r : Result A E) (P Q : Type 0) → OnErr r P → (P → Q) → OnErr r Q
on_err_with (Ok a) P Q h f = tt
on_err_with (Err e) P Q h f = f h

-- ---- within a transaction

pub goes_then : (a b c : State) → Goes a b → Goes b c → Goes a c
goes_then a b c first second = record { mode = second.mode; was_open = first.was_open; is_open = second.is_open; committed = second.committed ∙ first.committed }

-- the database after some puts, and then others
pub made_then : (limit : Option ℕ) (xs ys : List Put) (a b c : Database) → MakeAll limit xs a b → MakeAll limit ys b c → MakeAll limit (xs ++ ys) a c
made_then limit [] ys a b c same more = subst (λ d. MakeAll limit ys d c) same more
made_then limit (x ∷ xs) ys a b c (mid, one, rest) more = (mid, one, made_then limit xs ys mid b c rest more)

pub puts_push : (a b c : State) (done : List Put) (p : Put) → b.step_limit ≡ a.step_limit → Puts a b done → Puts b c (p ∷ []) → Puts a c (done ++ p ∷ [])
puts_push a b c done p limit first second = record {
  goes = goes_then a b c first.goes second.goes;
  made = λ t h. made_then a.step_limit done (p ∷ []) a.now b.now c.now (first.made t h) (subst (λ l. MakeAll l (p ∷ []) b.now c.now) limit (second.made (after_puts done t) (first.tables t h)));
  tables = λ t h. subst (Holds c.now) (sym (after_puts-push t done p)) (second.tables (after_puts done t) (first.tables t h));
}

-- ---- nothing was committed

pub goes_refused : (a b c : State) → Goes a b → Refused b c → Refused a c
goes_refused a b c first second = record { was_open = λ o. first.was_open; committed = λ o. second.committed o ∙ first.committed }

pub refused_then : (a b c : State) (done : List Put) → Puts a b done → Refused b c → Refused a c
refused_then a b c done first second = goes_refused a b c first.goes second

pub rolled : (a b c : State) → Refused a b → IsRolledBack b c → Refused a c
rolled a b c first back = record { was_open = λ o. first.was_open (back.was_open o); committed = λ o. (back.undone o).1 ∙ first.committed (back.was_open o) }

pub begun_refused : (old new : State) → Refused (record old { in_transaction = true }) new → Refused old new
begun_refused old new h = record { was_open = h.was_open; committed = h.committed }

-- ---- the whole transaction

pub put_leaves : (old mid : State) (puts : List Put) → (IsTrue old.is_open → old.now ≡ old.committed) → Puts (record old { in_transaction = true }) mid puts
    → (db : Trees) → db ≡ mid.now.trees → LeavesPuts old puts db
put_leaves old mid puts settled done db is =
    (done.goes.was_open, λ t h. (mid.now, is, done.tables t (subst (λ d. Holds d t) (sym (settled done.goes.was_open)) h)))

pub applies : (old mid new : State) (puts : List Put) → (IsTrue old.is_open → old.now ≡ old.committed) → Puts (record old { in_transaction = true }) mid puts
    → Shows mid new mid.now mid.now false → (IsTrue new.is_open → (db : Trees) → new.may_leave db → db ≡ new.committed.trees) → Applied old new puts
applies old mid new puts settled done shows only = record {
  was_open = done.goes.was_open;
  is_open = shows.is_open;
  tables = λ t h. subst (λ d. Holds d (after_puts puts t)) (sym shows.committed_is) (done.tables t (subst (λ d. Holds d t) (sym (settled done.goes.was_open)) h));
  only = only shows.is_open;
}
