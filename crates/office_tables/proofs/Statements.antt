-- Lists of statements that were run, and one that failed.
use Rattle.office_tables.proofs.Names.{◌≡◌, ◌∙◌, ◌⊎◌, inl, inr, ℕ, ◌≤◌, Bool, true, false, cond, List, [], ◌∷◌, ◌++◌, Ok, Err, refl, sym, ap, subst, append_assoc, arith, cases_Bool, nat_lt, Row, Ghosts, Held, state, ExecutesInside, IsNotRun, Error, ClockRow, DropsFormer, Renews, drop_notices, drop_version, had_former, FirstFails, OneFails, RunAll, drops, renewal, clock_values, upsert_office, get_version}
use Rattle.office_tables.specs.Statements.{Statement, creates}
use Rattle.office_tables.proofs.LaterTables.{LaterLine}

module _ {S : Type 0} (g : Ghosts S) where
  -- a list begins after a step that changed no content
  run_from : (xs : List Statement) (old mid new : Held S) → (state g mid).now ≡ (state g old).now → RunAll g xs mid new → RunAll g xs old new
  run_from [] old mid new same ran = ran ∙ same
  run_from (x ∷ xs) old mid new same (first, second, at, one, rest) = (first, second, at ∙ same, one, rest)

  pub run_then : (xs ys : List Statement) (old mid new : Held S) → RunAll g xs old mid → RunAll g ys mid new → RunAll g (xs ++ ys) old new
  run_then [] ys old mid new same more = run_from ys old mid new same more
  run_then (x ∷ xs) ys old mid new (first, second, at, one, rest) more = (first, second, at, one, run_then xs ys second mid new rest more)

  pub run_one : (s : Statement) (old new : Held S) (count : ℕ) → ExecutesInside 0 s.text s.values (state g old) (state g new) (Ok count) → RunAll g (s ∷ []) old new
  run_one s old new count ran = (old, new, refl, (count, ran), refl)

  first_early : (xs ys : List Statement) (old new : Held S) (e : Error) → FirstFails g xs old new e → FirstFails g (xs ++ ys) old new e
  first_early [] [] old new e unready = unready
  first_early [] (y ∷ ys) old new e unready = inl unready
  first_early (x ∷ xs) ys old new e fails = fails

  pub fails_early : (xs ys : List Statement) (old new : Held S) (e : Error) → OneFails g xs old new e → OneFails g (xs ++ ys) old new e
  fails_early xs ys old new e it = record {
    done = it.done;
    more = it.more ++ ys;
    is = ap (λ (l : List Statement). l ++ ys) it.is ∙ append_assoc it.done it.more ys;
    mid = it.mid;
    ran = it.ran;
    up = it.up;
    fails = first_early it.more ys it.mid new e it.fails;
  }

  pub fails_later : (xs ys : List Statement) (old mid new : Held S) (e : Error) → RunAll g xs old mid → (state g old).faults ≤ (state g mid).faults → OneFails g ys mid new e
      → OneFails g (xs ++ ys) old new e
  fails_later xs ys old mid new e ran up it = record {
    done = xs ++ it.done;
    more = it.more;
    is = ap (λ (l : List Statement). xs ++ l) it.is ∙ sym (append_assoc xs it.done it.more);
    mid = it.mid;
    ran = run_then xs it.done old mid it.mid ran it.ran;
    up = omega (arith, up, it.up);
    fails = it.fails;
  }

  pub fails_one : (s : Statement) (more : List Statement) (old new : Held S) (e : Error) → ExecutesInside 0 s.text s.values (state g old) (state g new) (Err e)
      → OneFails g (s ∷ more) old new e
  fails_one s more old new e failed = record { done = []; more = s ∷ more; is = refl; mid = old; ran = refl; up = omega arith; fails = inr failed }

  unready_first : (xs : List Statement) (old new : Held S) (e : Error) → IsNotRun (state g old) (state g new) get_version [] e → FirstFails g xs old new e
  unready_first [] old new e unready = unready
  unready_first (x ∷ xs) old new e unready = inl unready

  pub fails_unready : (xs : List Statement) (old new : Held S) (e : Error) → IsNotRun (state g old) (state g new) get_version [] e → OneFails g xs old new e
  fails_unready xs old new e unready = record { done = []; more = xs; is = refl; mid = old; ran = refl; up = omega arith; fails = unready_first xs old new e unready }

  -- ---- the statements of a migration

  ran_where : (had : Bool) (old new : Held S) → DropsFormer g had old new → RunAll g (cond had (record { text = drop_notices; values = [] } ∷ []) []) old new
  ran_where true old new it = run_one (record { text = drop_notices; values = [] }) old new it.0 it.1
  ran_where false old new same = ap (λ (h : Held S). (state g h).now) same

  pub ran_drops : (edition : ℕ) (old new : Held S) → DropsFormer g (had_former edition) old new → RunAll g (drops edition) old new
  ran_drops edition old new it = ran_where (had_former edition) old new it

  pub ran_renewal : (edition : ℕ) (clock : ClockRow) (old new : Held S) → Renews g edition clock old new → RunAll g (renewal edition clock) old new
  ran_renewal edition clock old new it =
      let freed : Statement = record { text = drop_version; values = [] } in
      let put : Statement = record { text = upsert_office; values = clock_values clock } in
      run_then (drops edition) (freed ∷ put ∷ []) old it.first new (ran_drops edition old it.first it.dropped)
      (run_then (freed ∷ []) (put ∷ []) it.first it.second new (run_one freed it.first it.second it.freed.0 it.freed.1) (run_one put it.second new it.put.0 it.put.1))

pub creates_both : (edition : ℕ) (xs ys : List LaterLine) → creates edition (xs ++ ys) ≡ creates edition xs ++ creates edition ys
creates_both edition [] ys = refl
creates_both edition (x ∷ xs) ys =
    let one = cond (nat_lt edition x.0) (record { text = x.2; values = [] } ∷ []) [] in
    ap (λ (l : List Statement). one ++ l) (creates_both edition xs ys) ∙ sym (append_assoc one (creates edition xs) (creates edition ys))
