-- A query for the ledger's rows begins, or fails.
use Rattle.office_store.proofs.Names.{◌≡◌, inl, inr, ℕ, List, Result, Ok, Err, [], refl, sym, subst, ◌∙◌, arith, IfOk, Row, Trees, IsPlain, HasGiven, HasBegun, Held, state, understood, State, HasCleanDisk, IsUnchanged, Survives, CommitsShowing, FailsToQuery, FailsToShow, begun_plain, Tables, IsSorted, joined, Holds, Refused, ShowsTables, JoinIsNoWrite, JoinIsPlain, list_joined, HoldsJoined, StoredRowsShow, HasTaken, KeepsOffice}
use Rattle.sqlite_trees.specs.declared.store.Store.{Ghosts}
use Rattle.sqlite.specs.declared.error.Error.{Error}
use Rattle.office_store.proofs.Joined.{holds_joined}
use Rattle.office_store.proofs.Shelves.{still_shows}
use Rattle.office_store.proofs.Kept.{unchanged, not_run_kept}

-- a query without RETURNING that fails commits nothing
plain_refused : (sql : List ℕ) (params : Row) (old new : State) (e : Error) → IsPlain (understood old.now.schema sql) → FailsToQuery sql params old new e → Refused old new
unfolding FailsToQuery
plain_refused sql params old new e plain (inl none) = not_run_kept sql params old new e none
plain_refused sql params old new e plain (inr h) =
    let returning = (subst IsPlain h.1.is plain).0 in
    let shown = subst (FailsToShow old new sql h.0 _ e) returning h.2 in
    unchanged old new shown.3

-- in any store, the select commits nothing
commits_nothing : JoinIsNoWrite → (s : State) (db : Trees) → CommitsShowing list_joined [] s db → ⊥
unfolding CommitsShowing
commits_nothing law s db h = absurd (let none = rw (law s.now.schema h.0 h.1.is) at h.2 in cc)

-- a connection that is ready, and its state after the query
module _ {S : Type 0} (g : Ghosts S) (old mid new : Held S) (plain : JoinIsPlain) (unwritten : JoinIsNoWrite) (show : StoredRowsShow)
    (same : HasCleanDisk (state g mid) → IsUnchanged (state g old) (state g mid)) (settled : HasCleanDisk (state g mid) → (state g mid).now ≡ (state g mid).committed)
    (first : Survives (state g old) (state g mid) (λ _. ⊥)) (then : Survives (state g mid) (state g new) (CommitsShowing list_joined [] (state g mid))) where
  earlier : HasCleanDisk (state g new) → HasCleanDisk (state g mid)
  earlier clean = omega (arith, clean, then.clean)

  module _ (clean : HasCleanDisk (state g new)) (t : Tables) (sorted : IsSorted t) (shows : ShowsTables (state g old) t) where
    stands : HoldsJoined (state g mid).now t
    stands =
        let was = same (earlier clean) in
        holds_joined show (state g mid).now t sorted (subst (λ d. Holds d t) (sym (settled (earlier clean) ∙ was.0.committed_is)) (shows was.0.was_open))

    reads : IsPlain (understood mid.schema list_joined)
    reads = plain (state g mid).now.schema stands.at stands.four

  -- whatever the store held, a stop can leave nothing new
  adds_nothing : HasCleanDisk (state g new) → (db : Trees) → (state g new).may_leave db → (state g old).may_leave db
  adds_nothing clean db left = elim (then.crash clean db left) [
    | inl before ↦ elim (first.crash (earlier clean) db before) [ inl long ↦ long | inr none ↦ absurd none ]
    | inr commits ↦ absurd (commits_nothing unwritten (state g mid) db commits)
  ]

  -- nothing was committed, so the office is as it was
  kept_office : (HasCleanDisk (state g new) → (t : Tables) → IsSorted t → ShowsTables (state g old) t → Refused (state g mid) (state g new)) → KeepsOffice g old new
  kept_office kept n = record {
    before = λ clean. omega (arith, earlier clean, first.clean);
    same = λ clean t h. (
      h.0,
      still_shows (state g old) (state g new) t (record {
        was_open = λ _. (same (earlier clean)).0.was_open;
        committed = λ open_now. (kept clean t h.0 h.1).committed open_now ∙ (same (earlier clean)).0.committed_is;
      }) h.1,
    );
    stop = λ clean u left. (left.0, adds_nothing clean left.0.trees left.1, left.2);
    sound = λ clean was db left. was db (adds_nothing clean db left);
  }

  -- the query failed
  pub refused_keeps : (e : Error) → (HasCleanDisk (state g new) → FailsToQuery list_joined [] (state g mid) (state g new) e) → KeepsOffice g old new
  refused_keeps e failed = kept_office (λ clean t sorted shows. plain_refused list_joined [] (state g mid) (state g new) e (reads clean t sorted shows) (failed clean))

  -- the query began
  module _ (begun : HasCleanDisk (state g new) → HasBegun g list_joined [] mid new) where
    module _ (clean : HasCleanDisk (state g new)) (t : Tables) (sorted : IsSorted t) (shows : ShowsTables (state g old) t) where
      given : HasGiven g list_joined [] new [] × IsUnchanged (state g mid) (state g new)
      given = begun_plain g list_joined [] mid new (reads clean t sorted shows) (begun clean)

      begun_holds : HoldsJoined (state g new).now t
      begun_holds = subst (λ d. HoldsJoined d t) (sym given.1.0.now_is) (stands clean t sorted shows)

    pub begun_keeps : KeepsOffice g old new
    begun_keeps = kept_office (λ clean t sorted shows. unchanged (state g mid) (state g new) (given clean t sorted shows).1)

    pub begun_takes : HasCleanDisk (state g new) → (t : Tables) → IsSorted t → ShowsTables (state g old) t → HasTaken g new t []
    begun_takes clean t sorted shows = record { given = (given clean t sorted shows).0; held = begun_holds clean t sorted shows; first = (joined t, refl) }

pub on_value : {A E : Type 0} {P Q : A → Type 0} (r : Result A E) → ((a : A) → P a → Q a) → IfOk r P → IfOk r Q
on_value (Ok a) f h = f a h
on_value (Err e) f h = tt
