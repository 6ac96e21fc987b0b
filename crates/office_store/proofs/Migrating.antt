-- An office of an earlier edition is migrated when it is opened.
use Rattle.office_store.proofs.Names.{◌≡◌, inl, inr, ℕ, zero, suc, Bool, true, false, List, [], refl, sym, ap, subst, ◌∙◌, IsTrue, true≢false, arith, not, ◌&&◌, cond, nat_lt, nat_le, and_from, and_parts, leb-true, le-leb, lt-ltb, ltb-false, ltb-true, not-false, Row, Trees, Database, Held, state, State, Tables, ClockRow, NoticeRow, HoldsEdition, IsMigrated, ShowsEdition, ShowsOffice, former_part, had_former, edition_of, has_late, version_of, IsAsked, Refused, ShowsTables, this_version, get_version, one_version, ShowsVersion, current_is, current_version, edition_is, edition_version, HoldsThese, Migrates, LeavesCurrent, Migrated, LeavesMigrated, LeavesReadied, LeavesOffice, IsMadeCurrent, Enters, version_in, is_other_version, origin_of, HasForms, KeepsRest, leads_there}
use Rattle.sqlite_trees.specs.declared.store.Store.{Ghosts}
use Rattle.office_store.proofs.Founding.{refused_on}
use Rattle.office_store.proofs.RestKept.{keeps_rest}
use Rattle.office_store.proofs.Shelves.{still_shows}

-- ---- after a query that committed nothing

earlier_after : (edition : ℕ) (old mid : State) (t : Tables) → Refused old mid → IsTrue mid.is_open → HoldsEdition edition old.committed t → HoldsEdition edition mid.committed t
earlier_after edition old mid t kept open_now = subst (λ (d : Database). HoldsEdition edition d t) (sym (kept.committed open_now))

-- a migration after a query that committed nothing is a migration of the office before the query
moved_after : (edition : ℕ) (old mid : State) (t : Tables) (new : Database) → Refused old mid → IsTrue mid.is_open → IsMigrated edition t mid.committed new → IsMigrated edition t old.committed new
moved_after edition old mid t new kept open_now = subst (λ (d : Database). IsMigrated edition t d new) (kept.committed open_now)

rest_after : (edition : ℕ) (old mid : State) (new : Database) → Refused old mid → IsTrue mid.is_open → KeepsRest edition mid.committed new → KeepsRest edition old.committed new
rest_after edition old mid new kept open_now = subst (λ (d : Database). KeepsRest edition d new) (kept.committed open_now)

pub earlier_on : (edition : ℕ) (old mid : State) (t : Tables) → Refused old mid → ShowsEdition edition old t → ShowsEdition edition mid t
earlier_on edition old mid t kept shows open_now = earlier_after edition old mid t kept open_now (shows (kept.was_open open_now))

migrated_after : (edition : ℕ) (old mid new : State) → Refused old mid → Migrated edition mid new → Migrated edition old new
migrated_after edition old mid new kept it = record {
  was_open = kept.was_open it.was_open;
  is_open = it.is_open;
  tables = λ t was. moved_after edition old mid t new.committed kept it.was_open (it.tables t (earlier_after edition old mid t kept it.was_open was));
  free = subst (λ (d : Database). leads_there edition d.schema ≡ false) (kept.committed it.was_open) it.free;
  rest = λ t was. rest_after edition old mid new.committed kept it.was_open (it.rest t (earlier_after edition old mid t kept it.was_open was));
  only = it.only;
}

pub readied_after : (earlier : Bool) (edition : ℕ) (old mid new : State) → Refused old mid → IsMadeCurrent earlier edition mid new → IsMadeCurrent earlier edition old new
readied_after true edition old mid new kept it = (subst (λ (d : Database). HasForms edition d.schema) (kept.committed it.1.was_open) it.0, migrated_after edition old mid new kept it.1)
readied_after false edition old mid new kept it =
    (λ open_now. subst (λ (d : Database). HasForms edition d.schema) (kept.committed (it.1.was_open open_now)) (it.0 open_now), refused_on old mid new kept it.1)

leaves_migrated_before : (edition : ℕ) (old mid : State) (db : Trees) → Refused old mid → LeavesMigrated edition mid db → LeavesMigrated edition old db
leaves_migrated_before edition old mid db kept it = (
  kept.was_open it.0,
  λ t was. let left = it.1 t (earlier_after edition old mid t kept it.0 was) in (left.0, left.1, moved_after edition old mid t left.0 kept it.0 left.2, rest_after edition old mid left.0 kept it.0 left.3),
)

pub leaves_readied_before : {S : Type 0} (g : Ghosts S) (old mid : Held S) (rows : List Row) (edition : ℕ) (db : Trees) → IsAsked g get_version [] old rows → is_other_version rows ≡ false
    → edition_of (version_in rows) (has_late old.schema) ≡ edition → Refused (state g old) (state g mid) → LeavesReadied edition (state g mid) db → LeavesOffice g old db
leaves_readied_before g old mid rows edition db asked known is kept it =
    inr (edition, (rows, asked, known, is), (it.0, leaves_migrated_before edition (state g old) (state g mid) db kept it.1))

-- ---- with the clock and the notices that were read

module _ (edition : ℕ) (clock : ClockRow) (notices : List NoticeRow) (old mid : State) (kept : Refused old mid) (apart : IsTrue old.is_open → leads_there edition old.committed.schema ≡ false)
    (clock_is : (t : Tables) → ShowsEdition edition old t → clock ≡ t.clock) (notices_are : (t : Tables) → ShowsEdition edition old t → notices ≡ former_part (had_former edition) t.notices) where
  as_told : IsTrue mid.is_open → (t : Tables) → HoldsEdition edition old.committed t → HoldsThese edition clock notices mid.committed t
  as_told open_now t was = record { held = earlier_after edition old mid t kept open_now was; clock_is = sym (clock_is t (λ _. was)); notices_are = sym (notices_are t (λ _. was)) }

  -- the migrated office, and the other tables, which keep their rows
  moved : (new : Database) (t : Tables) → IsTrue mid.is_open → IsMigrated edition t mid.committed new → IsMigrated edition t old.committed new × KeepsRest edition old.committed new
  moved new t open_now it =
      let whole = moved_after edition old mid t new kept open_now it in
      (whole, keeps_rest edition t old.committed new whole (apart (kept.was_open open_now)))

  pub from_told : (new : State) → Migrates edition clock notices mid new → Migrated edition old new
  from_told new it = record {
    was_open = kept.was_open it.was_open;
    is_open = it.is_open;
    tables = λ t was. (moved new.committed t it.was_open (it.tables t (as_told it.was_open t was))).0;
    free = apart (kept.was_open it.was_open);
    rest = λ t was. (moved new.committed t it.was_open (it.tables t (as_told it.was_open t was))).1;
    only = it.only;
  }

  pub told_leaves : (db : Trees) → LeavesCurrent edition clock notices mid db → LeavesMigrated edition old db
  told_leaves db it = (
    kept.was_open it.0,
    λ t was. let left = it.1 t (as_told it.0 t was) in let both = moved left.0 t it.0 left.2 in (left.0, left.1, both.0, both.1),
  )

-- the schema that the connection knows has the same foreign keys and views as that of the last commit
pub apart_committed : {S : Type 0} (g : Ghosts S) (edition : ℕ) (old : Held S) → (IsTrue (state g old).is_open → (state g old).now ≡ (state g old).committed) → leads_there edition old.schema ≡ false
    → IsTrue (state g old).is_open → leads_there edition (state g old).committed.schema ≡ false
apart_committed g edition old settled is open_now = sym (ap (λ (d : Database). leads_there edition d.schema) (settled open_now)) ∙ is

-- the schema that the connection knows has the table of late withdrawals exactly if the last commit has it
pub late_committed : {S : Type 0} (g : Ghosts S) (old : Held S) → (IsTrue (state g old).is_open → (state g old).now ≡ (state g old).committed) → IsTrue (state g old).is_open
    → has_late old.schema ≡ has_late (state g old).committed.schema
late_committed g old settled open_now = ap (λ (d : Database). has_late d.schema) (settled open_now)

-- ---- the version in the answer

-- this program knows the version of each earlier edition
knows_earlier : (edition : ℕ) → nat_lt edition this_version ≡ true → is_other_version (one_version (version_of edition)) ≡ false
knows_earlier zero early = refl
knows_earlier (suc edition) early = ap not (and_from _ _ (lt-ltb 0 (suc edition) (omega arith)) (le-leb (suc edition) this_version (omega (arith, ltb-true (suc edition) this_version early))))

module _ {S : Type 0} (g : Ghosts S) (old : Held S) (rows : List Row) (one : (n : ℕ) (clock : ClockRow) → ShowsVersion n clock (state g old) → rows ≡ one_version n) where
  -- an office of any of these versions has a version that the program knows
  pub never_other : (t : Tables) → ShowsOffice (state g old) t → IsTrue (state g old).is_open → is_other_version rows ≡ true → ⊥
  never_other t shows open_now other = elim (shows open_now) [
    | inl was ↦ true≢false (sym other ∙ ap is_other_version (one this_version t.clock (λ _. current_version (state g old).committed t was)))
    | inr was ↦ true≢false (sym other ∙ ap is_other_version (one (version_of was.0) t.clock (λ _. edition_version was.0 (state g old).committed t was.2)) ∙ knows_earlier was.0 was.1)
  ]

  -- the content is shown, whether the office was used as it was or migrated
  module _ (edition : ℕ) (is : edition_of (version_in rows) (has_late old.schema) ≡ edition) (late : has_late old.schema ≡ has_late (state g old).committed.schema) where
    told : (n e : ℕ) → rows ≡ one_version n → edition_of n (has_late (state g old).committed.schema) ≡ e → edition ≡ e
    told n e answer so = sym is ∙ ap (λ r. edition_of (version_in r) (has_late old.schema)) answer ∙ ap (edition_of n) late ∙ so

    pub readied_shows : (new : State) (t : Tables) → ShowsOffice (state g old) t → IsTrue (state g old).is_open → IsMadeCurrent (nat_lt edition this_version) edition (state g old) new → ShowsTables new t
    readied_shows new t shows open_now it = elim (shows open_now) [
      | inl was ↦ (
          let same = told this_version this_version (one this_version t.clock (λ _. current_version (state g old).committed t was)) (current_is (state g old).committed t was) in
          let used : IsMadeCurrent false this_version (state g old) new = subst (λ e. IsMadeCurrent (nat_lt e this_version) e (state g old) new) same it in
          still_shows (state g old) new t used.1 (λ _. was))
      | inr was ↦ (
          let same = told (version_of was.0) was.0 (one (version_of was.0) t.clock (λ _. edition_version was.0 (state g old).committed t was.2)) (edition_is was.0 (state g old).committed t was.2) in
          let as_it_was = subst (λ e. IsMadeCurrent (nat_lt e this_version) e (state g old) new) same it in
          let moved : IsMadeCurrent true was.0 (state g old) new = subst (λ b. IsMadeCurrent b was.0 (state g old) new) was.1 as_it_was in
          λ _. (moved.1.tables t was.2).held)
    ]

-- if the program knows the version and the edition isn't earlier, the edition is that of the program
not_earlier : (first : Bool) (version : ℕ) → nat_le version this_version ≡ true → nat_lt (cond first 0 version) this_version ≡ false → cond first 0 version ≡ this_version
not_earlier true version known later = absurd (true≢false later)
not_earlier false version known later = omega (arith, leb-true version this_version known, ltb-false version this_version later)

-- the version in the answer was one that this program knows
pub readied_enters : {S : Type 0} (g : Ghosts S) (old new : Held S) (rows : List Row) → IsAsked g get_version [] old rows → is_other_version rows ≡ false
    → (edition : ℕ) → edition_of (version_in rows) (has_late old.schema) ≡ edition → (earlier : Bool) → nat_lt edition this_version ≡ earlier → IsMadeCurrent earlier edition (state g old) (state g new)
    → Enters g (origin_of earlier) old new
readied_enters g old new rows asked known edition is true early it = (edition, (rows, asked, known, is), early, it)
readied_enters g old new rows asked known edition is false later it =
    let both = not-false (nat_lt 0 (version_in rows) && nat_le (version_in rows) this_version) known in
    let low = (and_parts (nat_lt 0 (version_in rows)) (nat_le (version_in rows) this_version) both).1 in
    let same : edition_of (version_in rows) (has_late old.schema) ≡ this_version =
    not_earlier (not (has_late old.schema) && nat_lt (version_in rows) 2) (version_in rows) low (ap (λ e. nat_lt e this_version) is ∙ later) in
    ((rows, asked, known, same), subst (λ e. IsMadeCurrent false e (state g old) (state g new)) (sym is ∙ same) it)

-- an office in the database has one of these versions
pub shown_version : {S : Type 0} (g : Ghosts S) (old : Held S) (t : Tables) → ShowsOffice (state g old) t → ((n : ℕ) (clock : ClockRow) → ShowsVersion n clock (state g old) → ⊥) → ⊥
shown_version g old t shows none = by_open (state g old).is_open refl
  where
    by_open : (b : Bool) → (state g old).is_open ≡ b → ⊥
    by_open true open_now = elim (shows open_now) [
      | inl was ↦ none this_version t.clock (λ _. current_version (state g old).committed t was)
      | inr was ↦ none (version_of was.0) t.clock (λ _. edition_version was.0 (state g old).committed t was.2)
    ]
    by_open false shut = none this_version t.clock (λ open_now. absurd (true≢false (sym open_now ∙ shut)))
