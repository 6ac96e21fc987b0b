-- An office that was served from files continues from every state of them that a stop leaves.
use Rattle.procure_programs.proofs.Names.{◌≡◌, ◌⊎◌, inl, inr, Bool, true, false, ℕ, ◌≤◌, List, [], ◌∷◌, length, refl, sym, subst, arith, Option, Result, Ok, Err, IfErr, ∥∥₁_map, SocketAddrV4, Ghosts, Image, FileStore, recovers, state, Trees, IsClean, file_state, over_files, HasCleanDisk, Tables, IsSorted, TablesAreInOrder, publishing, IsReached, MayLeave, ShowsTables, FilesHoldOffice, IsHalfClosed, IsPutDown, OpensHeld, StandForOffice, LeavesNoOther, LeavesShown, sql_meaning, Step, office_left, IsWholeAfter, LeftAfter, is_accepted, meant_in, office_answers, LeftBySteps, StopsBy, ProgramFault, Hosting, OpensEmpty, AreBeginning, HalfClosesFiles, HalfServesFilesAt, ServesOpened, StandsAt, StandsIn, StopsFiles, StopsFilesAt, TellsFirst, WasServed}
use Rattle.sqlite_store.specs.FileStore.{view}
use Rattle.sqlite.specs.Held.{Held as Connected}
use Rattle.office_values.specs.declared.settings.Settings.{Settings}
use Rattle.office_http.specs.Answering.{Held}
use Rattle.procure_programs.proofs.OpenedFiles.{settings_stay, shows_files, steps_of}
use Rattle.procure_programs.proofs.ServingSteps.{left_by}

-- ---- the states that steps leave

-- These tables are those of an office after a beginning of these steps, and it is a reached office.
record IsLeftWhole (h : Held) (steps : List Step) (u : Tables) : Type 0 where
  done : List Step
  few : length done ≤ length steps
  part : AreBeginning done steps
  is : u ≡ (office_left office_answers h done).tables
  stands : IsReached h.settings.publisher u

-- One step leaves a state from before it, or the state after it.
left_or_whole : (accepted busy : Bool) (Before IsAfter : Type 0) → LeftAfter accepted busy Before IsAfter → Before ⊎ IsAfter
left_or_whole false busy Before IsAfter left = inl left
left_or_whole true false Before IsAfter left = inr left
left_or_whole true true Before IsAfter left = left

whole_step : (x : Step) (steps : List Step) (h : Held) (u : Tables) → IsWholeAfter h.settings h.tables x.block.moment (meant_in h x.block) u → IsLeftWhole h (x ∷ steps) u
whole_step x steps h u (is, stands) = record { done = record x { busy = false } ∷ []; few = omega arith; part = inr (refl, refl); is = is; stands = stands }

step_on : (x : Step) (steps : List Step) (h : Held) (u : Tables) → IsLeftWhole (office_answers.after x.busy h x.block) steps u → IsLeftWhole h (x ∷ steps) u
step_on x steps h u it = record { done = x ∷ it.done; few = omega (arith, it.few); part = inl (refl, it.part); is = it.is; stands = it.stands }

-- A state that steps leave is from before them, or it is complete.
left_whole : (steps : List Step) (h : Held) (Before : Tables → Type 0) (u : Tables) → LeftBySteps Before h steps u → Before u ⊎ IsLeftWhole h steps u
left_whole [] h Before u left = inl left
left_whole (x ∷ steps) h Before u left = elim (left_whole steps (office_answers.after x.busy h x.block) (left_by Before h x) u left) [
  | inl here ↦ elim (left_or_whole (is_accepted h.tables x.block.moment (meant_in h x.block)) x.busy (Before u) (IsWholeAfter h.settings h.tables x.block.moment (meant_in h x.block) u) here) [
    | inl before ↦ inl before
    | inr whole ↦ inr (whole_step x steps h u whole)
  ]
  | inr more ↦ inr (step_on x steps h u more)
]

-- ---- in files

module _ {D : Type 0} {g : Ghosts D} (image : Image) (settings : Settings) (most : ℕ) (old new : Connected (FileStore D g) × ℕ) (store : FileStore D g) where
  -- Each state that a stop leaves after these steps has the office after a beginning of them.
  left_in : TablesAreInOrder → (HasCleanDisk (file_state old.0) → LeavesShown (file_state old.0)) → (HasCleanDisk (file_state old.0) → LeavesNoOther (file_state old.0))
      → HasCleanDisk (file_state old.0) → IsPutDown new.0 store → IsClean (view store) → (now : Image) → (state store).may_leave now
      → (h : Held) → IsSorted h.tables → IsReached h.settings.publisher h.tables → ShowsTables (file_state old.0) h.tables
      → (steps : List Step) → StopsBy (sql_meaning over_files) old new h steps
      → ∥ ((done : List Step) × (length done ≤ length steps) × AreBeginning done steps × StandsIn now (office_left office_answers h done)) ∥₁
  left_in order shown alone early put clean now may h sorted stands shows steps stop =
      ∥∥₁_map (put.left clean (stop.sound (shown early h.tables shows)) now may) (λ found.
      let u : Tables = found.0 in
      elim (left_whole steps h (λ t. MayLeave (file_state old.0) t) u (stop.left u found.1)) [
        | inl was ↦ (
          [],
          omega arith,
          tt,
          (sorted, inl (subst (FilesHoldOffice now) (alone early h.tables shows u was) found.2), stands),
        )
        | inr whole ↦
            let k : Held = office_left office_answers h whole.done in
            let same : k.settings ≡ h.settings = settings_stay whole.done h in
            let there : IsReached k.settings.publisher k.tables = subst (λ (s : Settings). IsReached s.publisher k.tables) (sym same) (subst (IsReached h.settings.publisher) whole.is whole.stands) in (
              whole.done,
              whole.few,
              whole.part,
              (order (publishing k.settings.publisher) there.commands k.tables there.reaches, inl (subst (FilesHoldOffice now) whole.is found.2), there),
            )
      ])

  pub stops : TablesAreInOrder → OpensHeld image old.0 → OpensEmpty image old.0 → (HasCleanDisk (file_state old.0) → LeavesShown (file_state old.0))
      → (HasCleanDisk (file_state old.0) → LeavesNoOther (file_state old.0)) → WasServed (sql_meaning over_files) most settings old new → IsPutDown new.0 store
      → StopsFiles image settings most store
  stops order held empty shown alone (before, (_, serves)) put clean now may h are (sorted, has, stands) =
      let honest : HasCleanDisk (file_state new.0) = put.clean clean in
      let early : HasCleanDisk (file_state old.0) = before honest in
      let shows = shows_files image old.0 held empty early h.tables has in
      let (steps, few, went) = serves honest h ((sym are, (sorted, shows)), stands) in
      ∥∥₁_map (left_in order shown alone early put clean now may h sorted stands shows steps went.stops) (λ found.
      (found.0, omega (arith, found.1, few), found.3))

  -- ---- as a closing fails

  -- The trees that may be recovered are those of the office after a beginning of these steps.
  half_in : TablesAreInOrder → (HasCleanDisk (file_state old.0) → LeavesShown (file_state old.0)) → (HasCleanDisk (file_state old.0) → LeavesNoOther (file_state old.0))
      → HasCleanDisk (file_state old.0) → IsHalfClosed new.0 store → (trees : Trees) → recovers store trees
      → (h : Held) → IsSorted h.tables → IsReached h.settings.publisher h.tables → ShowsTables (file_state old.0) h.tables
      → (steps : List Step) → StopsBy (sql_meaning over_files) old new h steps
      → (done : List Step) × (length done ≤ length steps) × AreBeginning done steps × StandsAt trees (office_left office_answers h done)
  half_in order shown alone early half trees may h sorted stands shows steps stop =
      let left = half.left trees may in
      let (u, (d, is, holds)) = stop.sound (shown early h.tables shows) trees left in
      let there : MayLeave (file_state new.0) u = (d, subst (file_state new.0).may_leave is left, holds) in
      let office : StandForOffice u trees = (d, is, inl holds) in
      elim (left_whole steps h (λ t. MayLeave (file_state old.0) t) u (stop.left u there)) [
        | inl was ↦ ([], omega arith, tt, (sorted, subst (λ t. StandForOffice t trees) (alone early h.tables shows u was) office, stands))
        | inr whole ↦
            let k : Held = office_left office_answers h whole.done in
            let same : k.settings ≡ h.settings = settings_stay whole.done h in
            let reached : IsReached k.settings.publisher k.tables = subst (λ (s : Settings). IsReached s.publisher k.tables) (sym same) (subst (IsReached h.settings.publisher) whole.is whole.stands) in (
              whole.done,
              whole.few,
              whole.part,
              (order (publishing k.settings.publisher) reached.commands k.tables reached.reaches, subst (λ t. StandForOffice t trees) whole.is office, reached),
            )
      ]

  pub closes_half : TablesAreInOrder → OpensHeld image old.0 → OpensEmpty image old.0 → (HasCleanDisk (file_state old.0) → LeavesShown (file_state old.0))
      → (HasCleanDisk (file_state old.0) → LeavesNoOther (file_state old.0)) → WasServed (sql_meaning over_files) most settings old new → IsHalfClosed new.0 store
      → HalfClosesFiles image settings most store
  closes_half order held empty shown alone (before, (_, serves)) half clean trees may h are (sorted, has, stands) =
      let honest : HasCleanDisk (file_state new.0) = half.clean clean in
      let early : HasCleanDisk (file_state old.0) = before honest in
      let shows = shows_files image old.0 held empty early h.tables has in
      let (steps, few, went) = serves honest h ((sym are, (sorted, shows)), stands) in
      let (done, short, part, after) = half_in order shown alone early half trees may h sorted stands shows steps went.stops in
      (done, omega (arith, short, few), after)

-- ---- with the steps of the connections

module _ {D : Type 0} {g : Ghosts D} {X T R W : Type 0} (binds : X → SocketAddrV4 → Option T → X → Type 0) (N : Hosting T R W) (network bound : X) (port : ℕ) (image : Image) (settings : Settings) (count : ℕ)
    (last : Connected (FileStore D g) × ℕ) (store : FileStore D g) (worked : Result (Unit {0}) ProgramFault) where
  -- A stop came before the closing.
  pub stops_at : TablesAreInOrder → ServesOpened binds N network bound port image settings count last worked → IsPutDown last.0 store
      → StopsFilesAt binds N network bound port image settings count store worked
  stops_at order it put = record {
    last = last;
    served = it;
    left = put;
    goes_on = λ clean now may h are stands.
        let early = it.served.0 (put.clean clean) in
        let shows = shows_files image it.opened.0 it.held it.empty early h.tables stands.1 in
        let (steps, few, of_them, holds, reached, stop) = steps_of binds N network bound port image settings count last worked it (put.clean clean) h are stands in (
          steps,
          few,
          of_them,
          ∥∥₁_map (left_in image settings count it.opened last store order it.sound it.alone early put clean now may h stands.0 stands.2 shows steps stop)
              (λ found. (found.0, found.2, found.3)),
        );
  }

  -- The closing failed.
  pub half_serves : TablesAreInOrder → ServesOpened binds N network bound port image settings count last worked → IsHalfClosed last.0 store
      → (fault : ProgramFault) → TellsFirst worked fault → HalfServesFilesAt binds N network bound port image settings count fault store
  half_serves order it half fault told = record {
    last = last;
    worked = worked;
    served = it;
    half = half;
    told = told;
    goes_on = λ clean trees may h are stands.
        let early = it.served.0 (half.clean clean) in
        let shows = shows_files image it.opened.0 it.held it.empty early h.tables stands.1 in
        let (steps, few, of_them, holds, reached, stop) = steps_of binds N network bound port image settings count last worked it (half.clean clean) h are stands in
        let (done, short, part, after) = half_in image settings count it.opened last store order it.sound it.alone early half trees may h stands.0 stands.2 shows steps stop in
        (steps, few, of_them, done, part, after);
  }

-- the files of a store that a failed closing returns
pub closes_half_err : {D F R : Type 0} {g : Ghosts D} (image : Image) (settings : Settings) (most : ℕ) (old new : Connected (FileStore D g) × ℕ) (result : Result R (F × FileStore D g))
    → TablesAreInOrder → OpensHeld image old.0 → OpensEmpty image old.0 → (HasCleanDisk (file_state old.0) → LeavesShown (file_state old.0))
    → (HasCleanDisk (file_state old.0) → LeavesNoOther (file_state old.0)) → WasServed (sql_meaning over_files) most settings old new → IfErr result (λ left. IsHalfClosed new.0 left.1)
    → IfErr result (λ left. HalfClosesFiles image settings most left.1)
closes_half_err image settings most old new (Ok left) order held empty shown alone served half = tt
closes_half_err image settings most old new (Err left) order held empty shown alone served half = closes_half image settings most old new left.1 order held empty shown alone served half
