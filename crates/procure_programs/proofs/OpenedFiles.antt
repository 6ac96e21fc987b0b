-- An office that was opened in files continues from their content, in every state in which these are found after they are closed.
use Rattle.procure_programs.proofs.Names.{◌≡◌, inl, inr, Option, Some, None, Result, Ok, Err, IfOk, ℕ, ◌+◌, ◌≤◌, List, [], ◌∷◌, ◌++◌, length, refl, sym, ap, subst, ◌∙◌, arith, length-append, IfSome, ∥∥₁_elim, ∥∥₁_map, SocketAddrV4, Ghosts, Files, Image, AreClean, FileStore, file_state, over_files, HoldsAlone, IsCopied, HasCleanDisk, Publisher, Keeps, Looks, Meaning, Tables, Standing, ShowsTables, IsReached, DeskOf, FilesHoldOffice, IsHalfClosed, OpensHeld, LeavesNoOther, LeavesShown, sql_meaning, remembering, remembering_standing, Step, office_left, StandsAs, office_answers, StepsAreKept, StopsBy, ProgramFault, IsOfStore, Hosting, HadOfficeIfUsed, OpensEmpty, AreOfOpened, DayIn, DaysFollow, EndsPrinting, EndsServing, FilesGoOn, HalfClosesFiles, HalfPrintsFiles, HalfServesFilesAt, HaveOffice, KeysFollow, LedOn, MayBeFound, PrintsFiles, ServesFiles, ServesFilesAt, ServesOpened, StandsIn, StopsIn, TellsFirst, WasServed, WasServedRemembering, sql_standing, under_settings, IsPrintout, AreOfServingAt, ServesAt, Printout}
use Rattle.sqlite.specs.Held.{Held as Connected}
use Rattle.office_values.specs.declared.settings.Settings.{Settings}
use Rattle.office_http.specs.Answering.{Held}
use Rattle.procure_programs.proofs.RememberedServing.{stops_inside}
use Rattle.procure_programs.proofs.ServingSteps.{office_on, served_none, served_still, serving_kept, stops_none}

-- ---- the steps of the connections

module _ {S X T R W : Type 0} (binds : X → SocketAddrV4 → Option T → X → Type 0) (N : Hosting T R W) (M : Meaning S) (store : Standing S) (network bound : X) (port count : ℕ)
    (old new : DeskOf S) (result : Result (Unit {0}) ProgramFault) where
  -- The desk holds the office after the steps of its connections, and a stop leaves only what these steps allow.
  pub went_after : (it : ServesAt binds N M store network bound port count old new result) → M.honest new.shelf → (h : Held) → StandsAs M old h
      → (steps : List Step) × (length steps ≤ count) × AreOfServingAt binds N M store network bound port count old new result it h steps
      × StandsAs M new (office_left office_answers h steps) × StopsBy M old.shelf new.shelf h steps
  went_after (address, here, inl (none, ended, same)) honest h stands = (
    [],
    omega arith,
    refl,
    subst (λ (d : DeskOf S). StandsAs M d h) (sym same) stands,
    subst (λ (d : DeskOf S). StopsBy M old.shelf d.shelf h []) (sym same) (stops_none M old.shelf h),
  )
  went_after (address, here, inr (host, last, opens, serves)) honest h stands =
      let (steps, few, are, went) = serves.1 honest h stands in
      (steps, few, are, went.stands, went.stops)

-- ---- in files

module _ {D : Type 0} {g : Ghosts D} where
  -- The office that was opened shows the content of the files.
  pub shows_files : (image : Image) (now : Connected (FileStore D g)) → OpensHeld image now → OpensEmpty image now → HasCleanDisk (file_state now)
      → (t : Tables) → HaveOffice image t → ShowsTables (file_state now) t
  shows_files image now held blank clean t (inl it) = held clean t it
  shows_files image now held blank clean t (inr (none, is)) = subst (ShowsTables (file_state now)) (sym is) (blank clean none)

  -- The files that are found after the closing hold the content that the store showed then.
  holds_found : (last : Connected (FileStore D g)) (files : Files D) → IsCopied last files → (now : Image) → MayBeFound g files now
      → (t : Tables) → ShowsTables (file_state last) t → FilesHoldOffice now t
  holds_found last files copied now (mid, which, log) t shows =
      let trees = (file_state last).committed.trees in
      let there : HoldsAlone mid trees = elim which [
        | inl same ↦ subst (λ (image : Image). HoldsAlone image trees) (sym same) copied.seen
        | inr after ↦ copied.left mid after
      ] in
      elim log [
        | inl same ↦ subst (λ (image : Image). FilesHoldOffice image t) (sym same) (trees, there.both, ((file_state last).committed, refl, inl (shows copied.was_open)))
        | inr same ↦ subst (λ (image : Image). FilesHoldOffice image t) (sym same) (trees, there.alone, ((file_state last).committed, refl, inl (shows copied.was_open)))
      ]

  pub closes : (image : Image) (settings : Settings) (most : ℕ) (old new : Connected (FileStore D g) × ℕ) (files : Files D)
      → OpensHeld image old.0 → OpensEmpty image old.0 → WasServed (sql_meaning over_files) most settings old new
      → (AreClean g files.log files.db → IsCopied new.0 files) → ServesFiles g image settings most files
  closes image settings most old new files held blank (before, (_, serves)) copied clean now found h are (sorted, has, stands) =
      let it = copied clean in
      let shown = shows_files image old.0 held blank (before it.was_clean) h.tables has in
      let (steps, few, went) = serves it.was_clean h ((sym are, (sorted, shown)), stands) in
      let ((_, (in_order, shows)), left) = went.stands in
      (steps, few, (in_order, inl (holds_found new.0 files it now found _ shows), left))

  -- An office that was opened was served.
  pub opened_serves : {E X T R W : Type 0} (binds : X → SocketAddrV4 → Option T → X → Type 0) (N : Hosting T R W) (network bound : X) (port : ℕ) (image : Image) (settings : Settings) (count : ℕ)
      (opened : Connected (FileStore D g) × ℕ) (result : Result ((Connected (FileStore D g) × ℕ) × Result (Unit {0}) ProgramFault) E) → OpensHeld image opened.0 → OpensEmpty image opened.0
      → (HasCleanDisk (file_state opened.0) → LeavesShown (file_state opened.0)) → (HasCleanDisk (file_state opened.0) → LeavesNoOther (file_state opened.0))
      → (HasCleanDisk (file_state opened.0) → HadOfficeIfUsed g image)
      → IfOk result (λ left. WasServed (sql_meaning over_files) count settings opened left.0)
      → IfOk result (λ left. WasServedRemembering binds N (sql_meaning over_files) (sql_standing over_files) network bound port count settings opened left.0 left.1)
      → IfOk result (λ left. ServesOpened binds N network bound port image settings count left.0 left.1)
  opened_serves binds N network bound port image settings count opened (Ok left) held empty sound alone used served turns =
      record { opened = opened; held = held; empty = empty; sound = sound; alone = alone; used = used; served = served; turns = turns }
  opened_serves binds N network bound port image settings count opened (Err fault) held empty sound alone used served turns = tt

  module _ {X T R W : Type 0} (binds : X → SocketAddrV4 → Option T → X → Type 0) (N : Hosting T R W) (network bound : X) (port : ℕ) (image : Image) (settings : Settings) (count : ℕ) where
    -- The store holds the office after the steps of the connections, and a stop leaves only what these steps allow.
    pub steps_of : (last : Connected (FileStore D g) × ℕ) (result : Result (Unit {0}) ProgramFault)
        (it : ServesOpened binds N network bound port image settings count last result) → HasCleanDisk (file_state last.0)
        → (h : Held) → h.settings ≡ settings → StandsIn image h
        → (steps : List Step) × (length steps ≤ count) × AreOfOpened binds N network bound port image settings count last result it h steps
        × (sql_meaning over_files).holds last (office_left office_answers h steps).tables
        × IsReached (office_left office_answers h steps).settings.publisher (office_left office_answers h steps).tables
        × StopsBy (sql_meaning over_files) it.opened last h steps
    steps_of last result it clean h are (sorted, has, stands) =
        let shown = shows_files image it.opened.0 it.held it.empty (it.served.0 clean) h.tables has in
        let honest = subst (sql_meaning over_files).honest (sym it.turns.inside) clean in
        let asked = it.turns.before clean in
        let (steps, few, of_them, after, stop) = went_after binds N (remembering (sql_meaning over_files)) (remembering_standing (sql_standing over_files)) network bound port count
        (record { shelf = it.turns.first; settings = settings }) (record { shelf = it.turns.last; settings = it.turns.turns.0 }) result it.turns.turns.1 honest h
        ((sym are, it.turns.holds asked h.tables (sorted, shown)), stands) in
        let holds = subst (λ (s : Connected (FileStore D g) × ℕ). (sql_meaning over_files).holds s (office_left office_answers h steps).tables) it.turns.inside after.0.1.0 in
        let inside = stops_inside (sql_meaning over_files) it.opened it.turns.first it.turns.last it.turns.around asked h steps stop in
        (steps, few, of_them, holds, after.1, subst (λ (s : Connected (FileStore D g) × ℕ). StopsBy (sql_meaning over_files) it.opened s h steps) it.turns.inside inside)

    -- The files have the office after the steps of the connections.
    goes_on_by : (last : Connected (FileStore D g) × ℕ) (files : Files D) (result : Result (Unit {0}) ProgramFault)
        (it : ServesOpened binds N network bound port image settings count last result) → (AreClean g files.log files.db → IsCopied last.0 files)
        → AreClean g files.log files.db → (now : Image) → MayBeFound g files now → (h : Held) → h.settings ≡ settings → StandsIn image h
        → (steps : List Step) × (length steps ≤ count) × AreOfOpened binds N network bound port image settings count last result it h steps
        × StandsIn now (office_left office_answers h steps)
    goes_on_by last files result it copied clean now found h are stands =
        let end = copied clean in
        let (steps, few, of_them, holds, reached, stop) = steps_of last result it end.was_clean h are stands in
        (steps, few, of_them, (holds.0, inl (holds_found last.0 files end now found _ holds.1), reached))

    -- The store was closed into these files.
    pub serves_at : (last : Connected (FileStore D g) × ℕ) (files : Files D) (worked result : Result (Unit {0}) ProgramFault)
        → ServesOpened binds N network bound port image settings count last worked → (AreClean g files.log files.db → IsCopied last.0 files) → result ≡ worked
        → ServesFilesAt g binds N network bound port image settings count files result
    serves_at last files worked result it copied same =
        subst (λ (r : Result (Unit {0}) ProgramFault). ServesFilesAt g binds N network bound port image settings count files r) (sym same)
        (record { last = last; served = it; closed = copied; goes_on = goes_on_by last files worked it copied })

    -- The end of serving that ended with a fault.
    pub ends_by : (fault : ProgramFault) (left : Option (FileStore D g)) → IfSome left (HalfClosesFiles image settings count)
        → IfSome left (HalfServesFilesAt binds N network bound port image settings count fault) → (left ≡ None → (bound ≡ network) × IsOfStore fault)
        → EndsServing g binds N network bound port image settings count (Err (fault, left))
    ends_by fault None half there none = none refl
    ends_by fault (Some store) half there none = (half, there)

  -- The files that the opening found are known from those that the closing leaves.
  pub closes_used : (image : Image) (settings : Settings) (most : ℕ) (old new : Connected (FileStore D g) × ℕ) (files : Files D)
      → (HasCleanDisk (file_state old.0) → HadOfficeIfUsed g image) → WasServed (sql_meaning over_files) most settings old new
      → (AreClean g files.log files.db → IsCopied new.0 files) → AreClean g files.log files.db → HadOfficeIfUsed g image
  closes_used image settings most old new files used served copied clean = used (served.0 (copied clean).was_clean)

  -- The text that was printed of a store is the one of the files from which it was opened.
  pub prints_files : (image : Image) (settings : Settings) (printout : Printout) (files : Files D) (before after : Option (List ℕ)) (old new : Connected (FileStore D g) × ℕ)
      (worked result : Result (Unit {0}) ProgramFault) → OpensHeld image old.0 → OpensEmpty image old.0
      → Looks (sql_meaning over_files) old new (λ s. IsPrintout settings printout s before after worked)
      → (AreClean g files.log files.db → IsCopied new.0 files) → result ≡ worked → PrintsFiles g image settings printout files before after result
  prints_files image settings printout files before after old new worked result held blank looks copied same clean t sorted has =
      let it = copied clean in
      subst (λ (r : Result (Unit {0}) ProgramFault). IsPrintout settings printout t before after r) (sym same)
      (looks.1 it.was_clean t (sorted, shows_files image old.0 held blank (looks.0.before it.was_clean) t has))

  -- The closing failed after the text was printed.
  pub half_prints : (image : Image) (settings : Settings) (printout : Printout) (store : FileStore D g) (before after : Option (List ℕ)) (old new : Connected (FileStore D g) × ℕ)
      (worked : Result (Unit {0}) ProgramFault) (fault : ProgramFault) → OpensHeld image old.0 → OpensEmpty image old.0
      → Looks (sql_meaning over_files) old new (λ s. IsPrintout settings printout s before after worked)
      → IsHalfClosed new.0 store → TellsFirst worked fault → HalfPrintsFiles image settings printout before after fault store
  half_prints image settings printout store before after old new worked fault held blank looks half told =
      (worked, told, λ clean t sorted has. looks.1 (half.clean clean) t (sorted, shows_files image old.0 held blank (looks.0.before (half.clean clean)) t has))

  -- The end of printing that ended with a fault.
  pub prints_by : (image : Image) (settings : Settings) (printout : Printout) (before after : Option (List ℕ)) (fault : ProgramFault) (left : Option (FileStore D g))
      → IfSome left (HalfClosesFiles image settings 0) → IfSome left (HalfPrintsFiles image settings printout before after fault)
      → (left ≡ None → (after ≡ before) × IsOfStore fault) → EndsPrinting g image settings printout before after (Err (fault, left))
  prints_by image settings printout before after fault None half text none = none refl
  prints_by image settings printout before after fault (Some store) half text none = (half, text)

-- Serving that changes nothing is serving by no step.
pub kept_served : {S : Type 0} (M : Meaning S) → StepsAreKept → (settings : Settings) (old new : S) → Keeps M old new → WasServed M 0 settings old new
kept_served {S = S} M law settings old new keeps =
    let first : DeskOf S = record { shelf = old; settings = settings } in
    let last : DeskOf S = record { shelf = new; settings = settings } in
    (keeps.before, (settings, serving_kept M 0 first last law (served_still M 0 first first last (served_none M 0 first) keeps refl)))

pub settings_stay : (steps : List Step) (h : Held) → (office_left office_answers h steps).settings ≡ h.settings
settings_stay [] h = refl
settings_stay (x ∷ steps) h = settings_stay steps (office_answers.after x.busy h x.block)

-- The office after at most this many steps.
abbrev LeftIn : Image → ℕ → Held → Type 0
LeftIn last most h = (steps : List Step) × (length steps ≤ most) × StandsIn last (office_left office_answers h steps)

both_days : (last : Image) (n m : ℕ) (h : Held) (xs : List Step) → length xs ≤ n → LeftIn last m (office_left office_answers h xs) → LeftIn last (n + m) h
both_days last n m h xs few (ys, more, left) =
    let bound : length (xs ++ ys) ≤ n + m = rw (length-append xs ys) (omega (arith, few, more)) in
    (xs ++ ys, bound, subst (StandsIn last) (sym (office_on office_answers xs ys h)) left)

days_closed : (settings : Settings) (first mid last : Image) (n m : ℕ) → FilesGoOn first settings n mid → FilesGoOn mid settings m last → FilesGoOn first settings (n + m) last
days_closed settings first mid last n m before behind h are stands =
    let (xs, few, there) = before h are stands in
    both_days last n m h xs few (behind (office_left office_answers h xs) (settings_stay xs h ∙ are) there)

-- A day that ended by a closing or by a stop, as one that ended by a stop.
as_stopped : (settings : Settings) (first last : Image) (n : ℕ) → DayIn first settings n last → StopsIn first settings n last
as_stopped settings first last n (inl closed) = λ h are stands. ∣ closed h are stands ∣₁
as_stopped settings first last n (inr stopped) = stopped

days_stopped : (settings : Settings) (first mid last : Image) (n m : ℕ) → DayIn first settings n mid → DayIn mid settings m last → StopsIn first settings (n + m) last
days_stopped settings first mid last n m before behind h are stands =
    ∥∥₁_elim (as_stopped settings first mid n before h are stands) squash₁ (λ (one : LeftIn mid n h).
    ∥∥₁_map (as_stopped settings mid last m behind (office_left office_answers h one.0) (settings_stay one.0 h ∙ are) one.2)
    (λ (other : LeftIn last m (office_left office_answers h one.0)). both_days last n m h one.0 one.1 other))

pub days_follow : DaysFollow
days_follow = record { closed = days_closed; stopped = days_stopped }

-- ---- under another key of the clerk

-- The files have the office under another key too.
stands_under : (before after : Settings) (image : Image) (h : Held) → after.publisher ≡ before.publisher → h.settings ≡ before → StandsIn image h → StandsIn image (under_settings after h)
stands_under before after image h same are stands =
    (stands.0, stands.1, subst (λ (p : Publisher). IsReached p h.tables) (ap (λ (u : Settings). u.publisher) are ∙ sym same) stands.2)

-- The office at the end of the first day, under the key of the second day.
second_day : (before after : Settings) (mid : Image) (h : Held) (xs : List Step) → after.publisher ≡ before.publisher → h.settings ≡ before
    → StandsIn mid (office_left office_answers h xs) → StandsIn mid (under_settings after (office_left office_answers h xs))
second_day before after mid h xs same are = stands_under before after mid (office_left office_answers h xs) same (settings_stay xs h ∙ are)

led_on : (after : Settings) (last : Image) (n m : ℕ) (h : Held) (xs : List Step) → length xs ≤ n → LeftIn last m (under_settings after (office_left office_answers h xs)) → LedOn after n m last h
led_on after last n m h xs few (ys, more, left) = (xs, ys, few, more, left)

keys_closed : (before after : Settings) (first mid last : Image) (n m : ℕ) → after.publisher ≡ before.publisher → FilesGoOn first before n mid → FilesGoOn mid after m last
    → (h : Held) → h.settings ≡ before → StandsIn first h → LedOn after n m last h
keys_closed before after first mid last n m same earlier behind h are stands =
    let (xs, few, there) = earlier h are stands in
    led_on after last n m h xs few (behind (under_settings after (office_left office_answers h xs)) refl (second_day before after mid h xs same are there))

keys_stopped : (before after : Settings) (first mid last : Image) (n m : ℕ) → after.publisher ≡ before.publisher → DayIn first before n mid → DayIn mid after m last
    → (h : Held) → h.settings ≡ before → StandsIn first h → ∥ LedOn after n m last h ∥₁
keys_stopped before after first mid last n m same earlier behind h are stands =
    ∥∥₁_elim (as_stopped before first mid n earlier h are stands) squash₁ (λ (one : LeftIn mid n h).
    ∥∥₁_map (as_stopped after mid last m behind (under_settings after (office_left office_answers h one.0)) refl (second_day before after mid h one.0 same are one.2))
    (λ (other : LeftIn last m (under_settings after (office_left office_answers h one.0))). led_on after last n m h one.0 one.1 other))

pub keys_follow : KeysFollow
keys_follow = record { closed = keys_closed; stopped = keys_stopped }
