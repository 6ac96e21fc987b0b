-- The refusal of a command whose identifier is used is the specification's. One whose identifier is new isn't refused with `Exists`.
use Rattle.office_plans.proofs.Publishing.{refused_by}
use Rattle.office_plans.proofs.Names.{drop, Given, command_tests, ◌≡◌, Bool, true, false, cond, not, ◌&&◌, ◌||◌, List, [], ◌∷◌, Option, Some, None, is_some, refl, sym, ap, ◌∙◌, list_any, option_map, same_id, Refusal, NoSuch, Exists, DeadlinePassed, InsufficientFunds, LimitReached, Line, first_of, BudgetRow, Standing, LineRow, columns_at, columns_of_row, standings, Tables, line_at, ImportsAgree, columns_after, after_row, any_while_walking, cuts_nothing, is_cut, columns_at-after_row, equal_ids, same_itself, same_id_is, takes_memory, first_cuts, cuts_lost_line, refusal_if_used, used_file, used_notice, Import, Publish, NewNotice, ℕ, batch_at, notice_at, is_on_no_line, may_give, refusal_of, given_by, Asking}

-- The first row of the file that names the line of this row cuts money from it, and the line doesn't exist.
abbrev cuts_none : List Standing → List BudgetRow → BudgetRow → Bool
cuts_none m file row = first_cuts file row.line && not (is_some (columns_at m row.line))

none_more : (b : Bool) → (b && false) ≡ false
none_more true = refl
none_more false = refl

either_none : (a b c : Bool) → a ≡ false → b ≡ c → (a || b) ≡ c
either_none true b c is same = absurd cc
either_none false b c is same = same

-- After a first row that cuts nothing, a later row cuts from a missing line if it did so before.
module _ (m : List Standing) (first : BudgetRow) (rows : List BudgetRow) (whole : (is_cut first.kind && not (is_some (columns_at m first.line))) ≡ false) where
  one_by : (row : BudgetRow) (same : Bool) → same_id first.line row.line ≡ same
      → cuts_none (after_row m first) rows row ≡ cuts_none m (first ∷ rows) row
  one_by row true e =
      let line : first.line ≡ row.line = equal_ids first.line row.line e in
      let there : is_some (columns_at (after_row m first) row.line) ≡ true =
      ap is_some (columns_at-after_row m first row.line ∙ ap (λ b. cond b (Some (columns_after (columns_at m first.line) first)) (columns_at m row.line)) (sym (same_id_is first.line row.line) ∙ e)) in
      let after : cuts_none (after_row m first) rows row ≡ false = ap (λ b. first_cuts rows row.line && not b) there ∙ none_more (first_cuts rows row.line) in
      let before : cuts_none m (first ∷ rows) row ≡ false =
      ap (λ b. cond b (is_cut first.kind) (first_cuts rows row.line) && not (is_some (columns_at m row.line))) e
      ∙ ap (λ q. is_cut first.kind && not (is_some (columns_at m q))) (sym line) ∙ whole in
      after ∙ sym before
  one_by row false e =
      let there : columns_at (after_row m first) row.line ≡ columns_at m row.line =
      columns_at-after_row m first row.line ∙ ap (λ b. cond b (Some (columns_after (columns_at m first.line) first)) (columns_at m row.line)) (sym (same_id_is first.line row.line) ∙ e) in
      ap (λ c. first_cuts rows row.line && not (is_some c)) there
      ∙ ap (λ b. cond b (is_cut first.kind) (first_cuts rows row.line) && not (is_some (columns_at m row.line))) (sym e)

  later : (others : List BudgetRow) → list_any (cuts_none (after_row m first) rows) others ≡ list_any (cuts_none m (first ∷ rows)) others
  later [] = refl
  later (row ∷ others) = λ i. one_by row (same_id first.line row.line) refl i || later others i

-- The test of a file with a table of lines is the test without one.
walked : (m : List Standing) (rows : List BudgetRow) → any_while_walking cuts_nothing m rows ≡ list_any (cuts_none m rows) rows
walked m [] = refl
walked m (row ∷ rows) = by (walked (after_row m row) rows) (is_cut row.kind && not (is_some (columns_at m row.line))) refl ∙ ap (λ b. b || list_any (cuts_none m (row ∷ rows)) rows) (sym own)
  where
    own : cuts_none m (row ∷ rows) row ≡ (is_cut row.kind && not (is_some (columns_at m row.line)))
    own = ap (λ b. cond b (is_cut row.kind) (first_cuts rows row.line) && not (is_some (columns_at m row.line))) (same_itself row.line)

    by : any_while_walking cuts_nothing (after_row m row) rows ≡ list_any (cuts_none (after_row m row) rows) rows → (b : Bool) → (is_cut row.kind && not (is_some (columns_at m row.line))) ≡ b
        → any_while_walking cuts_nothing m (row ∷ rows) ≡ ((is_cut row.kind && not (is_some (columns_at m row.line))) || list_any (cuts_none m (row ∷ rows)) rows)
    by rest true e = ap (λ b. b || any_while_walking cuts_nothing (after_row m row) rows) e ∙ ap (λ b. b || list_any (cuts_none m (row ∷ rows)) rows) (sym e)
    by rest false e =
        ap (λ b. (is_cut row.kind && not (is_some (columns_at m row.line))) || b) (rest ∙ later m row rows e rows)

is_some-map : (o : Option LineRow) → is_some (option_map columns_of_row o) ≡ is_some o
is_some-map None = refl
is_some-map (Some l) = refl

module _ (laws : ImportsAgree) (s : Tables) (file : List BudgetRow) where
  found : (rows : List BudgetRow) → list_any (cuts_none (standings s) file) rows ≡ list_any (cuts_lost_line s file) rows
  found [] = refl
  found (row ∷ rows) =
      let here : cuts_none (standings s) file row ≡ cuts_lost_line s file row =
      ap (λ b. first_cuts file row.line && not b) (ap is_some (laws.columns s row.line) ∙ is_some-map (line_at row.line s)) in
      λ i. here i || found rows i

  pub cuts_are : any_while_walking cuts_nothing (standings s) file ≡ list_any (cuts_lost_line s file) file
  cuts_are = walked (standings s) file ∙ found file

pub none_if : {X : Type 0} (o : Option X) → is_some o ≡ false → o ≡ None
none_if None new = refl
none_if (Some x) new = absurd cc

-- If the second condition holds, the refusal is its own or the first one's.
pub used_first : (lost used : Bool) (rest : List (Bool × Refusal)) → used ≡ true → first_of ((lost, NoSuch Line) ∷ (used, Exists) ∷ rest) ≡ Some (refusal_if_used lost)
used_first true used rest is = refl
used_first false true rest is = refl
used_first false false rest is = absurd cc

-- If it doesn't, the refusal is another one.
pub new_file : (lost used short past : Bool) → used ≡ false
    → first_of ((lost, NoSuch Line) ∷ (used, Exists) ∷ (short, InsufficientFunds) ∷ (past, LimitReached) ∷ []) ≡ Some Exists → ⊥
new_file true used short past new is = cc
new_file false true short past new is = cc
new_file false false true past new is = cc
new_file false false false true new is = cc
new_file false false false false new is = cc

pub new_notice : (lost used late short past : Bool) → used ≡ false
    → first_of ((lost, NoSuch Line) ∷ (used, Exists) ∷ (late, DeadlinePassed) ∷ (short, InsufficientFunds) ∷ (past, LimitReached) ∷ []) ≡ Some Exists → ⊥
new_notice true used late short past new is = cc
new_notice false true late short past new is = cc
new_notice false false true short past new is = cc
new_notice false false false true past new is = cc
new_notice false false false false true new is = cc
new_notice false false false false false new is = cc

-- An import or a publication whose refusal takes no memory is refused with `Exists`.
pub only_file : (batch : List ℕ) (rows : List BudgetRow) (why : Refusal) → takes_memory (Import batch rows) why ≡ false → why ≡ Exists
only_file batch rows Exists small = refl
only_file batch rows _ small = absurd (let no : true ≡ false = small in cc)

pub only_notice : (notice : List ℕ) (content : NewNotice) (why : Refusal) → takes_memory (Publish notice content) why ≡ false → why ≡ Exists
only_notice notice content Exists small = refl
only_notice notice content _ small = absurd (let no : true ≡ false = small in cc)

module _ (asking : Asking) (s : Tables) where
  pub file_used : ImportsAgree → (batch : List ℕ) (rows : List BudgetRow) → may_give asking.caller.now (Import batch rows) ≡ true → is_some (batch_at batch s) ≡ true
      → refusal_of (given_by asking s (Import batch rows)) ≡ Some (used_file rows s)
  file_used laws batch rows may used =
      let x : Given = given_by asking s (Import batch rows) in
      let own : first_of (command_tests x) ≡ Some (refusal_if_used (any_while_walking cuts_nothing (standings s) rows)) = used_first _ _ (drop 2 (command_tests x)) used in
      refused_by x may ∙ own ∙ ap (λ lost. Some (refusal_if_used lost)) (cuts_are laws s rows)

  pub file_new : (batch : List ℕ) (rows : List BudgetRow) → may_give asking.caller.now (Import batch rows) ≡ true → is_some (batch_at batch s) ≡ false
      → refusal_of (given_by asking s (Import batch rows)) ≡ Some Exists → ⊥
  file_new batch rows may new refused = new_file _ (is_some (batch_at batch s)) _ _ new (sym (refused_by (given_by asking s (Import batch rows)) may) ∙ refused)

  pub notice_used : (notice : List ℕ) (content : NewNotice) → may_give asking.caller.now (Publish notice content) ≡ true → is_some (notice_at notice s) ≡ true
      → refusal_of (given_by asking s (Publish notice content)) ≡ Some (used_notice content.lots s)
  notice_used notice content may used =
      let x : Given = given_by asking s (Publish notice content) in
      let own : first_of (command_tests x) ≡ Some (used_notice content.lots s) = used_first _ _ (drop 2 (command_tests x)) used in
      refused_by x may ∙ own

  pub notice_new : (notice : List ℕ) (content : NewNotice) → may_give asking.caller.now (Publish notice content) ≡ true → is_some (notice_at notice s) ≡ false
      → refusal_of (given_by asking s (Publish notice content)) ≡ Some Exists → ⊥
  notice_new notice content may new refused = new_notice _ (is_some (notice_at notice s)) _ _ _ new (sym (refused_by (given_by asking s (Publish notice content)) may) ∙ refused)
