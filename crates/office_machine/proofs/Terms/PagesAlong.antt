-- A list that is read page by page while the office works shows each row once.
use Rattle.office_machine.proofs.Names.{◌≡◌, ◌<◌, ◌+◌, ◌-◌, ◌⊎◌, ℕ, zero, suc, Bool, true, false, cond, ◌||◌, nat_lt, List, [], ◌∷◌, ◌++◌, length, map, take, drop, slice_get, Option, Some, None, IsSome, is_some, option_map, inl, inr, refl, sym, ap, subst, ◌∙◌, arith, ltb-true, ltb-false, append-nil, take_all, take-append-drop, length-take, list_any-append, slice_get_cases, list_any, AllByRecursion, eq_by_cmp, is_lt, Ordering, Less, Equal, Greater, Command, id_cmp, same_id, followed, is_after, next_after, rows_after, IsInOrder, StartsAbove, row_at, Tables, notice_at, notice_key, tenderer_key, NoticeRow, TendererRow, equal_keys, in_order-filter, each_found, IsKeyed, own_key, all_above, start_of, amended, cancelled_notice, opened_notice, notice_row, Given, Means, Reaches, time_of, LeadAlong, NothingIsTakenAway, PagesAreWholeAlong, SeesEachOnce, reaches_end, if_next, notices_in, read_along, tenderers_in, tenderer_after, tenderer_by}
use Rattle.office_commands.specs.declared.commands.Command.TheVariants as commands
use Rattle.office_machine.proofs.FateLaws.QuietFates.{all_append}
use Rattle.office_machine.proofs.Rows.SortedTables.{sorted}
use Rattle.office_machine.proofs.Terms.Said.{uncounted}
use Rattle.office_machine.proofs.Terms.TermsKept.{all_has, notice_after, notice_by, with_change}
use Rattle.office_machine.proofs.Rows.Keyed as keyed

-- Nothing is taken away.

set_there : {X : Type 0} (b : Bool) (x : X) (o : Option X) → is_some o ≡ true → is_some (cond b (Some x) o) ≡ true
set_there true x o there = refl
set_there false x o there = there

change_there : (b : Bool) (change : NoticeRow → NoticeRow) (o : Option NoticeRow) → is_some o ≡ true → is_some (with_change b change o) ≡ true
change_there true change None there = there
change_there true change (Some n) there = refl
change_there false change o there = there

notice_there : (command : Command) (t : ℕ) (q : List ℕ) (o : Option NoticeRow) → is_some o ≡ true → is_some (notice_by command t q o) ≡ true
notice_there (commands.Publish name new) t q o there = set_there (same_id name q) (uncounted (notice_row t name new)) o there
notice_there (commands.AmendNotice name deadline rationale) t q o there = change_there (same_id name q) (amended deadline) o there
notice_there (commands.Open name) t q o there = change_there (same_id name q) (opened_notice t) o there
notice_there (commands.Cancel name rationale) t q o there = change_there (same_id name q) cancelled_notice o there
notice_there _ t q o there = there

notice_stays : (ys xs : List Given) (q : List ℕ) → is_some (notice_after xs q) ≡ true → is_some (notice_after (ys ++ xs) q) ≡ true
notice_stays [] xs q there = there
notice_stays (y ∷ ys) xs q there = notice_there y.command (time_of y) q (notice_after (ys ++ xs) q) (notice_stays ys xs q there)

tenderer_there : (command : Command) (q : List ℕ) (o : Option TendererRow) → is_some o ≡ true → is_some (tenderer_by command q o) ≡ true
tenderer_there (commands.Register name title address key) q o there = set_there (same_id name q) _ o there
tenderer_there _ q o there = there

tenderer_stays : (ys xs : List Given) (q : List ℕ) → is_some (tenderer_after xs q) ≡ true → is_some (tenderer_after (ys ++ xs) q) ≡ true
tenderer_stays [] xs q there = there
tenderer_stays (y ∷ ys) xs q there = tenderer_there y.command q (tenderer_after (ys ++ xs) q) (tenderer_stays ys xs q there)

mapped_there : {X Y : Type 0} (f : X → Y) (o : Option X) → is_some (option_map f o) ≡ is_some o
mapped_there f None = refl
mapped_there f (Some x) = refl

pub nothing_taken_away : NothingIsTakenAway
nothing_taken_away means xs ys t u reached later =
    let before = all_has means xs t reached in
    let after = all_has means (ys ++ xs) u later in
    record {
      notices = λ q there.
          sym (mapped_there uncounted (notice_at q u))
          ∙ ap is_some (after.notices q)
          ∙ notice_stays ys xs q (ap is_some (sym (before.notices q)) ∙ mapped_there uncounted (notice_at q t) ∙ there);
      tenderers = λ q there. ap is_some (after.tenderers q) ∙ tenderer_stays ys xs q (ap is_some (sym (before.tenderers q)) ∙ there);
    }

-- Reading along lists that lose no key.

is_less : (c : Ordering) → is_lt c ≡ true → c ≡ Less
is_less Less e = refl
is_less Equal e = absurd (let no : false ≡ true = e in cc)
is_less Greater e = absurd (let no : false ≡ true = e in cc)

either_true : (a b : Bool) → (a || b) ≡ true → (a ≡ true) ⊎ (b ≡ true)
either_true true b e = inl refl
either_true false b e = inr e

or_left : (a b : Bool) → a ≡ true → (a || b) ≡ true
or_left a b e = ap (λ a. a || b) e

or_right : (a b : Bool) → b ≡ true → (a || b) ≡ true
or_right true b e = refl
or_right false b e = e

module _ {K X : Type 0} {R : K → K → Ordering} {key : X → K} (k : IsKeyed R key) where
  -- whether a row has the key
  abbrev among : K → List X → Bool
  among q xs = list_any (λ x. eq_by_cmp R q (key x)) xs

  among_found : (q : K) (xs : List X) → IsSome (row_at R key xs q) → among q xs ≡ true
  unfolding row_at
  among_found q [] there = there
  among_found q (x ∷ xs) there =
      elim (R q (key x)) as (λ c. R q (key x) ≡ c → is_some (Rattle.office_base.specs.Rows.by_order c None (Some x) (row_at R key xs q)) ≡ true → among q (x ∷ xs) ≡ true) [
        | Less ↦ λ e h. absurd (let no : false ≡ true = h in cc)
        | Equal ↦ λ e h. or_left (eq_by_cmp R q (key x)) (among q xs) (ap Rattle.std.specs.Ordering.is_eq e)
        | Greater ↦ λ e h. or_right (eq_by_cmp R q (key x)) (among q xs) (among_found q xs h)
      ] refl there

  found_among : (q : K) (xs : List X) → IsInOrder R key xs → among q xs ≡ true → IsSome (row_at R key xs q)
  found_among q xs order is = by xs (each_found k xs order) is
    where
      by : (ys : List X) → AllByRecursion (λ y. row_at R key xs (key y) ≡ Some y) ys → among q ys ≡ true → IsSome (row_at R key xs q)
      by [] each is = absurd (let no : false ≡ true = is in cc)
      by (y ∷ ys) each is =
          elim (either_true (eq_by_cmp R q (key y)) (among q ys) is) as (λ _. IsSome (row_at R key xs q)) [
            | inl e ↦ ap is_some (ap (row_at R key xs) (equal_keys k.exact q (key y) e) ∙ each.0)
            | inr more ↦ by ys each.1 more
          ]

  after_same : (after : Option K) (q : K) (x : X) → eq_by_cmp R q (key x) ≡ true → is_after R after q ≡ is_after R after (key x)
  after_same after q x e = ap (is_after R after) (equal_keys k.exact q (key x) e)

  among_after : (after : Option K) (q : K) (xs : List X) → is_after R after q ≡ true → among q xs ≡ true → among q (rows_after R key after xs) ≡ true
  among_after after q [] behind is = is
  among_after after q (x ∷ xs) behind is = by (among_after after q xs behind) (eq_by_cmp R q (key x)) refl (is_after R after (key x)) refl
    where
      by : (among q xs ≡ true → among q (rows_after R key after xs) ≡ true) → (b : Bool) → eq_by_cmp R q (key x) ≡ b → (c : Bool) → is_after R after (key x) ≡ c → among q (rows_after R key after (x ∷ xs)) ≡ true
      by more true e true f = ap (λ c. among q (cond c (x ∷ rows_after R key after xs) (rows_after R key after xs))) f ∙ or_left (eq_by_cmp R q (key x)) (among q (rows_after R key after xs)) e
      by more true e false f = absurd (let no : true ≡ false = sym behind ∙ after_same after q x e ∙ f in cc)
      by more false e true f =
          ap (λ c. among q (cond c (x ∷ rows_after R key after xs) (rows_after R key after xs))) f
          ∙ or_right (eq_by_cmp R q (key x)) (among q (rows_after R key after xs)) (more (sym (ap (λ b. b || among q xs) e) ∙ is))
      by more false e false f =
          ap (λ c. among q (cond c (x ∷ rows_after R key after xs) (rows_after R key after xs))) f
          ∙ more (sym (ap (λ b. b || among q xs) e) ∙ is)

  -- all of them come after that key, and were among the rows
  all_after : (after : Option K) (xs : List X) → AllByRecursion (λ x. is_after R after (key x) ≡ true) (rows_after R key after xs)
  all_after after [] = tt
  all_after after (x ∷ xs) =
      elim (is_after R after (key x)) as (λ b. is_after R after (key x) ≡ b → AllByRecursion (λ x. is_after R after (key x) ≡ true) (cond b (x ∷ rows_after R key after xs) (rows_after R key after xs))) [
        | true ↦ λ e. (e, all_after after xs)
        | false ↦ λ e. all_after after xs
      ] refl

  among_all : (after : Option K) (q : K) (xs : List X) → AllByRecursion (λ x. is_after R after (key x) ≡ true) xs → among q xs ≡ true → is_after R after q ≡ true
  among_all after q [] all is = absurd (let no : false ≡ true = is in cc)
  among_all after q (x ∷ xs) all is =
      elim (either_true (eq_by_cmp R q (key x)) (among q xs) is) as (λ _. is_after R after q ≡ true) [
        | inl e ↦ after_same after q x e ∙ all.0
        | inr more ↦ among_all after q xs all.1 more
      ]

  among_before : (after : Option K) (q : K) (xs : List X) → among q (rows_after R key after xs) ≡ true → among q xs ≡ true
  among_before after q [] is = is
  among_before after q (x ∷ xs) is =
      elim (is_after R after (key x)) as (λ b. among q (cond b (x ∷ rows_after R key after xs) (rows_after R key after xs)) ≡ true → among q (x ∷ xs) ≡ true) [
        | true ↦ λ h. elim (either_true (eq_by_cmp R q (key x)) (among q (rows_after R key after xs)) h) as (λ _. among q (x ∷ xs) ≡ true) [
          | inl e ↦ or_left (eq_by_cmp R q (key x)) (among q xs) e
          | inr more ↦ or_right (eq_by_cmp R q (key x)) (among q xs) (among_before after q xs more)
        ]
        | false ↦ λ h. or_right (eq_by_cmp R q (key x)) (among q xs) (among_before after q xs h)
      ] is

  all_take : (P : X → Type 0) (n : ℕ) (xs : List X) → AllByRecursion P xs → AllByRecursion P (take n xs)
  all_take P zero xs all = tt
  all_take P (suc n) [] all = tt
  all_take P (suc n) (x ∷ xs) all = (all.0, all_take P n xs all.1)

  slice_take : (xs : List X) (n i : ℕ) → i < n → slice_get (take n xs) i ≡ slice_get xs i
  slice_take xs zero i l = absurd (omega (arith, l))
  slice_take [] (suc n) i l = refl
  slice_take (x ∷ xs) (suc n) zero l = refl
  slice_take (x ∷ xs) (suc n) (suc i) l = slice_take xs n i (omega (arith, l))

  -- rows up to one, and rows above that one
  joined_order : (rest : List X) (n : ℕ) (x : X) (ys : List X) → IsInOrder R key rest → slice_get rest n ≡ Some x → AllByRecursion (λ y. R (key x) (key y) ≡ Less) ys → IsInOrder R key ys
      → IsInOrder R key (take (suc n) rest ++ ys)
  joined_order [] n x ys order at above order_ys = absurd (cc)
  joined_order (z ∷ zs) zero x ys order at above order_ys =
      let same : z ≡ x = cc in (subst (λ z. StartsAbove R key (key z) ys) (sym same) (start_of R key (key x) ys above), order_ys)
  joined_order (z ∷ []) (suc n) x ys order at above order_ys = absurd (cc)
  joined_order (z ∷ y ∷ zs) (suc n) x ys order at above order_ys = (order.0, joined_order (y ∷ zs) n x ys order.1 at above order_ys)

  all_less : (q : K) (ys : List X) → AllByRecursion (λ y. is_after R (Some q) (key y) ≡ true) ys → AllByRecursion (λ y. R q (key y) ≡ Less) ys
  all_less q [] all = tt
  all_less q (y ∷ ys) all = (is_less (R q (key y)) all.0, all_less q ys all.1)

  -- the rows after a row of a list are above it
  follows : (ys : List X) (n : ℕ) (x : X) → IsInOrder R key ys → slice_get ys n ≡ Some x → AllByRecursion (λ y. R (key x) (key y) ≡ Less) (drop (suc n) ys)
  follows [] n x order at = absurd (cc)
  follows (z ∷ zs) zero x order at =
      let same : z ≡ x = cc in subst (λ (z : X). AllByRecursion (λ y. R (key z) (key y) ≡ Less) zs) same (all_above k.total key (key z) zs order.0 order.1)
  follows (z ∷ zs) (suc n) x order at = follows zs n x order.1 at

  less_all : (q : K) (ys : List X) → AllByRecursion (λ y. R q (key y) ≡ Less) ys → AllByRecursion (λ y. is_after R (Some q) (key y) ≡ true) ys
  less_all q [] all = tt
  less_all q (y ∷ ys) all = (ap is_lt all.0, less_all q ys all.1)

  -- a row above a key that comes after another key comes after that one too
  after_too : (after : Option K) (q r : K) → is_after R after q ≡ true → R q r ≡ Less → is_after R after r ≡ true
  after_too None q r e l = refl
  after_too (Some a) q r e l = ap is_lt (k.total.trans a q r (is_less (R a q) e) l)

  all_too : (after : Option K) (q : K) (ys : List X) → is_after R after q ≡ true → AllByRecursion (λ y. R q (key y) ≡ Less) ys → AllByRecursion (λ y. is_after R after (key y) ≡ true) ys
  all_too after q [] e all = tt
  all_too after q (y ∷ ys) e all = (after_too after q (key y) e all.0, all_too after q ys e all.1)

  abbrev pub NeverLose : List X → List (List X) → Type 0
  NeverLose rows [] = Unit {0}
  NeverLose rows (next ∷ later) = ((q : K) → among q rows ≡ true → among q next ≡ true) × NeverLose next later

  module _ (most : ℕ) (some : 0 < most) where
    abbrev rest : Option K → List X → List X
    rest after rows = rows_after R key after rows

    abbrev asked : Option K → List X → List X
    asked after rows = take (most + 1) (rest after rows)

    -- the last page
    last_page : (after : Option K) (rows : List X) → next_after key most (asked after rows) ≡ None → take most (rest after rows) ≡ rest after rows
    last_page after rows none = by (nat_lt most (length (asked after rows))) refl
      where
        by : (b : Bool) → nat_lt most (length (asked after rows)) ≡ b → take most (rest after rows) ≡ rest after rows
        by false e = take_all most (rest after rows) (omega (arith, ltb-false most (length (asked after rows)) e, length-take (most + 1) (rest after rows)))
        by true e =
            let got : option_map key (slice_get (asked after rows) (most - 1)) ≡ None = sym (ap (λ b. cond b (option_map key (slice_get (asked after rows) (most - 1))) None) e) ∙ none in
            absurd (elim (slice_get_cases (asked after rows) (most - 1)).1 as (λ _. ⊥) [
              | inl f ↦ (let no : ◌≡◌ {A = Option K} None (Some (key f.0)) = sym got ∙ ap (option_map key) f.2 in cc)
              | inr past ↦ absurd (omega (arith, past.0, some, ltb-true most (length (asked after rows)) e))
            ])

    -- a page that another follows: its last row
    record Ends (after : Option K) (rows : List X) (q : K) : Type 0 where
      row : X
      at : slice_get (rest after rows) (most - 1) ≡ Some row
      named : key row ≡ q

    page_end : (after : Option K) (rows : List X) (q : K) → next_after key most (asked after rows) ≡ Some q → Ends after rows q
    page_end after rows q is = by (nat_lt most (length (asked after rows))) refl
      where
        with_row : (o : Option X) → slice_get (asked after rows) (most - 1) ≡ o → option_map key o ≡ Some q → Ends after rows q
        with_row None e got = absurd (let no : ◌≡◌ {A = Option K} None (Some q) = got in cc)
        with_row (Some x) e got = record {
          row = x;
          at = sym (slice_take (rest after rows) (most + 1) (most - 1) (omega (arith, some))) ∙ e;
          named = let same : key x ≡ q = cc in same;
        }

        by : (b : Bool) → nat_lt most (length (asked after rows)) ≡ b → Ends after rows q
        by false e =
            absurd (let no : ◌≡◌ {A = Option K} None (Some q) = sym (ap (λ b. cond b (option_map key (slice_get (asked after rows) (most - 1))) None) e) ∙ is in cc)
        by true e =
            with_row (slice_get (asked after rows) (most - 1)) refl
            (sym (ap (λ b. cond b (option_map key (slice_get (asked after rows) (most - 1))) None) e) ∙ is)

    -- what is seen from a key on
    record Sees (after : Option K) (rows : List X) (ended : Bool) (read : List X) : Type 0 where
      order : IsInOrder R key read
      behind : AllByRecursion (λ x. is_after R after (key x) ≡ true) read
      each : ended ≡ true → (q : K) → is_after R after q ≡ true → among q rows ≡ true → among q read ≡ true

    -- where no page follows
    sees_last : (after : Option K) (rows : List X) → IsInOrder R key rows → take most (rest after rows) ≡ rest after rows → Sees after rows true (take most (rest after rows) ++ [])
    sees_last after rows order whole =
        subst (Sees after rows true) (sym (append-nil (take most (rest after rows)) ∙ whole))
        (record {
          order = in_order-filter k.total key (λ r. is_after R after (key r)) rows order;
          behind = all_after after rows;
          each = λ ended q behind is. among_after after q rows behind is;
        })

    -- where one does
    module _ (after : Option K) (rows : List X) (order : IsInOrder R key rows) (q : K) (end : Ends after rows q) where
      step : suc (most - 1) ≡ most
      step = omega (arith, some)

      in_order : IsInOrder R key (rest after rows)
      in_order = in_order-filter k.total key (λ r. is_after R after (key r)) rows order

      -- the remaining rows come after the page's last row
      left : AllByRecursion (λ y. is_after R (Some q) (key y) ≡ true) (drop most (rest after rows))
      left =
          less_all q (drop most (rest after rows))
          (subst (λ n. AllByRecursion (λ y. R q (key y) ≡ Less) (drop n (rest after rows))) step
          (subst (λ p. AllByRecursion (λ y. R p (key y) ≡ Less) (drop (suc (most - 1)) (rest after rows))) end.named
          (follows (rest after rows) (most - 1) end.row in_order end.at)))

      own_after : is_after R after q ≡ true
      own_after =
          among_all after q (rest after rows) (all_after after rows)
          (by (rest after rows) (most - 1) end.at)
        where
          by : (ys : List X) (n : ℕ) → slice_get ys n ≡ Some end.row → among q ys ≡ true
          by [] n at = absurd (cc)
          by (y ∷ ys) zero at =
              let same : y ≡ end.row = cc in
              or_left (eq_by_cmp R q (key y)) (among q ys) (ap (eq_by_cmp R q) (ap key same ∙ end.named) ∙ own_key k.total q)
          by (y ∷ ys) (suc n) at = or_right (eq_by_cmp R q (key y)) (among q ys) (by ys n at)

      sees_on : (ended : Bool) (tail : List X) → IsInOrder R key tail → AllByRecursion (λ y. is_after R (Some q) (key y) ≡ true) tail
          → (ended ≡ true → (p : K) → is_after R (Some q) p ≡ true → among p rows ≡ true → among p tail ≡ true)
          → Sees after rows ended (take most (rest after rows) ++ tail)
      sees_on ended tail order_tail behind each =
          let less = all_less q tail behind in
          record {
            order =
                subst (λ n. IsInOrder R key (take n (rest after rows) ++ tail)) step
                (joined_order (rest after rows) (most - 1) end.row tail in_order end.at
                (subst (λ p. AllByRecursion (λ y. R p (key y) ≡ Less) tail) (sym end.named) less) order_tail);
            behind =
                all_append (λ x. is_after R after (key x) ≡ true) (take most (rest after rows)) tail (all_take (λ x. is_after R after (key x) ≡ true) most (rest after rows) (all_after after rows))
                (all_too after q tail own_after less);
            each = λ is p p_after p_among.
                let here : (among p (take most (rest after rows)) || among p (drop most (rest after rows))) ≡ true =
                sym (list_any-append (λ x. eq_by_cmp R p (key x)) (take most (rest after rows)) (drop most (rest after rows)))
                ∙ ap (among p) (take-append-drop most (rest after rows))
                ∙ among_after after p rows p_after p_among in
                list_any-append (λ x. eq_by_cmp R p (key x)) (take most (rest after rows)) tail
                ∙ elim (either_true (among p (take most (rest after rows))) (among p (drop most (rest after rows))) here) as (λ _. (among p (take most (rest after rows)) || among p tail) ≡ true) [
                  | inl page ↦ or_left (among p (take most (rest after rows))) (among p tail) page
                  | inr more ↦ or_right (among p (take most (rest after rows))) (among p tail) (each is p (among_all (Some q) p (drop most (rest after rows)) left more) p_among)
                ];
          }

    -- the rows that are seen after a page's last row
    abbrev SeesBehind : List X → K → List (List X) → Type 0
    SeesBehind rows q later =
        IsInOrder R key (read_along R key most (Some q) later) × AllByRecursion (λ y. is_after R (Some q) (key y) ≡ true) (read_along R key most (Some q) later)
        × (reaches_end R key most (Some q) later ≡ true → (p : K) → is_after R (Some q) p ≡ true → among p rows ≡ true → among p (read_along R key most (Some q) later) ≡ true)

    page_sees : (after : Option K) (rows : List X) → IsInOrder R key rows → (later : List (List X)) → ((q : K) → SeesBehind rows q later) → (o : Option K) → next_after key most (asked after rows) ≡ o
        → Sees after rows (if_next o (λ k. reaches_end R key most (Some k) later)) (take most (rest after rows) ++ followed o (λ k. read_along R key most (Some k) later))
    page_sees after rows order later tail None none = sees_last after rows order (last_page after rows none)
    page_sees after rows order later tail (Some q) is =
        let on = tail q in
        sees_on after rows order q (page_end after rows q is) (reaches_end R key most (Some q) later) (read_along R key most (Some q) later) on.0 on.1 on.2

    sees : (after : Option K) (rows : List X) (later : List (List X)) → IsInOrder R key rows → AllByRecursion (IsInOrder R key) later → NeverLose rows later
        → Sees after rows (reaches_end R key most after (rows ∷ later)) (read_along R key most after (rows ∷ later))
    sees after rows [] order orders keep = page_sees after rows order [] (λ q. (tt, tt, λ no. absurd (let never : false ≡ true = no in cc))) (next_after key most (asked after rows)) refl
    sees after rows (next ∷ later) order orders keep =
        page_sees after rows order (next ∷ later)
        (λ q. let on = sees (Some q) next later orders.0 orders.1 keep.1 in (on.order, on.behind, λ ended p behind is. on.each ended p behind (keep.0 p is)))
        (next_after key most (asked after rows)) refl

    pub sees_each : (first : List X) (later : List (List X)) → IsInOrder R key first → AllByRecursion (IsInOrder R key) later → NeverLose first later → SeesEachOnce R key most first later
    sees_each first later order orders keep =
        let seen = sees None first later order orders keep in
        record { once = seen.order; each = λ ended q there. found_among q (read_along R key most None (first ∷ later)) seen.order (seen.each ended q refl (among_found q first there)) }

-- The notices and the tenderers of offices along which commands lead.

module _ (means : Means) where
  lead_from : (xs : List Given) (t : Tables) (us : List Tables) → LeadAlong means xs t us → Reaches means xs t
  lead_from xs t [] lead = lead
  lead_from xs t (u ∷ us) lead = lead.0

  notices_sorted : (xs : List Given) (t : Tables) (us : List Tables) → LeadAlong means xs t us → AllByRecursion (IsInOrder id_cmp notice_key) (map notices_in us)
  notices_sorted xs t [] lead = tt
  notices_sorted xs t (u ∷ us) lead = (
    (sorted means (lead.1.0 ++ xs) u (lead_from (lead.1.0 ++ xs) u us lead.1.1)).notices,
    notices_sorted (lead.1.0 ++ xs) u us lead.1.1,
  )

  tenderers_sorted : (xs : List Given) (t : Tables) (us : List Tables) → LeadAlong means xs t us → AllByRecursion (IsInOrder id_cmp tenderer_key) (map tenderers_in us)
  tenderers_sorted xs t [] lead = tt
  tenderers_sorted xs t (u ∷ us) lead = (
    (sorted means (lead.1.0 ++ xs) u (lead_from (lead.1.0 ++ xs) u us lead.1.1)).tenderers,
    tenderers_sorted (lead.1.0 ++ xs) u us lead.1.1,
  )

  notices_keep : (xs : List Given) (t : Tables) (us : List Tables) → LeadAlong means xs t us → NeverLose keyed.notices (notices_in t) (map notices_in us)
  notices_keep xs t [] lead = tt
  notices_keep xs t (u ∷ us) lead =
      let reached = lead_from (lead.1.0 ++ xs) u us lead.1.1 in
      let missing = nothing_taken_away means xs lead.1.0 t u lead.0 reached in (
        λ q is. among_found keyed.notices q u.notices (missing.notices q (found_among keyed.notices q t.notices (sorted means xs t lead.0).notices is)),
        notices_keep (lead.1.0 ++ xs) u us lead.1.1,
      )

  tenderers_keep : (xs : List Given) (t : Tables) (us : List Tables) → LeadAlong means xs t us → NeverLose keyed.tenderers (tenderers_in t) (map tenderers_in us)
  tenderers_keep xs t [] lead = tt
  tenderers_keep xs t (u ∷ us) lead =
      let reached = lead_from (lead.1.0 ++ xs) u us lead.1.1 in
      let missing = nothing_taken_away means xs lead.1.0 t u lead.0 reached in (
        λ q is. among_found keyed.tenderers q u.tenderers (missing.tenderers q (found_among keyed.tenderers q t.tenderers (sorted means xs t lead.0).tenderers is)),
        tenderers_keep (lead.1.0 ++ xs) u us lead.1.1,
      )

pub pages_whole_along : PagesAreWholeAlong
pages_whole_along means xs t us lead most some =
    let order = sorted means xs t (lead_from means xs t us lead) in
    record {
      notices = sees_each keyed.notices most some (notices_in t) (map notices_in us) order.notices (notices_sorted means xs t us lead) (notices_keep means xs t us lead);
      tenderers = sees_each keyed.tenderers most some (tenderers_in t) (map tenderers_in us) order.tenderers (tenderers_sorted means xs t us lead) (tenderers_keep means xs t us lead);
    }
