-- The stored releases of a notice are those that accepted commands published for it, in their sequence.
use Rattle.office_machine.proofs.Names.{◌≡◌, ℕ, ◌+◌, ◌≤◌, ◌<◌, Bool, true, false, cond, List, [], ◌∷◌, ◌++◌, filter, Option, Some, None, option_to_list, option_map, option_and_then, refl, sym, ◌∙◌, ap, subst, arith, AllByRecursion, nat_cmp, ordering_then, Ordering, Less, Equal, Greater, ranked, id_cmp, same_id, ReleaseRow, by_order, row_put, StartsAbove, IsInOrder, Tables, IsSorted, release_cmp, release_key, put_release, find_notice, releases_of_notice, equal_ids, same_itself, same_key, all-put, Means, Given, Reaches, publication, release_row, next, published_for, releases_in, names_notice, published_by, ReleasesArePublished}
use Rattle.office_machine.proofs.Rows.Keyed as keyed
use Rattle.office_machine.proofs.Rows.SortedTables.{sorted}
use Rattle.office_machine.proofs.Parents.ParentsThere.{parents_there}
use Rattle.office_machine.proofs.Releases.ReleasesCounted.{Counts, published}
use Rattle.office_machine.proofs.Releases.NextIs.{with_release, next_is}

abbrev is_of : List ℕ → ReleaseRow → Bool
is_of notice r = same_id r.notice notice

-- a release of this row's notice is before it
abbrev IsEarlier : ReleaseRow → ReleaseRow → Type 0
IsEarlier r y = same_id y.notice r.notice ≡ true → y.seq < r.seq

module _ (r : ReleaseRow) where
  later : (y : ReleaseRow) → IsEarlier r y → release_cmp (release_key r) (release_key y) ≡ Less → same_id y.notice r.notice ≡ true → ⊥
  later y early below own =
      let same : y.notice ≡ r.notice = equal_ids y.notice r.notice own in
      let first : id_cmp r.notice y.notice ≡ Equal = ap (id_cmp r.notice) same ∙ same_key keyed.notices.total r.notice in
      let second : nat_cmp r.seq y.seq ≡ Less = sym (ap (λ o. ordering_then o (nat_cmp r.seq y.seq)) first) ∙ below in
      let less : r.seq < y.seq = ranked r.seq y.seq Less (sym second) in
      let more : y.seq < r.seq = early own in
      omega (arith, less, more)

  alike : (y : ReleaseRow) → IsEarlier r y → release_cmp (release_key r) (release_key y) ≡ Equal → ⊥
  alike y early e =
      let same : release_key r ≡ release_key y = keyed.releases.exact (release_key r) (release_key y) e in
      let own : same_id y.notice r.notice ≡ true = ap (λ (k : List ℕ × ℕ). same_id k.0 r.notice) (sym same) ∙ same_itself r.notice in
      let seq : r.seq ≡ y.seq = ap (λ (k : List ℕ × ℕ). k.1) same in
      let more : y.seq < r.seq = early own in
      omega (arith, seq, more)

  -- after it there is no other release of its notice
  starts : (x : ReleaseRow) (xs : List ReleaseRow) → release_cmp (release_key r) (release_key x) ≡ Less → StartsAbove release_cmp release_key (release_key x) xs
      → StartsAbove release_cmp release_key (release_key r) xs
  starts x [] below h = tt
  starts x (y ∷ ys) below h = keyed.releases.total.trans (release_key r) (release_key x) (release_key y) below h

  none_behind : (notice : List ℕ) → same_id r.notice notice ≡ true → (xs : List ReleaseRow) → StartsAbove release_cmp release_key (release_key r) xs
      → IsInOrder release_cmp release_key xs → AllByRecursion (IsEarlier r) xs → filter (is_of notice) xs ≡ []
  none_behind notice own [] below order early = refl
  none_behind notice own (x ∷ xs) below order early =
      by (is_of notice x) refl (none_behind notice own xs (starts x xs below order.0) order.1 early.1)
    where
      by : (b : Bool) → is_of notice x ≡ b → filter (is_of notice) xs ≡ [] → cond b (x ∷ filter (is_of notice) xs) (filter (is_of notice) xs) ≡ []
      by true e rest =
          let same : same_id x.notice r.notice ≡ true = ap (same_id x.notice) (equal_ids r.notice notice own) ∙ e in
          absurd (later x early.0 below same)
      by false e rest = rest

  -- it comes last among the releases of its notice
  put_last : (notice : List ℕ) (xs : List ReleaseRow) → IsInOrder release_cmp release_key xs → AllByRecursion (IsEarlier r) xs
      → filter (is_of notice) (put_release xs r) ≡ filter (is_of notice) xs ++ filter (is_of notice) (r ∷ [])
  unfolding row_put
  put_last notice [] order early = refl
  put_last notice (x ∷ xs) order early =
      by (release_cmp (release_key r) (release_key x)) refl (put_last notice xs order.1 early.1)
    where
      front : (b c : Bool) → is_of notice r ≡ b → is_of notice x ≡ c → release_cmp (release_key r) (release_key x) ≡ Less
          → cond b (r ∷ cond c (x ∷ filter (is_of notice) xs) (filter (is_of notice) xs)) (cond c (x ∷ filter (is_of notice) xs) (filter (is_of notice) xs))
          ≡ cond c (x ∷ filter (is_of notice) xs) (filter (is_of notice) xs) ++ cond b (r ∷ []) []
      front true c e f below =
          let none : cond c (x ∷ filter (is_of notice) xs) (filter (is_of notice) xs) ≡ [] =
          ap (λ c. cond c (x ∷ filter (is_of notice) xs) (filter (is_of notice) xs)) (sym f) ∙ none_behind notice e (x ∷ xs) below order early in
          rw none refl
      front false c e f below = nothing (cond c (x ∷ filter (is_of notice) xs) (filter (is_of notice) xs))
        where
          nothing : (ys : List ReleaseRow) → ys ≡ ys ++ []
          nothing [] = refl
          nothing (y ∷ ys) = ap (λ zs. y ∷ zs) (nothing ys)

      behind : (c : Bool) → filter (is_of notice) (put_release xs r) ≡ filter (is_of notice) xs ++ filter (is_of notice) (r ∷ [])
          → cond c (x ∷ filter (is_of notice) (put_release xs r)) (filter (is_of notice) (put_release xs r))
          ≡ cond c (x ∷ filter (is_of notice) xs) (filter (is_of notice) xs) ++ filter (is_of notice) (r ∷ [])
      behind true rest = ap (λ zs. x ∷ zs) rest
      behind false rest = rest

      by : (o : Ordering) → release_cmp (release_key r) (release_key x) ≡ o
          → filter (is_of notice) (put_release xs r) ≡ filter (is_of notice) xs ++ filter (is_of notice) (r ∷ [])
          → filter (is_of notice) (by_order o (r ∷ x ∷ xs) (r ∷ xs) (x ∷ put_release xs r)) ≡ filter (is_of notice) (x ∷ xs) ++ filter (is_of notice) (r ∷ [])
      by Less e rest = front (is_of notice r) (is_of notice x) refl refl e
      by Equal e rest = absurd (alike x early.0 e)
      by Greater e rest = behind (is_of notice x) rest

-- the numbers of a notice's releases are at most its count
abbrev AreWithin : (List ℕ → ℕ) → List ReleaseRow → Type 0
AreWithin count rows = AllByRecursion (λ (y : ReleaseRow). y.seq ≤ count y.notice) rows

abbrev count_in : Tables → List ℕ → ℕ
count_in t notice = releases_in (find_notice t.notices notice)

raised : (f g : List ℕ → ℕ) → ((n : List ℕ) → f n ≤ g n) → (rows : List ReleaseRow) → AreWithin f rows → AreWithin g rows
raised f g more [] h = tt
raised f g more (y ∷ ys) h = (omega (arith, h.0, more y.notice), raised f g more ys h.1)

earlier : (count : List ℕ → ℕ) (r : ReleaseRow) → r.seq ≡ count r.notice + 1 → (rows : List ReleaseRow) → AreWithin count rows → AllByRecursion (IsEarlier r) rows
earlier count r is [] h = tt
earlier count r is (y ∷ ys) h = (own, earlier count r is ys h.1)
  where
    own : same_id y.notice r.notice ≡ true → y.seq < r.seq
    own same = let e = ap count (equal_ids y.notice r.notice same) in omega (arith, h.0, is, e)

-- the facts after a command, by the release that it publishes
pub record AreMade (means : Means) (xs : List Given) (t : Tables) : Type 0 where
  pub are : (notice : List ℕ) → releases_of_notice notice t ≡ published_by means xs notice
  pub within : AreWithin (count_in t) t.releases

module _ (means : Means) (xs : List Given) (x : Given) (order : IsSorted x.before) (old : AreMade means xs x.before) where
  abbrev rows : List ReleaseRow
  rows = x.before.releases

  ends : {X : Type 0} (ys : List X) → ys ≡ ys ++ []
  ends [] = refl
  ends (y ∷ ys) = ap (λ zs. y ∷ zs) (ends ys)

  module _ (key : Option (List ℕ)) (counts : Counts x.before.notices (next means x).notices key) where
    never_less : (n : List ℕ) → count_in x.before n ≤ count_in (next means x) n
    never_less n = by (names_notice n key) (counts.count n)
      where
        by : (b : Bool) → count_in (next means x) n ≡ cond b 1 0 + count_in x.before n → count_in x.before n ≤ count_in (next means x) n
        by true e = omega (arith, e)
        by false e = omega (arith, e)

    quiet : publication means x ≡ None → (next means x).releases ≡ rows → AreMade means (x ∷ xs) (next means x)
    quiet none same = record {
      are = λ notice.
          ap (filter (is_of notice)) same ∙ old.are notice ∙ ends (published_by means xs notice)
          ∙ ap (λ p. published_by means xs notice ++ filter (is_of notice) (option_to_list p)) (sym none);
      within = subst (AreWithin (count_in (next means x))) (sym same) (raised (count_in x.before) (count_in (next means x)) never_less rows old.within);
    }

    module _ (r : ReleaseRow) (makes : publication means x ≡ Some r) (is : (next means x).releases ≡ put_release rows r)
        (number : r.seq ≡ count_in x.before r.notice + 1) (own : names_notice r.notice key ≡ true) where
      counted : r.seq ≤ count_in (next means x) r.notice
      counted = let one = counts.count r.notice ∙ ap (λ b. cond b 1 0 + count_in x.before r.notice) own in omega (arith, one, number)

      made : AreMade means (x ∷ xs) (next means x)
      made = record {
        are = λ notice.
            ap (filter (is_of notice)) is ∙ put_last r notice rows order.releases (earlier (count_in x.before) r number rows old.within)
            ∙ ap (λ ys. ys ++ filter (is_of notice) (r ∷ [])) (old.are notice)
            ∙ ap (λ p. published_by means xs notice ++ filter (is_of notice) (option_to_list p)) (sym makes);
        within =
            subst (AreWithin (count_in (next means x))) (sym is)
            (all-put keyed.releases.total release_key (λ (y : ReleaseRow). y.seq ≤ count_in (next means x) y.notice) rows r counted
            (raised (count_in x.before) (count_in (next means x)) never_less rows old.within));
      }

  abbrev published_under : Option (List ℕ) → Option (List ℕ) → Option ReleaseRow
  published_under key text = option_and_then (λ n. option_map (release_row x n) text) key

  step : (key text : Option (List ℕ)) → published_for x.before x.command ≡ key → means.release x ≡ text → Counts x.before.notices (next means x).notices key
      → (next means x).releases ≡ with_release (published_under key text) rows → publication means x ≡ published_under key text → AreMade means (x ∷ xs) (next means x)
  step None text k t counts is p = quiet None counts p is
  step (Some n) None k t counts is p = quiet (Some n) counts p is
  step (Some n) (Some text) k t counts is p = made (Some n) counts (release_row x n text) p is refl (same_itself n)

  pub next_made : Counts x.before.notices (next means x).notices (published_for x.before x.command) → (next means x).releases ≡ with_release (publication means x) rows
      → AreMade means (x ∷ xs) (next means x)
  next_made counts is = step (published_for x.before x.command) (means.release x) refl refl counts is refl

are_made : (means : Means) (xs : List Given) (t : Tables) → Reaches means xs t → AreMade means xs t
are_made means [] t reached = subst (AreMade means []) (sym reached) (record { are = λ notice. refl; within = tt })
are_made means (x ∷ xs) t reached =
    let order = sorted means xs x.before reached.reached in
    let is = next_is means x (parents_there means xs x.before reached.reached) reached.allowed in
    let counts : Counts x.before.notices (next means x).notices (published_for x.before x.command) =
    published means x is in
    let h = next_made means xs x order (are_made means xs x.before reached.reached) counts is.releases in
    subst (AreMade means (x ∷ xs)) (sym reached.is) (record { are = h.are; within = h.within })

pub releases_published : ReleasesArePublished
releases_published means xs t reached = (are_made means xs t reached).are
