-- The notices that were in `notices` are put one after another. Then the office has the notices that it had before, and tables apart keep their rows.
use Rattle.office_changes.proofs.Names.{◌≡◌, ℕ, Option, Bool, true, false, List, [], ◌∷◌, ◌++◌, map, append-nil, refl, sym, ap, subst, subst₂, ◌∙◌, IsTrue, Ordering, Less, Greater, append_assoc, IsTotalOrder, nat_list_cmp_total, ordering_reverse, Schema, Table, Has, Trees, Database, State, Shows, id_cmp, by_order, row_put, StartsAbove, IsInOrder, Tables, notice_key, after_puts, Put, ClockRow, NoticeRow, FormerNotice, AddsNoReference, LeadsInside, AreApart, Begins, IsMigrated, besides_former, former_part, had_former, other_part, IsIn, Holds, MakeAll, Puts, Notices, SparesMarked, former_sorted, notices_change, notice_apart, HoldsThese, Becomes, Migrates, LeavesCurrent}
use Rattle.office_base.specs.declared.puts.Put.TheVariants as puts
use Rattle.office_tables.specs.Tables.Notices.{notices as version_two}
use Rattle.office_changes.proofs.Steps.{goes_then}

-- ---- a row whose key is above all others is added at the end

module _ {K X : Type 0} {R : K → K → Ordering} (o : IsTotalOrder R) (key : X → K) where
  above_next : (d : X) (xs : List X) (x : X) (more : List X) → StartsAbove R key (key d) (xs ++ x ∷ more) × IsInOrder R key (xs ++ x ∷ more) → R (key d) (key x) ≡ Less
  above_next d [] x more h = h.0
  above_next d (y ∷ ys) x more h = o.trans (key d) (key y) (key x) h.0 (above_next y ys x more h.1)

  put_last : (xs : List X) (x : X) (more : List X) → IsInOrder R key (xs ++ x ∷ more) → row_put R key xs x ≡ xs ++ x ∷ []
  unfolding row_put
  put_last [] x more h = refl
  put_last (d ∷ xs) x more h =
      let above : R (key x) (key d) ≡ Greater = o.antisymm (key x) (key d) ∙ ap ordering_reverse (above_next d xs x more h) in
      ap (λ c. by_order c (x ∷ d ∷ xs) (x ∷ xs) (d ∷ row_put R key xs x)) above ∙ ap (λ rest. d ∷ rest) (put_last xs x more h.1)

-- ---- so the notices are in the order of their keys

abbrev row_of : FormerNotice → NoticeRow
row_of r = r.row

abbrev put_of : FormerNotice → Put
put_of r = puts.Notice r.row

refilled : (done : List NoticeRow) (more : List FormerNotice) (t : Tables) → IsInOrder id_cmp notice_key (done ++ map row_of more)
    → after_puts (map put_of more) (record t { notices = done }) ≡ record t { notices = done ++ map row_of more }
refilled done [] t h = ap (λ l. record t { notices = l }) (sym (append-nil done))
refilled done (x ∷ more) t h =
    let moved : (done ++ x.row ∷ []) ++ map row_of more ≡ done ++ x.row ∷ map row_of more = append_assoc done (x.row ∷ []) (map row_of more) in
    ap (λ l. after_puts (map put_of more) (record t { notices = l })) (put_last nat_list_cmp_total notice_key done x.row (map row_of more) h)
    ∙ refilled (done ++ x.row ∷ []) more t (subst (IsInOrder id_cmp notice_key) (sym moved) h)
    ∙ ap (λ l. record t { notices = l }) moved

-- if an edition had its notices in `notices`, they are put; else there are none to put
refilled_where : (had : Bool) (notices : List FormerNotice) (t : Tables) → map row_of notices ≡ former_part had t.notices → IsInOrder id_cmp notice_key (former_part had t.notices)
    → after_puts (map put_of notices) (record t { notices = other_part had t.notices }) ≡ t
refilled_where true notices t same h = refilled [] notices t (subst (IsInOrder id_cmp notice_key) (sym same) h) ∙ ap (λ l. record t { notices = l }) same
refilled_where false [] t same h = refl
refilled_where false (x ∷ notices) t same h = absurd (cc)

-- ---- tables apart keep their rows

puts_apart : (limit : Option ℕ) (notices : List FormerNotice) (first last : Database) (n : ℕ) → IsIn first.schema version_two n → MakeAll limit (map put_of notices) first last
    → (last.schema ≡ first.schema) × SparesMarked first.schema n first.trees last.trees
puts_apart limit [] first last n at same = (
  ap (λ (d : Database). d.schema) same,
  λ marked inside out t there is_marked. ap (λ (d : Database). d.trees t.tree) same,
)
puts_apart limit (x ∷ more) first last n at (second, made, rest) =
    let one = notice_apart limit x.row first second n at made in
    let others = puts_apart limit more second last n (subst (λ s. IsIn s version_two n) (sym one.0) at) rest in (
      others.0 ∙ one.0,
      λ marked inside out t there is_marked.
          others.1 marked (subst (λ s. LeadsInside s marked) (sym one.0) inside) out t (subst (λ (s : Schema). Has s.tables t) (sym one.0) there) is_marked
          ∙ one.1 marked inside out t there is_marked,
    )

spared_where : (had : Bool) (limit : Option ℕ) (notices : List FormerNotice) (first last : Database) (n : ℕ) (rows : List NoticeRow) → map row_of notices ≡ former_part had rows → IsIn first.schema version_two n
    → MakeAll limit (map put_of notices) first last → (marked : ℕ → Bool) → LeadsInside first.schema marked → (had ≡ true → marked n ≡ false) → (u : Table) → Has first.schema.tables u → marked u.tree ≡ true
    → last.trees u.tree ≡ first.trees u.tree
spared_where true limit notices first last n rows same at made marked inside out u there is_marked = (puts_apart limit notices first last n at made).1 marked inside (out refl) u there is_marked
spared_where false limit [] first last n rows same at made marked inside out u there is_marked = ap (λ (d : Database). d.trees u.tree) made
spared_where false limit (x ∷ notices) first last n rows same at made marked inside out u there is_marked = absurd (cc)

-- ---- the whole transaction

module _ (edition : ℕ) (clock : ClockRow) (notices : List FormerNotice) where
  pub becomes : (old first mid : State) → Begins edition clock old first → Puts first mid (map put_of notices) → Becomes edition clock (map row_of notices) old mid
  becomes old first mid begun put = record {
    goes = goes_then old first mid begun.goes put.goes;
    tables = λ t was.
        let had = had_former edition in
        let blank = begun.tables t was.held was.clock_is in
        let start = besides_former edition t in
        let same = sym was.notices_are in
        let at = blank.held.tables Notices in
        let n = blank.held.places Notices in
        let made = put.made start blank.held in
        let schema = (puts_apart first.step_limit notices first.now mid.now n at made).0 in
        record {
          held = subst (Holds mid.now) (refilled_where had notices t same (former_sorted edition old.now t was.held)) (put.tables start blank.held);
          others = λ u stood.
              let one = blank.others u stood in (
                subst (λ (s : Schema). Has s.tables u) (sym schema) one.0,
                λ marked apart is_marked.
                    let before : AreApart edition first.now.schema marked = subst (λ s. AreApart edition s marked) schema apart in
                    spared_where had first.step_limit notices first.now mid.now n t.notices same at made marked before.inside (λ is. before.others Notices (notices_change had is) n at) u one.0 is_marked
                    ∙ one.1 marked before is_marked,
              );
          added = subst (AddsNoReference old.now.schema) (sym schema) blank.added;
        };
  }

  module _ (old mid : State) (settled : IsTrue old.is_open → old.now ≡ old.committed) (it : Becomes edition clock (map row_of notices) (record old { in_transaction = true }) mid) where
    from_commit : (t : Tables) → HoldsThese edition clock (map row_of notices) old.committed t → HoldsThese edition clock (map row_of notices) old.now t
    from_commit t = subst (λ d. HoldsThese edition clock (map row_of notices) d t) (sym (settled it.goes.was_open))

    pub migrates : (new : State) → Shows mid new mid.now mid.now false → (IsTrue new.is_open → (db : Trees) → new.may_leave db → db ≡ new.committed.trees)
        → Migrates edition clock (map row_of notices) old new
    migrates new shows only = record {
      was_open = it.goes.was_open;
      is_open = shows.is_open;
      tables = λ t was. subst₂ (IsMigrated edition t) (settled it.goes.was_open) (sym shows.committed_is) (it.tables t (from_commit t was));
      only = only shows.is_open;
    }

    pub migrate_leaves : (db : Trees) → db ≡ mid.now.trees → LeavesCurrent edition clock (map row_of notices) old db
    migrate_leaves db is = (it.goes.was_open, λ t was. (mid.now, is, subst (λ d. IsMigrated edition t d mid.now) (settled it.goes.was_open) (it.tables t (from_commit t was))))
