-- An index finds the rows of a group, before and after changes of its table.
use Rattle.office_memory.proofs.Names.{◌≡◌, Bool, true, false, cond, ◌&&◌, List, [], ◌∷◌, filter, Some, Result, Ok, Err, OnOk, OnErr, refl, sym, ap, ◌∙◌, subst, get, is_at, BTreeSet, contains, IsTotalOrder, AllByRecursion, list_any, filter_map, IsStrictlySortedBy, lookup, is_eq, Ordering, Equal, and_parts, or_left, KeysOfGroups, keys_in, keys_of, has_key, HasRows, IsIndexed, row_at, row_put, row_drop, IsInOrder, same_key, equal_from_test, all-put, all-drop}
use Rattle.office_memory.proofs.KeyLists.{all_found}

pub contains_more : (test was : Bool) → was ≡ true → cond test true was ≡ true
contains_more true was h = refl
contains_more false was h = h

-- a list of one key contains that key
pub is_only : {K : Type 0} {R : K → K → Ordering} → IsTotalOrder R → (key : K) → list_any (is_at (R key)) (key ∷ []) ≡ true
is_only {K} {R} o key = or_left (is_eq (R key key)) false (ap is_eq (same_key o key))

module _ {G K : Type 0} {S : G → G → Ordering} {R : K → K → Ordering} (s : IsTotalOrder S) (o : IsTotalOrder R) where
  lookup_alike : {X : Type 0} (a b : G) (es : List (G × X)) → S a b ≡ Equal → lookup (is_at (S a)) es ≡ lookup (is_at (S b)) es
  lookup_alike a b [] e = refl
  lookup_alike a b (x ∷ es) e = rw (s.congr a b x.0 e, lookup_alike a b es e) refl

  -- groups that compare as equal have the same keys
  alike_keys : (a b : G) (index : KeysOfGroups G K) → S a b ≡ Equal → keys_of S a index ≡ keys_of S b index
  alike_keys a b index e = ap keys_in (lookup_alike a b index.entries e)

  more_step : (g q : G) (k : K) (index next : KeysOfGroups G K) (keys : BTreeSet K)
      → get S next q ≡ cond (is_at (S g) q) (Some keys) (get S index q)
      → ((j : K) → list_any (is_at (R j)) (keys_of S g index) ≡ true → contains R keys j ≡ true)
      → has_key S R index q k ≡ true → (c : Bool) → is_at (S g) q ≡ c → has_key S R next q k ≡ true
  more_step g q k index next keys updates more has true e =
      ap (λ found. list_any (is_at (R k)) (keys_in found)) (updates ∙ ap (λ b. cond b (Some keys) (get S index q)) e)
      ∙ more k (ap (λ ks. list_any (is_at (R k)) ks) (alike_keys g q index (equal_from_test (S g q) e)) ∙ has)
  more_step g q k index next keys updates more has false e =
      ap (λ found. list_any (is_at (R k)) (keys_in found)) (updates ∙ ap (λ b. cond b (Some keys) (get S index q)) e) ∙ has

  -- if the keys of one group change, but keep those that it had, no key leaves the index
  pub more_keys : (g : G) (index next : KeysOfGroups G K) (keys : BTreeSet K)
      → ((q : G) → get S next q ≡ cond (is_at (S g) q) (Some keys) (get S index q))
      → ((j : K) → list_any (is_at (R j)) (keys_of S g index) ≡ true → contains R keys j ≡ true)
      → (q : G) (k : K) → has_key S R index q k ≡ true → has_key S R next q k ≡ true
  more_keys g index next keys updates more q k has = more_step g q k index next keys (updates q) more has (is_at (S g) q) refl

  module _ {X : Type 0} (group : X → G) (key : X → K) where
    -- ---- the rows of a group

    module _ (same : G → G → Bool) (ties : (x y : G) → same x y ≡ is_eq (S x y)) where
      row_of_it : (g : G) (index : KeysOfGroups G K) (r : X) → has_key S R index (group r) (key r) ≡ true → same (group r) g ≡ true
          → list_any (is_at (R (key r))) (keys_of S g index) ≡ true
      row_of_it g index r has of_it =
          ap (λ ks. list_any (is_at (R (key r))) ks) (sym (alike_keys (group r) g index (equal_from_test _ (sym (ties (group r) g) ∙ of_it)))) ∙ has

      rows_of_it : (g : G) (rows : List X) (index : KeysOfGroups G K) → HasRows S R group key rows index
          → AllByRecursion (λ r. same (group r) g ≡ true → list_any (is_at (R (key r))) (keys_of S g index) ≡ true) rows
      rows_of_it g [] index has = tt
      rows_of_it g (r ∷ rows) index has = (row_of_it g index r has.0, rows_of_it g rows index has.1)

      -- looking up the keys that an index lists for a group finds the rows of the group
      pub rows_found : (g : G) (rows : List X) (index : KeysOfGroups G K) (keys : List K) → HasRows S R group key rows index → keys ≡ keys_of S g index
          → IsStrictlySortedBy R keys → IsInOrder R key rows
          → filter (λ r. same (group r) g) (filter_map (row_at R key rows) keys) ≡ filter (λ r. same (group r) g) rows
      rows_found g rows index keys has are sorted order =
          let family : List K → Type 0 = λ ks. AllByRecursion (λ r. same (group r) g ≡ true → list_any (is_at (R (key r))) ks ≡ true) rows in
          all_found o key (λ r. same (group r) g) keys rows sorted order (subst family (sym are) (rows_of_it g rows index has))

      -- if an index lists no key for a group, the group has no rows
      pub no_rows : (g : G) (rows : List X) (index : KeysOfGroups G K) → HasRows S R group key rows index → [] ≡ keys_of S g index → IsInOrder R key rows
          → [] ≡ filter (λ r. same (group r) g) rows
      unfolding IsStrictlySortedBy
      no_rows g rows index has are order = rows_found g rows index [] has are tt order

    -- ---- the index after a change of the table

    has_all : (rows : List X) (index next : KeysOfGroups G K) → ((q : G) (k : K) → has_key S R index q k ≡ true → has_key S R next q k ≡ true)
        → HasRows S R group key rows index → HasRows S R group key rows next
    has_all [] index next kept h = tt
    has_all (r ∷ rows) index next kept h = (kept (group r) (key r) h.0, has_all rows index next kept h.1)

    -- an index to which a key was added still covers the rows
    pub indexed_with : (rows : List X) (index next : KeysOfGroups G K) (is_whole now_whole : Bool) → IsIndexed S R group key rows index is_whole
        → ((q : G) (k : K) → has_key S R index q k ≡ true → has_key S R next q k ≡ true) → now_whole ≡ is_whole → IsIndexed S R group key rows next now_whole
    indexed_with rows index next is_whole now_whole h more same whole = has_all rows index next more (h (sym same ∙ whole))

    -- an index that lists a row's key covers the rows after the row was put
    has_all-put : (r : X) (rows : List X) (index : KeysOfGroups G K) → has_key S R index (group r) (key r) ≡ true → HasRows S R group key rows index
        → HasRows S R group key (row_put R key rows r) index
    has_all-put r rows index has h = all-put o key (λ x. has_key S R index (group x) (key x) ≡ true) rows r has h

    -- after a row's key was added, the index covers the rows with that row
    pub ready_for : {Y E : Type 0} (r : X) (index next : KeysOfGroups G K) (is_whole now_whole : Bool) (result : Result Y E)
        → OnOk result (has_key S R next (group r) (key r) ≡ true) → ((q : G) (k : K) → has_key S R index q k ≡ true → has_key S R next q k ≡ true) → now_whole ≡ is_whole
        → OnOk result ((rows : List X) → IsIndexed S R group key rows index is_whole → IsIndexed S R group key (row_put R key rows r) next now_whole)
    ready_for r index next is_whole now_whole (Ok v) has more same =
        λ rows h whole. has_all-put r rows next has (indexed_with rows index next is_whole now_whole h more same whole)
    ready_for r index next is_whole now_whole (Err e) has more same = tt

    -- when a replaced row is restored, the index covers the rows, since it stays whole only if it lists that row
    pub indexed_again : (r : X) (rows : List X) (index next : KeysOfGroups G K) (is_whole now_whole : Bool) → IsIndexed S R group key rows index is_whole
        → next ≡ index → now_whole ≡ (is_whole && has_key S R index (group r) (key r)) → IsIndexed S R group key (row_put R key rows r) next now_whole
    indexed_again r rows index next is_whole now_whole h same stays whole =
        let has = and_parts is_whole (has_key S R index (group r) (key r)) (sym stays ∙ whole) in
        rw same (has_all-put r rows index has.1 (h has.0))

    -- when a row is dropped, the index covers the remaining rows
    pub indexed_after_drop : (k : K) (rows : List X) (index : KeysOfGroups G K) (is_whole : Bool) → IsIndexed S R group key rows index is_whole
        → IsIndexed S R group key (row_drop R key rows k) index is_whole
    indexed_after_drop k rows index is_whole h whole =
        all-drop R key (λ r. has_key S R index (group r) (key r) ≡ true) rows k (h whole)

-- if a property is true of the rows with a new one and of those without it, it is true after a put that succeeded or failed
pub put_or_not : {K X Y E : Type 0} (R : K → K → Ordering) (key : X → K) (P : List X → Type 0) (r : X) (rows after : List X) (result : Result Y E)
    → OnOk result (after ≡ row_put R key rows r) → OnErr result (after ≡ rows) → P (row_put R key rows r) → P rows → P after
put_or_not R key P r rows after (Ok v) put kept with_it without = subst P (sym put) with_it
put_or_not R key P r rows after (Err e) put kept with_it without = subst P (sym kept) without
