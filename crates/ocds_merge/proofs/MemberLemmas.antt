-- Members in order are determined by their look-ups.
use Rattle.ocds_merge.proofs.Names.{◌≡◌, ℕ, List, [], ◌∷◌, Bool, true, false, T, ◌&&◌, Option, Some, None, Ordering, Less, Equal, Greater, nat_cmp, refl, sym, ap, ◌∙◌, subst, cond, match_ordering, is_eq, is_lt, slice_cmp, nat_list_cmp_total, tied_itself, exact_bytes, Data, Members, no_members, member, put, get_member, get_member-put, get_member-put_other, put_present, members_without}
use Rattle.std.specs.FinMap.Entries as E

abbrev pub bytes_cmp : List ℕ → List ℕ → Ordering
bytes_cmp = slice_cmp nat_cmp

abbrev pub Pair : Type 0
Pair = List ℕ × Data

abbrev pub entries : Members → List Pair
entries no_members = []
entries (member k d ms) = (k, d) ∷ entries ms

abbrev pub from : List Pair → Members
from [] = no_members
from (e ∷ es) = member e.0 e.1 (from es)

pub from-entries : (ms : Members) → from (entries ms) ≡ ms
from-entries no_members = refl
from-entries (member k d ms) = ap (member k d) (from-entries ms)

abbrev pub IsSorted : Members → Type 0
IsSorted ms = T (E.is_sorted bytes_cmp (entries ms))

tied_or : (o : Ordering) (e : Data) (x y : Option Data) → x ≡ y → cond (is_eq o) (Some e) x ≡ match_ordering o y (Some e) y
tied_or Less e x y h = h
tied_or Equal e x y h = refl
tied_or Greater e x y h = h

pub find-entries : (q : List ℕ) (ms : Members) → E.find bytes_cmp q (entries ms) ≡ get_member q ms
find-entries q no_members = refl
find-entries q (member k d ms) = tied_or (bytes_cmp q k) d _ _ (find-entries q ms)

entries-order : (o : Ordering) (a b c : Members) → entries (match_ordering o a b c) ≡ E.by_order o (entries a) (entries b) (entries c)
entries-order Less a b c = refl
entries-order Equal a b c = refl
entries-order Greater a b c = refl

pub entries-put : (k : List ℕ) (d : Data) (ms : Members) → entries (put k d ms) ≡ E.put bytes_cmp k d (entries ms)
entries-put k d no_members = refl
entries-put k d (member l e ms) =
    entries-order (bytes_cmp k l) _ _ _ ∙ ap (λ (r : List Pair). E.by_order (bytes_cmp k l) ((k, d) ∷ (l, e) ∷ entries ms) ((l, d) ∷ entries ms) ((l, e) ∷ r)) (entries-put k d ms)

pub sorted_put : (k : List ℕ) (d : Data) (ms : Members) → IsSorted ms → IsSorted (put k d ms)
sorted_put k d ms h = subst (λ (es : List Pair). T (E.is_sorted bytes_cmp es)) (sym (entries-put k d ms)) (E.is_sorted-put bytes_cmp nat_list_cmp_total k d (entries ms) h)

-- members in order with equal look-ups are equal
pub same_members : (a b : Members) → IsSorted a → IsSorted b → ((q : List ℕ) → get_member q a ≡ get_member q b) → a ≡ b
same_members a b g h is =
    sym (from-entries a)
    ∙ ap from (E.same_entries bytes_cmp nat_list_cmp_total exact_bytes (entries a) (entries b) g h (λ q. find-entries q a ∙ is q ∙ sym (find-entries q b)))
    ∙ from-entries b

-- ---- the first member, and the others

pub both : (a b : Bool) → T a → T b → T (a && b)
both true b p q = q
both false b p q = p

pub first : (a b : Bool) → T (a && b) → T a
first true b p = tt
first false b p = p

pub second : (a b : Bool) → T (a && b) → T b
second true b p = p
second false b p = absurd p

below_step : (o : Ordering) (b : Bool) (x : Option Data) (e : Data) → T (is_lt o && b) → (T b → x ≡ None) → match_ordering o x (Some e) x ≡ None
below_step Less b x e h f = f h
below_step Equal b x e h f = absurd h
below_step Greater b x e h f = absurd h

-- a name before all others isn't a member's
pub get_below : (q : List ℕ) (ms : Members) → T (E.below_all bytes_cmp q (entries ms)) → get_member q ms ≡ None
get_below q no_members h = refl
get_below q (member l e ms) h = below_step (bytes_cmp q l) _ _ e h (get_below q ms)

skip_at : (o : Ordering) (q l : List ℕ) (e : Data) (x : Option Data) → bytes_cmp q l ≡ o → (q ≡ l → ⊥) → match_ordering o x (Some e) x ≡ x
skip_at Less q l e x is other = refl
skip_at Equal q l e x is other = absurd (other (exact_bytes q l is))
skip_at Greater q l e x is other = refl

pub skips : (q l : List ℕ) (e : Data) (ms : Members) → (q ≡ l → ⊥) → get_member q (member l e ms) ≡ get_member q ms
skips q l e ms other = skip_at _ q l e _ refl other

pub here : (k : List ℕ) (e : Data) (ms : Members) → get_member k (member k e ms) ≡ Some e
here k e ms = rw (tied_itself nat_list_cmp_total k)

-- ---- after a deletion

delete_same_at : (o : Ordering) (k l : List ℕ) (e : Data) (ms : Members) → bytes_cmp k l ≡ o → T (E.below_all bytes_cmp l (entries ms)) → get_member k (members_without k ms) ≡ None
    → get_member k (match_ordering o (member l e (members_without k ms)) ms (member l e (members_without k ms))) ≡ None
delete_same_at Less k l e ms is low later = rw is later
delete_same_at Equal k l e ms is low later = get_below k ms (subst (λ (x : List ℕ). T (E.below_all bytes_cmp x (entries ms))) (sym (exact_bytes k l is)) low)
delete_same_at Greater k l e ms is low later = rw is later

pub get_delete : (k : List ℕ) (ms : Members) → IsSorted ms → get_member k (members_without k ms) ≡ None
get_delete k no_members h = refl
get_delete k (member l e ms) h = delete_same_at _ k l e ms refl (first _ _ h) (get_delete k ms (second _ _ h))

delete_other_at : (o : Ordering) (q k l : List ℕ) (e : Data) (ms : Members) → bytes_cmp k l ≡ o → (q ≡ k → ⊥) → get_member q (members_without k ms) ≡ get_member q ms
    → get_member q (match_ordering o (member l e (members_without k ms)) ms (member l e (members_without k ms))) ≡ get_member q (member l e ms)
delete_other_at Less q k l e ms is other later = ap (λ r. match_ordering (bytes_cmp q l) r (Some e) r) later
delete_other_at Equal q k l e ms is other later = sym (skips q l e ms (λ h. other (h ∙ sym (exact_bytes k l is))))
delete_other_at Greater q k l e ms is other later = ap (λ r. match_ordering (bytes_cmp q l) r (Some e) r) later

pub get_delete_other : (q k : List ℕ) (ms : Members) → (q ≡ k → ⊥) → get_member q (members_without k ms) ≡ get_member q ms
get_delete_other q k no_members other = refl
get_delete_other q k (member l e ms) other = delete_other_at _ q k l e ms refl other (get_delete_other q k ms other)

below_delete_at : (o : Ordering) (x k l : List ℕ) (e : Data) (ms : Members) → T (is_lt (bytes_cmp x l)) → T (E.below_all bytes_cmp x (entries ms)) → T (E.below_all bytes_cmp x (entries (members_without k ms)))
    → T (E.below_all bytes_cmp x (entries (match_ordering o (member l e (members_without k ms)) ms (member l e (members_without k ms)))))
below_delete_at Less x k l e ms a b later = both _ _ a later
below_delete_at Equal x k l e ms a b later = b
below_delete_at Greater x k l e ms a b later = both _ _ a later

below_delete : (x k : List ℕ) (ms : Members) → T (E.below_all bytes_cmp x (entries ms)) → T (E.below_all bytes_cmp x (entries (members_without k ms)))
below_delete x k no_members h = h
below_delete x k (member l e ms) h = below_delete_at (bytes_cmp k l) x k l e ms (first _ _ h) (second _ _ h) (below_delete x k ms (second _ _ h))

sorted_delete_at : (o : Ordering) (k l : List ℕ) (e : Data) (ms : Members) → T (E.below_all bytes_cmp l (entries (members_without k ms))) → IsSorted ms → IsSorted (members_without k ms)
    → IsSorted (match_ordering o (member l e (members_without k ms)) ms (member l e (members_without k ms)))
sorted_delete_at Less k l e ms a b later = both _ _ a later
sorted_delete_at Equal k l e ms a b later = b
sorted_delete_at Greater k l e ms a b later = both _ _ a later

pub sorted_delete : (k : List ℕ) (ms : Members) → IsSorted ms → IsSorted (members_without k ms)
sorted_delete k no_members h = h
sorted_delete k (member l e ms) h = sorted_delete_at (bytes_cmp k l) k l e ms (below_delete l k ms (first _ _ h)) (second _ _ h) (sorted_delete k ms (second _ _ h))

-- ---- after a `put_present`

pub sorted_put_some : (k : List ℕ) (o : Option Data) (ms : Members) → IsSorted ms → IsSorted (put_present k o ms)
sorted_put_some k None ms h = h
sorted_put_some k (Some d) ms h = sorted_put k d ms h

pub get_put_some : (k : List ℕ) (o : Option Data) (ms : Members) → get_member k ms ≡ None → get_member k (put_present k o ms) ≡ o
get_put_some k None ms h = h
get_put_some k (Some d) ms h = get_member-put k d ms

pub get_put_some_other : (q k : List ℕ) (o : Option Data) (ms : Members) → (q ≡ k → ⊥) → get_member q (put_present k o ms) ≡ get_member q ms
get_put_some_other q k None ms other = refl
get_put_some_other q k (Some d) ms other = get_member-put_other q k d ms other
