-- A merge of values that can be read back can be read back.
use Rattle.ocds_merge.proofs.Names.{◌≡◌, ℕ, List, [], ◌∷◌, Bool, true, false, cond, Option, Some, None, Less, Equal, Greater, Ordering, refl, unwrap_or, bytes_eq, match_ordering, Data, null, boolean, number, string, array, object, Items, no_items, item, Members, no_members, member, put, get_member, items_of, id_of, is_id_list, put_present, members_without, step, step_items, step_members, object_of, id_list_of, items_list, find_item, set_item, AllAbove, IsOrdered, TextIsKept, AreItemsKept, AreMembersKept}
use Rattle.ocds_merge.proofs.MemberLemmas.{bytes_cmp}
use Rattle.ocds_merge.proofs.KeptLaw.{greater_from_less}
use Rattle.ocds_merge.proofs.SpliceLaw.{above_after, below_from_above}

-- ---- names in order

pub put_above : (l k : List ℕ) (d : Data) (ms : Members) → bytes_cmp l k ≡ Less → bytes_cmp k l ≡ Greater → AllAbove l ms → AllAbove l (put k d ms)
put_above l k d no_members a b h = (a, b, tt)
put_above l k d (member m e ms) a b h = go (bytes_cmp k m) (put_above l k d ms a b h.2)
  where
    go : (o : Ordering) → AllAbove l (put k d ms) → AllAbove l (match_ordering o (member k d (member m e ms)) (member m d ms) (member m e (put k d ms)))
    go Less rest = (a, b, h)
    go Equal rest = h
    go Greater rest = (h.0, h.1, rest)

put_ordered_at : (o : Ordering) (k m : List ℕ) (d e : Data) (ms : Members) → bytes_cmp k m ≡ o → IsOrdered (member m e ms) → IsOrdered (put k d ms)
    → IsOrdered (match_ordering o (member k d (member m e ms)) (member m d ms) (member m e (put k d ms)))
put_ordered_at Less k m d e ms is h rest = ((is, greater_from_less k m is, above_after k m ms is h.0), h)
put_ordered_at Equal k m d e ms is h rest = h
put_ordered_at Greater k m d e ms is h rest = (put_above m k d ms (below_from_above k m is) is h.0, rest)

pub put_ordered : (k : List ℕ) (d : Data) (ms : Members) → IsOrdered ms → IsOrdered (put k d ms)
put_ordered k d no_members h = (tt, tt)
put_ordered k d (member m e ms) h = put_ordered_at (bytes_cmp k m) k m d e ms refl h (put_ordered k d ms h.1)

put_present_ordered : (k : List ℕ) (o : Option Data) (ms : Members) → IsOrdered ms → IsOrdered (put_present k o ms)
put_present_ordered k None ms h = h
put_present_ordered k (Some d) ms h = put_ordered k d ms h

without_above : (l k : List ℕ) (ms : Members) → AllAbove l ms → AllAbove l (members_without k ms)
without_above l k no_members h = h
without_above l k (member m e ms) h = go (bytes_cmp k m) (without_above l k ms h.2)
  where
    go : (o : Ordering) → AllAbove l (members_without k ms) → AllAbove l (match_ordering o (member m e (members_without k ms)) ms (member m e (members_without k ms)))
    go Less rest = (h.0, h.1, rest)
    go Equal rest = h.2
    go Greater rest = (h.0, h.1, rest)

without_ordered : (k : List ℕ) (ms : Members) → IsOrdered ms → IsOrdered (members_without k ms)
without_ordered k no_members h = h
without_ordered k (member m e ms) h = go (bytes_cmp k m) (without_ordered k ms h.1)
  where
    go : (o : Ordering) → IsOrdered (members_without k ms) → IsOrdered (match_ordering o (member m e (members_without k ms)) ms (member m e (members_without k ms)))
    go Less rest = (without_above m k ms h.0, rest)
    go Equal rest = h.1
    go Greater rest = (without_above m k ms h.0, rest)

-- ---- a property of each value inside a value, such as `TextIsKept`

pub put_kept : (k : List ℕ) (d : Data) (ms : Members) → TextIsKept d → AreMembersKept ms → AreMembersKept (put k d ms)
put_kept k d no_members a h = (a, tt)
put_kept k d (member m e ms) a h = go (bytes_cmp k m) (put_kept k d ms a h.1)
  where
    go : (o : Ordering) → AreMembersKept (put k d ms) → AreMembersKept (match_ordering o (member k d (member m e ms)) (member m d ms) (member m e (put k d ms)))
    go Less rest = (a, h)
    go Equal rest = (a, h.1)
    go Greater rest = (h.0, rest)

without_kept : (k : List ℕ) (ms : Members) → AreMembersKept ms → AreMembersKept (members_without k ms)
without_kept k no_members h = h
without_kept k (member m e ms) h = go (bytes_cmp k m) (without_kept k ms h.1)
  where
    go : (o : Ordering) → AreMembersKept (members_without k ms) → AreMembersKept (match_ordering o (member m e (members_without k ms)) ms (member m e (members_without k ms)))
    go Less rest = (h.0, rest)
    go Equal rest = h.1
    go Greater rest = (h.0, rest)

-- nothing, or a value that can be read back
abbrev pub IsKeptIfSome : Option Data → Type 0
IsKeptIfSome None = Unit {0}
IsKeptIfSome (Some d) = TextIsKept d

get_kept : (k : List ℕ) (ms : Members) → AreMembersKept ms → IsKeptIfSome (get_member k ms)
get_kept k no_members h = tt
get_kept k (member m e ms) h = go (bytes_cmp k m) (get_kept k ms h.1)
  where
    go : (o : Ordering) → IsKeptIfSome (get_member k ms) → IsKeptIfSome (match_ordering o (get_member k ms) (Some e) (get_member k ms))
    go Less rest = rest
    go Equal rest = h.0
    go Greater rest = rest

put_present_kept : (k : List ℕ) (o : Option Data) (ms : Members) → IsKeptIfSome o → AreMembersKept ms → AreMembersKept (put_present k o ms)
put_present_kept k None ms a h = h
put_present_kept k (Some d) ms a h = put_kept k d ms a h

pub or_null_kept : (o : Option Data) → IsKeptIfSome o → TextIsKept (unwrap_or o null)
or_null_kept None h = tt
or_null_kept (Some d) h = h

abbrev AllKept : List Data → Type 0
AllKept [] = Unit {0}
AllKept (d ∷ ds) = TextIsKept d × AllKept ds

find_kept : (i : List ℕ) (ds : List Data) → AllKept ds → IsKeptIfSome (find_item i ds)
find_kept i [] h = tt
find_kept i (d ∷ ds) h = go (bytes_eq (id_of d) i) (find_kept i ds h.1)
  where
    go : (b : Bool) → IsKeptIfSome (find_item i ds) → IsKeptIfSome (cond b (Some d) (find_item i ds))
    go true rest = h.0
    go false rest = rest

set_kept : (i : List ℕ) (x : Data) (ds : List Data) → TextIsKept x → AllKept ds → AllKept (set_item i x ds)
set_kept i x [] a h = (a, tt)
set_kept i x (d ∷ ds) a h = go (bytes_eq (id_of d) i) (set_kept i x ds a h.1)
  where
    go : (b : Bool) → AllKept (set_item i x ds) → AllKept (cond b (x ∷ ds) (d ∷ set_item i x ds))
    go true rest = (a, h.1)
    go false rest = (h.0, rest)

items_list_kept : (ds : Items) → AreItemsKept ds → AllKept (items_list ds)
items_list_kept no_items h = tt
items_list_kept (item d ds) h = (h.0, items_list_kept ds h.1)

items_of_kept : (ds : List Data) → AllKept ds → AreItemsKept (items_of ds)
items_of_kept [] h = tt
items_of_kept (d ∷ ds) h = (h.0, items_of_kept ds h.1)

id_list_kept : (t : Option Data) → IsKeptIfSome t → AllKept (id_list_of t)
id_list_kept None h = tt
id_list_kept (Some null) h = tt
id_list_kept (Some (boolean b)) h = tt
id_list_kept (Some (number n)) h = tt
id_list_kept (Some (string s)) h = tt
id_list_kept (Some (object ms)) h = tt
id_list_kept (Some (array ds)) h = go (is_id_list ds)
  where
    go : (b : Bool) → AllKept (cond b (items_list ds) [])
    go true = items_list_kept ds h
    go false = tt

object_kept : (t : Option Data) → IsKeptIfSome t → TextIsKept (object (object_of t))
object_kept None h = (tt, tt)
object_kept (Some null) h = (tt, tt)
object_kept (Some (boolean b)) h = (tt, tt)
object_kept (Some (number n)) h = (tt, tt)
object_kept (Some (string s)) h = (tt, tt)
object_kept (Some (array ds)) h = (tt, tt)
object_kept (Some (object ms)) h = h

array_kept : (b : Bool) (xs ds : Items) → AreItemsKept xs → AreItemsKept ds → IsKeptIfSome (cond b (Some (array xs)) (Some (array ds)))
array_kept true xs ds h k = h
array_kept false xs ds h k = k

-- ---- a step

mutual
  pub step_kept : (t : Option Data) (v : Data) → IsKeptIfSome t → TextIsKept v → IsKeptIfSome (step t v)
  step_kept t null h k = tt
  step_kept t (boolean b) h k = tt
  step_kept t (number n) h k = k
  step_kept t (string s) h k = tt
  step_kept t (array ds) h k = array_kept (is_id_list ds) (items_of (step_items (id_list_of t) ds)) ds (items_of_kept _ (step_items_kept (id_list_of t) ds (id_list_kept t h) k)) k
  step_kept t (object ms) h k = step_members_kept (object_of t) ms (object_kept t h) k.1

  step_items_kept : (ts : List Data) (ds : Items) → AllKept ts → AreItemsKept ds → AllKept (step_items ts ds)
  step_items_kept ts no_items h k = h
  step_items_kept ts (item d ds) h k =
      step_items_kept (set_item (id_of d) (unwrap_or (step (find_item (id_of d) ts) d) null) ts) ds
      (set_kept (id_of d) _ ts (or_null_kept _ (step_kept (find_item (id_of d) ts) d (find_kept (id_of d) ts h) k.0)) h) k.1

  step_members_kept : (ts ms : Members) → TextIsKept (object ts) → AreMembersKept ms → TextIsKept (object (step_members ts ms))
  step_members_kept ts no_members h k = h
  step_members_kept ts (member n d ms) h k =
      step_members_kept (put_present n (step (get_member n ts) d) (members_without n ts)) ms (
        put_present_ordered n (step (get_member n ts) d) (members_without n ts) (without_ordered n ts h.0),
        put_present_kept n (step (get_member n ts) d) (members_without n ts) (step_kept (get_member n ts) d (get_kept n ts h.1) k.0) (without_kept n ts h.1),
      ) k.1
