-- The compiled release of a contracting process. `src/examples.rt` has the worked examples that are named below.
use Rattle.std.specs.Prelude.{ℕ, ◌-◌, length, get_or, List, [], ◌∷◌, ◌++◌, map, codes, unwrap_or, option_and_then}
use Rattle.std.specs.Ordering.{nat_cmp, match_ordering}
use Rattle.std.specs.Cmp.Lexicographic.{slice_cmp}
use Rattle.serde_json.specs.Data.{Data, null, boolean, number, string, array, object, item, no_items, Members, no_members, member, put}
use Rattle.serde_json.specs.Find.{get, as_str}
use Rattle.ocds_merge.specs.Merge.{merge_or_null}

-- ---- the order of the releases

-- the text of a release's `date`, or an empty text if it has none
abbrev pub date_of : Data → List ℕ
date_of d = unwrap_or (option_and_then as_str (get (codes "date") d)) []

-- inserts a release before the first one that isn't earlier
abbrev pub insert_by_date : Data → List Data → List Data
insert_by_date d [] = d ∷ []
insert_by_date d (e ∷ es) = match_ordering (slice_cmp nat_cmp (date_of e) (date_of d)) (e ∷ insert_by_date d es) (d ∷ e ∷ es) (d ∷ e ∷ es)

-- "The releases in order of date, equal dates in list order": dates are compared by bytes. Example: `order`.
abbrev pub date_order : List Data → List Data
date_order [] = []
date_order (d ∷ ds) = insert_by_date d (date_order ds)

-- the date of the last release
abbrev pub last_date : List Data → List ℕ
last_date ds = date_of (get_or ds (length ds - 1) null)

-- ---- the head of a release: `id`, `date`, `tag`

-- the members without the one of this name
abbrev pub members_without : List ℕ → Members → Members
members_without k no_members = no_members
members_without k (member l e ms) = match_ordering (slice_cmp nat_cmp k l) (member l e (members_without k ms)) ms (member l e (members_without k ms))

-- "A release without its own `id`, `date` and `tag`." Example: `body`.
abbrev pub body_of : Data → Data
body_of null = null
body_of (boolean b) = boolean b
body_of (number n) = number n
body_of (string s) = string s
body_of (array ds) = array ds
body_of (object ms) = object (members_without (codes "id") (members_without (codes "date") (members_without (codes "tag") ms)))

-- the tag of a compiled release, `["compiled"]`
abbrev pub compiled_tag : Data
compiled_tag = array (item (string (codes "compiled")) no_items)

-- "`date` the last release's, `id` ocid, `-`, that date, and `tag` `["compiled"]`" (45 is the dash).
abbrev pub put_head : List ℕ → List ℕ → Members → Members
put_head ocid date ms =
    put (codes "id") (string (ocid ++ 45 ∷ date)) (put (codes "date") (string date) (put (codes "tag") compiled_tag ms))

-- A merge with the head of a compiled release. A value that is no object stays as it is. Example: `head`.
abbrev pub with_head : List ℕ → List ℕ → Data → Data
with_head ocid date null = null
with_head ocid date (boolean b) = boolean b
with_head ocid date (number n) = number n
with_head ocid date (string s) = string s
with_head ocid date (array ds) = array ds
with_head ocid date (object ms) = object (put_head ocid date ms)

-- ---- the compiled release

-- "The compiled release is the merge of the releases, in order of date, without their own heads, with a head of its own." Example: `compiled`.
abbrev pub compiled_release : List ℕ → List Data → Data
compiled_release ocid rs = with_head ocid (last_date (date_order rs)) (merge_or_null (map body_of (date_order rs)))
