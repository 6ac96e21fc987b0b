-- The compiled release of a notice is the merge of its releases under a head, and has a text.
use Rattle.office_publications.proofs.Names.{◌≡◌, ◌≤◌, ◌<◌, ℕ, Bool, true, false, cond, List, [], ◌∷◌, ◌++◌, map, length, unwrap_or, All, codes, refl, sym, ap, ◌∙◌, subst, arith, le-ltb, recursion_from_All, AllByRecursion, nat_cmp, is_lt, slice_cmp, Equal, Greater, Data, null, boolean, number, string, array, object, body_of, compiled_release, compiled_tag, date_of, last_date, with_head, IsInDateOrder, merge_or_null, IsStorable, newest, AreKept, HasText, moment_of_last, ocid_text, AreMembersFlat, entries_flat, text_flat, texts_flat, kept_last, TextsKeepOrder, moment_text, Publisher, Tables, releases_of_notice, ReleaseRow, MomentsNeverFall, ReleasesAreInTime, bodies, body_in, data_in, compiled_told, IsReached, IsCompiled, IsInRange}
use Rattle.office_publications.proofs.ReadAgain.{bodies_storable}
use Rattle.office_publications.proofs.WrittenAlike.{IsObject}

-- ---- the releases are in the order of their dates

not_less : (b : Bool) → is_lt (cond b Equal Greater) ≡ false
not_less true = refl
not_less false = refl

not_before : (m n : ℕ) → m ≤ n → is_lt (nat_cmp n m) ≡ false
not_before m n le = rw (le-ltb n m le) (not_less _)

in_date_order : TextsKeepOrder → (rows : List ReleaseRow) (ds : List Data) → AreKept rows ds → MomentsNeverFall rows → AllByRecursion IsInRange rows → IsInDateOrder ds
in_date_order order [] [] kept never range = tt
in_date_order order [] (d ∷ ds) kept never range = absurd kept
in_date_order order (r ∷ rows) [] kept never range = absurd kept
in_date_order order (r ∷ []) (d ∷ []) kept never range = tt
in_date_order order (r ∷ []) (d ∷ e ∷ ds) kept never range = absurd kept.1
in_date_order order (r ∷ q ∷ rows) (d ∷ []) kept never range = tt
in_date_order order (r ∷ q ∷ rows) (d ∷ e ∷ ds) kept never range =
    let dates : slice_cmp nat_cmp (date_of e) (date_of d) ≡ nat_cmp q.moment r.moment =
    (λ i. slice_cmp nat_cmp (kept.1.0.date i) (kept.0.date i)) ∙ order q.moment r.moment range.1.0 range.0 in (
      ap is_lt dates ∙ not_before r.moment q.moment never.0,
      in_date_order order (q ∷ rows) (e ∷ ds) kept.1 never.1 range.1,
    )

-- ---- the merge of the releases is an object

-- a list that isn't empty has a last value
record EndsIn (P : Data → Type 0) (ds : List Data) : Type 0 where
  front : List Data
  last : Data
  is : ds ≡ front ++ last ∷ []
  holds : P last

ends_in : (P : Data → Type 0) (d : Data) (ds : List Data) → AllByRecursion P (d ∷ ds) → EndsIn P (d ∷ ds)
ends_in P d [] all = record { front = []; last = d; is = refl; holds = all.0 }
ends_in P d (e ∷ ds) all =
    let rest = ends_in P e ds all.1 in
    record { front = d ∷ rest.front; last = rest.last; is = ap (λ (l : List Data). d ∷ l) rest.is; holds = rest.holds }

merge_with : (vs : List Data) (v : Data) → IsObject v → IsObject (merge_or_null (vs ++ v ∷ []))
merge_with vs null h = absurd h
merge_with vs (boolean b) h = absurd h
merge_with vs (number n) h = absurd h
merge_with vs (string s) h = absurd h
merge_with vs (array ds) h = absurd h
merge_with vs (object ms) h = subst (λ o. IsObject (unwrap_or o null)) (sym (newest vs (object ms))) tt

merge_object : (ds : List Data) → 0 < length ds → AllByRecursion IsObject ds → IsObject (merge_or_null ds)
merge_object [] some all = absurd (omega arith)
merge_object (d ∷ ds) some all =
    let end = ends_in IsObject d ds all in
    subst (λ (l : List Data). IsObject (merge_or_null l)) (sym end.is) (merge_with end.front end.last end.holds)

body_object : (d : Data) → IsObject d → IsObject (body_of d)
body_object null h = h
body_object (boolean b) h = h
body_object (number n) h = h
body_object (string s) h = h
body_object (array ds) h = h
body_object (object ms) h = h

bodies_objects : (rows : List ReleaseRow) → AllByRecursion (λ (r : ReleaseRow). IsObject (data_in r)) rows → AllByRecursion IsObject (map body_in rows)
bodies_objects [] all = tt
bodies_objects (r ∷ rows) all = (body_object (data_in r) all.0, bodies_objects rows all.1)

some_bodies : (rows : List ReleaseRow) → 0 < length rows → 0 < length (map body_in rows)
some_bodies [] some = some
some_bodies (r ∷ rows) some = omega arith

-- ---- the merge under a head has a text

headed : (ocid date : List ℕ) (d : Data) → IsObject d → IsStorable d → HasText (with_head ocid date d)
headed ocid date null h can = absurd h
headed ocid date (boolean b) h can = absurd h
headed ocid date (number n) h can = absurd h
headed ocid date (string s) h can = absurd h
headed ocid date (array ds) h can = absurd h
headed ocid date (object ms) h can =
    let flat : AreMembersFlat 127 ms = record { no_float = can.no_float; shallow = omega (arith, can.shallow) } in
    let all =
    entries_flat 127 ((codes "tag", compiled_tag) ∷ (codes "date", string date) ∷ (codes "id", string (ocid ++ 45 ∷ date)) ∷ []) ms
    (texts_flat 126 (codes "compiled" ∷ []), (text_flat 127 date, (text_flat 127 (ocid ++ 45 ∷ date), tt))) flat in
    record { no_float = all.no_float; filled = refl }

-- ---- the record

same_bodies : (rows : List ReleaseRow) → map body_of (map data_in rows) ≡ map body_in rows
same_bodies [] = refl
same_bodies (r ∷ rows) = ap (λ (l : List Data). body_in r ∷ l) (same_bodies rows)

last_told : (rows : List ReleaseRow) → 0 < length rows → AreKept rows (map data_in rows) → last_date (map data_in rows) ≡ moment_text (moment_of_last rows)
last_told [] some kept = absurd (omega arith)
last_told (r ∷ rows) some kept = kept_last (r ∷ rows) (data_in r) (map data_in rows) kept

module _ (order : TextsKeepOrder) (in_time : ReleasesAreInTime)
    (compiles : (ocid : List ℕ) (releases : List Data) → IsInDateOrder releases
    → compiled_release ocid releases ≡ with_head ocid (last_date releases) (merge_or_null (map body_of releases)))
    (merge_storable : (vs : List Data) → All IsStorable vs → IsStorable (merge_or_null vs))
    (publisher : Publisher) (s : Tables) (stands : IsReached publisher s) (notice : List ℕ) where
  abbrev rows : List ReleaseRow
  rows = releases_of_notice notice s

  pub compiled : AreKept rows (map data_in rows) → AllByRecursion (λ (r : ReleaseRow). IsObject (data_in r)) rows → 0 < length rows → All IsInRange rows
      → IsCompiled publisher notice s
  compiled kept objects some range =
      let in_order : IsInDateOrder (map data_in rows) =
      in_date_order order rows (map data_in rows) kept (in_time _ stands.commands s stands.reaches notice) (recursion_from_All IsInRange rows range) in
      let ocid : List ℕ = ocid_text publisher.prefix notice in
      let is : compiled_told publisher notice s ≡ with_head ocid (moment_text (moment_of_last rows)) (merge_or_null (bodies notice s)) =
      compiles ocid (map data_in rows) in_order
      ∙ (λ i. with_head ocid (last_told rows some kept i) (merge_or_null (same_bodies rows i))) in
      record {
        is = is;
        has_text =
            subst HasText (sym is)
            (headed ocid (moment_text (moment_of_last rows)) (merge_or_null (bodies notice s))
            (merge_object (bodies notice s) (some_bodies rows some) (bodies_objects rows objects))
            (merge_storable (bodies notice s) (bodies_storable notice s (stands.keeps.releases notice))));
      }
