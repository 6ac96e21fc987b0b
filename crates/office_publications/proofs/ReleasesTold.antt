-- The releases that the office shows for a notice are those that its rows store.
use Rattle.office_publications.proofs.Names.{◌≡◌, ℕ, ◌+◌, Bool, true, false, cond, List, [], ◌∷◌, map, filter, Option, Some, None, option_map, option_and_then, option_to_list, unwrap_or, All, refl, sym, ap, ◌∙◌, subst, All-append, All-cons, All-nil, recursion_from_All, AllByRecursion, Data, null, compact_text, date_of, IsStorable, release_of_event, ReleaseIsKept, AreKept, Event, same_id, moment_text, Publisher, Tables, releases_of_notice, ReleaseRow, Given, publication, release_row, published_for, releases_in, ReleasesArePublished, published_by, published_of, event_of, CanBeMerged, data_in, publishing, text_by, notice_published, IsReached}
use Rattle.ocds_release.specs.declared.event.Event.TheVariants.{Publish}
use Rattle.office_publications.proofs.WrittenAlike.{IsObject, same_date, object_too}

-- the row has the release of an event, with its moment
pub record IsOfEvent (publisher : Publisher) (r : ReleaseRow) : Type 0 where
  pub event : Event
  pub seq : ℕ
  pub text : r.text ≡ compact_text (release_of_event publisher seq r.moment event)

-- each row that commands publish has the release of an event
module _ (publisher : Publisher) where
  abbrev IsSome_of_event : Option ReleaseRow → Type 0
  IsSome_of_event None = Unit {0}
  IsSome_of_event (Some r) = IsOfEvent publisher r

  published_is : (x : Given) → IsSome_of_event (publication (publishing publisher) x)
  published_is x = by (published_for x.before x.command) (event_of x.before x.command)
    where
      by : (notice : Option (List ℕ)) (event : Option Event)
          → IsSome_of_event (option_and_then (λ n. option_map (release_row x n) (option_map (text_by publisher x) event)) notice)
      by None event = tt
      by (Some n) None = tt
      by (Some n) (Some e) = record { event = e; seq = releases_in (notice_published x) + 1; text = refl }

  chosen : (b : Bool) (r : ReleaseRow) → IsOfEvent publisher r → All (IsOfEvent publisher) (cond b (r ∷ []) [])
  chosen true r is = All-cons (IsOfEvent publisher) r [] is (All-nil (IsOfEvent publisher))
  chosen false r is = All-nil (IsOfEvent publisher)

  of_notice : (p : Option ReleaseRow) (notice : List ℕ) → IsSome_of_event p
      → All (IsOfEvent publisher) (filter (λ (r : ReleaseRow). same_id r.notice notice) (option_to_list p))
  of_notice None notice is = All-nil (IsOfEvent publisher)
  of_notice (Some r) notice is = chosen (same_id r.notice notice) r is

  all_published : (xs : List Given) (notice : List ℕ) → All (IsOfEvent publisher) (published_by (publishing publisher) xs notice)
  all_published [] notice = All-nil (IsOfEvent publisher)
  all_published (x ∷ xs) notice =
      All-append (IsOfEvent publisher) (published_by (publishing publisher) xs notice) (published_of (publishing publisher) x notice) (all_published xs notice)
      (of_notice (publication (publishing publisher) x) notice (published_is x))

-- each row of a reached office has the release of an event
pub all_of_events : ReleasesArePublished → (publisher : Publisher) (s : Tables) → IsReached publisher s → (notice : List ℕ)
    → All (IsOfEvent publisher) (releases_of_notice notice s)
all_of_events published publisher s stands notice =
    subst (All (IsOfEvent publisher)) (sym (published (publishing publisher) stands.commands s stands.reaches notice)) (all_published publisher stands.commands notice)

-- ---- a row stores the release that is shown

pub told_object : (publisher : Publisher) (seq t : ℕ) (event : Event) → IsObject (release_of_event publisher seq t event)
told_object publisher seq t (Publish e) = tt
told_object publisher seq t _ = tt

module _ (storable : (publisher : Publisher) (seq t : ℕ) (event : Event) → IsStorable (release_of_event publisher seq t event))
    (dated : (publisher : Publisher) (seq t : ℕ) (event : Event) → date_of (release_of_event publisher seq t event) ≡ moment_text t)
    (publisher : Publisher) where
  module _ (r : ReleaseRow) (can : CanBeMerged r) (is : IsOfEvent publisher r) where
    abbrev made : Data
    made = release_of_event publisher is.seq r.moment is.event

    told : data_in r ≡ can.release
    told = ap (λ o. unwrap_or o null) can.reads

    same : compact_text can.release ≡ compact_text made
    same = sym can.written ∙ is.text

    kept : ReleaseIsKept r (data_in r)
    kept = record {
      text = can.written ∙ ap compact_text (sym told);
      date =
          ap date_of told ∙ same_date can.release made can.no_float (storable publisher is.seq r.moment is.event).no_float same
          ∙ dated publisher is.seq r.moment is.event;
    }

    object : IsObject (data_in r)
    object =
        subst IsObject (sym told)
        (object_too can.release made can.no_float (storable publisher is.seq r.moment is.event).no_float same (told_object publisher is.seq r.moment is.event))

  all_kept : (rows : List ReleaseRow) → AllByRecursion CanBeMerged rows → AllByRecursion (IsOfEvent publisher) rows → AreKept rows (map data_in rows)
  all_kept [] can is = tt
  all_kept (r ∷ rows) can is = (kept r can.0 is.0, all_kept rows can.1 is.1)

  all_objects : (rows : List ReleaseRow) → AllByRecursion CanBeMerged rows → AllByRecursion (IsOfEvent publisher) rows
      → AllByRecursion (λ (r : ReleaseRow). IsObject (data_in r)) rows
  all_objects [] can is = tt
  all_objects (r ∷ rows) can is = (object r can.0 is.0, all_objects rows can.1 is.1)

  module _ (published : ReleasesArePublished) (s : Tables) (stands : IsReached publisher s) (notice : List ℕ) where
    abbrev rows : List ReleaseRow
    rows = releases_of_notice notice s

    pub rows_kept : AreKept rows (map data_in rows)
    rows_kept =
        all_kept rows (recursion_from_All CanBeMerged rows (stands.keeps.releases notice))
        (recursion_from_All (IsOfEvent publisher) rows (all_of_events published publisher s stands notice))

    pub rows_objects : AllByRecursion (λ (r : ReleaseRow). IsObject (data_in r)) rows
    rows_objects =
        all_objects rows (recursion_from_All CanBeMerged rows (stands.keeps.releases notice))
        (recursion_from_All (IsOfEvent publisher) rows (all_of_events published publisher s stands notice))
