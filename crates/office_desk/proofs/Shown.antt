-- The rows that the package of a notice's record shows exist.
use Rattle.office_desk.proofs.Names.{◌≡◌, ℕ, List, Option, Some, Result, Ok, Err, OnOk, subst, ocid_text, Publisher, NoticeRow, Tables, notice_at, releases_in, AreSoMany, HasMerge, AreAllThere, HasReleases}

-- A fact that holds without the result holds of the result.
pub on_ok_any : {T E : Type 0} (result : Result T E) (P : Type 0) → P → OnOk result P
on_ok_any (Ok x) P holds = holds
on_ok_any (Err why) P holds = tt

-- Releases are shown only if they are those that the notice's row counts.
pub releases_shown : {T E : Type 0} (publisher : Publisher) (notice : List ℕ) (s : Tables) (row : NoticeRow) (result : Result T E) → Some row ≡ notice_at notice s
    → OnOk result (AreAllThere (ocid_text publisher.prefix notice) notice row.releases s) → OnOk result (AreSoMany notice row.releases s) → OnOk result (HasReleases publisher notice s)
releases_shown publisher notice s row (Ok text) is there numbered = record {
  there = subst (λ (o : Option NoticeRow). AreAllThere (ocid_text publisher.prefix notice) notice (releases_in o) s) is there;
  numbered = subst (λ (o : Option NoticeRow). AreSoMany notice (releases_in o) s) is numbered;
}
releases_shown publisher notice s row (Err why) is there numbered = tt

-- A record is shown only if this is so, and the stored merge is that of the process, as the office writes it.
pub record_shown : {T E : Type 0} (publisher : Publisher) (notice : List ℕ) (s : Tables) (row : NoticeRow) (result : Result T E) → Some row ≡ notice_at notice s
    → OnOk result (AreAllThere (ocid_text publisher.prefix notice) notice row.releases s) → OnOk result (AreSoMany notice row.releases s)
    → OnOk result (HasMerge (ocid_text publisher.prefix notice) notice s) → OnOk result (HasReleases publisher notice s × HasMerge (ocid_text publisher.prefix notice) notice s)
record_shown publisher notice s row (Ok text) is there numbered merge = (
  record {
    there = subst (λ (o : Option NoticeRow). AreAllThere (ocid_text publisher.prefix notice) notice (releases_in o) s) is there;
    numbered = subst (λ (o : Option NoticeRow). AreSoMany notice (releases_in o) s) is numbered;
  },
  merge,
)
record_shown publisher notice s row (Err why) is there numbered merge = tt
