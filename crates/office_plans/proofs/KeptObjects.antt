-- A notice has a merge that the next release can join if the stored merge is of the notice's process, as the office writes it. If no merge is stored, each release
-- must be.
use Rattle.office_plans.proofs.Names.{◌≡◌, ℕ, List, None, Result, Ok, Err, subst, OnOk, IsWrittenMerge, Tables, compiled_at, CompiledRow, AreWritten, CanGoOn, HasMerge, IsKeptOf, Kept, Merge, Releases}

pub has_merge : (ocid notice : List ℕ) (s : Tables) (k : Kept) → IsKeptOf notice s k → CanGoOn ocid k → HasMerge ocid notice s
has_merge ocid notice s (Merge m) kept goes = (
  λ c found. let same : m ≡ c = cc in subst (λ (r : CompiledRow). IsWrittenMerge ocid r.text) same goes,
  λ none. absurd cc,
)
has_merge ocid notice s (Releases rows) kept goes = (
  λ c found. let none : compiled_at notice s ≡ None = kept.0 in absurd cc,
  λ none. subst (AreWritten ocid) kept.1 goes,
)

pub has_merge_on : {T E : Type 0} (ocid notice : List ℕ) (s : Tables) (k : Kept) (result : Result T E) → IsKeptOf notice s k → OnOk result (CanGoOn ocid k)
    → OnOk result (HasMerge ocid notice s)
has_merge_on ocid notice s k (Ok made) kept goes = has_merge ocid notice s k kept goes
has_merge_on ocid notice s k (Err why) kept goes = tt

pub has_merge_any : {T E : Type 0} (ocid notice : List ℕ) (s : Tables) (k : Kept) (result : Result T E) → IsKeptOf notice s k → CanGoOn ocid k
    → OnOk result (HasMerge ocid notice s)
has_merge_any ocid notice s k (Ok made) kept goes = has_merge ocid notice s k kept goes
has_merge_any ocid notice s k (Err why) kept goes = tt
