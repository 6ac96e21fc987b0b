use Rattle.ocds_merge.proofs.Names.{◌≡◌, ℕ, List, ◌++◌, ◌∷◌, [], All, Some, Result, Ok, Err, String, Global, IfOk, OnOk, string_bytes, sym, subst, Data, object, no_members, read, view, compact_text, with_head, merge_or_null, IsStorable, IsWrittenMerge, KeepsMerge, StoredFault}
use Rattle.ocds_merge.proofs.HeadStep.{compiled_is, with_head_more}
use Rattle.ocds_merge.proofs.compiled.compiled_text.Goals as goal

compiled : (ocid date stored : List ℕ) (d : Data) → d ≡ with_head ocid date (object no_members) → (result : Result (String Global) StoredFault)
    → IfOk result (λ text. (vs : List Data) → read stored ≡ Some (merge_or_null vs) → All IsStorable (vs ++ d ∷ []) → KeepsMerge (string_bytes text) (vs ++ d ∷ []))
    → OnOk result (IsWrittenMerge ocid stored)
    → IfOk result (λ text. (vs : List Data) → read stored ≡ Some (merge_or_null vs) → All IsStorable vs → string_bytes text ≡ compact_text (with_head ocid date (merge_or_null vs)))
compiled ocid date stored d is (Ok text) keeps written =
    λ vs reads storable.
    let more = subst (λ (v : Data). All IsStorable (vs ++ v ∷ [])) (sym is) (with_head_more ocid date vs storable) in
    compiled_is ocid date (string_bytes text) stored vs written.0 reads (subst (λ (v : Data). KeepsMerge (string_bytes text) (vs ++ v ∷ [])) is (keeps vs reads more))
compiled ocid date stored d is (Err why) keeps written = tt

pub returns-clause-is : goal.returns-clause-is
returns-clause-is c =
    compiled c.args.ocid.now c.args.date.now c.args.stored.now (view c.in_ok-head.head) c.in_ok-head.ensures c.continue_text.result c.continue_text.ensures.keeps c.continue_text.ensures.written
