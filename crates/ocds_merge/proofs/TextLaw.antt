-- The text after a merge into a stored text.
use Rattle.ocds_merge.proofs.Names.{◌≡◌, List, ℕ, [], ◌∷◌, ◌++◌, Option, Some, None, refl, sym, ap, ◌∙◌, subst, unwrap_or, All, arith, get_or_append_left, length-append, Data, null, boolean, number, string, array, object, read, compact_text, merge_or_null, KeepsMerge, IsStorable, step, not_null, TextIsKept, Reads}
use Rattle.ocds_merge.proofs.MergeLaw.{merged_law, merged_not_null}
use Rattle.ocds_merge.proofs.StorableLaw.{merge_shallow, merge_no_float}
use Rattle.ocds_merge.proofs.KeptLaw.{kept_proper}
use Rattle.ocds_merge.proofs.KeptStep.{step_kept, or_null_kept}
use Rattle.ocds_merge.proofs.ReadKept.{read_kept, kept_reads}

-- a value merges into `null` as into nothing
onto_null : (v : Data) → step (Some null) v ≡ step None v
onto_null null = refl
onto_null (boolean b) = refl
onto_null (number n) = refl
onto_null (string s) = refl
onto_null (array ds) = refl
onto_null (object ms) = refl

onto : (d v : Data) → step (Some d) v ≡ step (not_null d) v
onto null v = onto_null v
onto (boolean b) v = refl
onto (number n) v = refl
onto (string s) v = refl
onto (array ds) v = refl
onto (object ms) v = refl

pub one_more : (vs : List Data) (v : Data) → TextIsKept v → unwrap_or (step (Some (merge_or_null vs)) v) null ≡ merge_or_null (vs ++ v ∷ [])
one_more vs v kept =
    ap (λ (o : Option Data). unwrap_or o null)
    (onto (merge_or_null vs) v ∙ ap (λ (o : Option Data). step o v) (merged_not_null vs) ∙ sym (merged_law vs v (kept_proper v kept)))

all_before : (vs : List Data) (v : Data) → All IsStorable (vs ++ v ∷ []) → All IsStorable vs
all_before vs v h = λ k d low. subst IsStorable (get_or_append_left vs (v ∷ []) d k low) (h k d (omega (arith, length-append vs (v ∷ []))))

-- a text that is read as a value, and is the compact text of the value that it is read as, is the text of this value
pub text_of_read : (text : List ℕ) (d : Data) → Reads text → read text ≡ Some d → text ≡ compact_text d
text_of_read text d p reads = p.is ∙ ap (λ (o : Option Data). compact_text (unwrap_or o null)) (sym p.reads ∙ reads)

pub merge_kept : (text : List ℕ) (vs : List Data) (v : Data) → read text ≡ Some (merge_or_null vs) → All IsStorable (vs ++ v ∷ []) → TextIsKept (merge_or_null vs)
merge_kept text vs v reads storable = read_kept text (merge_or_null vs) reads (merge_no_float vs (all_before vs v storable))

pub keeps_more : (text new : List ℕ) (vs : List Data) (v : Data) → read text ≡ Some (merge_or_null vs) → All IsStorable (vs ++ v ∷ []) → TextIsKept v
    → new ≡ compact_text (unwrap_or (step (Some (merge_or_null vs)) v) null) → KeepsMerge new (vs ++ v ∷ [])
keeps_more text new vs v reads storable kept is =
    let more = one_more vs v kept in
    let merged : TextIsKept (merge_or_null (vs ++ v ∷ [])) = subst TextIsKept more (or_null_kept _ (step_kept (Some (merge_or_null vs)) v (merge_kept text vs v reads storable) kept)) in
    let whole : new ≡ compact_text (merge_or_null (vs ++ v ∷ [])) = is ∙ ap compact_text more in
    record { is = whole; reads = ap read whole ∙ kept_reads (merge_or_null (vs ++ v ∷ [])) merged (merge_shallow (vs ++ v ∷ []) storable) }
