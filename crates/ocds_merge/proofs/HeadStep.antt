-- The head of a compiled release, merged into an object as one more value, is put over its members.
use Rattle.ocds_merge.proofs.Names.{◌≡◌, ℕ, List, [], ◌∷◌, ◌++◌, Bool, true, false, T, Some, All, refl, sym, ap, ◌∙◌, subst, arith, codes, bytes_eq, unwrap_or, Option, is_lt, All-append, All-cons, All-nil, bytes_eq-Decides, Data, null, string, object, Members, no_members, member, put, get_member, read, compact_text, get_member-put, get_member-put_other, merge_or_null, members_without, compiled_tag, with_head, IsStorable, IsWrittenObject, KeepsMerge, step, AllAbove, IsOrdered, TextIsKept}
use Rattle.std.specs.FinMap.Entries as E
use Rattle.ocds_merge.proofs.MemberLemmas.{bytes_cmp, entries, IsSorted, both, sorted_put, sorted_delete, same_members, get_delete_other}
use Rattle.ocds_merge.proofs.ObjectLaw.{apart}
use Rattle.ocds_merge.proofs.HeadLaw.{put_over}
use Rattle.ocds_merge.proofs.ReadKept.{read_kept}
use Rattle.ocds_merge.proofs.TextLaw.{one_more}

-- ---- members whose names rise are in order

below_all : (k : List ℕ) (ms : Members) → AllAbove k ms → T (E.below_all bytes_cmp k (entries ms))
below_all k no_members h = tt
below_all k (member l e ms) h = both _ _ (subst (λ o. T (is_lt o)) (sym h.0) tt) (below_all k ms h.2)

sorted_of : (ms : Members) → IsOrdered ms → IsSorted ms
sorted_of no_members h = tt
sorted_of (member k d ms) h = both _ _ (below_all k ms h.0) (sorted_of ms h.1)

-- ---- members that are put in

put_alone : (k : List ℕ) (d : Data) (ms : Members) → IsSorted ms → put k d (members_without k ms) ≡ put k d ms
put_alone k d ms h =
    same_members (put k d (members_without k ms)) (put k d ms) (sorted_put k d (members_without k ms) (sorted_delete k ms h)) (sorted_put k d ms h)
    (λ q. put_over q k d (members_without k ms) ms (get_delete_other q k ms))

swapped_at : (is_k is_l : Bool) (q k l : List ℕ) (d e : Data) (ms : Members) → bytes_eq q k ≡ is_k → bytes_eq q l ≡ is_l → (k ≡ l → ⊥)
    → get_member q (put k d (put l e ms)) ≡ get_member q (put l e (put k d ms))
swapped_at true is_l q k l d e ms at_k at_l other =
    subst (λ (x : List ℕ). get_member x (put k d (put l e ms)) ≡ get_member x (put l e (put k d ms))) (sym ((bytes_eq-Decides q k).0 at_k))
    (get_member-put k d (put l e ms) ∙ sym (get_member-put_other k l e (put k d ms) other ∙ get_member-put k d ms))
swapped_at false true q k l d e ms at_k at_l other =
    subst (λ (x : List ℕ). get_member x (put k d (put l e ms)) ≡ get_member x (put l e (put k d ms))) (sym ((bytes_eq-Decides q l).0 at_l))
    (get_member-put_other l k d (put l e ms) (λ is. other (sym is)) ∙ get_member-put l e ms ∙ sym (get_member-put l e (put k d ms)))
swapped_at false false q k l d e ms at_k at_l other =
    get_member-put_other q k d (put l e ms) (apart q k at_k) ∙ get_member-put_other q l e ms (apart q l at_l)
    ∙ sym (get_member-put_other q l e (put k d ms) (apart q l at_l) ∙ get_member-put_other q k d ms (apart q k at_k))

swapped : (k l : List ℕ) (d e : Data) (ms : Members) → bytes_eq k l ≡ false → IsSorted ms → put k d (put l e ms) ≡ put l e (put k d ms)
swapped k l d e ms other h =
    same_members (put k d (put l e ms)) (put l e (put k d ms)) (sorted_put k d (put l e ms) (sorted_put l e ms h)) (sorted_put l e (put k d ms) (sorted_put k d ms h))
    (λ q. swapped_at _ _ q k l d e ms refl refl (apart k l other))

-- ---- the head

abbrev head : List ℕ → List ℕ → Data
head ocid date = with_head ocid date (object no_members)

head_stepped : (ocid date : List ℕ) (ms : Members) → IsSorted ms → step (Some (object ms)) (head ocid date) ≡ Some (with_head ocid date (object ms))
head_stepped ocid date ms h =
    let dated : Members → Members = put (codes "date") (string date) in
    let named : Members → Members = put (codes "id") (string (ocid ++ 45 ∷ date)) in
    let tagged : Members → Members = put (codes "tag") compiled_tag in
    let with_date : IsSorted (dated ms) = sorted_put (codes "date") (string date) ms h in
    let with_id : IsSorted (named (dated ms)) = sorted_put (codes "id") (string (ocid ++ 45 ∷ date)) (dated ms) with_date in
    ap (λ (x : Members). Some (object x)) (
    ap (λ (x : Members). tagged (members_without (codes "tag") (named (members_without (codes "id") x)))) (put_alone (codes "date") (string date) ms h)
    ∙ ap (λ (x : Members). tagged (members_without (codes "tag") x)) (put_alone (codes "id") (string (ocid ++ 45 ∷ date)) (dated ms) with_date)
    ∙ put_alone (codes "tag") compiled_tag (named (dated ms)) with_id
    ∙ swapped (codes "tag") (codes "id") compiled_tag (string (ocid ++ 45 ∷ date)) (dated ms) refl with_date
    ∙ ap named (swapped (codes "tag") (codes "date") compiled_tag (string date) ms refl h)
    )

head_kept : (ocid date : List ℕ) → TextIsKept (head ocid date)
head_kept ocid date = (((refl, refl, (refl, refl, tt)), ((refl, refl, tt), (tt, tt))), (tt, (tt, ((tt, tt), tt))))

head_storable : (ocid date : List ℕ) → IsStorable (head ocid date)
head_storable ocid date = record { no_float = refl; shallow = omega arith }

pub with_head_more : (ocid date : List ℕ) (vs : List Data) → All IsStorable vs → All IsStorable (vs ++ head ocid date ∷ [])
with_head_more ocid date vs h = All-append IsStorable vs (head ocid date ∷ []) h (All-cons IsStorable (head ocid date) [] (head_storable ocid date) (All-nil IsStorable))

-- The merge of some values and a head is the merge of the values under this head.
headed : (ocid date : List ℕ) (vs : List Data) (ms : Members) → merge_or_null vs ≡ object ms → IsSorted ms → merge_or_null (vs ++ head ocid date ∷ []) ≡ with_head ocid date (merge_or_null vs)
headed ocid date vs ms is h =
    sym (one_more vs (head ocid date) (head_kept ocid date))
    ∙ ap (λ (d : Data). unwrap_or (step (Some d) (head ocid date)) null) is
    ∙ ap (λ (o : Option Data). unwrap_or o null) (head_stepped ocid date ms h)
    ∙ ap (with_head ocid date) (sym is)

pub compiled_is : (ocid date text stored : List ℕ) (vs : List Data) → IsWrittenObject stored → read stored ≡ Some (merge_or_null vs) → KeepsMerge text (vs ++ head ocid date ∷ [])
    → text ≡ compact_text (with_head ocid date (merge_or_null vs))
compiled_is ocid date text stored vs written reads keeps =
    let is : merge_or_null vs ≡ object written.members = ap (λ (o : Option Data). unwrap_or o null) (sym reads ∙ written.reads) in
    let kept : TextIsKept (object written.members) = read_kept stored (object written.members) written.reads written.no_float in
    keeps.is ∙ ap compact_text (headed ocid date vs written.members is (sorted_of written.members kept.0))
