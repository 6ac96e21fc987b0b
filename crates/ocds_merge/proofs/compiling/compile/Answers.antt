use Rattle.ocds_merge.proofs.Names.{◌≡◌, ◌∙◌, ◌-◌, ap, sym, subst, IfOk, map, length, get_or, List, ℕ, Bor, length-map, Data, null, view, Value, merge_or_null, date_of, date_order, with_head, last_date, compiled_release}
use Rattle.ocds_merge.proofs.HeadLaw.{head_stands_over}
use Rattle.ocds_merge.proofs.compiling.compile.Goals as goal

pub returns : goal.returns
returns c =
    let f : Bor Value → Data = λ r. view r.now in
    let order = c.in_ok-order.order.items in
    let ds : List Data = date_order (map view c.args.releases.now) in
    let sorted : map f order ≡ ds = c.in_ok-order.ensures in
    let date : c.last_date.result.now ≡ last_date ds =
    c.last_date.ensures
    ∙ ap (λ (xs : List (Bor Value)). date_of (get_or (map f xs) (length xs - 1) null)) c.deref-2.ensures.value
    ∙ ap (λ (n : ℕ). date_of (get_or (map f order) (n - 1) null)) (sym (length-map order f))
    ∙ ap last_date sorted in
    let whole : view c.in_ok-merge.merge ≡ merge_or_null ds =
    c.in_ok-merge.ensures
    ∙ ap (λ (xs : List (Bor Value)). merge_or_null (map f xs)) c.deref.ensures.value
    ∙ ap merge_or_null sorted in
    let whole_release : with_head c.args.ocid.now c.last_date.result.now (view c.in_ok-merge.merge) ≡ compiled_release c.args.ocid.now (map view c.args.releases.now) =
    ap (λ (t : List ℕ). with_head c.args.ocid.now t (view c.in_ok-merge.merge)) date ∙ ap (with_head c.args.ocid.now (last_date ds)) whole
    ∙ sym (head_stands_over c.args.ocid.now (last_date ds) ds) in
    subst (λ (d : Data). IfOk c.with_compiled_head.result (λ release. view release ≡ d)) whole_release c.with_compiled_head.ensures
