use Rattle.ocds_merge.proofs.Names.{◌≡◌, ◌==◌, ap, sym, subst, ◌∙◌, ℕ, List, [], Bool, false, length, true≢false, Vec, Global, string_bytes, read, view, merge_or_null, Reads}
use Rattle.ocds_merge.proofs.TextLaw.{merge_kept, keeps_more, text_of_read}
use Rattle.ocds_merge.proofs.stored.spliced.Goals as goal

not_empty : (bytes stored : List ℕ) (is : Bool) → bytes ≡ stored → stored ≡ [] → is ≡ (length bytes == 0) → is ≡ false → ⊥
not_empty bytes stored is same empty tells some = true≢false (sym (tells ∙ ap (λ (s : List ℕ). length s == 0) (same ∙ empty)) ∙ some)

pub returns-in_err-text-clause-empty : goal.returns-in_err-text-clause-empty
returns-in_err-text-clause-empty c empty =
    absurd (not_empty c.as_bytes-bytes.result.now c.args.stored.now c.is_empty.result c.as_bytes-bytes.ensures.value empty c.is_empty.ensures c.if-is_empty.false)

pub returns-in-Ok-clause-empty : goal.returns-in-Ok-clause-empty
returns-in-Ok-clause-empty c empty =
    absurd (not_empty c.as_bytes-bytes.result.now c.args.stored.now c.is_empty.result c.as_bytes-bytes.ensures.value empty c.is_empty.ensures c.if-is_empty.false)

pub returns-in-Ok-clause-readable : goal.returns-in-Ok-clause-readable
returns-in-Ok-clause-readable c = subst Reads c.as_bytes-bytes.ensures.value c.in_ok-text.ensures.readable

pub returns-in-Ok-clause-keeps : goal.returns-in-Ok-clause-keeps
returns-in-Ok-clause-keeps c vs reads storable =
    let stored = c.args.stored.now in
    let v = view c.args.value.now in
    let same = c.as_bytes-bytes.ensures.value in
    let kept = c.is_kept.ensures.kept c.if-not-is_kept.false in
    let text = text_of_read c.as_bytes-bytes.result.now (merge_or_null vs) c.in_ok-text.ensures.readable (ap read same ∙ reads) in
    let bytes = c.in_ok-text.ensures.splices kept (merge_or_null vs) (merge_kept stored vs v reads storable) text in
    keeps_more stored (string_bytes c.in-Ok.text) vs v reads storable kept (ap (λ (w : Vec ℕ Global). w.items) c.in-Ok.ensures.ok ∙ bytes)
