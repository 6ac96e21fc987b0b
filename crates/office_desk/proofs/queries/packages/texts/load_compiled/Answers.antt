use Rattle.office_desk.proofs.Names.{◌≡◌, ◌∙◌, ℕ, List, All, Result, Ok, Err, String, Global, IfOk, OnOk, string_bytes, subst, compact_text, with_head, merge_or_null, IsStorable, Refusal, Tables, has_merge_any, CanGoOn, HasMerge, IsKeptOf, IsMergedOf, bodies, Kept}
use Rattle.office_desk.proofs.queries.packages.texts.load_compiled.Goals as goal

-- A compiled release that was made of the loaded value has the text for these tables.
loaded_text : (ocid date notice : List ℕ) (s : Tables) (kept : Kept) (result : Result (String Global) Refusal) → IsKeptOf notice s kept
    → IfOk result (λ text. (notice : List ℕ) (t : Tables) → IsKeptOf notice t kept → IsMergedOf notice t → All IsStorable (bodies notice t)
    → string_bytes text ≡ compact_text (with_head ocid date (merge_or_null (bodies notice t))))
    → IfOk result (λ text. IsMergedOf notice s → All IsStorable (bodies notice s) → string_bytes text ≡ compact_text (with_head ocid date (merge_or_null (bodies notice s))))
loaded_text ocid date notice s kept (Ok text) is made = made notice s is
loaded_text ocid date notice s kept (Err why) is made = tt

-- If it was made, the loaded value can be continued, and so can what is stored.
loaded_merge : (ocid notice : List ℕ) (s : Tables) (kept : Kept) (result : Result (String Global) Refusal) → IsKeptOf notice s kept → OnOk result (CanGoOn ocid kept)
    → OnOk result (HasMerge ocid notice s)
loaded_merge ocid notice s kept (Ok text) is goes = has_merge_any {E = Refusal} ocid notice s kept (Ok text) is goes
loaded_merge ocid notice s kept (Err why) is goes = tt

pub returns-clause-looks : goal.returns-clause-looks
returns-clause-looks g c =
    let loaded = c.in_ok-kept.ensures.0 in
    let ocid = c.args.ocid.now in
    let notice = c.args.notice.now in (
      loaded.0,
      λ honest s held.
          subst (λ (date : List ℕ). IfOk c.compiled_of.result (λ text. IsMergedOf notice s → All IsStorable (bodies notice s)
          → string_bytes text ≡ compact_text (with_head ocid date (merge_or_null (bodies notice s))))) (c.as_str.ensures ∙ c.to_text-date.ensures)
          (loaded_text ocid c.as_str.result.now notice s c.in_ok-kept.kept c.compiled_of.result (loaded.1 honest s held) c.compiled_of.ensures.text),
    )

pub returns-clause-merge : goal.returns-clause-merge
returns-clause-merge g c =
    let loaded = c.in_ok-kept.ensures.0 in (
      loaded.0,
      λ honest s held. loaded_merge c.args.ocid.now c.args.notice.now s c.in_ok-kept.kept c.compiled_of.result (loaded.1 honest s held) c.compiled_of.ensures.goes_on,
    )
