use Rattle.ocds_merge.proofs.Names.{◌≡◌, ◌∙◌, [], Some, ap, sym, Data, read, serde_json_on_literals}
use Rattle.ocds_merge.proofs.stored.merge_from_text.Goals as goal

-- an empty text is no JSON
nothing_read : (merge : Data) → read [] ≡ Some merge → ⊥
unfolding serde_json_on_literals
nothing_read merge is = cc is

pub returns-in-Ok-clause-empty : goal.returns-in-Ok-clause-empty
returns-in-Ok-clause-empty c empty = absurd (nothing_read _ (ap read (sym empty) ∙ c.in-Ok.ensures.ok))
