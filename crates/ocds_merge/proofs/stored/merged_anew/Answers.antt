use Rattle.ocds_merge.proofs.Names.{ap, sym, ◌∙◌, unwrap_or, Option, Data, null}
use Rattle.ocds_merge.proofs.stored.merged_anew.Goals as goal

pub returns-clause-keeps : goal.returns-clause-keeps
returns-clause-keeps c vs reads storable =
    c.in_ok-merge_to_text.ensures.keeps _ (c.in_ok-after.ensures.merges vs (ap (λ (o : Option Data). unwrap_or o null) (sym c.in_ok-before.ensures.reads ∙ reads))) storable
