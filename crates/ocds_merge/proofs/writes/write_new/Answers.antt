use Rattle.ocds_merge.proofs.Names.{◌≡◌, ◌++◌, ◌∙◌, ap, unwrap_or, None, Option, Data, null, view, compact_text, has_float, step}
use Rattle.ocds_merge.proofs.CodeLemmas.{view_or}
use Rattle.ocds_merge.proofs.SpliceLaw.{new_plain}
use Rattle.ocds_merge.proofs.KeptLaw.{kept_plain, kept_proper}
use Rattle.ocds_merge.proofs.writes.write_new.Goals as goal

pub returns : goal.returns
returns c kept =
    let v = view c.args.value.now in
    let m : view c.unwrap_or.result ≡ unwrap_or (step None v) null =
    ap view c.unwrap_or.ensures ∙ view_or c.in_ok-merge.merge ∙ ap (λ (o : Option Data). unwrap_or o null) c.in_ok-merge.ensures.step in
    c.in_ok-write_value.ensures (ap has_float m ∙ new_plain v (kept_proper v kept) (kept_plain v kept))
    ∙ ap (λ (d : Data). c.args.out.now.items ++ compact_text d) m
