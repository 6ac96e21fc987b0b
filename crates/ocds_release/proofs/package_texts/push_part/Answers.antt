use Rattle.ocds_release.proofs.Names.{◌∙◌, ap, ◌++◌, Data, compact_text, has_float, member_text}
use Rattle.ocds_release.proofs.PackageTexts.{part_no_float}
use Rattle.ocds_release.proofs.package_texts.push_part.Goals as goal

pub returns : goal.returns
returns c =
    c.in_ok-push_value.ensures (ap has_float c.in_ok-value.ensures ∙ part_no_float c.args.part.now)
    ∙ ap (λ (d : Data). c.args.text.now.items ++ member_text c.args.later c.args.name.now (compact_text d)) c.in_ok-value.ensures
