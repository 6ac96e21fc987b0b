use Rattle.ocds_merge.proofs.PassLaw.{name_passed, plain_passed}
use Rattle.ocds_merge.proofs.readable.passed_name.Goals as goal

pub returns : goal.returns
returns c =
    let p = c.in_ok-name in
    record {
      written = name_passed c.args.text.now c.in_ok-inside.inside.now p.after.now c.in_ok-value.value.now p.name.now c.in_ok-inside.ensures p.ensures.0 p.ensures.1 c.in_ok-value.ensures;
      plain = plain_passed c.args.text.now c.in_ok-inside.inside.now p.after.now c.in_ok-value.value.now p.name.now c.in_ok-inside.ensures p.ensures.0 p.ensures.1 c.in_ok-value.ensures;
    }
