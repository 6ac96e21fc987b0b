use Rattle.ocds_merge.proofs.Names.{refl, ap, no_comma}
use Rattle.ocds_merge.proofs.PassLaw.{no_comma_at}
use Rattle.ocds_merge.proofs.object_text.next_in_turn.Goals as goal

pub returns-in-Some-clause-finds : goal.returns-in-Some-clause-finds
returns-in-Some-clause-finds c = (c.in-Some._rest.now, ap no_comma c.in-Some.ensures)

pub returns : goal.returns
returns c =
    let p = c.in-Some-passed_name in
    let whole = c.in-Some-after_comma_if.whole.now in
    record {
      finds = (no_comma_at c.args.left.later c.args.left.text.now whole _ 34 c.in-Some-after_comma_if.ensures p.ensures.plain.0 refl, p.ensures.plain.0, p.ensures.plain.1);
      reads = record { whole = whole; comma = c.in-Some-after_comma_if.ensures; form = p.ensures.written; turn = c.if-not-is_in_turn.ensures };
    }
