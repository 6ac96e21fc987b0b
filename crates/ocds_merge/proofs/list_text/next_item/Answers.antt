use Rattle.ocds_merge.proofs.Names.{refl, ap, no_comma}
use Rattle.ocds_merge.proofs.PassLaw.{no_comma_at}
use Rattle.ocds_merge.proofs.list_text.next_item.Goals as goal

pub returns-in-Some-clause-finds : goal.returns-in-Some-clause-finds
returns-in-Some-clause-finds c = (c.in-Some._rest.now, ap no_comma c.in-Some.ensures)

pub returns-in-Some-after_byte : goal.returns-in-Some-after_byte
returns-in-Some-after_byte c =
    let item = c.in-Some-after_comma_if.item.now in
    let inside = c.in-Some-after_byte._inside.now in
    record {
      finds = (no_comma_at c.args.later c.args.text.now item inside 123 c.in-Some-after_comma_if.ensures c.in-Some-after_byte.ensures refl, inside, c.in-Some-after_byte.ensures);
      reads = c.in-Some-after_comma_if.ensures;
    }
