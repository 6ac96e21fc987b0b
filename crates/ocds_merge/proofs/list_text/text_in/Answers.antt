use Rattle.ocds_merge.proofs.ListTextLaw.{opened, text_at}
use Rattle.ocds_merge.proofs.PlainLaw.{plain_of}
use Rattle.ocds_merge.proofs.list_text.text_in.Goals as goal

pub returns-in-Some-plain_string : goal.returns-in-Some-plain_string
returns-in-Some-plain_string c d rest kept ends is =
    let p = c.in-Some-plain_string in
    let inside = c.in-Some.inside.now in
    let o = opened d rest c.args.text.now inside kept is c.in-Some.ensures in
    text_at c.args.name.now d rest inside c.in_ok-member_value.field-0.now c.in-Some-after_byte.quoted.now p.found.now p._after.now o
    (c.in_ok-member_value.ensures o.members rest o.stand) c.in-Some-after_byte.ensures p.ensures.0 (plain_of p.found.now p.ensures.1)
