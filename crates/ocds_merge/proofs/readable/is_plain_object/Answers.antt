use Rattle.ocds_merge.proofs.ReadWritten.{object_written}
use Rattle.ocds_merge.proofs.PassLaw.{members_begun}
use Rattle.ocds_merge.proofs.readable.is_plain_object.Goals as goal

pub returns-in-Some-passed_members : goal.returns-in-Some-passed_members
returns-in-Some-passed_members c ends =
    let all = c.all_members in
    object_written c.args.text.now c.in-Some.inside.now c.in-Some-passed_members.rest.now c.in-Some.ensures
    (members_begun c.in-Some.inside.now all.result.text.now all.result.last.now c.in-Some-passed_members.rest.now all.result.later _ all.ensures.from all.ensures.first c.in-Some-passed_members.ensures) (c.is_end.ensures ends)
