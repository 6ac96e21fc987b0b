use Rattle.ocds_merge.proofs.Names.{◌∙◌, ap, option_map, view, members_view, view-lookup}
use Rattle.ocds_merge.proofs.CodeLemmas.{members_view-remove_entry}
use Rattle.ocds_merge.proofs.members.take_member.Goals as goal

pub returns-clause-found : goal.returns-clause-found
returns-clause-found c = ap (option_map view) c.remove.ensures.value ∙ view-lookup c.args.name.now c.args.target.now.entries

pub returns-clause-left : goal.returns-clause-left
returns-clause-left c = ap members_view c.remove.ensures.entries ∙ members_view-remove_entry c.args.name.now c.args.target.now.entries
