use Rattle.ocds_merge.proofs.Names.{List, sym, subst, members_view, Entry, AreMembersKept}
use Rattle.ocds_merge.proofs.CodeLemmas.{sorted_names_of}
use Rattle.ocds_merge.proofs.KeptLaw.{ordered_names}
use Rattle.ocds_merge.proofs.kept_value.+walking.Goals as goal

pub are_members_kept-returns-clause-kept : goal.are_members_kept-returns-clause-kept
are_members_kept-returns-clause-kept t c _ =
    let es = c.args.members.now.entries in (
      ordered_names (members_view es) (sorted_names_of es c.iter-name-items.ensures.ordered),
      c.loop-name.invariant.kept (subst (λ (xs : List Entry). AreMembersKept (members_view xs)) (sym c.in-None.ensures.steps.0) tt),
    )
