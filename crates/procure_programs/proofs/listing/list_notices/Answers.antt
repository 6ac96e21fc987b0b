use Rattle.procure_programs.proofs.ListedPages.{keeps_self, listed_all, listed_none, listed_on}
use Rattle.procure_programs.proofs.listing.list_notices.Goals as goal

pub turns-init : goal.turns-init
turns-init g c = (keeps_self g.H.Lookups.meaning c.args.shelf.now, λ honest s held. listed_none c.args.writer.now.contents s)

pub turns-preserved : goal.turns-preserved
turns-preserved g c =
    let before = c.turns.invariant in
    let step = c.in_ok-next.ensures.page in (
      c.looks_follow.ensures _ _ _ before.0 step.0,
      λ honest s held.
          let mid = step.0.before honest in
          listed_on _ _ _ c.turns.after s c.in-Some.last (before.1 mid s held) (rw c.in-Some.is at (step.1 honest s (before.0.same mid s held))),
    )

pub returns-in-None-clause-listed : goal.returns-in-None-clause-listed
returns-in-None-clause-listed g c =
    let before = c.turns.invariant in
    let step = c.in_ok-next.ensures.page in (
      c.looks_follow.ensures _ _ _ before.0 step.0,
      λ honest s held.
          let mid = step.0.before honest in
          listed_all _ _ _ c.turns.after s c.pages.ensures (g.met.H.Lookups.held_sorted _ s held) (before.1 mid s held)
          (rw c.in-None.is at (step.1 honest s (before.0.same mid s held))),
    )
