use Rattle.office_plans.proofs.Names.{sym, ◌∙◌}
use Rattle.office_plans.proofs.release_numbers.has_releases_to.Goals as goal

pub returns-clause-all : goal.returns-clause-all
returns-clause-all g c =
    let looked = c.in_ok-found.ensures.0 in (
      looked.0,
      λ honest s held all. sym (looked.1 honest s held) ∙ sym c.as_slice.ensures.value ∙ c.are_numbers_to.ensures.all all,
    )

pub returns-clause-other : goal.returns-clause-other
returns-clause-other g c =
    let looked = c.in_ok-found.ensures.0 in (
      looked.0,
      λ honest s held not are. c.are_numbers_to.ensures.other not (c.as_slice.ensures.value ∙ looked.1 honest s held ∙ are),
    )

pub returns-clause-last : goal.returns-clause-last
returns-clause-last g c =
    let looked = c.in_ok-found.ensures.0 in (
      looked.0,
      λ honest s held all.
          let are = sym (looked.1 honest s held) ∙ sym c.as_slice.ensures.value ∙ c.are_numbers_to.ensures.all all in
          (c.numbering.ensures.last c.args.notice.now c.args.count s (g.met.H.Lookups.held_sorted _ s held) are).0,
    )

pub returns-clause-next : goal.returns-clause-next
returns-clause-next g c =
    let looked = c.in_ok-found.ensures.0 in (
      looked.0,
      λ honest s held all.
          let are = sym (looked.1 honest s held) ∙ sym c.as_slice.ensures.value ∙ c.are_numbers_to.ensures.all all in
          (c.numbering.ensures.last c.args.notice.now c.args.count s (g.met.H.Lookups.held_sorted _ s held) are).1,
    )
