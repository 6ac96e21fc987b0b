use Rattle.office_desk.proofs.Names.{◌∙◌, List, ℕ, subst, All, IsWritten, ocid_text, AreAllThere}
use Rattle.office_desk.proofs.Placed.{all_there}
use Rattle.office_desk.proofs.Shown.{on_ok_any}
use Rattle.office_desk.proofs.queries.packages.texts.releases_text.Goals as goal

pub returns-clause-there : goal.returns-clause-there
returns-clause-there g c =
    let looked = c.in_ok-rows.ensures.looks in
    let numbered = c.in_ok-rows.ensures.numbered in
    let notice = c.args.notice.now in
    let ocid = c.as_str.result.now in
    let own = ocid_text c.args.publisher.now.prefix notice in
    let count = c.args.count in (
      looked.0,
      λ honest s held.
          let before = honest in
          let many = numbered.1 before s held in
          let same = c.deref.ensures.value ∙ looked.1 before s held in
          let places = c.numbering.ensures.places notice count s (g.met.H.Lookups.held_sorted _ s held) many in
          on_ok_any c.whole_text.result (AreAllThere own notice count s)
          (subst (λ (o : List ℕ). AreAllThere o notice count s) (c.as_str.ensures.value ∙ c.in_ok-ocid.ensures)
          (all_there ocid notice count s many places (subst (All (IsWritten ocid)) same c.in_ok-extent.ensures.written))),
    )
