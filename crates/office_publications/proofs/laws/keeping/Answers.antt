use Rattle.office_publications.proofs.KeptPuts.{no_event_publishes_nothing, events_are_released, no_event_puts_its_effect, events_put_releases, merges_stand_beside}
use Rattle.office_publications.proofs.KeptReleases.{reaches, stays, starts}
use Rattle.office_publications.proofs.laws.keeping.Goals as goal

pub returns-clause-silent : goal.returns-clause-silent
returns-clause-silent c = no_event_publishes_nothing

pub returns-clause-released : goal.returns-clause-released
returns-clause-released c = events_are_released

pub returns-clause-unpublished : goal.returns-clause-unpublished
returns-clause-unpublished c = no_event_puts_its_effect

pub returns-clause-published : goal.returns-clause-published
returns-clause-published c = events_put_releases

pub returns-clause-beside : goal.returns-clause-beside
returns-clause-beside c = merges_stand_beside

pub returns-clause-reaches : goal.returns-clause-reaches
returns-clause-reaches c = reaches c.changes_keep_order.ensures c.order.ensures c.parents.ensures.there c.runs.ensures.steps

pub returns-clause-stays : goal.returns-clause-stays
returns-clause-stays c = stays (reaches c.changes_keep_order.ensures c.order.ensures c.parents.ensures.there c.runs.ensures.steps) c.releases.ensures.published

pub returns-clause-starts : goal.returns-clause-starts
returns-clause-starts c = starts
