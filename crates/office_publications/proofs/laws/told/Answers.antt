use Rattle.office_publications.proofs.ReleasesTold.{rows_kept, rows_objects}
use Rattle.office_publications.proofs.RecordsTold.{compiled}
use Rattle.office_publications.proofs.InSequence.{in_sequence}
use Rattle.office_publications.proofs.laws.told.Goals as goal

pub returns-clause-releases : goal.returns-clause-releases
returns-clause-releases c publisher s stands notice =
    rows_kept c.releases_can_be_kept.ensures.storable c.releases_can_be_kept.ensures.dated publisher c.releases.ensures.published s stands notice

pub returns-clause-records : goal.returns-clause-records
returns-clause-records c publisher s stands notice some range =
    compiled c.texts_keep_order.ensures c.releases.ensures.in_time c.dates_order_releases.ensures.kept_tree_compiles c.merge_stays_storable.ensures.merge
    publisher s stands notice
    (rows_kept c.releases_can_be_kept.ensures.storable c.releases_can_be_kept.ensures.dated publisher c.releases.ensures.published s stands notice)
    (rows_objects c.releases_can_be_kept.ensures.storable c.releases_can_be_kept.ensures.dated publisher c.releases.ensures.published s stands notice)
    some range

pub returns-clause-sequence : goal.returns-clause-sequence
returns-clause-sequence c publisher s stands notice =
    in_sequence notice s (c.order.ensures _ stands.commands s stands.reaches)
    (c.releases.ensures.numbered _ (c.releases-2.ensures publisher) stands.commands s stands.reaches)
    (c.releases.ensures.counted _ stands.commands s stands.reaches notice).within
