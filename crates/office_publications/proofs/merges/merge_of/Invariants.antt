use Rattle.office_publications.proofs.Names.{◌≡◌, take, map, view, merge_or_null, AreWritten, body_in}
use Rattle.office_publications.proofs.merges.merge_of.Given as goal

abbrev pub invariant-rows : goal.invariant-rows
invariant-rows l = (view l.merge ≡ merge_or_null (map body_in (take l.row-index l.rows))) × AreWritten l.ocid (take l.row-index l.rows)
