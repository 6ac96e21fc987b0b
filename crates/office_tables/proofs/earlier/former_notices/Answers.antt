use Rattle.office_tables.proofs.Names.{map, ◌≡◌, ◌∙◌, ap, Database, FormerNotice, HoldsEdition, former_part, had_former, FormerNotices}
use Rattle.office_tables.proofs.EarlierEditions.{former_there, former_notice_in, notices_read}
use Rattle.office_tables.proofs.ByTable.Notices.{list_former as text, select_list_former}
use Rattle.office_tables.proofs.Asked.{told_of}
use Rattle.office_tables.proofs.earlier.former_notices.Goals as goal

pub returns-clause-got : goal.returns-clause-got
returns-clause-got g c clean edition t shows =
    told_of (λ (d : Database). HoldsEdition edition d t) g.S.Store text _ c.args.conn.now c.ask_all.result (λ found rows. found.items ≡ map former_notice_in rows) _ (c.ask_all.ensures.asked clean) shows
    (λ before after rows found holds shown from.
    let there = former_there edition before.now t (holds.places FormerNotices) (holds.each FormerNotices) in
    ap (map (λ (r : FormerNotice). r.row)) from ∙ notices_read rows ∙ select_list_former before after rows (holds.places FormerNotices) there.0 (former_part (had_former edition) t.notices) there.1 shown)
