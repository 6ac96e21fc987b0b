use Rattle.office_desk.proofs.Names.{◌≡◌, sym, [], codes, subst, List, IfOk, map-map, Member, object_text, with_objects, own_tender_entries, own_tender}
use Rattle.office_desk.proofs.queries.own_tenders.tenders_text.Goals as goal

pub returns : goal.returns
returns c =
    let family : List (List Member) → Type 0 = λ rows. IfOk c.rows_text.result (λ text. text.items ≡ object_text (with_objects [] (codes "tenders") rows [])) in
    subst family (sym (map-map own_tender_entries own_tender c.args.rows.now)) c.rows_text.ensures
