use Rattle.office_desk.proofs.Names.{◌≡◌, sym, [], codes, subst, List, IfOk, map-map, Member, object_text, with_objects, listed_security_entries, listed_security}
use Rattle.office_desk.proofs.queries.securities.securities_text.Goals as goal

pub returns : goal.returns
returns c =
    let family : List (List Member) → Type 0 = λ rows. IfOk c.rows_text.result (λ text. text.items ≡ object_text (with_objects [] (codes "securities") rows [])) in
    subst family (sym (map-map listed_security_entries (listed_security c.args.notice.now) c.args.rows.now)) c.rows_text.ensures
