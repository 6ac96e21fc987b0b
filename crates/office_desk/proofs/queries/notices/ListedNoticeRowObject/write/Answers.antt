use Rattle.office_desk.proofs.Names.{sym}
use Rattle.office_desk.proofs.queries.notices.ListedNoticeRowObject.write.Goals as goal

pub returns : goal.returns
returns c =
    rw (sym c.get-amendments.ensures.value, sym c.get-releases.ensures.value, sym c.notice_word-word.ensures, sym c.as_str-title.ensures.value) c.write_object.ensures
