use Rattle.office_desk.proofs.Names.{sym}
use Rattle.office_desk.proofs.queries.line.line_text.Goals as goal

pub returns : goal.returns
returns c = rw (sym c.as_str-title.ensures.value) c.object_text.ensures
