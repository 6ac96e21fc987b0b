use Rattle.procure_programs.proofs.Names.{Appends-kept, listing_text}
use Rattle.procure_programs.proofs.printing.print_notices.Goals as goal

pub returns-in-Ok-clause-listed : goal.returns-in-Ok-clause-listed
returns-in-Ok-clause-listed g c = (
  c.list_notices.ensures.listed.0,
  λ honest s held.
      Appends-kept c.args.output.now.contents c.list_notices.new.writer.contents c.flush.new.self.contents (listing_text s.notices)
      (c.in_ok-list_notices.ensures.listed.1 honest s held) c.flush.ensures.kept,
)
