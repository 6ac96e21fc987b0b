use Rattle.procure_programs.proofs.Names.{Looks}
use Rattle.procure_programs.proofs.ListedPages.{IsListed}
use Rattle.procure_programs.proofs.listing.list_notices.Given as goal

abbrev pub invariant-turns : goal.invariant-turns
invariant-turns g l = Looks g.H.Lookups.meaning l.fn.shelf l.shelf (λ s. IsListed l.fn.writer.contents l.writer.contents l.after s)
