use Rattle.office_machine.proofs.Worked.Listing.{listing_worked}
use Rattle.office_machine.proofs.examples.listing.Goals as goal

pub returns : goal.returns
returns c = listing_worked
