use Rattle.tender_papers.proofs.Names.{◌≡◌, take, flat_map, listing_line}
use Rattle.tender_papers.proofs.listing.listing_text.Given as goal

abbrev pub invariant-loop-row : goal.invariant-loop-row
invariant-loop-row l = l.lines ≡ flat_map listing_line (take l.row-index l.rows)
