use Rattle.office_tables.proofs.Names.{◌≡◌, map, take, AllByRecursion}
use Rattle.office_tables.proofs.stored.all.Given as goal

abbrev pub invariant-rows : goal.invariant-rows
invariant-rows g l = (l.found.items ≡ map g.R.Stored.read (take l.row-index l.rows)) × (map g.R.Stored.row_of l.found.items ≡ take l.row-index l.rows)
    × AllByRecursion g.R.Stored.fits l.found.items
