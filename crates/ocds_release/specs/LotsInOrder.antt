-- Lots in the order of their identifiers.
use Rattle.std.specs.Prelude.{List, [], ◌∷◌}
use Rattle.std.specs.Ordering.{match_ordering}
use Rattle.office_values.specs.Ids.{id_cmp}
use Rattle.office_commands.specs.declared.lot.NewLot.{NewLot}

-- inserts a lot before the first one whose identifier isn't less
abbrev pub insert_by_id : NewLot → List NewLot → List NewLot
insert_by_id d [] = d ∷ []
insert_by_id d (e ∷ es) = match_ordering (id_cmp e.id d.id) (e ∷ insert_by_id d es) (d ∷ e ∷ es) (d ∷ e ∷ es)

-- the lots, sorted by their identifiers
abbrev pub lots_in_order : List NewLot → List NewLot
lots_in_order [] = []
lots_in_order (d ∷ ds) = insert_by_id d (lots_in_order ds)
