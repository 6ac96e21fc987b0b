-- The lots of a notice to be published: the identifier of each.
use Rattle.std.specs.Prelude.{ℕ, List}
use Rattle.office_commands.specs.declared.lot.NewLot.{NewLot}

abbrev pub lot_id : NewLot → List ℕ
lot_id lot = lot.id
