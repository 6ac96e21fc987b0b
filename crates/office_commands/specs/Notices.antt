-- The criteria of a notice, as one number.
use Rattle.std.specs.Prelude.{ℕ}
use Rattle.office_commands.specs.declared.notice.Criteria.{Criteria}
use Rattle.office_commands.specs.declared.notice.Criteria.TheVariants.{Price, Points}

-- the points out of a hundred that the price can give; 0 if the price alone decides
abbrev pub weight_of : Criteria → ℕ
weight_of Price = 0
weight_of (Points weight) = weight
