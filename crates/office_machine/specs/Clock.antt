-- The clock of the office has the moment of the last accepted command.
use Rattle.std.specs.Prelude.{◌≡◌, ◌≤◌, List, ◌∷◌}
use Rattle.office_base.specs.Tables.{Tables}
use Rattle.office_machine.specs.Machine.{Means, Given, Reaches, time_of}

-- The law: after an accepted command, the clock has the moment of that command.
abbrev pub ClockIsSet : Type 0
ClockIsSet = (means : Means) (x : Given) (xs : List Given) (t : Tables) → Reaches means (x ∷ xs) t → t.clock.moment ≡ time_of x

-- The law: no accepted command puts the clock back.
abbrev pub ClockNeverRunsBack : Type 0
ClockNeverRunsBack = (means : Means) (x : Given) (xs : List Given) (t : Tables) → Reaches means (x ∷ xs) t → x.before.clock.moment ≤ t.clock.moment
