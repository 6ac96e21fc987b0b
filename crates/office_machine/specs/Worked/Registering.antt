-- Worked examples of registering tenderers.
use Rattle.std.specs.Prelude.{◌∷◌, ◌≡◌, [], codes}
use Rattle.office_values.specs.declared.refusal.Refusal.TheVariants.{Exists}
use Rattle.office_machine.specs.Replies.{Enrolled, Refused}
use Rattle.office_machine.specs.Worked.Office.{enrol, january, office, setup, t1, t2, replies}

pub record RegisteringWorked : Type 0 where
  -- A tenderer is registered.
  pub is_registered : replies [] (enrol t1 (codes "Alpha") ∷ []) ≡ Enrolled t1 january ∷ []
  -- A tenderer isn't registered twice.
  pub not_twice : replies setup (enrol t1 (codes "Alpha") ∷ []) ≡ Refused Exists ∷ []
  -- No tenderer can have the identifier `clerk`.
  pub not_as_clerk : replies setup (enrol (codes "clerk") (codes "Alpha") ∷ []) ≡ Refused Exists ∷ []
  -- Tenderers are in the order of their identifiers, and their rows have the given names and addresses.
  pub in_order : (office (enrol t2 (codes "Beta") ∷ enrol t1 (codes "Alpha") ∷ [])).tenderers
      ≡ record { tenderer = t1; name = codes "Alpha"; address = codes "High Street 1"; key = [] }
      ∷ record { tenderer = t2; name = codes "Beta"; address = codes "High Street 1"; key = [] }
      ∷ []
