-- If a value that is Ok has a property, it has every property that follows from it.
use Rattle.office_plans.proofs.Names.{Result, Ok, Err, IfOk}

pub if_ok : {T E : Type 0} {P Q : T → Type 0} (result : Result T E) → IfOk result P → ((v : T) → P v → Q v) → IfOk result Q
if_ok (Ok v) is follows = follows v is
if_ok (Err why) is follows = tt
