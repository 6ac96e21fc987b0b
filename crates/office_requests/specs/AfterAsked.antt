-- The query `after=ID` asks for the page after ID.
use Rattle.std.specs.Prelude.{◌≡◌, ℕ, List, ◌++◌, codes, Some, Ok}
use Rattle.office_values.specs.Ids.{IsId}
use Rattle.office_requests.specs.Parameters.{after_in}

-- An identifier needs no escape in a query, so the query asks for exactly this identifier.
abbrev pub AfterAsksForId : Type 0
AfterAsksForId = (id : List ℕ) → IsId id → after_in (codes "after=" ++ id) ≡ Ok (Some id)
