-- The rule of a registration: a tenderer is entered with the digest of a key.
use Rattle.std.specs.Prelude.{ℕ, Bool, false, ◌||◌, List, [], ◌∷◌, is_some, codes}
use Rattle.office_values.specs.Ids.{same_id}
use Rattle.office_values.specs.declared.refusal.Refusal.{Refusal}
use Rattle.office_values.specs.declared.refusal.Refusal.TheVariants.{Exists}
use Rattle.office_base.specs.Transitions.{clock_put}
use Rattle.office_base.specs.declared.puts.Put.TheVariants as puts
use Rattle.office_base.specs.declared.puts.Put.{Put}
use Rattle.office_base.specs.Tables.{Tables, tenderer_at}
use Rattle.tender_core.specs.declared.register.RegisterRows.{RegisterRows}

-- the name of the clerk, which no tenderer can have
abbrev pub clerk_id : List ℕ
clerk_id = codes "clerk"

-- the rows that a registration reads: the tenderer and the clock
abbrev pub register_rows : Tables → List ℕ → RegisterRows
register_rows s tenderer = record { tenderer = tenderer_at tenderer s; clock = s.clock }

-- no row can be missing, because the rule reads only the tenderer, who must be new
abbrev pub register_lacks : RegisterRows → Bool
register_lacks rows = false

-- the condition of its one refusal
abbrev pub register_tests : RegisterRows → List ℕ → List (Bool × Refusal)
register_tests rows tenderer = (is_some rows.tenderer || same_id tenderer clerk_id, Exists) ∷ []

-- its changes: the tenderer and the clock
abbrev pub register_puts : RegisterRows → ℕ → List ℕ → List ℕ → List ℕ → List ℕ → List Put
register_puts rows t tenderer name address key =
    puts.Tenderer (record { tenderer = tenderer; name = name; address = address; key = key }) ∷ clock_put rows.clock t ∷ []
