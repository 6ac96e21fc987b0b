-- The callers of an office: the public, the clerk and tenderers.
use Rattle.std.specs.Prelude.{ℕ, Bool, false, List, []}
use Rattle.office_values.specs.Ids.{same_id}
use Rattle.office_commands.specs.declared.command.Caller.{Caller}
use Rattle.office_commands.specs.declared.command.Caller.TheVariants.{Public, Clerk, Tenderer}

-- whether the caller is the tenderer with this identifier
abbrev pub is_by : Caller → List ℕ → Bool
is_by Public tenderer = false
is_by Clerk tenderer = false
is_by (Tenderer id) tenderer = same_id id tenderer

-- the identifier of the calling tenderer; empty for the clerk and the public
abbrev pub tenderer_of : Caller → List ℕ
tenderer_of Public = []
tenderer_of Clerk = []
tenderer_of (Tenderer id) = id
