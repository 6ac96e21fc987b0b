-- Rights: which callers may send which commands and queries. The table of commands and queries lists them.
use Rattle.std.specs.Prelude.{Bool, true, false, not}
use Rattle.office_commands.specs.Table.{command_row, query_row}
use Rattle.office_commands.specs.declared.command.Caller.{Caller}
use Rattle.office_commands.specs.declared.command.Caller.TheVariants.{Public, Clerk, Tenderer}
use Rattle.office_commands.specs.declared.command.CommandKind.{CommandKind}
use Rattle.office_commands.specs.declared.command.QueryKind.{QueryKind}
use Rattle.office_commands.specs.declared.table.Right.{Right}
use Rattle.office_commands.specs.declared.table.Right.TheVariants as rights

abbrev pub is_public : Caller → Bool
is_public Public = true
is_public Clerk = false
is_public (Tenderer id) = false

abbrev pub is_clerk : Caller → Bool
is_clerk Public = false
is_clerk Clerk = true
is_clerk (Tenderer id) = false

abbrev pub is_tenderer : Caller → Bool
is_tenderer Public = false
is_tenderer Clerk = false
is_tenderer (Tenderer id) = true

-- whether a right includes this caller
abbrev pub has_right : Right → Caller → Bool
has_right rights.Anybody caller = true
has_right rights.Clerk caller = is_clerk caller
has_right rights.Tenderers caller = is_tenderer caller
has_right rights.ClerkAndTenderers caller = not (is_public caller)

-- whether the caller may send a command of this kind
abbrev pub may : Caller → CommandKind → Bool
may caller kind = has_right (command_row kind).right caller

-- whether the caller may ask a query of this kind; if it is about one tenderer's matter, the office tests later whose it is
abbrev pub may_look : Caller → QueryKind → Bool
may_look caller kind = has_right (query_row kind).right caller
