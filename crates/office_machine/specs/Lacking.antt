-- In a reached office, no row is missing that an accepted command needs.
use Rattle.std.specs.Prelude.{◌≡◌, Bool, false, List, None}
use Rattle.office_machine.specs.Machine.{Means, Given, Reaches, refusal_of}
use Rattle.office_machine.specs.Commands.{rule_of}

-- The rule of the command says that rows are missing.
abbrev pub is_lacking : Given → Bool
is_lacking x = (rule_of x.command).lacks x.before

-- The law: in a reached office, a command that isn't refused finds every row that it needs. So it doesn't matter what the specification says of missing rows.
abbrev pub NothingIsLacking : Type 0
NothingIsLacking = (means : Means) (xs : List Given) (x : Given) → Reaches means xs x.before → refusal_of x ≡ None → is_lacking x ≡ false
