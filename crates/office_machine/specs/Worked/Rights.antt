-- Worked examples of rights: which callers may give which command.
use Rattle.std.specs.Prelude.{◌++◌, ◌∷◌, ◌≡◌, List, None, [], codes, false, map, replicate, true}
use Rattle.office_commands.specs.declared.command.Caller.TheVariants.{Public}
use Rattle.office_commands.specs.declared.commands.Command.{Command}
use Rattle.office_commands.specs.declared.commands.Command.TheVariants.{AmendContract, AmendNotice, Award, Cancel, End, Examine, Fail, Import, Modify, Open, Pay, Present, Publish, Register, Sign, Withdraw}
use Rattle.office_commands.specs.declared.contract.ChangeKind.TheVariants as changes
use Rattle.office_commands.specs.declared.contract.How.TheVariants.{Regular}
use Rattle.office_commands.specs.declared.notice.Criteria.TheVariants.{Price}
use Rattle.office_values.specs.declared.refusal.Refusal.TheVariants.{Forbidden}
use Rattle.office_machine.specs.Replies.{Refused}
use Rattle.office_machine.specs.Requests.{Asks, Request}
use Rattle.office_machine.specs.Worked.Office.{by, by_clerk, february, l1, lot, money, n1, n2, next_day, notice, security, t1, tendered, replies}

-- All commands of the clerk.
abbrev pub commands_of_clerk : List Command
commands_of_clerk =
    Import (codes "B2") []
    ∷ Register (codes "T4") (codes "Delta") (codes "Low Street 4") []
    ∷ Publish n2 (notice next_day Price (lot l1 100 ∷ []))
    ∷ AmendNotice n1 next_day (codes "More time")
    ∷ Cancel n1 (codes "Plans")
    ∷ Open n1
    ∷ Examine 1 true None
    ∷ Award n1 l1
    ∷ Fail 1
    ∷ Sign 1 None
    ∷ AmendContract 1 (codes "E1") changes.Raise 1 (codes "Changed")
    ∷ Pay 1 (codes "E1") 1
    ∷ End 1 Regular
    ∷ []

-- All commands of a tenderer.
abbrev pub commands_of_tenderer : List Command
commands_of_tenderer = Present n1 l1 security (codes "500") ∷ Modify 1 (codes "450") ∷ Withdraw 1 ∷ []

-- A command by the public.
abbrev pub by_public : Command → Request
by_public command = record { moment = february; caller = Public; demand = Asks command; unavailable = false }

pub record RightsWorked : Type 0 where
  -- The public may give no command.
  pub public_commands_nothing : replies tendered (map by_public (commands_of_clerk ++ commands_of_tenderer)) ≡ replicate 16 (Refused Forbidden)
  -- A tenderer may give no command of the clerk.
  pub tenderer_is_no_clerk : replies tendered (map (by t1 february) commands_of_clerk) ≡ replicate 13 (Refused Forbidden)
  -- The clerk may give no command of a tenderer.
  pub clerk_is_no_tenderer : replies tendered (map (by_clerk february) commands_of_tenderer) ≡ replicate 3 (Refused Forbidden)
  -- A caller who may not give a command doesn't learn whether the thing exists that it names.
  pub nothing_is_told : replies money (by_public (Open n1) ∷ by t1 february (Pay 99 (codes "E1") 1) ∷ by_clerk february (Withdraw 99) ∷ [])
      ≡ replicate 3 (Refused Forbidden)
