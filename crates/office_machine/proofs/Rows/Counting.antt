-- Tests of rows.
use Rattle.office_machine.proofs.Names.{Bool, Option, LotState, is_open, holds_of}

-- a lot that can still be awarded, or was awarded and not signed
abbrev pub is_live : Option LotState → Bool
is_live lot = holds_of is_open lot
