-- The words for the state of a security, for the kind of a contract's entry, and for how a contract ended.
use Rattle.std.specs.Prelude.{ℕ, List, codes}
use Rattle.office_commands.specs.declared.contract.How.{How}
use Rattle.office_commands.specs.declared.contract.How.TheVariants as hows
use Rattle.office_base.specs.declared.records.EntryKind.{EntryKind}
use Rattle.office_base.specs.declared.records.EntryKind.TheVariants as entry_kinds
use Rattle.office_base.specs.declared.records.SecurityState.{SecurityState}
use Rattle.office_base.specs.declared.records.SecurityState.TheVariants as securities

abbrev pub security_word : SecurityState → List ℕ
security_word securities.Held = codes "held"
security_word securities.Returned = codes "returned"
security_word securities.Forfeited = codes "forfeited"

abbrev pub entry_word : EntryKind → List ℕ
entry_word entry_kinds.Raise = codes "raise"
entry_word entry_kinds.Cut = codes "cut"
entry_word entry_kinds.Payment = codes "payment"

abbrev pub how_word : How → List ℕ
how_word hows.Regular = codes "regular"
how_word hows.ForDefault = codes "default"
