-- Values of the office, as texts and numbers of a request write them. A text or number in another form is none.
use Rattle.std.specs.Prelude.{ℕ, ◌^◌, Bool, ◌&&◌, nat_le, List, codes, if◌then◌else◌, Option, Some, None, option_and_then}
use Rattle.std.specs.Result.{result_ok}
use Rattle.hex.specs.Hex.{decode_sized}
use Rattle.office_values.specs.Fields.{is_id, is_text_line}
use Rattle.office_values.specs.Numbers.{number_of}
use Rattle.tender_papers.specs.Files.{is_word}
use Rattle.office_commands.specs.declared.contract.ChangeKind.{ChangeKind}
use Rattle.office_commands.specs.declared.contract.ChangeKind.TheVariants as changes
use Rattle.office_commands.specs.declared.contract.How.{How}
use Rattle.office_commands.specs.declared.contract.How.TheVariants as endings
use Rattle.office_commands.specs.declared.notice.LateWithdrawal.{LateWithdrawal}
use Rattle.office_commands.specs.declared.notice.LateWithdrawal.TheVariants as withdrawals
use Rattle.office_requests.specs.declared.publication.Basis.{Basis}
use Rattle.office_requests.specs.declared.publication.Basis.TheVariants as bases

-- The value, if it passes the test.
abbrev pub passing : {A : Type 0} → (A → Bool) → A → Option A
passing test value = if test value then Some value else None

-- The text as an identifier, if it is one.
unfoldable pub identifier_of : List ℕ → Option (List ℕ)
identifier_of text = passing is_id text

-- The text as a line, if it is one.
unfoldable pub line_of : List ℕ → Option (List ℕ)
line_of text = passing is_text_line text

-- The number is from `low` to `high`.
abbrev pub is_between : ℕ → ℕ → ℕ → Bool
is_between low high number = nat_le low number && nat_le number high

-- The number, if it is from `low` to `high`.
unfoldable pub number_between : ℕ → ℕ → ℕ → Option ℕ
number_between low high number = passing (is_between low high) number

-- An amount of money in 1 to 16 decimal digits, from 1 to 10^12.
unfoldable pub amount_of : List ℕ → Option ℕ
amount_of text = option_and_then (number_between 1 (10 ^ 12)) (number_of text)

-- The 32 bytes that 64 hexadecimal digits write, in upper or lower case.
unfoldable pub digest_of : List ℕ → Option (List ℕ)
digest_of text = result_ok (decode_sized text 32)

-- The kind of a change of a contract: `raise` or `cut`.
unfoldable pub change_of : List ℕ → Option ChangeKind
change_of text = if is_word (codes "raise") text then Some changes.Raise else if is_word (codes "cut") text then Some changes.Cut else None

-- The way in which a contract ends: `regular` or `default`.
unfoldable pub ending_of : List ℕ → Option How
ending_of text = if is_word (codes "regular") text then Some endings.Regular else if is_word (codes "default") text then Some endings.ForDefault else None

-- The criteria of a notice: `price` or `points`.
unfoldable pub basis_of : List ℕ → Option Basis
basis_of text = if is_word (codes "price") text then Some bases.Price else if is_word (codes "points") text then Some bases.Points else None

-- The rule on late withdrawals: `refused` or `forfeits`.
unfoldable pub lateness_of : List ℕ → Option LateWithdrawal
lateness_of text = if is_word (codes "refused") text then Some withdrawals.Refused else if is_word (codes "forfeits") text then Some withdrawals.Forfeits else None
