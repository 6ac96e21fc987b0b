-- The result of a decision on a command: a refusal, or the changes to make.
use Rattle.std.specs.Prelude.{◌≡◌, Bool, false, List, Option, Some, None, Result, Vec, IfOk, IfErr, Err}
use Rattle.std.specs.declared.alloc.Global.{Global}
use Rattle.office_values.specs.declared.refusal.Refusal.{Refusal}
use Rattle.office_values.specs.declared.refusal.Refusal.TheVariants.{Unavailable}
use Rattle.office_base.specs.declared.puts.Put.{Put}

-- If a condition holds, the result is its refusal, however little memory there is. Otherwise it is the changes `puts`, or `Unavailable`. `Unavailable` means
-- that a row is missing, memory is too small, no number is left to give, or a sum would exceed its bound.
unfoldable pub Decides : Result (Vec Put Global) Refusal → Option Refusal → Bool → List Put → Type 0
Decides result (Some why) lacks puts = result ≡ Err why
Decides result None lacks puts = IfOk result (λ made. (lacks ≡ false) × (made.items ≡ puts)) × IfErr result (λ e. e ≡ Unavailable)
