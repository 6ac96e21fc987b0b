-- The answers of code that reads requests: the defined value or refusal, or `Unavailable` if memory is too small.
use Rattle.std.specs.Prelude.{◌≡◌, ◌⊎◌, List, Result, Ok, Err, Vec}
use Rattle.std.specs.declared.alloc.Global.{Global}
use Rattle.serde_json.specs.Data.{Data}
use Rattle.serde_json.specs.View.{view}
use Rattle.serde_json.specs.declared.value.Value.{Value}
use Rattle.office_values.specs.declared.refusal.Refusal.{Refusal}
use Rattle.office_values.specs.declared.refusal.Refusal.TheVariants.{Unavailable}

-- The answer is the defined value or refusal, or `Unavailable`.
abbrev pub ReadsAs : {A : Type 0} → Result A Refusal → Result A Refusal → Type 0
ReadsAs (Ok value) wanted = wanted ≡ Ok value
ReadsAs (Err why) wanted = (why ≡ Unavailable) ⊎ (wanted ≡ Err why)

-- The answer is the defined JSON object or refusal, or `Unavailable`.
abbrev pub ReadsObject : Result Value Refusal → Result Data Refusal → Type 0
ReadsObject (Ok value) wanted = wanted ≡ Ok (view value)
ReadsObject (Err why) wanted = (why ≡ Unavailable) ⊎ (wanted ≡ Err why)

-- The answer is the defined list or refusal, or `Unavailable`.
abbrev pub ReadsList : {A : Type 0} → Result (Vec A Global) Refusal → Result (List A) Refusal → Type 0
ReadsList (Ok things) wanted = wanted ≡ Ok things.items
ReadsList (Err why) wanted = (why ≡ Unavailable) ⊎ (wanted ≡ Err why)
