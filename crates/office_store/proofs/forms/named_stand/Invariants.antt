use Rattle.office_store.proofs.Names.{◌≡◌, ℕ, take, map, Has, Table, IsIn, StandsOrLacks}
use Rattle.office_store.proofs.forms.named_stand.Given as goal

abbrev pub invariant-loop-name : goal.invariant-loop-name
invariant-loop-name l = (form : Table) (n : ℕ) → Has (map (λ name. name.now) (take l.name-index l.names)) form.name → IsIn l.forms form n → StandsOrLacks l.edition l.schema form
