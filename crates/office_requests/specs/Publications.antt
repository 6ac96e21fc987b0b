-- The body of a publication. A fault inside its lots is one of the field `lots`.
use Rattle.std.specs.Prelude.{ℕ, ◌^◌, Bool, not, ◌&&◌, nat_le, List, [], ◌∷◌, length, codes, Option, option_and_then, Result, Ok, if◌then◌else◌}
use Rattle.serde_json.specs.Data.{Data, Items, no_items, item}
use Rattle.serde_json.specs.Find.{get, as_array}
use Rattle.office_values.specs.declared.refusal.Field.TheVariants as fields
use Rattle.office_values.specs.declared.refusal.Refusal.{Refusal}
use Rattle.office_commands.specs.Identified.{repeats_id}
use Rattle.office_commands.specs.Items.{item_id}
use Rattle.office_commands.specs.Lots.{lot_id}
use Rattle.office_commands.specs.declared.commands.Command.{Command}
use Rattle.office_commands.specs.declared.commands.Command.TheVariants as commands
use Rattle.office_commands.specs.declared.item.Item.{Item}
use Rattle.office_commands.specs.declared.lot.NewLot.{NewLot}
use Rattle.office_commands.specs.declared.notice.Criteria.{Criteria}
use Rattle.office_commands.specs.declared.notice.Criteria.TheVariants.{Price, Points}
use Rattle.office_commands.specs.declared.notice.LateWithdrawal.{LateWithdrawal}
use Rattle.office_commands.specs.declared.notice.LateWithdrawal.TheVariants.{Refused}
use Rattle.office_commands.specs.declared.notice.NewNotice.{NewNotice}
use Rattle.office_requests.specs.Forms.{passing, identifier_of, line_of, basis_of, lateness_of}
use Rattle.office_requests.specs.Moments.{moment_of}
use Rattle.office_requests.specs.Fields.{◌>>=◌, field_or_refusal, has, text_at, number_at, text_in, text_line_in, number_in, absent_in}
use Rattle.office_requests.specs.declared.publication.Basis.{Basis}
use Rattle.office_requests.specs.declared.publication.Basis.TheVariants as bases

-- A part of a lot. If it is missing or wrong, the field `lots` is refused.
abbrev pub in_lots : {A : Type 0} → Option A → Result A Refusal
in_lots part = field_or_refusal fields.Lots part

-- The values of an array's elements, in their order; the refusal of the first that is refused, if one is.
unfoldable pub each_of : {A : Type 0} → (Data → Result A Refusal) → Items → Result (List A) Refusal
each_of read no_items = Ok []
each_of read (item first rest) = do
  x ← read first
  xs ← each_of read rest
  Ok (x ∷ xs)

-- The array of a member; none if the member is missing or isn't an array.
unfoldable pub array_at : List ℕ → Data → Option Items
array_at name body = option_and_then as_array (get name body)

-- The values of the elements of a member's array.
unfoldable pub elements_at : {A : Type 0} → (Data → Result A Refusal) → List ℕ → Data → Result (List A) Refusal
elements_at read name body = in_lots (array_at name body) >>= each_of read

-- The list isn't empty, and no two of its elements have the same identifier.
abbrev pub are_distinct : {A : Type 0} → (A → List ℕ) → List A → Bool
are_distinct id things = nat_le 1 (length things) && not (repeats_id id things)

-- The list, if it isn't empty and no two of its elements have the same identifier.
abbrev pub distinct : {A : Type 0} → (A → List ℕ) → List A → Result (List A) Refusal
distinct id things = in_lots (passing (are_distinct id) things)

-- An item of a lot.
unfoldable pub new_item_of : Data → Result Item Refusal
new_item_of value = do
  id ← in_lots (text_at identifier_of (codes "id") value)
  title ← in_lots (text_at line_of (codes "title") value)
  quantity ← in_lots (number_at 1 (10 ^ 6) (codes "quantity") value)
  Ok (record { id = id; title = title; quantity = quantity })

-- The items of a lot.
unfoldable pub items_of : Data → Result (List Item) Refusal
items_of value = elements_at new_item_of (codes "items") value >>= distinct item_id

-- A lot of a notice.
unfoldable pub new_lot_of : Data → Result NewLot Refusal
new_lot_of value = do
  id ← in_lots (text_at identifier_of (codes "id") value)
  title ← in_lots (text_at line_of (codes "title") value)
  line ← in_lots (text_at identifier_of (codes "line") value)
  estimate ← in_lots (number_at 1 (10 ^ 12) (codes "estimate") value)
  security ← in_lots (number_at 0 (10 ^ 12) (codes "security") value)
  items ← items_of value
  Ok (record { id = id; title = title; line = line; estimate = estimate; security = security; items = items })

-- The lots of a notice.
unfoldable pub lots_in : Data → Result (List NewLot) Refusal
lots_in body = elements_at new_lot_of (codes "lots") body >>= distinct lot_id

-- The criteria: points need a weight of the price, from 1 to 100, and the price alone may have none.
unfoldable pub criteria_with : Basis → Data → Result Criteria Refusal
criteria_with bases.Price body = absent_in fields.PriceWeight body >>= λ absent. Ok Price
criteria_with bases.Points body = number_in 1 100 fields.PriceWeight body >>= λ weight. Ok (Points weight)

-- The criteria of a notice.
unfoldable pub criteria_in : Data → Result Criteria Refusal
criteria_in body = do
  basis ← text_in basis_of fields.Criteria body
  criteria_with basis body

-- Whether tenders may be withdrawn after the deadline; refused if the field is missing.
unfoldable pub late_in : Data → Result LateWithdrawal Refusal
late_in body = if has fields.LateWithdrawal body then text_in lateness_of fields.LateWithdrawal body else Ok Refused

-- The amount of the performance security that each contract needs; 0 if the field is missing.
unfoldable pub performance_in : Data → Result ℕ Refusal
performance_in body = if has fields.Performance body then number_in 0 (10 ^ 12) fields.Performance body else Ok 0

-- The content of a notice.
unfoldable pub new_notice_in : Data → Result NewNotice Refusal
new_notice_in body = do
  title ← text_line_in fields.Title body
  deadline ← text_in moment_of fields.Deadline body
  validity ← number_in 1 365 fields.ValidityDays body
  standstill ← number_in 0 90 fields.StandstillDays body
  criteria ← criteria_in body
  late ← late_in body
  performance ← performance_in body
  lots ← lots_in body
  Ok (record { title = title; deadline = deadline; validity = validity; standstill = standstill; criteria = criteria; late_withdrawal = late; performance = performance; lots = lots })

-- The publication of this notice.
abbrev pub publication_in : List ℕ → Data → Result Command Refusal
publication_in notice body = new_notice_in body >>= λ content. Ok (commands.Publish notice content)
