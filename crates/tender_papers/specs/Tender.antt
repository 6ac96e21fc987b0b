-- Tender files in the format of this office: a head, a record for each item, and a closing record with the sum.
use Rattle.std.specs.Prelude.{ℕ, ◌+◌, ◌*◌, ◌^◌, ◌==◌, Bool, true, false, not, ◌&&◌, nat_le, if◌then◌else◌, List, [], ◌∷◌, codes, Option, None, is_some, option_map, option_and_then}
use Rattle.std.specs.Option.{option_map_or}
use Rattle.std.specs.List.{count_by, filter_map, list_all, sum_by}
use Rattle.office_values.specs.Ids.{same_id}
use Rattle.office_values.specs.Money.{amount_limit}
use Rattle.office_values.specs.Numbers.{number_of}
use Rattle.office_commands.specs.declared.item.Item.{Item}
use Rattle.office_base.specs.declared.reading.Reading.{Reading}
use Rattle.office_base.specs.declared.reading.Reading.TheVariants as reading
use Rattle.tender_papers.specs.Files.{Four, four_of, is_word, says, but_last, last_of}
use Rattle.tender_papers.specs.declared.tender.ItemRecord.{ItemRecord}

-- the greatest unit price
abbrev pub unit_limit : ℕ
unit_limit = 10 ^ 9

-- the item record in four fields: a name and three numbers
abbrev pub item_of_four : Four → Option ItemRecord
item_of_four (name, quantity, unit, total) =
    option_and_then (λ q. option_and_then (λ u. option_map (λ t. record { name = name; quantity = q; unit = u; total = t })
    (number_of total)) (number_of unit)) (number_of quantity)

-- the item record in a record; nothing if the record has another form
abbrev pub item_record_of : List (List ℕ) → Option ItemRecord
item_record_of fields = option_and_then item_of_four (four_of fields)

-- the sum that four fields state: `TOTAL`, two empty fields and a number
abbrev pub stated_of_four : Four → Option ℕ
stated_of_four (word, quantity, unit, stated) =
    if is_word (codes "TOTAL") word && is_word [] quantity && is_word [] unit then number_of stated else None

-- the sum that a closing record states; nothing if the record has another form
abbrev pub stated_of : List (List ℕ) → Option ℕ
stated_of fields = option_and_then stated_of_four (four_of fields)

-- whether a record is the head
abbrev pub is_tender_head : List (List ℕ) → Bool
is_tender_head = says (codes "item", codes "quantity", codes "unit", codes "total")

-- whether a record is an item record
abbrev pub is_item : List (List ℕ) → Bool
is_item fields = is_some (item_record_of fields)

-- the content of a tender file: its item records, and the sum that it states
abbrev pub Paper : Type 0
Paper = List ItemRecord × ℕ

-- the content of the records after the head, if the last one states the sum and all others are item records
unfoldable pub paper_below_head : List (List (List ℕ)) → Option Paper
paper_below_head records =
    if list_all is_item (but_last records)
    then option_map (λ stated. (filter_map item_record_of (but_last records), stated)) (option_and_then stated_of (last_of records))
    else None

-- the content of a tender file, if it has the required form: a head, item records and a closing record
abbrev pub paper_of : List (List (List ℕ)) → Option Paper
paper_of [] = None
paper_of (head ∷ rest) = if is_tender_head head then paper_below_head rest else None

-- the quantity times the unit price
abbrev pub item_price : ItemRecord → ℕ
item_price row = row.quantity * row.unit

-- the corrected sum: quantity times unit price, added up over all item records, whatever totals they state (UNCITRAL Model Law 2011, article 43)
abbrev pub corrected_of : List ItemRecord → ℕ
corrected_of rows = sum_by item_price rows

-- whether the stated total of an item record isn't its quantity times its unit price
abbrev pub is_wrong : ItemRecord → Bool
is_wrong row = not (row.total == item_price row)

-- the number of wrong figures: totals of item records, and the stated sum
abbrev pub corrections_of : List ItemRecord → ℕ → ℕ
corrections_of rows stated = count_by is_wrong rows + (if stated == corrected_of rows then 0 else 1)

-- whether an item record names this item and its quantity
abbrev pub is_for : ItemRecord → Item → Bool
is_for row item = same_id row.name item.id && (row.quantity == item.quantity)

-- whether the item records are for these items, one for each, in their order
abbrev pub are_for : List ItemRecord → List Item → Bool
are_for [] [] = true
are_for [] (item ∷ items) = false
are_for (row ∷ rows) [] = false
are_for (row ∷ rows) (item ∷ items) = is_for row item && are_for rows items

-- whether a unit price is within its bound
abbrev pub is_unit : ItemRecord → Bool
is_unit row = nat_le row.unit unit_limit

-- whether item records offer the items of a lot in their quantities, with unit prices and a sum within their bounds
abbrev pub conforms : List Item → List ItemRecord → Bool
conforms items rows = are_for rows items && list_all is_unit rows && nat_le (corrected_of rows) amount_limit

-- the reading of a tender file that has the required form
abbrev pub priced : List Item → Paper → Reading
priced items (rows, stated) =
    if conforms items rows then reading.Priced stated (corrected_of rows) (corrections_of rows stated) else reading.Nonconforming

-- the reading of a tender for a lot with these items; `Unreadable` if the file doesn't have the required form
abbrev pub reading_of : List Item → List (List (List ℕ)) → Reading
reading_of items records = option_map_or (priced items) (paper_of records) reading.Unreadable
