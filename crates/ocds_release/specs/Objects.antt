-- Values of JSON in releases.
use Rattle.std.specs.Prelude.{ℕ, Bool, true, false, if◌then◌else◌, List, [], ◌∷◌, codes, map, decimal}
use Rattle.std.specs.List.{concat}
use Rattle.serde_json.specs.Data.{Data, null, boolean, number, unsigned, string, array, item, no_items, object, Members, member, no_members, put}
use Rattle.serde_json.specs.View.{items_of}
use Rattle.ocds_release.specs.Texts.{four_digits, buyer_id, tenderer_id}

-- a name and its value
abbrev pub Entry : Type 0
Entry = List ℕ × Data

-- whether a value is an empty list
abbrev pub is_empty_list : Data → Bool
is_empty_list null = false
is_empty_list (boolean b) = false
is_empty_list (number n) = false
is_empty_list (string s) = false
is_empty_list (array no_items) = true
is_empty_list (array (item d ds)) = false
is_empty_list (object ms) = false

-- Puts the member, but leaves an empty list out: in a merge of releases it would replace the list before.
abbrev pub put_unless_empty : List ℕ → Data → Members → Members
put_unless_empty k d ms = if is_empty_list d then ms else put k d ms

-- puts these entries into the members, one after another
abbrev pub with_entries : List Entry → Members → Members
with_entries [] ms = ms
with_entries (e ∷ es) ms = with_entries es (put_unless_empty e.0 e.1 ms)

-- the object with these entries
abbrev pub object_of : List Entry → Data
object_of es = object (with_entries es no_members)

-- a text, and a list of values
abbrev pub text : List ℕ → Data
text s = string s

abbrev pub array_of : List Data → Data
array_of ds = array (items_of ds)

-- a list of texts
abbrev pub texts : List (List ℕ) → Data
texts ts = array_of (map text ts)

-- an identifier that is a number, in decimal digits, or in four
abbrev pub decimal_id : ℕ → Data
decimal_id n = text (concat (decimal n ∷ []))

abbrev pub four_digit_id : ℕ → Data
four_digit_id n = text (concat (four_digits n ∷ []))

-- money (OCDS 1.1, Value): whole units of the office's currency
abbrev pub money : ℕ → List ℕ → Data
money amount currency = object (member (codes "amount") (number (unsigned amount)) (member (codes "currency") (string currency) no_members))

-- a person or body, by identifier and name (OCDS 1.1, OrganizationReference)
abbrev pub reference : List ℕ → List ℕ → Data
reference id name = object (member (codes "id") (string id) (member (codes "name") (string name) no_members))

abbrev pub buyer_reference : List ℕ → List ℕ → Data
buyer_reference id name = reference (buyer_id id) name

abbrev pub tenderer_reference : List ℕ → List ℕ → Data
tenderer_reference id name = reference (tenderer_id id) name
