-- JSON objects of plain values and of lists of objects, as compact text. The members are in the byte order of their names.
use Rattle.std.specs.Prelude.{◌≡◌, ℕ, List, [], ◌∷◌, ◌++◌, map, Bool, true, ◌&&◌, Option, Some, None, codes, option_map}
use Rattle.std.specs.Cmp.Lexicographic.{slice_cmp}
use Rattle.std.specs.List.{list_all}
use Rattle.std.specs.Ordering.{is_gt, nat_cmp}
use Rattle.std.specs.Borrow.{Bor}
use Rattle.hex.specs.Hex.{encode_lower}
use Rattle.json.specs.Token as token
use Rattle.json.specs.Tree.{json_tokens}
use Rattle.json.specs.Written.{Written}
use Rattle.serde_json.specs.Data.{Data, null, boolean, number, unsigned, string, array, object, Members, no_members, put}
use Rattle.serde_json.specs.View.{items_of}
use Rattle.serde_json.specs.Written.{compact_text, outline}
use Rattle.office_values.specs.Moments.{moment_text}
use Rattle.office_plans.specs.declared.objects.Plain.{Plain}
use Rattle.office_plans.specs.declared.objects.Plain.TheVariants.{Number, Count, Truth, Total, Id, Named, Moment, Since, Digest, Text, Remark}

-- A member of an object: a name and its value.
abbrev pub Member : Type 0
Member = List ℕ × Data

-- A number or a text in this form, or null if it is absent.
abbrev pub value_or_null : {X : Type 0} → (X → Data) → Option X → Data
value_or_null form None = null
value_or_null form (Some x) = form x

abbrev pub data_of : Plain → Data
data_of (Number n) = number (unsigned n)
data_of (Count count) = value_or_null (λ n. number (unsigned n)) count
data_of (Truth truth) = boolean truth
data_of (Total total) = number (unsigned total)
data_of (Id id) = string id
data_of (Named id) = value_or_null string id
data_of (Moment second) = string (moment_text second)
data_of (Since second) = value_or_null string (option_map moment_text second)
data_of (Digest digest) = string (encode_lower digest)
data_of (Text text) = string text.now
data_of (Remark text) = value_or_null string (option_map (λ t. t.now) text)

abbrev pub entry_of : Bor (List ℕ) × Plain → Member
entry_of m = (m.0.now, data_of m.1)

-- The object's members after these entries are put into it, one after another.
abbrev pub with_members : List Member → Members → Members
with_members [] ms = ms
with_members (e ∷ es) ms = with_members es (put e.0 e.1 ms)

abbrev pub json_object : List Member → Data
json_object es = object (with_members es no_members)

abbrev pub object_text : List Member → List ℕ
object_text es = compact_text (json_object es)

-- Each name comes after all earlier names, in byte order.
abbrev pub names_rise : List Member → Bool
names_rise [] = true
names_rise (e ∷ es) = list_all (λ (f : Member). is_gt (slice_cmp nat_cmp f.0 e.0)) es && names_rise es

-- A member whose value is a list of objects.
abbrev pub objects_entry : List ℕ → List (List Member) → Member
objects_entry name objects = (name, array (items_of (map json_object objects)))

-- The entries of an object that has one list of objects, with entries before and after the list.
abbrev pub with_objects : List Member → List ℕ → List (List Member) → List Member → List Member
with_objects front name objects rest = front ++ objects_entry name objects ∷ rest

-- The tokens with which a text writes a value, and those with which it writes a member.
abbrev pub value_tokens : Data → List token.Token
value_tokens d = json_tokens (outline d)

abbrev pub member_tokens : Member → List token.Token
member_tokens e = token.key e.0 ∷ value_tokens e.1

-- A writer has added a value after everything that was already written.
abbrev pub AddsValue : Written → Written → Data → Type 0
AddsValue old new d = (new.before ≡ old.before) × (new.tokens ≡ old.tokens ++ value_tokens d)

-- Entries whose values are plain.
abbrev pub text_entry : List ℕ → List ℕ → Member
text_entry name text = (name, string text)

abbrev pub named_entry : List ℕ → Option (List ℕ) → Member
named_entry name text = (name, value_or_null string text)

abbrev pub number_entry : List ℕ → ℕ → Member
number_entry name n = (name, number (unsigned n))

abbrev pub count_entry : List ℕ → Option ℕ → Member
count_entry name count = (name, value_or_null (λ n. number (unsigned n)) count)

abbrev pub date_entry : List ℕ → ℕ → Member
date_entry name second = text_entry name (moment_text second)

abbrev pub since_entry : List ℕ → Option ℕ → Member
since_entry name second = named_entry name (option_map moment_text second)

-- Entries that several replies have.
abbrev pub moment_entry : ℕ → Member
moment_entry moment = date_entry (codes "moment") moment

abbrev pub digest_entry : List ℕ → Member
digest_entry digest = text_entry (codes "digest") (encode_lower digest)
