-- The settings of an office, as a text in TOML gives them.
use Rattle.std.specs.Prelude.{codes, ◌≡◌, ◌⊎◌, ℕ, ◌&&◌, nat_le, Bool, List, [], ◌∷◌, length, if◌then◌else◌, Option, Some, None, option_and_then, option_map, unwrap_or, Result, Ok, Err}
use Rattle.std.specs.List.{list_all}
use Rattle.std.specs.Option.{option_map_or}
use Rattle.std.specs.Result.{result_ok}
use Rattle.std.specs.Str.{is_utf8}
use Rattle.toml.specs.Data.{Items, no_items, item, Members, no_members, as_str, as_array, as_table, get_member}
use Rattle.toml.specs.Parse.{parse_document}
use Rattle.hex.specs.Hex.{decode_sized}
use Rattle.office_values.specs.Ids.{is_id_byte}
use Rattle.office_values.specs.Texts.{is_line_byte}
use Rattle.office_values.specs.SettingTexts.{is_prefix_text, is_currency_code, is_language_code}
use Rattle.office_values.specs.declared.settings.Buyer.{Buyer}
use Rattle.office_values.specs.declared.settings.Settings.{Settings}
use Rattle.procure_config.specs.declared.settings.SettingName.{SettingName}
use Rattle.procure_config.specs.declared.settings.SettingName.TheVariants.{Prefix, Currency, Language, Base, Publisher, Extensions, ClerkKey, BuyerId, BuyerName}
use Rattle.procure_config.specs.declared.settings.SettingsFault.{SettingsFault}
use Rattle.procure_config.specs.declared.settings.SettingsFault.TheVariants.{NoMemory, NotToml, Member}

-- The name of a member.
abbrev pub name_text : SettingName → List ℕ
name_text Prefix = codes "prefix"
name_text Currency = codes "currency"
name_text Language = codes "language"
name_text Base = codes "base"
name_text Publisher = codes "publisher"
name_text Extensions = codes "extensions"
name_text ClerkKey = codes "clerk_key"
name_text BuyerId = codes "buyer.id"
name_text BuyerName = codes "buyer.name"

-- The text is an identifier: 1 to 32 ASCII letters, digits, `_`, `.` or `-`.
abbrev pub is_id_text : List ℕ → Bool
is_id_text text = nat_le 1 (length text) && nat_le (length text) 32 && list_all is_id_byte text

-- The text is a line: 1 to 200 bytes of UTF-8 without control characters.
abbrev pub is_line_text : List ℕ → Bool
is_line_text text = nat_le 1 (length text) && nat_le (length text) 200 && list_all is_line_byte text && is_utf8 text

-- The value, if it passes a test.
abbrev pub if_passing : {A : Type 0} → (A → Bool) → Option A → Option A
if_passing test None = None
if_passing test (Some value) = if test value then Some value else None

-- The text at a key, or none if there is no such member or it isn't a text.
abbrev pub text_under : List ℕ → Members → Option (List ℕ)
text_under key members = option_and_then as_str (get_member key members)

-- The text at a key, if it has this form.
abbrev pub text_of_form : (List ℕ → Bool) → List ℕ → Members → Option (List ℕ)
text_of_form has_form key members = if_passing has_form (text_under key members)

-- The items of an array, if each of them is a line.
unfoldable pub lines_of : Items → Option (List (List ℕ))
lines_of no_items = Some []
lines_of (item first rest) =
    option_and_then (λ line. option_map (λ lines. line ∷ lines) (lines_of rest)) (if_passing is_line_text (as_str first))

-- The lines of the array at a key, if there are at most 10.
abbrev pub lines_at : List ℕ → Members → Option (List (List ℕ))
lines_at key members =
    if_passing (λ lines. nat_le (length lines) 10) (option_and_then lines_of (option_and_then as_array (get_member key members)))

-- The 32 bytes that the text at a key writes in 64 hexadecimal digits.
abbrev pub digest_at : List ℕ → Members → Option (List ℕ)
digest_at key members = option_and_then (λ text. result_ok (decode_sized text 32)) (text_under key members)

-- The members of the table at a key, or no members if there is no table.
abbrev pub table_at : List ℕ → Members → Members
table_at key members = unwrap_or (option_and_then as_table (get_member key members)) no_members

-- The value, or the fault that names the missing or wrong member.
unfoldable pub setting_or_fault : {A : Type 0} → SettingName → Option A → Result A SettingsFault
setting_or_fault name (Some value) = Ok value
setting_or_fault name None = Err (Member name)

-- A step, followed by the next one if it gives a value.
infixl 10 ◌>>=◌
abbrev pub ◌>>=◌ : {A B : Type 0} → Result A SettingsFault → (A → Result B SettingsFault) → Result B SettingsFault
Ok value >>= next = next value
Err fault >>= next = Err fault

-- The buyer that a table gives, or the first faulty member.
unfoldable pub buyer_in : Members → Result Buyer SettingsFault
buyer_in members = do
  id ← setting_or_fault BuyerId (text_of_form is_id_text (codes "id") members)
  name ← setting_or_fault BuyerName (text_of_form is_line_text (codes "name") members)
  Ok (record { id = id; name = name })

-- The settings that a table gives, or the first faulty member.
unfoldable pub settings_of : Members → Result Settings SettingsFault
settings_of members = do
  prefix ← setting_or_fault Prefix (text_of_form is_prefix_text (codes "prefix") members)
  currency ← setting_or_fault Currency (text_of_form is_currency_code (codes "currency") members)
  language ← setting_or_fault Language (text_of_form is_language_code (codes "language") members)
  base ← setting_or_fault Base (text_of_form is_line_text (codes "base") members)
  name ← setting_or_fault Publisher (text_of_form is_line_text (codes "publisher") members)
  extensions ← setting_or_fault Extensions (lines_at (codes "extensions") members)
  clerk_key ← setting_or_fault ClerkKey (digest_at (codes "clerk_key") members)
  buyer ← buyer_in (table_at (codes "buyer") members)
  Ok (record {
    publisher = record { prefix = prefix; currency = currency; language = language; base = base; name = name; extensions = extensions; buyer = buyer };
    clerk_key = clerk_key;
  })

-- The table that a text writes in TOML, if it is UTF-8 and TOML.
abbrev pub document_of : List ℕ → Option Members
document_of text = if is_utf8 text then parse_document text else None

-- The settings that a text gives.
abbrev pub settings_in : List ℕ → Result Settings SettingsFault
settings_in text = option_map_or settings_of (document_of text) (Err NotToml)

-- The call returns the result that the definition says, or it reports that memory is too small.
abbrev pub ReadsAs : {A : Type 0} → Result A SettingsFault → Result A SettingsFault → Type 0
ReadsAs (Ok value) wanted = wanted ≡ Ok value
ReadsAs (Err fault) wanted = (fault ≡ NoMemory) ⊎ (wanted ≡ Err fault)
