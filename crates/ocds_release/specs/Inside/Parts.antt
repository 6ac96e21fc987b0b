-- The value that a part describes.
use Rattle.std.specs.Prelude.{ℕ, List, [], ◌∷◌}
use Rattle.std.specs.Borrow.{Bor}
use Rattle.serde_json.specs.Data.{Data, number, unsigned}
use Rattle.office_values.specs.Moments.{moment_text}
use Rattle.ocds_release.specs.Texts.{ocid_text, release_id, item_id_text, moved_text, raised_text, cut_text, address, buyer_id, tenderer_id}
use Rattle.ocds_release.specs.Objects.{Entry, text, texts, money, decimal_id, four_digit_id, buyer_reference, tenderer_reference}
use Rattle.ocds_release.specs.declared.part.Part.{Part}
use Rattle.ocds_release.specs.declared.part.Part.TheVariants as parts

-- the JSON value of a part
abbrev pub data_of : Part → Data
data_of (parts.Text t) = text t.now
data_of (parts.Id id) = text id
data_of (parts.Number n) = number (unsigned n)
data_of (parts.Decimal n) = decimal_id n
data_of (parts.FourDigits n) = four_digit_id n
data_of (parts.Moment second) = text (moment_text second)
data_of (parts.Language language) = text language
data_of (parts.Money amount currency) = money amount currency
data_of (parts.Buyer id name) = buyer_reference id name.now
data_of (parts.BuyerId id) = text (buyer_id id)
data_of (parts.Tenderer id name) = tenderer_reference id name.now
data_of (parts.TendererId id) = text (tenderer_id id)
data_of (parts.Ocid prefix notice) = text (ocid_text prefix notice)
data_of (parts.ReleaseId prefix notice seq) = text (release_id prefix notice seq)
data_of (parts.ItemId lot id) = text (item_id_text lot id)
data_of (parts.Moved before after) = text (moved_text before after)
data_of (parts.Raised amount) = text (raised_text amount)
data_of (parts.Cut amount) = text (cut_text amount)
data_of (parts.Address base notice route) = text (address base.now notice route.now)
data_of (parts.Only t) = texts (t.now ∷ [])
data_of (parts.OnlyId id) = texts (id ∷ [])
data_of (parts.Both t u) = texts (t.now ∷ u.now ∷ [])

abbrev pub entry_of : Bor (List ℕ) × Part → Entry
entry_of m = (m.0.now, data_of m.1)
