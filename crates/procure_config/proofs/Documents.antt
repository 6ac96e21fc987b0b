-- From a document to the settings of its text.
use Rattle.procure_config.proofs.Names.{◌≡◌, ℕ, List, Bool, true, false, Some, None, Result, Ok, Err, IfOk, IfErr, ◌⊎◌, inl, inr, refl, ◌∙◌, IsUtf8, is_utf8, IsUtf8-from_is_utf8, is_utf8-from_IsUtf8, Members, parse_document, SettingsFault, NoMemory, NotToml, ReadsAs, settings_of, settings_in}
use Rattle.office_values.specs.declared.settings.Settings.{Settings}

pub in_document : (text : List ℕ) (members : Members) → IsUtf8 text → parse_document text ≡ Some members → settings_in text ≡ settings_of members
in_document text doc utf8 is = rw (is_utf8-from_IsUtf8 text utf8, is) refl

pub no_document : (text : List ℕ) → (IsUtf8 text → parse_document text ≡ None) → settings_in text ≡ Err NotToml
no_document text none = by (is_utf8 text) refl
  where
    by : (b : Bool) → is_utf8 text ≡ b → settings_in text ≡ Err NotToml
    by true e = rw (e, none (IsUtf8-from_is_utf8 text e)) refl
    by false e = rw e refl

pub read_settings : (text : List ℕ) (wanted : Result Settings SettingsFault) → settings_in text ≡ wanted → (r : Result Settings SettingsFault) → ReadsAs r wanted
    → IfOk r (λ settings. settings_in text ≡ Ok settings)
read_settings text wanted e (Ok settings) is = e ∙ is
read_settings text wanted e (Err fault) is = tt

pub read_fault : (text : List ℕ) (wanted : Result Settings SettingsFault) → settings_in text ≡ wanted → (r : Result Settings SettingsFault) → ReadsAs r wanted
    → IfErr r (λ fault. (fault ≡ NoMemory) ⊎ (settings_in text ≡ Err fault))
read_fault text wanted e (Ok settings) is = tt
read_fault text wanted e (Err fault) (inl memory) = inl memory
read_fault text wanted e (Err fault) (inr is) = inr (e ∙ is)
