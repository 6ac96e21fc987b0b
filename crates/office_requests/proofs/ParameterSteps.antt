-- The pairs of a query, one more at a time.
use Rattle.office_requests.proofs.Names.{◌≡◌, ◌∙◌, ℕ, List, [], ◌∷◌, Option, refl, Bool, true, false, if◌then◌else◌, is_utf8, IsUtf8-from_is_utf8, utf8_lossy-IsUtf8, utf8_lossy, decode, decoded, with_pair, given_from, Given}

-- a text as it was decoded
decoded_is : (bytes text : List ℕ) → text ≡ utf8_lossy (decode bytes) → text ≡ decoded bytes
decoded_is bytes text is = by (is_utf8 (decode bytes)) refl
  where
    by : (b : Bool) → is_utf8 (decode bytes) ≡ b → text ≡ (if b then decode bytes else utf8_lossy (decode bytes))
    by true e = is ∙ utf8_lossy-IsUtf8 (decode bytes) (IsUtf8-from_is_utf8 (decode bytes) e)
    by false e = is

module _ {A : Type 0} (read : List ℕ → Option A) (name : List ℕ) (given : Given A) (wanted : Given A) (left : List (List ℕ × List ℕ)) where
  -- the next pair
  pub one_pair : (key value : List ℕ) (rest : List (List ℕ × List ℕ)) (shown text : List ℕ) → left ≡ (key, value) ∷ rest
      → shown ≡ utf8_lossy (decode key) → text ≡ utf8_lossy (decode value)
      → given_from read name given left ≡ wanted → given_from read name (with_pair read name given (shown, text)) rest ≡ wanted
  unfolding given_from
  one_pair key value rest shown text at is_key is_value so_far = rw (decoded_is key shown is_key, decoded_is value text is_value) (rw at at so_far)

  -- no pair is left
  pub no_pair : left ≡ [] → given_from read name given left ≡ wanted → given ≡ wanted
  unfolding given_from
  no_pair at so_far = rw at at so_far
