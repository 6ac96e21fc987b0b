-- The items of a lot, as they are read from a JSON text.
use Rattle.procure_programs.proofs.Names.{◌≡◌, ℕ, ◌+◌, ◌≤◌, ◌<◌, ◌⊎◌, inl, inr, List, [], ◌∷◌, ◌++◌, length, drop, Bool, true, false, Option, Some, None, Result, Ok, Err, IfSome, IfNone, IfOk, refl, sym, ap, ◌∙◌, append_assoc, add-one, get_or, suc, arith, IsUtf8, nat_le, is_some, if◌then◌else◌, is_utf8, drop-cons, le-leb, leb-true, and_parts, drop_all, append-nil, IsUtf8-from_is_utf8, is_utf8-from_IsUtf8, Data, item, read, items_view, Value, is_id, is_text_line, Body, Refusal, BadBody, Item, object_if, object_in_body, ◌>>=◌, passing, identifier_of, line_of, is_between, number_between, each_of, new_item_of}
use Rattle.serde_json.specs.View.{view}

-- ---- a text as an object

pub object_read : (text : List ℕ) (value : Data) → IsUtf8 text → read text ≡ Some value → object_in_body text ≡ object_if value
unfolding object_in_body
object_read text value utf8 is = rw (is_utf8-from_IsUtf8 text utf8, is) refl

pub no_json : (text : List ℕ) → (IsUtf8 text → read text ≡ None) → object_in_body text ≡ Err (BadBody Body)
unfolding object_in_body
no_json text none = by (is_utf8 text) refl
  where
    by : (b : Bool) → is_utf8 text ≡ b → object_in_body text ≡ Err (BadBody Body)
    by true e = rw (e, none (IsUtf8-from_is_utf8 text e)) refl
    by false e = rw e refl

-- ---- a value that passes its test

-- If the read value is the text, and exists exactly if the text passes, it is the text by its test.
kept : (passes : Bool) (text : List ℕ) (found : Option (List ℕ)) → IfSome found (λ t. t ≡ text) → is_some found ≡ passes
    → found ≡ (if passes then Some text else None)
kept passes text None same tested = rw (sym tested) refl
kept passes text (Some t) same tested = rw (sym tested, same) refl

pub id_kept : (text : List ℕ) (found : Option (List ℕ)) → IfSome found (λ t. t ≡ text) → is_some found ≡ is_id text → found ≡ identifier_of text
unfolding identifier_of
id_kept text found same tested = kept (is_id text) text found same tested

pub line_kept : {E : Type 0} (text : List ℕ) (found : Result (Option (List ℕ)) E) → IfOk found (λ l. IfSome l (λ t. t ≡ text))
    → IfOk found (λ l. is_some l ≡ is_text_line text)
    → IfOk found (λ l. l ≡ line_of text)
unfolding line_of
line_kept text (Ok l) same tested = kept (is_text_line text) text l same tested
line_kept text (Err why) same tested = tt

pub number_kept : (low high number : ℕ) (found : Option ℕ) → IfSome found (λ n. n ≡ number) → IfSome found (λ _. low ≤ number) → IfSome found (λ _. number ≤ high)
    → IfNone found ((number < low) ⊎ (high < number)) → found ≡ number_between low high number
unfolding number_between
number_kept low high number (Some n) same least most none = rw (le-leb _ _ least, le-leb _ _ most, same) refl
number_kept low high number None same least most none = by (is_between low high number) refl
  where
    outside : (nat_le low number ≡ true) × (nat_le number high ≡ true) → (number < low) ⊎ (high < number) → ⊥
    outside (a, b) (inl less) = let l = leb-true _ _ a in omega arith
    outside (a, b) (inr more) = let m = leb-true _ _ b in omega arith

    by : (b : Bool) → is_between low high number ≡ b → None ≡ passing (is_between low high) number
    by false is = rw is refl
    by true is = absurd (outside (and_parts _ _ is) none)

-- ---- the elements of an array, one more at a time

-- The items that were read, followed by those of the rest.
abbrev pub with_done : List Item → Result (List Item) Refusal → Result (List Item) Refusal
with_done done more = more >>= λ xs. Ok (done ++ xs)

-- The value at a place, and the values after it.
from_here : (values : List Value) (i : ℕ) (value : Value) → i < length values → value ≡ get_or values i value
    → items_view (drop i values) ≡ item (view value) (items_view (drop (i + 1) values))
from_here values i value h at =
    let e : drop i values ≡ value ∷ drop (i + 1) values = rw add-one (drop-cons values i value h ∙ ap (λ x. x ∷ drop (suc i) values) (sym at)) in
    rw e refl

-- After this many values were read, these items followed by those of the rest are the whole result.
abbrev pub IsSoFar : List Value → ℕ → List Item → Type 0
IsSoFar values i items = with_done items (each_of new_item_of (items_view (drop i values))) ≡ each_of new_item_of (items_view values)

module _ (values : List Value) (done : List Item) (i : ℕ) where
  -- The next value is read.
  pub one_more : (value : Value) (x : Item) → i < length values → value ≡ get_or values i value → new_item_of (view value) ≡ Ok x → IsSoFar values i done
      → IsSoFar values (i + 1) (done ++ x ∷ [])
  unfolding each_of
  one_more value x h at is so_far =
      append (each_of new_item_of (items_view (drop (i + 1) values))) ∙ (rw (from_here values i value h at, is) at so_far)
    where
      append : (more : Result (List Item) Refusal) → with_done (done ++ x ∷ []) more ≡ with_done done (more >>= λ xs. Ok (x ∷ xs))
      append (Err why) = refl
      append (Ok xs) = ap Ok (append_assoc done (x ∷ []) xs)

  -- The next value is refused.
  pub no_more : (value : Value) (why : Refusal) → i < length values → value ≡ get_or values i value → new_item_of (view value) ≡ Err why → IsSoFar values i done
      → each_of new_item_of (items_view values) ≡ Err why
  unfolding each_of
  no_more value why h at is so_far = sym (rw (from_here values i value h at, is) at so_far)

  -- No value is left.
  pub all_done : length values ≤ i → IsSoFar values i done → each_of new_item_of (items_view values) ≡ Ok done
  unfolding each_of
  all_done past so_far = sym (rw (drop_all i values past) at so_far) ∙ ap Ok (append-nil done)
