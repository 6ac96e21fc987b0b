-- The value that is read from a text or a number is the one that the definitions say.
use Rattle.office_requests.proofs.Names.{◌≡◌, ℕ, ◌<◌, ◌≤◌, ◌⊎◌, inl, inr, List, Bool, true, false, Option, Some, None, Result, Ok, Err, IfSome, IfNone, IfOk, refl, sym, arith, nat_le, is_some, if◌then◌else◌, le-leb, leb-true, and_parts, is_id, is_text_line, passing, identifier_of, line_of, is_between, number_between}

-- if the read value is the text, and exists exactly if the text passes, it is the text by its test
kept : (passes : Bool) (text : List ℕ) (read : Option (List ℕ)) → IfSome read (λ t. t ≡ text) → is_some read ≡ passes
    → read ≡ (if passes then Some text else None)
kept passes text None found tested = rw (sym tested) refl
kept passes text (Some t) found tested = rw (sym tested, found) refl

pub id_kept : (text : List ℕ) (read : Option (List ℕ)) → IfSome read (λ t. t ≡ text) → is_some read ≡ is_id text → read ≡ identifier_of text
unfolding identifier_of
id_kept text read found tested = kept (is_id text) text read found tested

pub line_kept : {E : Type 0} (text : List ℕ) (read : Result (Option (List ℕ)) E) → IfOk read (λ l. IfSome l (λ t. t ≡ text))
    → IfOk read (λ l. is_some l ≡ is_text_line text)
    → IfOk read (λ l. l ≡ line_of text)
unfolding line_of
line_kept text (Ok l) found tested = kept (is_text_line text) text l found tested
line_kept text (Err fault) found tested = tt

pub number_kept : (low high number : ℕ) (read : Option ℕ) → IfSome read (λ n. n ≡ number) → IfSome read (λ _. low ≤ number) → IfSome read (λ _. number ≤ high)
    → IfNone read ((number < low) ⊎ (high < number)) → read ≡ number_between low high number
unfolding number_between
number_kept low high number (Some n) found least most none = rw (le-leb _ _ least, le-leb _ _ most, found) refl
number_kept low high number None found least most none = by (is_between low high number) refl
  where
    outside : (nat_le low number ≡ true) × (nat_le number high ≡ true) → (number < low) ⊎ (high < number) → ⊥
    outside (a, b) (inl less) = let l = leb-true _ _ a in omega arith
    outside (a, b) (inr more) = let m = leb-true _ _ b in omega arith

    by : (b : Bool) → is_between low high number ≡ b → None ≡ passing (is_between low high) number
    by false is = rw is refl
    by true is = absurd (outside (and_parts _ _ is) none)
