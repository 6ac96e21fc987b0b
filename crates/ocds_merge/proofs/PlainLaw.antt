-- Bytes of strings that need no escape.
use Rattle.ocds_merge.proofs.Names.{◌≡◌, ℕ, List, [], ◌∷◌, ◌++◌, refl, sym, ap, ◌∙◌, append_assoc, ne_eqb, flat_map-append, escape_byte, escape, escape_byte_plain, scan, in_string, IsPlain, StandsForItself, AllStandForThemselves}

pub all_push : (s : List ℕ) (c : ℕ) → AllStandForThemselves s → StandsForItself c → AllStandForThemselves (s ++ c ∷ [])
all_push [] c h k = (k, tt)
all_push (x ∷ s) c h k = (h.0, all_push s c h.1 k)

plain_byte : (n c : ℕ) (r : List ℕ) → StandsForItself c → scan n in_string (c ∷ r) ≡ scan n in_string r
plain_byte n c r h = rw (ne_eqb c 92 h.2, ne_eqb c 34 h.1) refl

pub plain_scan : (n : ℕ) (s r : List ℕ) → AllStandForThemselves s → scan n in_string (s ++ r) ≡ scan n in_string r
plain_scan n [] r h = refl
plain_scan n (c ∷ s) r h = plain_byte n c (s ++ r) h.0 ∙ plain_scan n s r h.1

pub plain_of : (s : List ℕ) → AllStandForThemselves s → IsPlain s
plain_of [] h = tt
plain_of (c ∷ s) h = (h.0.1, h.0.2, plain_of s h.1)

pub plain_escape : (s : List ℕ) → AllStandForThemselves s → escape s ≡ s
plain_escape [] h = refl
plain_escape (c ∷ s) h = ap (λ (t : List ℕ). t ++ escape s) (escape_byte_plain c h.0.1 h.0.2 h.0.0) ∙ ap (λ (t : List ℕ). c ∷ t) (plain_escape s h.1)

-- a longer part of a string: more bytes without escapes, perhaps after an escape
pub escape_more : (s p text left rest : List ℕ) → AllStandForThemselves p → text ≡ escape s ++ left → left ≡ p ++ rest → text ≡ escape (s ++ p) ++ rest
escape_more s p text left rest h e f =
    e ∙ ap (λ (t : List ℕ). escape s ++ t) (f ∙ ap (λ (t : List ℕ). t ++ rest) (sym (plain_escape p h)))
    ∙ sym (append_assoc (escape s) (escape p) rest) ∙ ap (λ (t : List ℕ). t ++ rest) (sym (flat_map-append escape_byte s p))

escape_one : (x : ℕ) → escape (x ∷ []) ≡ escape_byte x
escape_one x = append_none (escape_byte x)
  where
    append_none : (t : List ℕ) → t ++ [] ≡ t
    append_none [] = refl
    append_none (c ∷ t) = ap (λ (r : List ℕ). c ∷ r) (append_none t)

pub escape_stop : (s text left : List ℕ) (x letter : ℕ) (rest : List ℕ) → escape_byte x ≡ 92 ∷ letter ∷ [] → text ≡ escape s ++ left → left ≡ 92 ∷ letter ∷ rest → text ≡ escape (s ++ x ∷ []) ++ rest
escape_stop s text left x letter rest is e f =
    e ∙ ap (λ (t : List ℕ). escape s ++ t) (f ∙ ap (λ (t : List ℕ). t ++ rest) (sym (escape_one x ∙ is)))
    ∙ sym (append_assoc (escape s) (escape (x ∷ [])) rest) ∙ ap (λ (t : List ℕ). t ++ rest) (sym (flat_map-append escape_byte s (x ∷ [])))

-- ---- how bytes are written

pub quote_escape : escape_byte 34 ≡ 92 ∷ 34 ∷ []
unfolding escape_byte
quote_escape = refl

pub backslash_escape : escape_byte 92 ≡ 92 ∷ 92 ∷ []
unfolding escape_byte
backslash_escape = refl

pub backspace_escape : escape_byte 8 ≡ 92 ∷ 98 ∷ []
unfolding escape_byte
backspace_escape = refl

pub form_feed_escape : escape_byte 12 ≡ 92 ∷ 102 ∷ []
unfolding escape_byte
form_feed_escape = refl

pub line_feed_escape : escape_byte 10 ≡ 92 ∷ 110 ∷ []
unfolding escape_byte
line_feed_escape = refl

pub carriage_return_escape : escape_byte 13 ≡ 92 ∷ 114 ∷ []
unfolding escape_byte
carriage_return_escape = refl

pub tab_escape : escape_byte 9 ≡ 92 ∷ 116 ∷ []
unfolding escape_byte
tab_escape = refl

pub escape_letter_is : (x letter k : ℕ) → escape_byte x ≡ 92 ∷ k ∷ [] → letter ≡ k → (y : ℕ) × (escape_byte y ≡ 92 ∷ letter ∷ [])
escape_letter_is x letter k e is = (x, e ∙ ap (λ (l : ℕ). 92 ∷ l ∷ []) (sym is))
