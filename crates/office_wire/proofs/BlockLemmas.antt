use Rattle.office_wire.proofs.Names.{◌≡◌, ◌≢◌, ℕ, ◌<◌, ◌≤◌, List, [], ◌∷◌, ◌++◌, length, take, drop, get_or, Option, Some, sym, ap, subst, arith, ◌∙◌, length-append, codes, take_at, drop_at, take_all, take_more, append-nil, length-take, Consumes, IsAtEnd, IsMomentText, IsLine, HasLine, HasNoLine}
use Rattle.office_wire.proofs.RequestLemmas.{consumed, ended}

-- the bytes after the first three end with the line feed
ends_with_it : (rest : List ℕ) → length rest ≡ 21 → get_or rest 20 0 ≡ 10 → rest ≡ take 20 rest ++ 10 ∷ []
ends_with_it rest len last = sym (take_all 21 rest (omega arith)) ∙ (take_more rest 20 0 (omega arith) ∙ ap (λ b. take 20 rest ++ b ∷ []) last)

pub line_parts : (line : List ℕ) → length line ≡ 24 → get_or line 0 0 ≡ 97 → get_or line 1 0 ≡ 116 → get_or line 2 0 ≡ 32 → get_or line 23 0 ≡ 10
    → line ≡ codes "at " ++ take 20 (drop 3 line) ++ 10 ∷ []
line_parts [] len a t s e = absurd (omega (arith, len))
line_parts (x ∷ []) len a t s e = absurd (omega (arith, len))
line_parts (x ∷ y ∷ []) len a t s e = absurd (omega (arith, len))
line_parts (x ∷ y ∷ z ∷ rest) len a t s e =
    let end : rest ≡ take 20 rest ++ 10 ∷ [] = ends_with_it rest (omega (arith, len)) e in
    cc (a, t, s, end)

-- the text of the moment in a line
pub line_text : (line : List ℕ) (moment : ℕ) → IsLine line moment → IsMomentText moment (take 20 (drop 3 line))
line_text line moment x =
    let whole : length line ≡ length (codes "at " ++ x.text ++ 10 ∷ []) = ap length x.whole in
    let a = length-append (codes "at " ++ x.text) (10 ∷ []) in
    let b = length-append (codes "at ") x.text in
    let long : length line ≡ 24 = x.long in
    let len : length x.text ≡ 20 = omega arith in
    let same : take 20 (drop 3 line) ≡ x.text = ap (λ t. take 20 (drop 3 t)) x.whole ∙ take_at x.text (10 ∷ []) 20 len in
    subst (IsMomentText moment) (sym same) x.says

-- a line has 24 bytes
pub short_line : (input : List ℕ) (moment : ℕ) (after : List ℕ) → length input < 24 → HasLine input moment after → ⊥
short_line input moment after few h =
    let a = length-append h.line after in
    let b : length input ≡ length (h.line ++ after) = ap length h.whole in
    let c : length h.line ≡ 24 = h.is.long in
    omega arith

-- the first 24 bytes decide whether an input begins with a line
pub same_line : (line rest : List ℕ) (moment : ℕ) (after : List ℕ) → length line ≡ 24 → (h : HasLine (line ++ rest) moment after) → (line ≡ h.line) × (rest ≡ after)
same_line line rest moment after len h = (
  sym (take_at line rest 24 len) ∙ (ap (take 24) h.whole ∙ take_at h.line after 24 h.is.long),
  sym (drop_at line rest 24 len) ∙ (ap (drop 24) h.whole ∙ drop_at h.line after 24 h.is.long),
)

pub short_bad : (input : List ℕ) → 0 < length input → length input < 24 → HasNoLine input
short_bad input some few = record {
  some = λ e. let none : length input ≡ 0 = ap length e in omega arith;
  none = λ moment after h. short_line input moment after few h;
}

pub line_bad : (line rest : List ℕ) → length line ≡ 24 → ((moment : ℕ) → IsLine line moment → ⊥) → HasNoLine (line ++ rest)
line_bad line rest len other = record {
  some = λ e. let a = length-append line rest in let none : length (line ++ rest) ≡ 0 = ap length e in omega arith;
  none = λ moment after h. other moment (subst (λ (t : List ℕ). IsLine t moment) (sym (same_line line rest moment after len h).0) h.is);
}

-- the input ended after fewer than 24 bytes
pub ended_short : (old new : Option (List ℕ)) (line input : List ℕ) (count : ℕ) → length line ≡ 24 → Consumes old new (take count line) → (count < length line → IsAtEnd new) → count < 24 → count ≢ 0 → old ≡ Some input → HasNoLine input
ended_short old new line input count len given end few some e =
    let (rest, now, parts) = consumed old new (take count line) input given e in
    let none : rest ≡ [] = ended new rest (end (omega (arith, len, few))) now in
    let all : input ≡ take count line = parts ∙ (ap (λ (t : List ℕ). take count line ++ t) none ∙ append-nil (take count line)) in
    let taken = length-take count line in
    subst HasNoLine (sym all) (short_bad (take count line) (omega (arith, taken, len, few, some)) (omega (arith, taken, len, few)))

-- 24 bytes came that aren't a line
pub other_line : (old new : Option (List ℕ)) (line input : List ℕ) (count : ℕ) → length line ≡ 24 → Consumes old new (take count line) → 24 ≤ count → ((moment : ℕ) → IsLine line moment → ⊥) → old ≡ Some input → HasNoLine input
other_line old new line input count len given many other e =
    let (rest, now, parts) = consumed old new (take count line) input given e in
    subst HasNoLine (sym (parts ∙ ap (λ (t : List ℕ). t ++ rest) (take_all count line (omega (arith, len, many))))) (line_bad line rest len other)
