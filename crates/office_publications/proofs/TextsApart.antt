-- A compact text without floats has exactly one outline.
use Rattle.office_publications.proofs.Names.{◌≡◌, ℕ, zero, suc, pos, negsuc, ◌+◌, ◌/◌, ◌%◌, ◌<◌, ◌==◌, List, [], ◌∷◌, ◌++◌, Bool, true, false, cond, Some, decimal, refl, sym, ap, ap₂, ◌∙◌, arith, append_assoc, append-nil, ◌&&◌, nat_lt, or_parts, and_from, lt-ltb, append_cancel_left, digits, digits_onto, digit_glyph, content, plain, Token, quoted, escape, token_text, content-escape, Num, unsigned, negative, float, Data, null, boolean, number, string, array, object, Items, no_items, item, Members, no_members, member, is_float, number_text, outline, items_outline, members_outline, has_float, items_have_float, members_have_float, comma_if, compact_text, items_text, members_text}
use Rattle.json.specs.Json as json

-- ---- numbers

-- a digit, a minus, a dot or a slash
abbrev is_figure : ℕ → Bool
is_figure c = nat_lt 44 c && nat_lt c 58

-- the figures at the beginning of a text
abbrev figures : List ℕ → List ℕ
figures [] = []
figures (c ∷ cs) = cond (is_figure c) (c ∷ figures cs) []

abbrev AreFigures : List ℕ → Type 0
AreFigures [] = Unit {0}
AreFigures (c ∷ cs) = (is_figure c ≡ true) × AreFigures cs

before : (s r : List ℕ) → AreFigures s → figures r ≡ [] → figures (s ++ r) ≡ s
before [] r h stop = stop
before (c ∷ cs) r h stop = rw h.0 (ap (λ (l : List ℕ). c ∷ l) (before cs r h.1 stop))

digit_figure : (d : ℕ) → d < 10 → is_figure (digit_glyph false d) ≡ true
digit_figure d low = rw (lt-ltb d 10 low) (and_from _ _ (lt-ltb 44 (48 + d) (omega arith)) (lt-ltb (48 + d) 58 (omega arith)))

-- a text of at least one figure, and of nothing else
abbrev IsInteger : List ℕ → Type 0
IsInteger [] = ⊥
IsInteger (c ∷ cs) = (is_figure c ≡ true) × AreFigures cs

all_figures : (s : List ℕ) → IsInteger s → AreFigures s
all_figures [] h = tt
all_figures (c ∷ cs) h = h

chosen : (b : Bool) (s t : List ℕ) → IsInteger s → IsInteger t → IsInteger (cond b s t)
chosen true s t h k = h
chosen false s t h k = k

onto : (k n c : ℕ) (cs : List ℕ) → IsInteger (c ∷ cs) → IsInteger (digits_onto k 10 false n (c ∷ cs))
onto zero n c cs h = h
onto (suc k) n c cs h =
    let more : IsInteger (digit_glyph false (n % 10) ∷ c ∷ cs) = (digit_figure (n % 10) (grind arith), h) in
    chosen (n / 10 == 0) _ _ more (onto k (n / 10) _ (c ∷ cs) more)

decimal_integer : (n : ℕ) → IsInteger (decimal n)
unfolding digits
decimal_integer n =
    let d : ℕ = digit_glyph false (n % 10) in
    let first : IsInteger (d ∷ []) = (digit_figure (n % 10) (grind arith), tt) in
    chosen (n / 10 == 0) (d ∷ []) (digits_onto 63 10 false (n / 10) (d ∷ [])) first (onto 63 (n / 10) d [] first)

number_integer : (n : Num) → is_float n ≡ false → IsInteger (number_text n)
number_integer (unsigned n) h = decimal_integer n
number_integer (negative (pos n)) h = decimal_integer n
number_integer (negative (negsuc n)) h = (refl, all_figures _ (decimal_integer (suc n)))
number_integer (float x) h = cc

same_number : (n m : Num) (s t : List ℕ) → is_float n ≡ false → is_float m ≡ false → figures s ≡ [] → figures t ≡ []
    → number_text n ++ s ≡ number_text m ++ t → (number_text n ≡ number_text m) × (s ≡ t)
same_number n m s t hn hm es et e =
    let same : number_text n ≡ number_text m =
    sym (before (number_text n) s (all_figures _ (number_integer n hn)) es) ∙ ap figures e ∙ before (number_text m) t (all_figures _ (number_integer m hm)) et in
    (same, append_cancel_left (number_text m) s t (sym (ap (λ (l : List ℕ). l ++ s) same) ∙ e))

-- ---- the beginning of a text

-- by the first character: 0 null, 1 a boolean, 2 a number, 3 a text, 4 an array, 5 an object, 6 no value
abbrev other_kind : ℕ → ℕ
other_kind c =
    cond (c == 110) 0 (cond (c == 116) 1 (cond (c == 102) 1 (cond (c == 34) 3 (cond (c == 91) 4 (cond (c == 123) 5 6)))))

abbrev kind : List ℕ → ℕ
kind [] = 6
kind (c ∷ cs) = cond (is_figure c) 2 (other_kind c)

abbrev kind_in : Data → ℕ
kind_in null = 0
kind_in (boolean b) = 1
kind_in (number n) = 2
kind_in (string s) = 3
kind_in (array ds) = 4
kind_in (object ms) = 5

integer_kind : (s r : List ℕ) → IsInteger s → kind (s ++ r) ≡ 2
integer_kind [] r h = absurd h
integer_kind (c ∷ cs) r h = rw h.0 refl

kind_value : (d : Data) (r : List ℕ) → has_float d ≡ false → kind (compact_text d ++ r) ≡ kind_in d
kind_value null r h = refl
kind_value (boolean true) r h = refl
kind_value (boolean false) r h = refl
kind_value (number n) r h = integer_kind (number_text n) r (number_integer n h)
kind_value (string s) r h = refl
kind_value (array ds) r h = refl
kind_value (object ms) r h = refl

same_kind : (d e : Data) (s t : List ℕ) → has_float d ≡ false → has_float e ≡ false → compact_text d ++ s ≡ compact_text e ++ t → kind_in d ≡ kind_in e
same_kind d e s t hd he same = sym (kind_value d s hd) ∙ ap kind same ∙ kind_value e t he

-- ---- texts in quotes

open_text : (s r : List ℕ) → quoted s ++ r ≡ 34 ∷ (escape s ++ 34 ∷ r)
open_text s r = ap (λ (l : List ℕ). 34 ∷ l) (append_assoc (escape s) (34 ∷ []) r)

rest : List ℕ → List ℕ
rest [] = []
rest (c ∷ cs) = cs

after : (c d : ℕ) (s t : List ℕ) → c ∷ s ≡ d ∷ t → s ≡ t
unfolding rest
after c d s t e = ap rest e

first : List ℕ → ℕ
first [] = 0
first (c ∷ cs) = c

rising : (c d : ℕ) (s t : List ℕ) → c < d → c ∷ s ≡ d ∷ t → ⊥
unfolding first
rising c d s t low e = let same : c ≡ d = ap first e in absurd (omega arith)

falling : (c d : ℕ) (s t : List ℕ) → d < c → c ∷ s ≡ d ∷ t → ⊥
falling c d s t low e = rising d c t s low (sym e)

same_quoted : (a b s t : List ℕ) → quoted a ++ s ≡ quoted b ++ t → (a ≡ b) × (s ≡ t)
unfolding rest
same_quoted a b s t e =
    let inside : escape a ++ 34 ∷ s ≡ escape b ++ 34 ∷ t = ap rest (sym (open_text a s) ∙ e ∙ open_text b t) in
    let found : Some a ≡ Some b = sym (content-escape a s) ∙ ap (content plain) inside ∙ content-escape b t in
    let same : a ≡ b = cc in
    (same, append_cancel_left (quoted b) s t (sym (ap (λ (l : List ℕ). quoted l ++ s) same) ∙ e))

-- ---- values

items_stop : (ds : Items) (s : List ℕ) → figures (items_text true ds ++ s) ≡ []
items_stop no_items s = refl
items_stop (item d ds) s = refl

members_stop : (ms : Members) (s : List ℕ) → figures (members_text true ms ++ s) ≡ []
members_stop no_members s = refl
members_stop (member k d ms) s = refl

comma_then : (later : Bool) (a b s : List ℕ) → (comma_if later ++ (a ++ b)) ++ s ≡ comma_if later ++ (a ++ (b ++ s))
comma_then later a b s = append_assoc (comma_if later) (a ++ b) s ∙ ap (λ (l : List ℕ). comma_if later ++ l) (append_assoc a b s)

colon_then : (later : Bool) (a b c s : List ℕ) → (comma_if later ++ (a ++ 58 ∷ (b ++ c))) ++ s ≡ comma_if later ++ (a ++ 58 ∷ (b ++ (c ++ s)))
colon_then later a b c s = comma_then later a (58 ∷ (b ++ c)) s ∙ ap (λ (l : List ℕ). comma_if later ++ (a ++ 58 ∷ l)) (append_assoc b c s)

-- an item doesn't begin with the end of its list
no_item : (later : Bool) (d : Data) (r s : List ℕ) → has_float d ≡ false → 93 ∷ s ≡ comma_if later ++ (compact_text d ++ r) → ⊥
no_item true d r s hd e = falling 93 44 _ _ (omega arith) e
no_item false d r s hd e = let k : 6 ≡ kind_in d = ap kind e ∙ kind_value d r hd in no_value d k
  where
    no_value : (d : Data) → 6 ≡ kind_in d → ⊥
    no_value null k = absurd (omega arith)
    no_value (boolean b) k = absurd (omega arith)
    no_value (number n) k = absurd (omega arith)
    no_value (string s) k = absurd (omega arith)
    no_value (array ds) k = absurd (omega arith)
    no_value (object ms) k = absurd (omega arith)

no_member : (later : Bool) (k r s : List ℕ) → 125 ∷ s ≡ comma_if later ++ (quoted k ++ r) → ⊥
no_member true k r s e = falling 125 44 _ _ (omega arith) e
no_member false k r s e = falling 125 34 _ _ (omega arith) e

mutual
  same_value : (d e : Data) (s t : List ℕ) → has_float d ≡ false → has_float e ≡ false → figures s ≡ [] → figures t ≡ []
      → compact_text d ++ s ≡ compact_text e ++ t → (outline d ≡ outline e) × (s ≡ t)
  same_value null null s t hd he ss st same = (refl, append_cancel_left (compact_text null) s t same)
  same_value (boolean true) (boolean true) s t hd he ss st same = (refl, append_cancel_left (token_text (Token.boolean true)) s t same)
  same_value (boolean false) (boolean false) s t hd he ss st same = (refl, append_cancel_left (token_text (Token.boolean false)) s t same)
  same_value (boolean true) (boolean false) s t hd he ss st same = absurd (falling 116 102 _ _ (omega arith) same)
  same_value (boolean false) (boolean true) s t hd he ss st same = absurd (rising 102 116 _ _ (omega arith) same)
  same_value (number n) (number m) s t hd he ss st same = let p = same_number n m s t hd he ss st same in (ap json.number p.0, p.1)
  same_value (string a) (string b) s t hd he ss st same = let p = same_quoted a b s t same in (ap json.string p.0, p.1)
  same_value (array ds) (array es) s t hd he ss st same =
      let p = same_items false ds es s t hd he (after 91 91 _ _ same) in
      (ap json.array p.0, p.1)
  same_value (object ms) (object ns) s t hd he ss st same =
      let p = same_members false ms ns s t hd he (after 123 123 _ _ same) in
      (ap json.object p.0, p.1)
  same_value d e s t hd he ss st same = let k : kind_in d ≡ kind_in e = same_kind d e s t hd he same in absurd (omega arith)

  same_items : (later : Bool) (ds es : Items) (s t : List ℕ) → items_have_float ds ≡ false → items_have_float es ≡ false
      → items_text later ds ++ s ≡ items_text later es ++ t → (items_outline ds ≡ items_outline es) × (s ≡ t)
  same_items later no_items no_items s t hd he same = (refl, after 93 93 s t same)
  same_items later no_items (item e es) s t hd he same =
      absurd (no_item later e (items_text true es ++ t) s (or_parts (has_float e) _ he).0 (same ∙ comma_then later (compact_text e) (items_text true es) t))
  same_items later (item d ds) no_items s t hd he same =
      absurd (no_item later d (items_text true ds ++ s) t (or_parts (has_float d) _ hd).0 (sym same ∙ comma_then later (compact_text d) (items_text true ds) s))
  same_items later (item d ds) (item e es) s t hd he same =
      let fd = or_parts (has_float d) _ hd in
      let fe = or_parts (has_float e) _ he in
      let all : comma_if later ++ (compact_text d ++ (items_text true ds ++ s)) ≡ comma_if later ++ (compact_text e ++ (items_text true es ++ t)) =
      sym (comma_then later (compact_text d) (items_text true ds) s) ∙ same ∙ comma_then later (compact_text e) (items_text true es) t in
      let first =
      same_value d e (items_text true ds ++ s) (items_text true es ++ t) fd.0 fe.0 (items_stop ds s) (items_stop es t) (append_cancel_left (comma_if later) _ _ all) in
      let others = same_items true ds es s t fd.1 fe.1 first.1 in
      (ap₂ json.item first.0 others.0, others.1)

  same_members : (later : Bool) (ms ns : Members) (s t : List ℕ) → members_have_float ms ≡ false → members_have_float ns ≡ false
      → members_text later ms ++ s ≡ members_text later ns ++ t → (members_outline ms ≡ members_outline ns) × (s ≡ t)
  same_members later no_members no_members s t hd he same = (refl, after 125 125 s t same)
  same_members later no_members (member l e ns) s t hd he same =
      absurd (no_member later l _ s (same ∙ colon_then later (quoted l) (compact_text e) (members_text true ns) t))
  same_members later (member k d ms) no_members s t hd he same =
      absurd (no_member later k _ t (sym same ∙ colon_then later (quoted k) (compact_text d) (members_text true ms) s))
  same_members later (member k d ms) (member l e ns) s t hd he same =
      let fd = or_parts (has_float d) _ hd in
      let fe = or_parts (has_float e) _ he in
      let all : comma_if later ++ (quoted k ++ 58 ∷ (compact_text d ++ (members_text true ms ++ s))) ≡ comma_if later ++ (quoted l ++ 58 ∷ (compact_text e ++ (members_text true ns ++ t))) =
      sym (colon_then later (quoted k) (compact_text d) (members_text true ms) s) ∙ same ∙ colon_then later (quoted l) (compact_text e) (members_text true ns) t in
      let name = same_quoted k l _ _ (append_cancel_left (comma_if later) _ _ all) in
      let first =
      same_value d e (members_text true ms ++ s) (members_text true ns ++ t) fd.0 fe.0 (members_stop ms s) (members_stop ns t) (after 58 58 _ _ name.1) in
      let others = same_members true ms ns s t fd.1 fe.1 first.1 in
      (λ i. json.member (name.0 i) (first.0 i) (others.0 i), others.1)

pub same_outline : (d e : Data) → has_float d ≡ false → has_float e ≡ false → compact_text d ≡ compact_text e → outline d ≡ outline e
same_outline d e hd he same = (same_value d e [] [] hd he refl refl (append-nil (compact_text d) ∙ same ∙ sym (append-nil (compact_text e)))).0
