-- A body that doesn't begin as an object has none.
use Rattle.office_requests.proofs.Names.{◌≡◌, ℕ, zero, suc, Bool, true, false, ◌&&◌, ◌||◌, cond, ◌==◌, List, [], ◌∷◌, Option, Some, None, Err, refl, length, option_map, option_and_then, if◌then◌else◌, option_map_or, is_utf8, true≢false, false≢true, Lexeme, token, comma, colon, quote, backslash, operator, space, other, between, lex, lex_byte, string_token, fresh, begins_colon, place_token, punctuate, tokens, content, plain, Token, begin_object, end_object, begin_array, end_array, key, string, number, boolean, null, bad, is_operator, is_space, head, ends_word, after_number, number_before, word, Data, read, of_json, of_items, number_of, max_depth, Body, BadBody, begins_object, object_if, object_in_body}
use Rattle.json.specs.Ascii as ascii
use Rattle.json.specs.Json as json
use Rattle.json.specs.Lex.{Place}
use Rattle.serde_json.specs.Data as data_of

-- The first token.

-- the first token opens an object
abbrev opens : List Token → Bool
opens [] = false
opens (begin_object ∷ ts) = true
opens (end_object ∷ ts) = false
opens (begin_array ∷ ts) = false
opens (end_array ∷ ts) = false
opens (key s ∷ ts) = false
opens (string s ∷ ts) = false
opens (number s ∷ ts) = false
opens (boolean b ∷ ts) = false
opens (null ∷ ts) = false
opens (bad ∷ ts) = false

either : (b : Bool) (x y : Token) → opens (x ∷ []) ≡ false → opens (y ∷ []) ≡ false → opens (cond b x y ∷ []) ≡ false
either true x y p q = p
either false x y p q = q

number_is : (t : List ℕ) (o : Option (List ℕ)) → opens (number_before t o ∷ []) ≡ false
number_is t None = refl
number_is t (Some rest) = either (ends_word rest) _ bad refl refl

word_is : (t : List ℕ) → opens (word t ∷ []) ≡ false
unfolding word
word_is t =
    either (head t == ascii.lower_t) _ _ (either _ (boolean true) bad refl refl) (either (head t == ascii.lower_f) _ _ (either _ (boolean false) bad refl refl)
    (either (head t == ascii.lower_n) _ _ (either _ null bad refl refl) (number_is t (after_number t))))

string_is : (o : Option (List ℕ)) → opens (string_token o ∷ []) ≡ false
string_is None = refl
string_is (Some s) = refl

placed : (t : Token) (before_colon : Bool) (more : Place → List Token) → opens (t ∷ []) ≡ false → opens (place_token fresh t before_colon more) ≡ false
placed begin_object b more e = absurd (true≢false e)
placed end_object b more e = refl
placed begin_array b more e = refl
placed end_array b more e = refl
placed (key s) b more e = refl
placed (string s) true more e = refl
placed (string s) false more e = refl
placed (number s) b more e = refl
placed (boolean v) b more e = refl
placed null b more e = refl
placed bad b more e = refl

first_token : (t : Token) (ls : List Lexeme) → opens (t ∷ []) ≡ false → opens (punctuate fresh (token t ∷ ls)) ≡ false
unfolding punctuate
first_token t ls e = placed t (begins_colon ls) (λ next. punctuate next ls) e

first_mark : (a b c d e : Bool) (ls : List Lexeme) → a ≡ false
    → opens (punctuate fresh (cond a (token begin_object) (cond b (token end_object) (cond c (token begin_array) (cond d (token end_array) (cond e comma colon)))) ∷ ls)) ≡ false
unfolding punctuate
first_mark true b c d e ls is = absurd (true≢false is)
first_mark false true c d e ls is = refl
first_mark false false true d e ls is = refl
first_mark false false false true e ls is = refl
first_mark false false false false true ls is = refl
first_mark false false false false false ls is = refl

first_byte : (quoted slashed marks spaces : Bool) (x : ℕ) (xs : List ℕ) → (x == 123) ≡ false → (spaces ≡ true → opens (tokens xs) ≡ false)
    → opens (punctuate fresh (lex_byte between (cond quoted quote (cond slashed backslash (cond marks operator (cond spaces space other)))) x xs (λ next. lex next xs))) ≡ false
first_byte true b o s x xs brace later = first_token (string_token (content plain xs)) _ (string_is (content plain xs))
first_byte false true o s x xs brace later = first_token bad _ refl
first_byte false false true s x xs brace later = first_mark (x == 123) (x == 125) (x == 91) (x == 93) (x == 44) _ brace
first_byte false false false true x xs brace later = later refl
first_byte false false false false x xs brace later = first_token (word (x ∷ xs)) _ (word_is (x ∷ xs))

neither : (brace blank later : Bool) → (brace || (blank && later)) ≡ false → (brace ≡ false) × (blank ≡ true → later ≡ false)
neither true blank later e = absurd (true≢false e)
neither false true later e = (refl, λ is. e)
neither false false later e = (refl, λ is. absurd (false≢true is))

opens_none : (body : List ℕ) → begins_object body ≡ false → opens (tokens body) ≡ false
unfolding lex punctuate
opens_none [] e = refl
opens_none (x ∷ xs) e =
    let parts = neither (x == 123) (is_space x) (begins_object xs) e in
    first_byte (x == 34) (x == 92) (is_operator x) (is_space x) x xs parts.0 (λ is. opens_none xs (parts.1 is))

-- The value of the body.

-- the object, or the refusal
abbrev refused : Option Data → Type 0
refused found = option_map_or object_if found (Err (BadBody Body)) ≡ Err (BadBody Body)

abbrev Parsed : Type 0
Parsed = Option (json.Json × List Token)

abbrev whole : Parsed → Option Data
whole parsed = option_and_then of_json (option_and_then (λ p. json.if_last p.0 p.1) parsed)

last : (j : json.Json) (ts : List Token) → refused (of_json j) → refused (whole (Some (j, ts)))
last j [] is = is
last j (t ∷ ts) is = refl

number_read : (found : Option data_of.Num) → refused (option_map data_of.number found)
number_read None = refl
number_read (Some n) = refl

array_read : (found : Option data_of.Items) → refused (option_map data_of.array found)
array_read None = refl
array_read (Some ds) = refl

array_parsed : (parsed : Option (json.Items × List Token)) → refused (whole (json.parse_map json.array parsed))
array_parsed None = refl
array_parsed (Some (js, ts)) = last (json.array js) ts (array_read (of_items js))

value_refused : (items : json.Parse json.Items) (members : json.Parse json.Members) (ts : List Token) → opens ts ≡ false
    → refused (whole (json.value_with items members ts))
value_refused items members [] e = refl
value_refused items members (begin_object ∷ ts) e = absurd (true≢false e)
value_refused items members (end_object ∷ ts) e = refl
value_refused items members (begin_array ∷ ts) e = array_parsed (items ts)
value_refused items members (end_array ∷ ts) e = refl
value_refused items members (key s ∷ ts) e = refl
value_refused items members (string s ∷ ts) e = last (json.string s) ts refl
value_refused items members (number s ∷ ts) e = last (json.number s) ts (number_read (number_of s))
value_refused items members (boolean b ∷ ts) e = last (json.boolean b) ts refl
value_refused items members (null ∷ ts) e = last json.null ts refl
value_refused items members (bad ∷ ts) e = refl

parse_refused : (depth : ℕ) (ts : List Token) → opens ts ≡ false → refused (whole (json.value depth ts))
unfolding json.value
parse_refused zero ts e = value_refused (λ _. None) (λ _. None) ts e
parse_refused (suc depth) ts e =
    value_refused (λ (rest : List Token). json.items (json.value depth) (length rest) rest) (λ (rest : List Token). json.members (json.value depth) (length rest) rest) ts e

pub not_begun : (body : List ℕ) → begins_object body ≡ false → object_in_body body ≡ Err (BadBody Body)
unfolding object_in_body
not_begun body e = by (is_utf8 body)
  where
    by : (b : Bool) → refused (if b then read body else None)
    by true = parse_refused max_depth (tokens body) (opens_none body e)
    by false = refl
