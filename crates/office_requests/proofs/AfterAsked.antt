-- The query `after=ID` asks for the page after ID.
use Rattle.office_requests.proofs.Names.{◌≡◌, ◌≢◌, ℕ, ◌<◌, Bool, true, false, IsTrue, if◌then◌else◌, List, [], ◌∷◌, ◌++◌, length, All, Option, Some, None, Ok, refl, sym, ap, ◌∙◌, subst, arith, All-nil, All-cons, All-append, All-weaker, is_utf8-from_IsUtf8, is_utf8, utf8_lossy, IsPlain, raw_pairs, split_once, split_pair, decode_plain, raw_pairs-nil, raw_pairs_first, split_once_after_at, split_once_after_none, split_once_before_at, split_once_before_none, IsId, is_id_byte, passes_id, id_is_utf8, AfterAsksForId, field_or_refusal, identifier_of, after_in, after_with, decoded, given_from, given_in, with_pair, with_value, Absent, Right}

-- a byte of an identifier
abbrev IsOwn : ℕ → Type 0
IsOwn b = IsTrue (is_id_byte b)

-- no other byte is one
apart : (n : ℕ) → is_id_byte n ≡ false → (b : ℕ) → IsOwn b → b ≢ n
apart n out b own e = let no : true ≡ false = sym own ∙ ap is_id_byte e ∙ out in absurd cc

-- the parameter's name
abbrev name : List ℕ
name = 97 ∷ 102 ∷ 116 ∷ 101 ∷ 114 ∷ []

own_name : All IsOwn name
own_name =
    All-cons IsOwn 97 (102 ∷ 116 ∷ 101 ∷ 114 ∷ []) refl
    (All-cons IsOwn 102 (116 ∷ 101 ∷ 114 ∷ []) refl
    (All-cons IsOwn 116 (101 ∷ 114 ∷ []) refl
    (All-cons IsOwn 101 (114 ∷ []) refl (All-cons IsOwn 114 [] refl (All-nil IsOwn)))))

name_is_id : IsId name
name_is_id = record { not_empty = omega arith; short = omega arith; plain = own_name }

-- an identifier is its own text in a query
decoded_own : (id : List ℕ) → IsId id → decoded id ≡ id
decoded_own id h =
    let plain : All IsPlain id = All-weaker IsOwn IsPlain (λ b own. (apart 43 refl b own, apart 37 refl b own)) id h.plain in
    ap (λ (d : List ℕ). if is_utf8 d then d else utf8_lossy d) (decode_plain id plain) ∙ ap (λ (b : Bool). if b then id else utf8_lossy id) (is_utf8-from_IsUtf8 id (id_is_utf8 id h))

module _ (id : List ℕ) (h : IsId id) where
  abbrev query : List ℕ
  query = name ++ (61 ∷ id)

  -- it has no separator, so it is one pair
  no_separator : All (λ b. b ≢ 38) query
  no_separator =
      All-append (λ b. b ≢ 38) name (61 ∷ id) (All-weaker IsOwn (λ b. b ≢ 38) (apart 38 refl) name own_name)
      (All-cons (λ b. b ≢ 38) 61 id (λ e. absurd (omega (arith, e))) (All-weaker IsOwn (λ b. b ≢ 38) (apart 38 refl) id h.plain))

  name_first : All (λ b. b ≢ 61) name
  name_first = All-weaker IsOwn (λ b. b ≢ 61) (apart 61 refl) name own_name

  pair : split_pair query ≡ (name, id)
  pair = λ i. (split_once_before_at 61 name id name_first i, split_once_after_at 61 name id name_first i)

  pairs : raw_pairs query ≡ (name, id) ∷ []
  pairs =
      let whole : (split_once 38 query).0 ≡ query = split_once_before_none 38 query no_separator in
      let rest : (split_once 38 query).1 ≡ [] = split_once_after_none 38 query no_separator in
      raw_pairs_first query (subst (λ (p : List ℕ). 0 < length p) (sym whole) (omega arith))
      ∙ ap (λ p. split_pair p ∷ raw_pairs ((split_once 38 query).1)) whole
      ∙ ap (λ p. split_pair query ∷ raw_pairs p) rest
      ∙ ap (λ ps. split_pair query ∷ ps) raw_pairs-nil
      ∙ ap (λ p. p ∷ []) pair

  identified : identifier_of id ≡ Some id
  unfolding identifier_of
  identified = ap (λ (b : Bool). let none : Option (List ℕ) = None in if b then Some id else none) (passes_id id h)

  one_pair : given_from identifier_of name Absent ((name, id) ∷ []) ≡ with_pair identifier_of name Absent (decoded name, decoded id)
  unfolding given_from
  one_pair = refl

  given : given_in identifier_of name query ≡ Right id
  given =
      ap (given_from identifier_of name Absent) pairs
      ∙ one_pair
      ∙ (λ i. with_pair identifier_of name Absent (decoded_own name name_is_id i, decoded_own id h i))
      ∙ ap (with_value Absent) identified

  asked : after_in query ≡ Ok (Some id)
  unfolding after_in field_or_refusal
  asked = ap after_with given

pub after_asks_for_id : AfterAsksForId
after_asks_for_id id h = asked id h
