-- The text of an object is the text that the writer wrote.
use Rattle.office_plans.proofs.Names.{◌≡◌, true, List, [], ◌∷◌, ◌++◌, map, append_assoc, append-nil, refl, sym, ap, ◌∙◌, and_parts, flat_map-append, flat_map_more, map-append, map-map, slice_cmp, AllByRecursion, flat_map, list_all, is_gt, match_ordering, nat_cmp, Ordering, Less, Equal, Greater, print, items_tokens, members_tokens, Data, array, Members, no_members, member, put, items_of, compact_text, items_outline, members_outline, print-outline, Member, json_object, member_tokens, names_rise, value_tokens, with_members}
use Rattle.json.specs.Token as token

-- The members in the order in which they are written.
abbrev members_of : List Member → Members
members_of [] = no_members
members_of (e ∷ es) = member e.0 e.1 (members_of es)

-- ---- what the members mean

greater : (o : Ordering) → is_gt o ≡ true → o ≡ Greater
greater Less h = absurd (cc)
greater Equal h = absurd (cc)
greater Greater h = refl

-- A name that is above all others is put last.
put_last : (old : List Member) (e : Member) → AllByRecursion (λ (o : Member). slice_cmp nat_cmp e.0 o.0 ≡ Greater) old → put e.0 e.1 (members_of old) ≡ members_of (old ++ e ∷ [])
put_last [] e h = refl
put_last (o ∷ old) e h =
    ap (λ c. match_ordering c (member e.0 e.1 (members_of (o ∷ old))) (member o.0 e.1 (members_of old)) (member o.0 o.1 (put e.0 e.1 (members_of old)))) h.0
    ∙ ap (member o.0 o.1) (put_last old e h.1)

abbrev AreAbove : List Member → List Member → Type 0
AreAbove old es = AllByRecursion (λ (e : Member). AllByRecursion (λ (o : Member). slice_cmp nat_cmp e.0 o.0 ≡ Greater) old) es

one_more : (e : Member) (old : List Member) (f : Member) → AllByRecursion (λ (o : Member). slice_cmp nat_cmp f.0 o.0 ≡ Greater) old → slice_cmp nat_cmp f.0 e.0 ≡ Greater
    → AllByRecursion (λ (o : Member). slice_cmp nat_cmp f.0 o.0 ≡ Greater) (old ++ e ∷ [])
one_more e [] f h last = (last, tt)
one_more e (o ∷ old) f h last = (h.0, one_more e old f h.1 last)

above_next : (e : Member) (old es : List Member) → list_all (λ (f : Member). is_gt (slice_cmp nat_cmp f.0 e.0)) es ≡ true → AreAbove old es → AreAbove (old ++ e ∷ []) es
above_next e old [] all h = tt
above_next e old (f ∷ es) all h = let (here, later) = and_parts _ _ all in (one_more e old f h.0 (greater _ here), above_next e old es later h.1)

put_in_order : (old es : List Member) → names_rise es ≡ true → AreAbove old es → with_members es (members_of old) ≡ members_of (old ++ es)
put_in_order old [] rise h = ap members_of (sym (append-nil old))
put_in_order old (e ∷ es) rise h =
    let (above, rest) = and_parts _ _ rise in
    ap (with_members es) (put_last old e h.0) ∙ put_in_order (old ++ e ∷ []) es rest (above_next e old es above h.1) ∙ ap members_of (append_assoc old (e ∷ []) es)

none_below : (es : List Member) → AreAbove [] es
none_below [] = tt
none_below (e ∷ es) = (tt, none_below es)

-- ---- the written tokens are those of the meant object

members_written : (es : List Member) → members_tokens (members_outline (members_of es)) ≡ flat_map member_tokens es ++ token.end_object ∷ []
members_written [] = refl
members_written (e ∷ es) =
    ap (λ ts. token.key e.0 ∷ (value_tokens e.1 ++ ts)) (members_written es) ∙ sym (append_assoc (member_tokens e) (flat_map member_tokens es) (token.end_object ∷ []))

-- An object whose names rise.
pub object_written : (es : List Member) → names_rise es ≡ true
    → value_tokens (json_object es) ≡ token.begin_object ∷ (flat_map member_tokens es ++ token.end_object ∷ [])
object_written es rise =
    ap (λ ms. token.begin_object ∷ members_tokens (members_outline ms)) (put_in_order [] es rise (none_below es)) ∙ ap (λ ts. token.begin_object ∷ ts) (members_written es)

-- A list.
items_written : (ds : List Data) → items_tokens (items_outline (items_of ds)) ≡ flat_map value_tokens ds ++ token.end_array ∷ []
items_written [] = refl
items_written (d ∷ ds) = ap (λ ts. value_tokens d ++ ts) (items_written ds) ∙ sym (append_assoc (value_tokens d) (flat_map value_tokens ds) (token.end_array ∷ []))

pub list_written : (ds : List Data) → value_tokens (array (items_of ds)) ≡ token.begin_array ∷ (flat_map value_tokens ds ++ token.end_array ∷ [])
list_written ds = ap (λ ts. token.begin_array ∷ ts) (items_written ds)

-- ---- the steps of the writer

-- One more element.
pub one_written : {X Y A : Type 0} (f : Y → List A) (g : X → Y) (front : List A) (xs : List X) (x : X)
    → (front ++ flat_map f (map g xs)) ++ f (g x) ≡ front ++ flat_map f (map g (xs ++ x ∷ []))
one_written f g front xs x = flat_map_more f front (map g xs) (g x) ∙ ap (λ ys. front ++ flat_map f ys) (sym (map-append g xs (x ∷ [])))

-- A name and its value.
pub named_written : (front : List token.Token) (e : Member) → (front ++ token.key e.0 ∷ []) ++ value_tokens e.1 ≡ front ++ member_tokens e
named_written front e = append_assoc front (token.key e.0 ∷ []) (value_tokens e.1)

-- Tokens between a first and a last one.
pub between : {A : Type 0} (front : List A) (first : A) (inner : List A) (last : A) → ((front ++ first ∷ []) ++ inner) ++ last ∷ [] ≡ front ++ first ∷ (inner ++ last ∷ [])
between front first inner last = append_assoc (front ++ first ∷ []) inner (last ∷ []) ∙ append_assoc front (first ∷ []) (inner ++ last ∷ [])

-- Members, then one with a list, then more members.
pub three_parts : (front : List token.Token) (es : List Member) (e : Member) (fs : List Member)
    → (((front ++ flat_map member_tokens es) ++ token.key e.0 ∷ []) ++ value_tokens e.1) ++ flat_map member_tokens fs
    ≡ front ++ flat_map member_tokens (es ++ e ∷ fs)
three_parts front es e fs =
    ap (λ ts. ts ++ flat_map member_tokens fs) (named_written (front ++ flat_map member_tokens es) e)
    ∙ append_assoc (front ++ flat_map member_tokens es) (member_tokens e) (flat_map member_tokens fs)
    ∙ append_assoc front (flat_map member_tokens es) (member_tokens e ++ flat_map member_tokens fs)
    ∙ ap (λ ts. front ++ ts) (sym (flat_map-append member_tokens es (e ∷ fs)))

-- The tokens of rows, each an object.
abbrev pub row_tokens : {X : Type 0} → (X → List Member) → List X → List token.Token
row_tokens members rows = flat_map value_tokens (map (λ r. json_object (members r)) rows)

pub one_row : {X : Type 0} (members : X → List Member) (front : List token.Token) (rows : List X) (row : X)
    → (front ++ row_tokens members rows) ++ value_tokens (json_object (members row)) ≡ front ++ row_tokens members (rows ++ row ∷ [])
one_row members front rows row = one_written value_tokens (λ r. json_object (members r)) front rows row

pub rows_written : {X : Type 0} (members : X → List Member) (front : List token.Token) (rows : List X)
    → ((front ++ token.begin_array ∷ []) ++ row_tokens members rows) ++ token.end_array ∷ [] ≡ front ++ value_tokens (array (items_of (map json_object (map members rows))))
rows_written members front rows =
    between front token.begin_array (row_tokens members rows) token.end_array
    ∙ ap (λ ts. front ++ ts) (sym (list_written (map (λ r. json_object (members r)) rows)))
    ∙ ap (λ ds. front ++ value_tokens (array (items_of ds))) (sym (map-map json_object members rows))

-- The text of a value.
pub value_printed : (d : Data) → print (value_tokens d) ≡ compact_text d
value_printed d = print-outline d
