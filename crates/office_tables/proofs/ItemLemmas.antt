-- The items of a lot are read back from their text.
use Rattle.office_tables.proofs.Names.{◌≡◌, ℕ, zero, suc, ◌+◌, ◌<◌, ◌≤◌, ◌^◌, Bool, true, false, cond, List, [], ◌∷◌, ◌++◌, length, length-append, append_assoc, refl, sym, ap, subst, ◌∙◌, arith, true≢false, ◌==◌, IsTrue, decimal, AllByRecursion, digits_value, AllDigits, eqb-true, decimal_is_IsNumeral, recursion_from_All, digit_value, IsId, is_id_byte, IsTextLine, is_line_byte, Item, item_then, items_text, text_before, text_behind, first_item, item_rest, some_items, items_in_text, Avoids, ItemFits}

pub before_is : (stop : ℕ) (bytes rest : List ℕ) → Avoids stop bytes → text_before stop (bytes ++ (stop ∷ rest)) ≡ bytes
before_is stop [] rest h = ap (λ b. cond b [] (stop ∷ text_before stop rest)) (Rattle.std.proofs.lemmas.Bool.eq-eqb stop stop refl)
before_is stop (b ∷ bytes) rest h = ap (λ c. cond c [] (b ∷ text_before stop (bytes ++ (stop ∷ rest)))) h.0 ∙ ap (λ l. b ∷ l) (before_is stop bytes rest h.1)

pub behind_is : (stop : ℕ) (bytes rest : List ℕ) → Avoids stop bytes → text_behind stop (bytes ++ (stop ∷ rest)) ≡ rest
behind_is stop [] rest h = ap (λ b. cond b rest (text_behind stop rest)) (Rattle.std.proofs.lemmas.Bool.eq-eqb stop stop refl)
behind_is stop (b ∷ bytes) rest h = ap (λ c. cond c (bytes ++ (stop ∷ rest)) (text_behind stop (bytes ++ (stop ∷ rest)))) h.0 ∙ behind_is stop bytes rest h.1

-- bytes of a class avoid each byte outside it
avoids : (stop : ℕ) (kind : ℕ → Bool) → kind stop ≡ false → (bytes : List ℕ) → AllByRecursion (λ b. IsTrue (kind b)) bytes → Avoids stop bytes
avoids stop kind wrong [] h = tt
avoids stop kind wrong (b ∷ bytes) h = (by (b == stop) refl, avoids stop kind wrong bytes h.1)
  where
    by : (c : Bool) → (b == stop) ≡ c → c ≡ false
    by true e = absurd (true≢false (sym h.0 ∙ ap kind (eqb-true b stop e) ∙ wrong))
    by false e = refl

pub id_avoids : (id : List ℕ) → IsId id → Avoids 9 id
id_avoids id h = avoids 9 is_id_byte refl id (recursion_from_All _ id h.plain)

pub title_avoids : (title : List ℕ) → IsTextLine title → Avoids 10 title
title_avoids title h = avoids 10 is_line_byte refl title (recursion_from_All _ title h.plain)

all_digits : (bytes : List ℕ) → AllDigits 10 bytes → Avoids 9 bytes
all_digits [] h = tt
all_digits (b ∷ bytes) h = (by (b == 9) refl, all_digits bytes h.1)
  where
    by : (c : Bool) → (b == 9) ≡ c → c ≡ false
    by true e = absurd (let small : digit_value 9 < 10 = subst (λ d. digit_value d < 10) (eqb-true b 9 e) h.0 in omega (arith, small))
    by false e = refl

pub digits_avoid : (n : ℕ) → n < 2 ^ 64 → Avoids 9 (decimal n)
digits_avoid n small = all_digits (decimal n) (decimal_is_IsNumeral n small).0.1

some_step : (most : ℕ) (text : List ℕ) → 0 < length text → some_items (suc most) text ≡ first_item text ∷ some_items most (item_rest text)
unfolding some_items
some_step most [] h = absurd (omega arith)
some_step most (b ∷ text) h = refl

pub item_len : (item : Item) (rest : List ℕ) → length rest + 1 ≤ length (item_then item rest)
item_len item rest =
    omega (arith, length-append item.id (9 ∷ (decimal item.quantity ++ (9 ∷ (item.title ++ (10 ∷ rest))))), length-append (decimal item.quantity) (9 ∷ (item.title ++ (10 ∷ rest))), length-append item.title (10 ∷ rest))

module _ (item : Item) (rest : List ℕ) (fits : ItemFits item) where
  first_behind : text_behind 9 (item_then item rest) ≡ decimal item.quantity ++ (9 ∷ (item.title ++ (10 ∷ rest)))
  first_behind = behind_is 9 item.id _ fits.id

  second_behind : text_behind 9 (text_behind 9 (item_then item rest)) ≡ item.title ++ (10 ∷ rest)
  second_behind = ap (text_behind 9) first_behind ∙ behind_is 9 (decimal item.quantity) _ (digits_avoid item.quantity fits.quantity)

  number : digits_value 10 (text_before 9 (text_behind 9 (item_then item rest))) ≡ item.quantity
  number = ap (λ t. digits_value 10 (text_before 9 t)) first_behind ∙ ap (digits_value 10) (before_is 9 (decimal item.quantity) _ (digits_avoid item.quantity fits.quantity)) ∙ (decimal_is_IsNumeral item.quantity fits.quantity).1

  first_is : first_item (item_then item rest) ≡ item
  first_is = λ i. record { id = before_is 9 item.id (decimal item.quantity ++ (9 ∷ (item.title ++ (10 ∷ rest)))) fits.id i; title = (ap (text_before 10) second_behind ∙ before_is 10 item.title rest fits.title) i; quantity = number i }

  pub rest_is : item_rest (item_then item rest) ≡ rest
  rest_is = ap (text_behind 10) second_behind ∙ behind_is 10 item.title rest fits.title

back : (most : ℕ) (items : List Item) → AllByRecursion ItemFits items → length (items_text items) ≤ most → some_items most (items_text items) ≡ items
unfolding some_items
back zero [] h small = refl
back (suc most) [] h small = refl
back zero (item ∷ items) h small = absurd (omega (arith, item_len item (items_text items)))
back (suc most) (item ∷ items) h small =
    some_step most (item_then item (items_text items)) (omega (arith, item_len item (items_text items)))
    ∙ (λ i. first_is item (items_text items) h.0 i ∷ (ap (some_items most) (rest_is item (items_text items) h.0) ∙ back most items h.1 (omega (arith, item_len item (items_text items)))) i)

pub items_back : (items : List Item) → AllByRecursion ItemFits items → items_in_text (items_text items) ≡ items
items_back items h = back (length (items_text items)) items h (omega arith)

-- the text after an item's text stays as it is
pub behind_item : (x : Item) (text more : List ℕ) → item_then x (text ++ more) ≡ item_then x text ++ more
behind_item x text more =
    ap (λ l. x.id ++ (9 ∷ (decimal x.quantity ++ (9 ∷ l)))) (sym (append_assoc x.title (10 ∷ text) more))
    ∙ ap (λ l. x.id ++ (9 ∷ l)) (sym (append_assoc (decimal x.quantity) (9 ∷ (x.title ++ (10 ∷ text))) more))
    ∙ sym (append_assoc x.id (9 ∷ (decimal x.quantity ++ (9 ∷ (x.title ++ (10 ∷ text))))) more)

-- the text with one more item after the others
pub items_text-push : (items : List Item) (item : Item) → items_text (items ++ (item ∷ [])) ≡ items_text items ++ item_then item []
items_text-push [] item = refl
items_text-push (x ∷ items) item = ap (item_then x) (items_text-push items item) ∙ behind_item x (items_text items) (item_then item [])

pub all-push : (P : Item → Type 0) (items : List Item) (item : Item) → AllByRecursion P items → P item → AllByRecursion P (items ++ (item ∷ []))
all-push P [] item h one = (one, tt)
all-push P (x ∷ items) item h one = (h.0, all-push P items item h.1 one)

-- the six parts of an item, added one after another
pub six : (item : Item) (old s1 s2 s3 s4 s5 s6 a b t : List ℕ) → s1 ≡ old ++ a → s2 ≡ s1 ++ (9 ∷ []) → s3 ≡ s2 ++ b → s4 ≡ s3 ++ (9 ∷ []) → s5 ≡ s4 ++ t → s6 ≡ s5 ++ (10 ∷ [])
    → a ≡ item.id → b ≡ decimal item.quantity → t ≡ item.title → s6 ≡ old ++ item_then item []
six item old s1 s2 s3 s4 s5 s6 a b t e1 e2 e3 e4 e5 e6 p q r =
    e6 ∙ ap (λ l. l ++ (10 ∷ [])) e5 ∙ append_assoc s4 t (10 ∷ [])
    ∙ ap (λ l. l ++ (t ++ (10 ∷ []))) e4 ∙ append_assoc s3 (9 ∷ []) (t ++ (10 ∷ []))
    ∙ ap (λ l. l ++ (9 ∷ (t ++ (10 ∷ [])))) e3 ∙ append_assoc s2 b (9 ∷ (t ++ (10 ∷ [])))
    ∙ ap (λ l. l ++ (b ++ (9 ∷ (t ++ (10 ∷ []))))) e2 ∙ append_assoc s1 (9 ∷ []) (b ++ (9 ∷ (t ++ (10 ∷ []))))
    ∙ ap (λ l. l ++ (9 ∷ (b ++ (9 ∷ (t ++ (10 ∷ [])))))) e1 ∙ append_assoc old a (9 ∷ (b ++ (9 ∷ (t ++ (10 ∷ [])))))
    ∙ (λ i. old ++ (p i ++ (9 ∷ (q i ++ (9 ∷ (r i ++ (10 ∷ [])))))))

pub item_fits : (item : Item) → IsId item.id → IsTextLine item.title → item.quantity < 2 ^ 64 → ItemFits item
item_fits item a b c = record { id = id_avoids item.id a; title = title_avoids item.title b; quantity = c }
