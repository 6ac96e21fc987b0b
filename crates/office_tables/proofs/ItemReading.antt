-- How a text is cut at the first of some bytes, and the item that the parts of the text mean.
use Rattle.office_tables.proofs.Names.{◌≡◌, inl, inr, ℕ, zero, suc, ◌+◌, ◌-◌, ◌<◌, ◌≤◌, ◌^◌, Bool, true, false, cond, List, [], ◌∷◌, ◌++◌, Option, Some, None, Result, Ok, Err, length, take, drop, get_or, append_assoc, append-nil, refl, sym, ap, subst, ◌∙◌, arith, true≢false, ◌==◌, not, position, nat_lt, AllByRecursion, position_or_len, decimal, ◌⊎◌, IsUtf8, IfOk, IfErr, IfSome, IfNone, ok_or, ParsesUnsigned, parse-decimal, IsAscii-decimal, IsUtf8-from_ascii, eqb-true, ltb-false, position-Some, take_rest, Item, item_then, items_text, items_in_text, text_before, text_behind, item_rest, Avoids, ItemFits, IsItem, AreItems, IsWithin, IsUnwritten, repeats_id, item_id, ShelfFault, Store, IsFaultOf}
use Rattle.office_tables.proofs.ItemLemmas.{before_is, behind_is, item_len, item_fits, behind_item, digits_avoid, rest_is, items_back, items_text-push}

-- ---- a cut

pub record IsCut (stop : ℕ) (text : List ℕ) (at : ℕ) : Type 0 where
  pub front : take at text ≡ text_before stop text
  pub rest : take (length text - (at + 1)) (drop (at + 1) text) ≡ text_behind stop text
  pub whole : take at text ++ (stop ∷ take (length text - (at + 1)) (drop (at + 1) text)) ≡ text

cut_here : (stop : ℕ) (text : List ℕ) (at : ℕ) → at < length text → (get_or text at 0 == stop) ≡ true → ((k : ℕ) → k < at → (get_or text k 0 == stop) ≡ false)
    → (take at text ≡ text_before stop text) × (drop (suc at) text ≡ text_behind stop text) × (text_before stop text ++ (stop ∷ text_behind stop text) ≡ text)
cut_here stop [] at within is first = absurd (omega (arith, within))
cut_here stop (b ∷ text) zero within is first = (
  sym (ap (λ c. cond c [] (b ∷ text_before stop text)) is),
  sym (ap (λ c. cond c text (text_behind stop text)) is),
  (λ i. cond (is i) [] (b ∷ text_before stop text) ++ (stop ∷ cond (is i) text (text_behind stop text))) ∙ ap (λ n. n ∷ text) (sym (eqb-true b stop is)),
)
cut_here stop (b ∷ text) (suc at) within is first =
    let no = first 0 (omega arith) in
    let rest = cut_here stop text at (omega (arith, within)) is (λ k small. first (suc k) (omega (arith, small))) in (
      ap (λ l. b ∷ l) rest.0 ∙ sym (ap (λ c. cond c [] (b ∷ text_before stop text)) no),
      rest.1 ∙ sym (ap (λ c. cond c text (text_behind stop text)) no),
      (λ i. cond (no i) [] (b ∷ text_before stop text) ++ (stop ∷ cond (no i) text (text_behind stop text))) ∙ ap (λ l. b ∷ l) rest.2,
    )

pub cut_at : (stop : ℕ) (text : List ℕ) (at : ℕ) → position (λ b. b == stop) text ≡ Some at → IsCut stop text at
cut_at stop text at e =
    let found = position-Some (λ b. b == stop) text at 0 e in
    let parts = cut_here stop text at found.0 found.1 found.2 in
    let next : at + 1 ≡ suc at = omega arith in
    let rest : take (length text - (at + 1)) (drop (at + 1) text) ≡ text_behind stop text = take_rest text (at + 1) ∙ ap (λ n. drop n text) next ∙ parts.1 in
    record { front = parts.0; rest = rest; whole = (λ i. parts.0 i ++ (stop ∷ rest i)) ∙ parts.2 }

none_head : (stop b : ℕ) (text : List ℕ) (c : Bool) → (b == stop) ≡ c → length (b ∷ text) ≤ position_or_len (λ b. b == stop) (b ∷ text)
    → (length text ≤ position_or_len (λ b. b == stop) text → Avoids stop text) → Avoids stop (b ∷ text)
none_head stop b text true e h rest =
    absurd (let none : position_or_len (λ b. b == stop) (b ∷ text) ≡ 0 = ap (λ c. cond (not c) (1 + position_or_len (λ b. b == stop) text) 0) e in omega (arith, h, none))
none_head stop b text false e h rest =
    (e, rest (let more : position_or_len (λ b. b == stop) (b ∷ text) ≡ 1 + position_or_len (λ b. b == stop) text = ap (λ c. cond (not c) (1 + position_or_len (λ b. b == stop) text) 0) e in omega (arith, h, more)))

none_before : (stop : ℕ) (text : List ℕ) → length text ≤ position_or_len (λ b. b == stop) text → Avoids stop text
none_before stop [] h = tt
none_before stop (b ∷ text) h = none_head stop b text (b == stop) refl h (none_before stop text)

pub uncut : (stop : ℕ) (text : List ℕ) → position (λ b. b == stop) text ≡ None → Avoids stop text
uncut stop text e = by (nat_lt (position_or_len (λ b. b == stop) text) (length text)) refl
  where
    by : (c : Bool) → nat_lt (position_or_len (λ b. b == stop) text) (length text) ≡ c → Avoids stop text
    by true h = absurd (Rattle.std.proofs.lemmas.Option.none-some (position_or_len (λ b. b == stop) text) (sym e ∙ ap (λ c. cond c (Some (position_or_len (λ b. b == stop) text)) None) h))
    by false h = none_before stop text (ltb-false _ _ h)

-- a text that contains the byte doesn't avoid it
stands_there : (stop : ℕ) (a b : List ℕ) → Avoids stop (a ++ (stop ∷ b)) → ⊥
stands_there stop [] b h = true≢false (sym (Rattle.std.proofs.lemmas.Bool.eq-eqb stop stop refl) ∙ h.0)
stands_there stop (x ∷ a) b h = stands_there stop a b h.1

-- ---- an item's text

pub fits_of : (item : Item) → IsItem item → ItemFits item
fits_of item h = item_fits item h.id h.title (omega (arith, h.quantity.1))

pub all_fit : (items : List Item) → AllByRecursion IsItem items → AllByRecursion ItemFits items
all_fit [] h = tt
all_fit (item ∷ items) h = (fits_of item h.0, all_fit items h.1)

-- the parts of a text that is cut as an item's text
pub record HasParts (item : Item) (rest text : List ℕ) : Type 0 where
  pub id : text_before 9 text ≡ item.id
  pub behind_id : text_behind 9 text ≡ decimal item.quantity ++ (9 ∷ (item.title ++ (10 ∷ rest)))
  pub quantity : text_before 9 (text_behind 9 text) ≡ decimal item.quantity
  pub behind_quantity : text_behind 9 (text_behind 9 text) ≡ item.title ++ (10 ∷ rest)
  pub title : text_before 10 (text_behind 9 (text_behind 9 text)) ≡ item.title

pub parts_of : (item : Item) (rest text : List ℕ) → IsItem item → item_then item rest ≡ text → HasParts item rest text
parts_of item rest text h e = subst (HasParts item rest) e here
  where
    fits : ItemFits item
    fits = fits_of item h

    one : text_behind 9 (item_then item rest) ≡ decimal item.quantity ++ (9 ∷ (item.title ++ (10 ∷ rest)))
    one = behind_is 9 item.id _ fits.id

    two : text_behind 9 (text_behind 9 (item_then item rest)) ≡ item.title ++ (10 ∷ rest)
    two = ap (text_behind 9) one ∙ behind_is 9 (decimal item.quantity) _ (digits_avoid item.quantity fits.quantity)

    here : HasParts item rest (item_then item rest)
    here = record {
      id = before_is 9 item.id _ fits.id;
      behind_id = one;
      quantity = ap (text_before 9) one ∙ before_is 9 (decimal item.quantity) _ (digits_avoid item.quantity fits.quantity);
      behind_quantity = two;
      title = ap (text_before 10) two ∙ before_is 10 item.title rest fits.title;
    }

-- if one of the three cuts fails, the text begins with no item
pub no_id : (item : Item) (rest text : List ℕ) → item_then item rest ≡ text → Avoids 9 text → ⊥
no_id item rest text e h = stands_there 9 item.id (decimal item.quantity ++ (9 ∷ (item.title ++ (10 ∷ rest)))) (subst (Avoids 9) (sym e) h)

pub no_quantity : (item : Item) (rest text : List ℕ) → HasParts item rest text → Avoids 9 (text_behind 9 text) → ⊥
no_quantity item rest text parts h = stands_there 9 (decimal item.quantity) (item.title ++ (10 ∷ rest)) (subst (Avoids 9) parts.behind_id h)

pub no_title : (item : Item) (rest text : List ℕ) → HasParts item rest text → Avoids 10 (text_behind 9 (text_behind 9 text)) → ⊥
no_title item rest text parts h = stands_there 10 item.title rest (subst (Avoids 10) parts.behind_quantity h)

-- ---- items after others

-- if more text follows after some items of a text, it begins with an item
pub continues : (found items : List Item) (rest : List ℕ) → AllByRecursion IsItem found → AllByRecursion IsItem items → 0 < length rest → items_text items ≡ items_text found ++ rest
    → (parts : Item × List ℕ) × IsItem parts.0 × (item_then parts.0 parts.1 ≡ rest)
continues [] [] rest f h some e = absurd (omega (arith, some, ap length e))
continues [] (y ∷ items) rest f h some e = ((y, items_text items), h.0, e)
continues (x ∷ found) [] rest f h some e = absurd (omega (arith, some, ap length (e ∙ sym (behind_item x (items_text found) rest)), item_len x (items_text found ++ rest)))
continues (x ∷ found) (y ∷ items) rest f h some e =
    continues found items rest f.1 h.1 some
    (sym (rest_is y (items_text items) (fits_of y h.0)) ∙ ap item_rest (e ∙ sym (behind_item x (items_text found) rest)) ∙ rest_is x (items_text found ++ rest) (fits_of x f.0))

-- no two lists of items have the same text
pub same_items : (xs ys : List Item) → AllByRecursion IsItem xs → AllByRecursion IsItem ys → items_text xs ≡ items_text ys → xs ≡ ys
same_items xs ys f h e = sym (items_back xs (all_fit xs f)) ∙ ap items_in_text e ∙ items_back ys (all_fit ys h)

-- ---- a quantity's digits

ok_or_else : {E : Type 0} → ℕ → Result ℕ E → ℕ
ok_or_else d (Ok n) = n
ok_or_else d (Err e) = d

is_ok : {E : Type 0} → Result ℕ E → Bool
is_ok (Ok n) = true
is_ok (Err e) = false

pub no_words : (digits : List ℕ) → ¬ (IsUtf8 digits) → IsUnwritten decimal (IsWithin 1 (10 ^ 6)) digits
no_words digits h = record { none = λ n fits e. h (subst IsUtf8 e (IsUtf8-from_ascii (decimal n) (IsAscii-decimal n (omega (arith, fits.1))))) }

pub no_number : {E : Type 0} (digits text : List ℕ) → text ≡ digits → (e : E) → ParsesUnsigned 64 10 text (Err e) → IsUnwritten decimal (IsWithin 1 (10 ^ 6)) digits
unfolding is_ok
no_number digits text same e h = record { none = λ n fits is. true≢false (sym (ap is_ok (parse-decimal 64 n text (Err e) (omega (arith, fits.1)) (omega (arith, fits.1)) (same ∙ sym is) h))) }

pub other_number : {E : Type 0} (digits text : List ℕ) → text ≡ digits → (number : ℕ) (r : Result ℕ E) → r ≡ Ok number → ParsesUnsigned 64 10 text r
    → (IsWithin 1 (10 ^ 6) number → decimal number ≡ digits → ⊥) → IsUnwritten decimal (IsWithin 1 (10 ^ 6)) digits
unfolding ok_or_else
other_number digits text same number r ok h fails = record { none = by }
  where
    by : (n : ℕ) → IsWithin 1 (10 ^ 6) n → decimal n ≡ digits → ⊥
    by n fits is =
        let one : number ≡ n = ap (ok_or_else number) (sym ok ∙ parse-decimal 64 n text r (omega (arith, fits.1)) (omega (arith, fits.1)) (same ∙ sym is) h) in
        fails (subst (IsWithin 1 (10 ^ 6)) (sym one) fits) (ap decimal one ∙ is)

-- ---- the loop over a text's items

pub some_left : (rest : List ℕ) (is_empty : Bool) → is_empty ≡ (length rest == 0) → is_empty ≡ false → 0 < length rest
some_left [] is_empty e f = absurd (true≢false (sym e ∙ f))
some_left (b ∷ rest) is_empty e f = omega arith

pub none_left : (front rest text : List ℕ) (is_empty : Bool) → is_empty ≡ (length rest == 0) → is_empty ≡ true → front ++ rest ≡ text → front ≡ text
none_left front [] text is_empty e t h = sym (append-nil front) ∙ h
none_left front (b ∷ rest) text is_empty e t h = absurd (omega (arith, eqb-true (length (b ∷ rest)) 0 (sym e ∙ t)))

pub one_more : (found : List Item) (item : Item) (new : List Item) (text_behind rest text : List ℕ) → new ≡ found ++ (item ∷ []) → item_then item text_behind ≡ rest → items_text found ++ rest ≡ text
    → items_text new ++ text_behind ≡ text
one_more found item new text_behind rest text pushed front text_before =
    ap (λ l. items_text l ++ text_behind) pushed ∙ ap (λ l. l ++ text_behind) (items_text-push found item) ∙ append_assoc (items_text found) (item_then item []) text_behind
    ∙ ap (λ l. items_text found ++ l) (sym (behind_item item [] text_behind) ∙ front) ∙ text_before

pub items_unwritten : (found : List Item) (rest text : List ℕ) → AllByRecursion IsItem found → items_text found ++ rest ≡ text → 0 < length rest
    → IsUnwritten (λ (parts : Item × List ℕ). item_then parts.0 parts.1) (λ parts. IsItem parts.0) rest → IsUnwritten items_text AreItems text
items_unwritten found rest text f text_before some h =
    record { none = λ items fits e. let next = continues found items rest f fits.each some (e ∙ sym text_before) in h.none next.0 next.1 next.2 }

module _ (found : List Item) (text : List ℕ) (f : AllByRecursion IsItem found) (is : items_text found ≡ text) where
  pub items_read : (o : Option (List Item)) (r : Result (List Item) ShelfFault) → IfSome o (λ all. all ≡ found) → r ≡ ok_or o Store → IfOk r (λ items. items ≡ items_in_text text)
  items_read None r h e = subst (λ r. IfOk r (λ items. items ≡ items_in_text text)) (sym e) tt
  items_read (Some all) r h e = subst (λ r. IfOk r (λ items. items ≡ items_in_text text)) (sym e) (h ∙ sym (items_back found (all_fit found f)) ∙ ap items_in_text is)

  pub items_fit : (o : Option (List Item)) (r : Result (List Item) ShelfFault) → IfSome o (λ all. all ≡ found) → IfSome o (λ _. 1 ≤ length found)
      → IfSome o (λ _. repeats_id item_id found ≡ false) → r ≡ ok_or o Store → IfOk r AreItems
  items_fit None r h some differ e = subst (λ r. IfOk r AreItems) (sym e) tt
  items_fit (Some all) r h some differ e = subst (λ r. IfOk r AreItems) (sym e) (subst AreItems (sym h) (record { each = f; some = some; differ = differ }))

  no_items : (length found ≡ 0) ⊎ (repeats_id item_id found ≡ true) → IsUnwritten items_text AreItems text
  no_items why = record { none = λ items fits e. by items fits (same_items items found fits.each f (e ∙ sym is)) why }
    where
      by : (items : List Item) → AreItems items → items ≡ found → (length found ≡ 0) ⊎ (repeats_id item_id found ≡ true) → ⊥
      by items fits same (inl none) = omega (arith, fits.some, ap length same, none)
      by items fits same (inr twice) = true≢false (sym twice ∙ ap (repeats_id item_id) (sym same) ∙ fits.differ)

  pub items_refused : (o : Option (List Item)) (r : Result (List Item) ShelfFault) → IfNone o ((length found ≡ 0) ⊎ (repeats_id item_id found ≡ true)) → r ≡ ok_or o Store
      → IfErr r (IsFaultOf (IsUnwritten items_text AreItems text))
  items_refused None r h e = subst (λ r. IfErr r (IsFaultOf (IsUnwritten items_text AreItems text))) (sym e) (no_items h)
  items_refused (Some all) r h e = subst (λ r. IfErr r (IsFaultOf (IsUnwritten items_text AreItems text))) (sym e) tt
