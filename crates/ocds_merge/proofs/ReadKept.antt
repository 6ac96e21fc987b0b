-- A value that was read is in order, and a value in order is read back.
use Rattle.ocds_merge.proofs.Names.{◌≡◌, ℕ, ◌^◌, ◌<◌, ◌≤◌, zero, suc, max, pos, negsuc, neg_ℤ, List, [], Bool, true, false, cond, ◌&&◌, ◌==◌, Option, Some, None, option_map, option_and_then, Ordering, Less, Equal, Greater, refl, sym, ap, ap₂, ◌∙◌, subst, arith, get_or, nat_lt, nat_le, drop, append-nil, true≢false, ⊤, binary64, float_is_finite, Parts, numeral_digits, nearest_float, scan_numeral, ltb-true, leb-true, or_parts, tokens, IsNumber, match_ordering, json_tokens, HasNumbers, ItemsHaveNumbers, MembersHaveNumbers, IsNumber-decimal, IsNumber-signed_decimal, tokens-print, ArePrintable-json_tokens, value-json_tokens, Num, unsigned, negative, float, Data, null, boolean, number, string, array, object, Items, no_items, item, Members, no_members, member, put, depth, items_depth, members_depth, is_integer, float_of, number_from, number_of, of_json, of_items, of_members, read, max_depth, number_text, outline, items_outline, members_outline, compact_text, has_float, items_have_float, members_have_float, number_of-decimal, number_of-negative, print-outline, IsInRange, AllAbove, IsOrdered, TextIsKept, AreItemsKept, AreMembersKept}
use Rattle.json.specs.Json as json
use Rattle.json.specs.Tree as tree
use Rattle.ocds_merge.proofs.MemberLemmas.{bytes_cmp}
use Rattle.ocds_merge.proofs.IdLaw.{first_id, other_ids}
use Rattle.ocds_merge.proofs.KeptStep.{put_ordered}
use Rattle.ocds_merge.proofs.ReadLaw.{whole_read, item_converts, member_converts}

-- ---- the values that a reader may return: `TextIsKept`, or floats

abbrev IsReadNumber : Num → Type 0
IsReadNumber (unsigned n) = n < 2 ^ 64
IsReadNumber (negative (pos n)) = ⊥
IsReadNumber (negative (negsuc n)) = n < 2 ^ 63
IsReadNumber (float x) = ⊤

abbrev mutual
  WasRead : Data → Type 0
  WasRead null = ⊤
  WasRead (boolean b) = ⊤
  WasRead (number n) = IsReadNumber n
  WasRead (string s) = ⊤
  WasRead (array ds) = ItemsWereRead ds
  WasRead (object ms) = IsOrdered ms × MembersWereRead ms

  ItemsWereRead : Items → Type 0
  ItemsWereRead no_items = ⊤
  ItemsWereRead (item d ds) = WasRead d × ItemsWereRead ds

  MembersWereRead : Members → Type 0
  MembersWereRead no_members = ⊤
  MembersWereRead (member k d ms) = WasRead d × MembersWereRead ms

abbrev Holds : {A : Type 0} → (A → Type 0) → Option A → Type 0
Holds P None = ⊤
Holds P (Some a) = P a

holds_map : {A B : Type 0} (P : A → Type 0) (Q : B → Type 0) (h : A → B) → ((a : A) → P a → Q (h a)) → (o : Option A) → Holds P o → Holds Q (option_map h o)
holds_map P Q h k None x = tt
holds_map P Q h k (Some a) x = k a x

holds_and_then : {A B : Type 0} (P : A → Type 0) (Q : B → Type 0) (h : A → Option B) → ((a : A) → P a → Holds Q (h a)) → (o : Option A) → Holds P o → Holds Q (option_and_then h o)
holds_and_then P Q h k None x = tt
holds_and_then P Q h k (Some a) x = k a x

anything : {A : Type 0} (o : Option A) → Holds (λ _. ⊤) o
anything None = tt
anything (Some a) = tt

float_read : (sign : Bool) (p : Parts) → Holds IsReadNumber (float_of sign p)
float_read sign p = go (float_is_finite (nearest_float binary64 sign p))
  where
    go : (b : Bool) → Holds IsReadNumber (cond b (Some (float (nearest_float binary64 sign p))) None)
    go true = tt
    go false = tt

positive_read : (p : Parts) → Holds IsReadNumber (number_from false p)
positive_read p = go (is_integer p && nat_lt (numeral_digits p) (2 ^ 64)) refl
  where
    go : (b : Bool) → (is_integer p && nat_lt (numeral_digits p) (2 ^ 64)) ≡ b → Holds IsReadNumber (cond b (Some (unsigned (numeral_digits p))) (float_of false p))
    go true e = ltb-true (numeral_digits p) (2 ^ 64) (other_ids (is_integer p) (nat_lt (numeral_digits p) (2 ^ 64)) e)
    go false e = float_read false p

below_zero : (n : ℕ) → 0 < n → n ≤ 2 ^ 63 → IsReadNumber (negative (neg_ℤ (pos n)))
below_zero zero some low = absurd (omega arith)
below_zero (suc n) some low = let less : n < 2 ^ 63 = omega arith in less

negative_read : (p : Parts) → Holds IsReadNumber (number_from true p)
negative_read p = go ((is_integer p && nat_lt 0 (numeral_digits p)) && nat_le (numeral_digits p) (2 ^ 63)) refl
  where
    go : (b : Bool) → ((is_integer p && nat_lt 0 (numeral_digits p)) && nat_le (numeral_digits p) (2 ^ 63)) ≡ b
        → Holds IsReadNumber (cond b (Some (negative (neg_ℤ (pos (numeral_digits p))))) (float_of true p))
    go true e =
        let both = first_id (is_integer p && nat_lt 0 (numeral_digits p)) (nat_le (numeral_digits p) (2 ^ 63)) e in
        below_zero (numeral_digits p) (ltb-true 0 (numeral_digits p) (other_ids (is_integer p) (nat_lt 0 (numeral_digits p)) both))
        (leb-true (numeral_digits p) (2 ^ 63) (other_ids (is_integer p && nat_lt 0 (numeral_digits p)) (nat_le (numeral_digits p) (2 ^ 63)) e))
    go false e = float_read true p

number_read : (s : List ℕ) → Holds IsReadNumber (number_of s)
unfolding number_of
number_read s = go (get_or s 0 0 == 45)
  where
    go : (b : Bool) → Holds IsReadNumber (cond b (number_from true (scan_numeral (drop 1 s))) (number_from false (scan_numeral s)))
    go true = negative_read (scan_numeral (drop 1 s))
    go false = positive_read (scan_numeral s)

put_read : (k : List ℕ) (d : Data) (ms : Members) → WasRead d → MembersWereRead ms → MembersWereRead (put k d ms)
put_read k d no_members a h = (a, tt)
put_read k d (member m e ms) a h = go (bytes_cmp k m) (put_read k d ms a h.1)
  where
    go : (o : Ordering) → MembersWereRead (put k d ms) → MembersWereRead (match_ordering o (member k d (member m e ms)) (member m d ms) (member m e (put k d ms)))
    go Less rest = (a, h)
    go Equal rest = (a, h.1)
    go Greater rest = (h.0, rest)

mutual
  json_read : (j : json.Json) → Holds WasRead (of_json j)
  json_read json.null = tt
  json_read (json.boolean b) = tt
  json_read (json.number s) = holds_map IsReadNumber WasRead number (λ n h. h) (number_of s) (number_read s)
  json_read (json.string s) = tt
  json_read (json.array js) = holds_map ItemsWereRead WasRead array (λ ds h. h) (of_items js) (items_read js)
  json_read (json.object ms) = holds_map (λ xs. IsOrdered xs × MembersWereRead xs) WasRead object (λ xs h. h) (of_members ms no_members) (members_read ms no_members (tt, tt))

  items_read : (js : json.Items) → Holds ItemsWereRead (of_items js)
  items_read json.no_items = tt
  items_read (json.item j js) = holds_and_then WasRead ItemsWereRead _ (λ d h. holds_map ItemsWereRead ItemsWereRead (item d) (λ ds k. (h, k)) (of_items js) (items_read js)) (of_json j) (json_read j)

  members_read : (ms : json.Members) (found : Members) → IsOrdered found × MembersWereRead found → Holds (λ xs. IsOrdered xs × MembersWereRead xs) (of_members ms found)
  members_read json.no_members found h = h
  members_read (json.member k j ms) found h =
      holds_and_then WasRead (λ xs. IsOrdered xs × MembersWereRead xs) _ (λ d x. members_read ms (put k d found) (put_ordered k d found h.0, put_read k d found x h.1)) (of_json j) (json_read j)

mutual
  was_kept : (d : Data) → WasRead d → has_float d ≡ false → TextIsKept d
  was_kept null h p = tt
  was_kept (boolean b) h p = tt
  was_kept (number (unsigned n)) h p = h
  was_kept (number (negative (pos n))) h p = h
  was_kept (number (negative (negsuc n))) h p = h
  was_kept (number (float x)) h p = absurd (true≢false p)
  was_kept (string s) h p = tt
  was_kept (array ds) h p = items_kept ds h p
  was_kept (object ms) h p = (h.0, members_kept ms h.1 p)

  items_kept : (ds : Items) → ItemsWereRead ds → items_have_float ds ≡ false → AreItemsKept ds
  items_kept no_items h p = tt
  items_kept (item d ds) h p = let parts = or_parts (has_float d) (items_have_float ds) p in (was_kept d h.0 parts.0, items_kept ds h.1 parts.1)

  members_kept : (ms : Members) → MembersWereRead ms → members_have_float ms ≡ false → AreMembersKept ms
  members_kept no_members h p = tt
  members_kept (member k d ms) h p = let parts = or_parts (has_float d) (members_have_float ms) p in (was_kept d h.0 parts.0, members_kept ms h.1 parts.1)

pub read_kept : (text : List ℕ) (d : Data) → read text ≡ Some d → has_float d ≡ false → TextIsKept d
read_kept text d e plain =
    was_kept d (subst (Holds WasRead) e (holds_and_then (λ (j : json.Json). ⊤) WasRead of_json (λ j x. json_read j) (option_and_then (λ p. json.if_last p.0 p.1) (json.value max_depth (tokens text))) (anything _))) plain

-- ---- the other direction

join : Members → Members → Members
join no_members ms = ms
join (member k d xs) ms = member k d (join xs ms)

abbrev Follows : List ℕ → Members → Type 0
Follows k no_members = ⊤
Follows k (member l e ms) = (bytes_cmp k l ≡ Greater) × Follows k ms

abbrev AllFollow : Members → Members → Type 0
AllFollow no_members found = ⊤
AllFollow (member k d ms) found = Follows k found × AllFollow ms found

put_end : (k : List ℕ) (d : Data) (found : Members) → Follows k found → put k d found ≡ join found (member k d no_members)
unfolding join
put_end k d no_members h = refl
put_end k d (member l e ms) h = rw h.0 (ap (member l e) (put_end k d ms h.1))

follows_more : (l k : List ℕ) (d : Data) (found : Members) → Follows l found → bytes_cmp l k ≡ Greater → Follows l (join found (member k d no_members))
unfolding join
follows_more l k d no_members h e = (e, tt)
follows_more l k d (member m x ms) h e = (h.0, follows_more l k d ms h.1 e)

all_follow_more : (k : List ℕ) (d : Data) (ms found : Members) → AllAbove k ms → AllFollow ms found → AllFollow ms (join found (member k d no_members))
all_follow_more k d no_members found a h = tt
all_follow_more k d (member l e ms) found a h = (follows_more l k d found h.0 a.1, all_follow_more k d ms found a.2 h.1)

join_more : (k : List ℕ) (d : Data) (found ms : Members) → join (join found (member k d no_members)) ms ≡ join found (member k d ms)
unfolding join
join_more k d no_members ms = refl
join_more k d (member l e xs) ms = ap (member l e) (join_more k d xs ms)

join_none : (found : Members) → join found no_members ≡ found
unfolding join
join_none no_members = refl
join_none (member k d ms) = ap (member k d) (join_none ms)

all_follow_none : (ms : Members) → AllFollow ms no_members
all_follow_none no_members = tt
all_follow_none (member k d ms) = (tt, all_follow_none ms)

pub outline_number : (n : Num) → IsInRange n → of_json (json.number (number_text n)) ≡ Some (number n)
outline_number (unsigned n) h = ap (λ (o : Option Num). option_map number o) (number_of-decimal n h)
outline_number (negative (pos n)) h = absurd h
outline_number (negative (negsuc n)) h = ap (λ (o : Option Num). option_map number o) (number_of-negative n h)
outline_number (float x) h = absurd h

whole_object : (ms : Members) → join no_members ms ≡ ms
unfolding join
whole_object ms = refl

mutual
  outline_read : (d : Data) → TextIsKept d → of_json (outline d) ≡ Some d
  outline_read null h = refl
  outline_read (boolean b) h = refl
  outline_read (number n) h = outline_number n h
  outline_read (string s) h = refl
  outline_read (array ds) h = ap (λ (o : Option Items). option_map array o) (items_outline_read ds h)
  outline_read (object ms) h = ap (λ (o : Option Members). option_map object o) (members_outline_read ms no_members h.0 h.1 (all_follow_none ms) ∙ ap Some (whole_object ms))

  items_outline_read : (ds : Items) → AreItemsKept ds → of_items (items_outline ds) ≡ Some ds
  items_outline_read no_items h = refl
  items_outline_read (item d ds) h = item_converts (outline d) (items_outline ds) d ds (outline_read d h.0) (items_outline_read ds h.1)

  members_outline_read : (ms found : Members) → IsOrdered ms → AreMembersKept ms → AllFollow ms found → of_members (members_outline ms) found ≡ Some (join found ms)
  members_outline_read no_members found o h f = ap Some (sym (join_none found))
  members_outline_read (member k d ms) found o h f =
      member_converts k (outline d) (members_outline ms) d found (join found (member k d ms)) (outline_read d h.0)
      (ap (of_members (members_outline ms)) (put_end k d found f.0)
      ∙ members_outline_read ms (join found (member k d no_members)) o.1 h.1 (all_follow_more k d ms found o.0 f.1)
      ∙ ap Some (join_more k d found ms))

pub outline_number_text : (n : Num) → IsInRange n → IsNumber (number_text n)
outline_number_text (unsigned n) h = IsNumber-decimal n h
outline_number_text (negative (pos n)) h = absurd h
outline_number_text (negative (negsuc n)) h = IsNumber-signed_decimal (negsuc n) h
outline_number_text (float x) h = absurd h

mutual
  outline_numbers : (d : Data) → TextIsKept d → HasNumbers (outline d)
  outline_numbers null h = tt
  outline_numbers (boolean b) h = tt
  outline_numbers (number n) h = outline_number_text n h
  outline_numbers (string s) h = tt
  outline_numbers (array ds) h = items_outline_numbers ds h
  outline_numbers (object ms) h = members_outline_numbers ms h.1

  items_outline_numbers : (ds : Items) → AreItemsKept ds → ItemsHaveNumbers (items_outline ds)
  items_outline_numbers no_items h = tt
  items_outline_numbers (item d ds) h = (outline_numbers d h.0, items_outline_numbers ds h.1)

  members_outline_numbers : (ms : Members) → AreMembersKept ms → MembersHaveNumbers (members_outline ms)
  members_outline_numbers no_members h = tt
  members_outline_numbers (member k d ms) h = (outline_numbers d h.0, members_outline_numbers ms h.1)

mutual
  pub outline_depth : (d : Data) → tree.depth (outline d) ≡ depth d
  outline_depth null = refl
  outline_depth (boolean b) = refl
  outline_depth (number n) = refl
  outline_depth (string s) = refl
  outline_depth (array ds) = ap suc (items_outline_depth ds)
  outline_depth (object ms) = ap suc (members_outline_depth ms)

  items_outline_depth : (ds : Items) → tree.items_depth (items_outline ds) ≡ items_depth ds
  items_outline_depth no_items = refl
  items_outline_depth (item d ds) = ap₂ max (outline_depth d) (items_outline_depth ds)

  members_outline_depth : (ms : Members) → tree.members_depth (members_outline ms) ≡ members_depth ms
  members_outline_depth no_members = refl
  members_outline_depth (member k d ms) = ap₂ max (outline_depth d) (members_outline_depth ms)

pub kept_reads : (d : Data) → TextIsKept d → depth d ≤ max_depth → read (compact_text d) ≡ Some d
kept_reads d h shallow =
    let j = outline d in
    let told : tokens (compact_text d) ≡ json_tokens j = ap tokens (sym (print-outline d)) ∙ tokens-print (json_tokens j) (ArePrintable-json_tokens j (outline_numbers d h)) in
    let low : tree.depth j ≤ max_depth = omega (arith, outline_depth d) in
    whole_read (compact_text d) j d (ap (json.value max_depth) (told ∙ sym (append-nil (json_tokens j))) ∙ value-json_tokens j max_depth [] low) (outline_read d h)
