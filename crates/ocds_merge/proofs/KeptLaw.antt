-- Values that are read back from their texts have no float, and their objects are in order.
use Rattle.ocds_merge.proofs.Names.{◌≡◌, ℕ, List, Bool, true, false, ◌||◌, refl, Less, Greater, pos, negsuc, ap, ◌∙◌, ordering_reverse, nat_list_cmp_total, AllByRecursion, IsStrictlySortedBy, Num, unsigned, negative, float, Data, null, boolean, number, string, array, object, Items, no_items, item, Members, no_members, member, is_float, has_float, items_have_float, members_have_float, names_of, IsProper, AreItemsProper, AreMembersProper, IsInRange, AllAbove, IsOrdered, TextIsKept, AreItemsKept, AreMembersKept}
use Rattle.ocds_merge.proofs.MemberLemmas.{bytes_cmp}

-- ---- no float

neither : (a b : Bool) → a ≡ false → b ≡ false → (a || b) ≡ false
neither true b e f = e
neither false b e f = f

plain_number : (n : Num) → IsInRange n → is_float n ≡ false
plain_number (unsigned n) h = refl
plain_number (negative (pos n)) h = absurd h
plain_number (negative (negsuc n)) h = refl
plain_number (float x) h = absurd h

mutual
  pub kept_plain : (d : Data) → TextIsKept d → has_float d ≡ false
  kept_plain null h = refl
  kept_plain (boolean b) h = refl
  kept_plain (number n) h = plain_number n h
  kept_plain (string s) h = refl
  kept_plain (array ds) h = items_plain ds h
  kept_plain (object ms) h = members_plain ms h.1

  items_plain : (ds : Items) → AreItemsKept ds → items_have_float ds ≡ false
  items_plain no_items h = refl
  items_plain (item d ds) h = neither (has_float d) (items_have_float ds) (kept_plain d h.0) (items_plain ds h.1)

  members_plain : (ms : Members) → AreMembersKept ms → members_have_float ms ≡ false
  members_plain no_members h = refl
  members_plain (member k d ms) h = neither (has_float d) (members_have_float ms) (kept_plain d h.0) (members_plain ms h.1)

-- ---- in order

names_above : (k : List ℕ) (ms : Members) → AllAbove k ms → AllByRecursion (λ y. bytes_cmp k y ≡ Less) (names_of ms)
names_above k no_members h = tt
names_above k (member l e ms) h = (h.0, names_above k ms h.2)

pub names_sorted : (ms : Members) → IsOrdered ms → IsStrictlySortedBy bytes_cmp (names_of ms)
unfolding IsStrictlySortedBy
names_sorted no_members h = tt
names_sorted (member k d ms) h = (names_above k ms h.0, names_sorted ms h.1)

mutual
  pub kept_proper : (d : Data) → TextIsKept d → IsProper d
  kept_proper null h = tt
  kept_proper (boolean b) h = tt
  kept_proper (number n) h = tt
  kept_proper (string s) h = tt
  kept_proper (array ds) h = λ e. items_proper ds h
  kept_proper (object ms) h = (names_sorted ms h.0, members_proper ms h.1)

  items_proper : (ds : Items) → AreItemsKept ds → AreItemsProper ds
  items_proper no_items h = tt
  items_proper (item d ds) h = (kept_proper d h.0, items_proper ds h.1)

  members_proper : (ms : Members) → AreMembersKept ms → AreMembersProper ms
  members_proper no_members h = tt
  members_proper (member k d ms) h = (kept_proper d h.0, members_proper ms h.1)

pub greater_from_less : (k l : List ℕ) → bytes_cmp k l ≡ Less → bytes_cmp l k ≡ Greater
greater_from_less k l h = nat_list_cmp_total.antisymm l k ∙ ap ordering_reverse h

above_names : (k : List ℕ) (ms : Members) → AllByRecursion (λ y. bytes_cmp k y ≡ Less) (names_of ms) → AllAbove k ms
above_names k no_members h = tt
above_names k (member l e ms) h = (h.0, greater_from_less k l h.0, above_names k ms h.1)

pub ordered_names : (ms : Members) → IsStrictlySortedBy bytes_cmp (names_of ms) → IsOrdered ms
unfolding IsStrictlySortedBy
ordered_names no_members h = tt
ordered_names (member k d ms) h = (above_names k ms h.0, ordered_names ms h.1)
