-- Values without floats that nest at most `n` levels: the values of which releases are made, builder by builder.
use Rattle.ocds_release.proofs.Names.{◌≡◌, ◌≤◌, ℕ, suc, List, [], ◌∷◌, ◌++◌, map, Bool, true, false, ◌||◌, Ordering, Less, Equal, Greater, nat_cmp, refl, arith, true≢false, cond, match_ordering, slice_cmp, le-max_left, le-max_right, max-le, Data, number, unsigned, object, Items, Members, no_members, member, put, depth, items_depth, members_depth, items_of, has_float, items_have_float, members_have_float, Entry, is_empty_list, put_unless_empty, with_entries, object_of, text, array_of, texts, money, reference}

-- the value has no float, and nests at most `n` levels
pub record IsFlat (n : ℕ) (v : Data) : Type 0 where
  pub no_float : has_float v ≡ false
  pub shallow : depth v ≤ n

pub record AreItemsFlat (n : ℕ) (ds : Items) : Type 0 where
  pub no_float : items_have_float ds ≡ false
  pub shallow : items_depth ds ≤ n

pub record AreMembersFlat (n : ℕ) (ms : Members) : Type 0 where
  pub no_float : members_have_float ms ≡ false
  pub shallow : members_depth ms ≤ n

-- each of these values, or of these entries, is flat
abbrev pub AreFlat : ℕ → List Data → Type 0
AreFlat n [] = Unit {0}
AreFlat n (d ∷ ds) = IsFlat n d × AreFlat n ds

abbrev pub AreEntriesFlat : ℕ → List Entry → Type 0
AreEntriesFlat n [] = Unit {0}
AreEntriesFlat n (e ∷ es) = IsFlat n e.1 × AreEntriesFlat n es

-- ---- neither of two values has a float, or either has

neither : (a b : Bool) → a ≡ false → b ≡ false → (a || b) ≡ false
neither true b e f = e
neither false b e f = f

pub not_first : (a b : Bool) → (a || b) ≡ false → a ≡ false
not_first true b e = e
not_first false b e = refl

pub not_second : (a b : Bool) → (a || b) ≡ false → b ≡ false
not_second true b e = absurd (true≢false e)
not_second false b e = e

-- ---- members

member_flat : (n : ℕ) (k : List ℕ) (d : Data) (ms : Members) → IsFlat n d → AreMembersFlat n ms → AreMembersFlat n (member k d ms)
member_flat n k d ms p h = record { no_float = neither _ _ p.no_float h.no_float; shallow = max-le p.shallow h.shallow }

first_flat : (n : ℕ) (k : List ℕ) (d : Data) (ms : Members) → AreMembersFlat n (member k d ms) → IsFlat n d
first_flat n k d ms h = record {
  no_float = not_first (has_float d) (members_have_float ms) h.no_float;
  shallow = omega (arith, h.shallow, le-max_left (depth d) (members_depth ms));
}

rest_flat : (n : ℕ) (k : List ℕ) (d : Data) (ms : Members) → AreMembersFlat n (member k d ms) → AreMembersFlat n ms
rest_flat n k d ms h = record {
  no_float = not_second (has_float d) (members_have_float ms) h.no_float;
  shallow = omega (arith, h.shallow, le-max_right (depth d) (members_depth ms));
}

none_flat : (n : ℕ) → AreMembersFlat n no_members
none_flat n = record { no_float = refl; shallow = omega arith }

put_flat_at : (o : Ordering) (n : ℕ) (k l : List ℕ) (d e : Data) (ms r : Members) → IsFlat n d → AreMembersFlat n (member l e ms) → AreMembersFlat n r
    → AreMembersFlat n (match_ordering o (member k d (member l e ms)) (member l d ms) (member l e r))
put_flat_at Less n k l d e ms r p h q = member_flat n k d (member l e ms) p h
put_flat_at Equal n k l d e ms r p h q = member_flat n l d ms p (rest_flat n l e ms h)
put_flat_at Greater n k l d e ms r p h q = member_flat n l e r (first_flat n l e ms h) q

put_flat : (n : ℕ) (k : List ℕ) (d : Data) (ms : Members) → IsFlat n d → AreMembersFlat n ms → AreMembersFlat n (put k d ms)
put_flat n k d no_members p h = member_flat n k d no_members p h
put_flat n k d (member l e ms) p h = put_flat_at (slice_cmp nat_cmp k l) n k l d e ms (put k d ms) p h (put_flat n k d ms p (rest_flat n l e ms h))

chosen_flat : (b : Bool) (n : ℕ) (ms r : Members) → AreMembersFlat n ms → AreMembersFlat n r → AreMembersFlat n (cond b ms r)
chosen_flat true n ms r h q = h
chosen_flat false n ms r h q = q

pub filled_flat : (n : ℕ) (k : List ℕ) (d : Data) (ms : Members) → IsFlat n d → AreMembersFlat n ms → AreMembersFlat n (put_unless_empty k d ms)
filled_flat n k d ms p h = chosen_flat (is_empty_list d) n ms (put k d ms) h (put_flat n k d ms p h)

pub entries_flat : (n : ℕ) (es : List Entry) (ms : Members) → AreEntriesFlat n es → AreMembersFlat n ms → AreMembersFlat n (with_entries es ms)
entries_flat n [] ms p h = h
entries_flat n (e ∷ es) ms p h = entries_flat n es (put_unless_empty e.0 e.1 ms) p.1 (filled_flat n e.0 e.1 ms p.0 h)

pub members_flat : (n : ℕ) (es : List Entry) → AreEntriesFlat n es → AreMembersFlat n (with_entries es no_members)
members_flat n es p = entries_flat n es no_members p (none_flat n)

pub inside_flat : (n : ℕ) (ms : Members) → AreMembersFlat n ms → IsFlat (suc n) (object ms)
inside_flat n ms h = record { no_float = h.no_float; shallow = omega (arith, h.shallow) }

pub object_flat : (n : ℕ) (es : List Entry) → AreEntriesFlat n es → IsFlat (suc n) (object_of es)
object_flat n es p = inside_flat n (with_entries es no_members) (members_flat n es p)

-- ---- texts and numbers

pub text_flat : (n : ℕ) (s : List ℕ) → IsFlat n (text s)
text_flat n s = record { no_float = refl; shallow = omega arith }

pub number_flat : (n k : ℕ) → IsFlat n (number (unsigned k))
number_flat n k = record { no_float = refl; shallow = omega arith }

-- money, and a reference to a person or body
pub money_flat : (n amount : ℕ) (currency : List ℕ) → IsFlat (suc n) (money amount currency)
money_flat n amount currency =
    inside_flat n _ (member_flat n _ _ _ (number_flat n amount) (member_flat n _ _ _ (text_flat n currency) (none_flat n)))

pub reference_flat : (n : ℕ) (id name : List ℕ) → IsFlat (suc n) (reference id name)
reference_flat n id name = inside_flat n _ (member_flat n _ _ _ (text_flat n id) (member_flat n _ _ _ (text_flat n name) (none_flat n)))

-- ---- lists

items_flat : (n : ℕ) (ds : List Data) → AreFlat n ds → AreItemsFlat n (items_of ds)
items_flat n [] h = record { no_float = refl; shallow = omega arith }
items_flat n (d ∷ ds) h =
    let rest = items_flat n ds h.1 in
    record { no_float = neither _ _ h.0.no_float rest.no_float; shallow = max-le h.0.shallow rest.shallow }

pub list_flat : (n : ℕ) (ds : List Data) → AreFlat n ds → IsFlat (suc n) (array_of ds)
list_flat n ds h = let all = items_flat n ds h in record { no_float = all.no_float; shallow = omega (arith, all.shallow) }

pub each_flat : {X : Type 0} (n : ℕ) (f : X → Data) → ((x : X) → IsFlat n (f x)) → (xs : List X) → AreFlat n (map f xs)
each_flat n f h [] = tt
each_flat n f h (x ∷ xs) = (h x, each_flat n f h xs)

pub both_flat : (n : ℕ) (ds es : List Data) → AreFlat n ds → AreFlat n es → AreFlat n (ds ++ es)
both_flat n [] es h g = g
both_flat n (d ∷ ds) es h g = (h.0, both_flat n ds es h.1 g)

pub texts_flat : (n : ℕ) (ts : List (List ℕ)) → IsFlat (suc n) (texts ts)
texts_flat n ts = list_flat n (map text ts) (each_flat n text (text_flat n) ts)
