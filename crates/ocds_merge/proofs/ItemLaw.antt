-- Id lists: the item that a merge has for an id, and one more item.
use Rattle.ocds_merge.proofs.Names.{◌≡◌, ◌<◌, ℕ, zero, suc, List, [], ◌∷◌, ◌++◌, map, filter, Bool, true, false, cond, ◌||◌, Option, Some, None, is_some, option_to_list, option_and_then, unwrap_or, refl, sym, ap, ◌∙◌, subst, arith, bytes_eq, codes, true≢false, list_any, bytes_eq-Decides, list_any-append, Data, null, boolean, number, string, array, object, Items, no_items, item, depth, get_member, as_str, text_id, id_of, object_run, column_at, items_ahead, ids_in, merge_within, find_item, set_item}
use Rattle.ocds_merge.proofs.ObjectLaw.{Below, apart, or_left, or_right, get_objects}

-- each is an object with a text id
abbrev pub HaveIds : List Data → Type 0
HaveIds [] = Unit {0}
HaveIds (d ∷ s) = (is_some (text_id d) ≡ true) × HaveIds s

abbrev pub among : List ℕ → List Data → Bool
among j s = list_any (bytes_eq j) (ids_in s)

abbrev pub has : List ℕ → Data → Bool
has j d = bytes_eq (id_of d) j

-- ---- tests of bytes

pub tied : (x : List ℕ) → bytes_eq x x ≡ true
tied x = (bytes_eq-Decides x x).1 refl

apart_at : (b : Bool) (x y : List ℕ) → bytes_eq x y ≡ b → (x ≡ y → ⊥) → b ≡ false
apart_at true x y e other = absurd (other ((bytes_eq-Decides x y).0 e))
apart_at false x y e other = refl

pub flipped : (x y : List ℕ) → bytes_eq x y ≡ false → bytes_eq y x ≡ false
flipped x y e = apart_at (bytes_eq y x) y x refl (λ h. apart x y e (sym h))

or_true : (b : Bool) → (b || true) ≡ true
or_true true = refl
or_true false = refl

or_none : (b : Bool) → (b || false) ≡ b
or_none true = refl
or_none false = refl

-- ---- the ids of a list

self_at : (d : Data) (s : List Data) (b : Bool) → among (id_of d) s ≡ b → list_any (bytes_eq (id_of d)) (cond b (ids_in s) (ids_in s ++ id_of d ∷ [])) ≡ true
self_at d s true e = e
self_at d s false e = list_any-append (bytes_eq (id_of d)) (ids_in s) (id_of d ∷ []) ∙ rw (tied (id_of d)) (or_true (among (id_of d) s))

pub among_self : (d : Data) (s : List Data) → among (id_of d) (d ∷ s) ≡ true
among_self d s = self_at d s _ refl

other_at : (j : List ℕ) (d : Data) (s : List Data) (b : Bool) → bytes_eq j (id_of d) ≡ false → list_any (bytes_eq j) (cond b (ids_in s) (ids_in s ++ id_of d ∷ [])) ≡ among j s
other_at j d s true e = refl
other_at j d s false e = list_any-append (bytes_eq j) (ids_in s) (id_of d ∷ []) ∙ rw e (or_none (among j s))

pub among_other : (j : List ℕ) (d : Data) (s : List Data) → bytes_eq j (id_of d) ≡ false → among j (d ∷ s) ≡ among j s
among_other j d s e = other_at j d s (among (id_of d) s) e

more_at : (b : Bool) (j : List ℕ) (d : Data) (s : List Data) → bytes_eq j (id_of d) ≡ b → among j s ≡ true → among j (d ∷ s) ≡ true
more_at true j d s e h = subst (λ (x : List ℕ). among x (d ∷ s) ≡ true) (sym ((bytes_eq-Decides j (id_of d)).0 e)) (among_self d s)
more_at false j d s e h = among_other j d s e ∙ h

pub among_onto : (j : List ℕ) (ds : Items) (s : List Data) → among j s ≡ true → among j (items_ahead ds s) ≡ true
among_onto j no_items s h = h
among_onto j (item d ds) s h = among_onto j ds (d ∷ s) (more_at _ j d s refl h)

-- ---- the items with an id

pub record Head (n : ℕ) (j : List ℕ) (xs : List Data) : Type 0 where
  pub first : Data
  pub rest : List Data
  pub is : xs ≡ first ∷ rest
  pub id : text_id first ≡ Some j
  pub low : depth first < n

id_at : (o : Option (List ℕ)) → is_some o ≡ true → o ≡ Some (unwrap_or o [])
id_at None e = absurd (true≢false (sym e))
id_at (Some x) e = refl

pub id_is : (d : Data) → is_some (text_id d) ≡ true → text_id d ≡ Some (id_of d)
id_is d e = id_at (text_id d) e

head_at : (b : Bool) (n : ℕ) (j : List ℕ) (d : Data) (s : List Data) → has j d ≡ b → is_some (text_id d) ≡ true → depth d < n → among j (d ∷ s) ≡ true
    → (among j s ≡ true → Head n j (filter (has j) s)) → Head n j (cond b (d ∷ filter (has j) s) (filter (has j) s))
head_at true n j d s e id low h later = record { first = d; rest = filter (has j) s; is = refl; id = id_is d id ∙ ap Some ((bytes_eq-Decides (id_of d) j).0 e); low = low }
head_at false n j d s e id low h later = later (sym (among_other j d s (flipped (id_of d) j e)) ∙ h)

pub head_of : (n : ℕ) (j : List ℕ) (s : List Data) → HaveIds s → Below n s → among j s ≡ true → Head n j (filter (has j) s)
head_of n j [] ids_in low h = absurd (true≢false (sym h))
head_of n j (d ∷ s) ids_in low h = head_at _ n j d s refl ids_in.0 low.0 h (head_of n j s ids_in.1 low.1)

none_at : (b : Bool) (j : List ℕ) (d : Data) (s : List Data) → has j d ≡ b → among j (d ∷ s) ≡ false → (among j s ≡ false → filter (has j) s ≡ []) → cond b (d ∷ filter (has j) s) (filter (has j) s) ≡ []
none_at true j d s e h later = absurd (true≢false (sym (subst (λ (x : List ℕ). among x (d ∷ s) ≡ true) ((bytes_eq-Decides (id_of d) j).0 e) (among_self d s)) ∙ h))
none_at false j d s e h later = later (sym (among_other j d s (flipped (id_of d) j e)) ∙ h)

pub none_of : (j : List ℕ) (s : List Data) → among j s ≡ false → filter (has j) s ≡ []
none_of j [] h = refl
none_of j (d ∷ s) h = none_at _ j d s refl h (none_of j s)

pub filter_below : (n : ℕ) (j : List ℕ) (s : List Data) → Below n s → Below n (filter (has j) s)
filter_below n j [] h = tt
filter_below n j (d ∷ s) h = elim (has j d) as (λ b. Below n (cond b (d ∷ filter (has j) s) (filter (has j) s))) [ true ↦ (h.0, filter_below n j s h.1) | false ↦ filter_below n j s h.1 ]

-- ---- a merge_of item keeps the id

pub empty_to : (n : ℕ) → merge_within n [] ≡ None
empty_to zero = refl
empty_to (suc n) = refl

text_at : (o : Option Data) (m : ℕ) (tail : List Data) → 0 < m → is_some (option_and_then as_str o) ≡ true → option_and_then as_str (merge_within m (option_to_list o ++ tail)) ≡ option_and_then as_str o
text_at None m tail p e = absurd (true≢false (sym e))
text_at (Some null) m tail p e = absurd (true≢false (sym e))
text_at (Some (boolean b)) m tail p e = absurd (true≢false (sym e))
text_at (Some (number b)) m tail p e = absurd (true≢false (sym e))
text_at (Some (array b)) m tail p e = absurd (true≢false (sym e))
text_at (Some (object b)) m tail p e = absurd (true≢false (sym e))
text_at (Some (string s)) zero tail p e = absurd (omega arith)
text_at (Some (string s)) (suc m) tail p e = refl

pub record Kept (o : Option Data) (j : Option (List ℕ)) : Type 0 where
  pub is : o ≡ Some (unwrap_or o null)
  pub id : text_id (unwrap_or o null) ≡ j

pub kept : (n : ℕ) (d : Data) (rest : List Data) → is_some (text_id d) ≡ true → depth d < n → Kept (merge_within n (d ∷ rest)) (text_id d)
kept zero d rest e low = absurd (omega arith)
kept (suc n) null rest e low = absurd (true≢false (sym e))
kept (suc n) (boolean b) rest e low = absurd (true≢false (sym e))
kept (suc n) (number b) rest e low = absurd (true≢false (sym e))
kept (suc n) (string b) rest e low = absurd (true≢false (sym e))
kept (suc n) (array b) rest e low = absurd (true≢false (sym e))
kept (suc n) (object ms) rest e low =
    record {
      is = refl;
      id = ap (option_and_then as_str) (get_objects (merge_within n) (empty_to n) (ms ∷ object_run rest) (codes "id"))
          ∙ text_at (get_member (codes "id") ms) n (column_at (codes "id") (object_run rest)) (omega arith) e;
    }

kept_head : (n : ℕ) (j : List ℕ) (xs : List Data) → Head n j xs → Kept (merge_within n xs) (Some j)
kept_head n j xs h =
    subst (λ (ys : List Data). Kept (merge_within n ys) (Some j)) (sym h.is) (subst (λ (o : Option (List ℕ)). Kept (merge_within n (h.first ∷ h.rest)) o) h.id (kept n h.first h.rest (ap is_some h.id) h.low))

pub picked : (n : ℕ) (s : List Data) → HaveIds s → Below n s → (j : List ℕ) → among j s ≡ true → Kept (merge_within n (filter (has j) s)) (Some j)
picked n s ids_in low j h = kept_head n j _ (head_of n j s ids_in low h)

-- ---- each id occurs once

abbrev pub Distinct : List (List ℕ) → Type 0
Distinct [] = Unit {0}
Distinct (j ∷ js) = (list_any (bytes_eq j) js ≡ false) × Distinct js

either : (a b : Bool) → a ≡ false → b ≡ false → (a || b) ≡ false
either true b e f = e
either false b e f = f

distinct_push : (js : List (List ℕ)) (i : List ℕ) → Distinct js → list_any (bytes_eq i) js ≡ false → Distinct (js ++ i ∷ [])
distinct_push [] i d h = (refl, tt)
distinct_push (j ∷ js) i d h =
    (list_any-append (bytes_eq j) js (i ∷ []) ∙ either _ _ d.0 (either _ _ (flipped i j (or_left _ _ h)) refl), distinct_push js i d.1 (or_right _ _ h))

distinct_at : (d : Data) (s : List Data) (b : Bool) → among (id_of d) s ≡ b → Distinct (ids_in s) → Distinct (cond b (ids_in s) (ids_in s ++ id_of d ∷ []))
distinct_at d s true e h = h
distinct_at d s false e h = distinct_push (ids_in s) (id_of d) h e

pub distinct_ids : (s : List Data) → Distinct (ids_in s)
distinct_ids [] = tt
distinct_ids (d ∷ s) = distinct_at d s _ refl (distinct_ids s)

-- ---- lists with an item for each id

abbrev pub Named : (List ℕ → Data) → List (List ℕ) → Type 0
Named f [] = Unit {0}
Named f (j ∷ js) = (id_of (f j) ≡ j) × Named f js

pub named_all : (f : List ℕ → Data) (js : List (List ℕ)) → ((j : List ℕ) → list_any (bytes_eq j) js ≡ true → id_of (f j) ≡ j) → Named f js
named_all f [] h = tt
named_all f (j ∷ js) h = (h j (rw (tied j)), named_all f js (λ k e. h k (rw e (or_true (bytes_eq k j)))))

find_at : (f : List ℕ → Data) (i j : List ℕ) (js : List (List ℕ)) (b : Bool) → bytes_eq j i ≡ b → find_item i (map f js) ≡ cond (list_any (bytes_eq i) js) (Some (f i)) None
    → cond b (Some (f j)) (find_item i (map f js)) ≡ cond (bytes_eq i j || list_any (bytes_eq i) js) (Some (f i)) None
find_at f i j js true e h =
    let same : j ≡ i = (bytes_eq-Decides j i).0 e in
    subst (λ (x : List ℕ). Some (f j) ≡ cond (bytes_eq x j || list_any (bytes_eq x) js) (Some (f x)) None) same (rw (tied j))
find_at f i j js false e h = h ∙ rw (flipped j i e)

pub find_map : (f : List ℕ → Data) (i : List ℕ) (js : List (List ℕ)) → Named f js → find_item i (map f js) ≡ cond (list_any (bytes_eq i) js) (Some (f i)) None
find_map f i [] h = refl
find_map f i (j ∷ js) h = rw h.0 (find_at f i j js _ refl (find_map f i js h.1))

-- the two functions agree except at this id
abbrev pub Changes : (List ℕ → Data) → (List ℕ → Data) → List ℕ → Type 0
Changes f g i = (j : List ℕ) → bytes_eq i j ≡ false → g j ≡ f j

pub map_apart : (f g : List ℕ → Data) (i : List ℕ) (js : List (List ℕ)) → Changes f g i → list_any (bytes_eq i) js ≡ false → map g js ≡ map f js
map_apart f g i [] c h = refl
map_apart f g i (j ∷ js) c h =
    let e : bytes_eq i j ≡ false = or_left _ _ h in
    let l : list_any (bytes_eq i) js ≡ false = or_right (bytes_eq i j) _ h in
    rw (c j e, map_apart f g i js c l)

pub set_none : (f : List ℕ → Data) (i : List ℕ) (x : Data) (js : List (List ℕ)) → Named f js → list_any (bytes_eq i) js ≡ false → set_item i x (map f js) ≡ map f js ++ x ∷ []
set_none f i x [] n h = refl
set_none f i x (j ∷ js) n h = rw (n.0, flipped i j (or_left _ _ h)) (ap (λ (r : List Data). f j ∷ r) (set_none f i x js n.1 (or_right _ _ h)))

set_at : (f g : List ℕ → Data) (i j : List ℕ) (js : List (List ℕ)) (b : Bool) → bytes_eq j i ≡ b → Changes f g i → Distinct (j ∷ js)
    → (list_any (bytes_eq i) js ≡ true → set_item i (g i) (map f js) ≡ map g js) → (bytes_eq i j || list_any (bytes_eq i) js) ≡ true
    → cond b (g i ∷ map f js) (f j ∷ set_item i (g i) (map f js)) ≡ g j ∷ map g js
set_at f g i j js true e c d later h =
    let same : j ≡ i = (bytes_eq-Decides j i).0 e in
    let none : list_any (bytes_eq i) js ≡ false = subst (λ (x : List ℕ). list_any (bytes_eq x) js ≡ false) same d.0 in
    rw (map_apart f g i js c none, same)
set_at f g i j js false e c d later h =
    let apart = flipped j i e in
    rw (c j apart) (ap (λ (r : List Data). f j ∷ r) (later (rw apart at h)))

pub set_map : (f g : List ℕ → Data) (i : List ℕ) (js : List (List ℕ)) → Changes f g i → Named f js → Distinct js → list_any (bytes_eq i) js ≡ true → set_item i (g i) (map f js) ≡ map g js
set_map f g i [] c n d h = absurd (true≢false (sym h))
set_map f g i (j ∷ js) c n d h = rw n.0 (set_at f g i j js _ refl c d (set_map f g i js c n.1 d.1) h)
