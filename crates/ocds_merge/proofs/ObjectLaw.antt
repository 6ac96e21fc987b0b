-- Objects: the value that a merge has at a name, and one more object.
use Rattle.ocds_merge.proofs.Names.{◌≡◌, ◌<◌, ℕ, suc, List, [], ◌∷◌, ◌++◌, Bool, true, false, cond, ◌||◌, Option, Some, None, option_to_list, Ordering, Less, Equal, Greater, refl, sym, ap, ◌∙◌, subst, arith, bytes_eq, true≢false, list_any, AllByRecursion, IsStrictlySortedBy, match_ordering, le-max_left, le-max_right, bytes_eq-Decides, list_any-append, sorted_head, sorted_tail, nat_list_cmp_total, tied_itself, Data, null, boolean, number, string, array, object, Members, no_members, member, depth, members_depth, get_member, get_member-put, object_run, column_at, names_of, names_in, put_present, merge_names, merge_objects, members_without, step, step_members, IsProper, AreMembersProper}
use Rattle.ocds_merge.proofs.MemberLemmas.{bytes_cmp, IsSorted, same_members, skips, get_delete, get_delete_other, sorted_delete, sorted_put_some, get_put_some, get_put_some_other}

-- each value nests less than `n` levels
abbrev pub Below : ℕ → List Data → Type 0
Below n [] = Unit {0}
Below n (v ∷ vs) = (depth v < n) × Below n vs

abbrev pub AllBelow : ℕ → List Members → Type 0
AllBelow n [] = Unit {0}
AllBelow n (ms ∷ run) = (members_depth ms < n) × AllBelow n run

pub below_append : (n : ℕ) (xs ys : List Data) → Below n xs → Below n ys → Below n (xs ++ ys)
below_append n [] ys h g = g
below_append n (x ∷ xs) ys h g = (h.0, below_append n xs ys h.1 g)

below_at : (o : Ordering) (n : ℕ) (d : Data) (x : Option Data) → depth d < n → Below n (option_to_list x) → Below n (option_to_list (match_ordering o x (Some d) x))
below_at Less n d x p h = h
below_at Equal n d x p h = (p, tt)
below_at Greater n d x p h = h

found_below : (n : ℕ) (k : List ℕ) (ms : Members) → members_depth ms < n → Below n (option_to_list (get_member k ms))
found_below n k no_members h = tt
found_below n k (member l e ms) h =
    below_at (bytes_cmp k l) n e _ (omega (arith, le-max_left (depth e) (members_depth ms))) (found_below n k ms (omega (arith, le-max_right (depth e) (members_depth ms))))

pub column_below : (n : ℕ) (k : List ℕ) (run : List Members) → AllBelow n run → Below n (column_at k run)
column_below n k [] h = tt
column_below n k (ms ∷ run) h = below_append n _ _ (found_below n k ms h.0) (column_below n k run h.1)

pub objects_below : (n : ℕ) (vs : List Data) → Below (suc n) vs → AllBelow n (object_run vs)
objects_below n [] h = tt
objects_below n (null ∷ vs) h = tt
objects_below n (boolean b ∷ vs) h = tt
objects_below n (number b ∷ vs) h = tt
objects_below n (string b ∷ vs) h = tt
objects_below n (array b ∷ vs) h = tt
objects_below n (object ms ∷ vs) h = (omega arith, objects_below n vs h.1)

-- ---- a merge's members

pub apart : (q k : List ℕ) → bytes_eq q k ≡ false → q ≡ k → ⊥
apart q k e s = true≢false (sym ((bytes_eq-Decides q k).1 s) ∙ e)

none_either : (b : Bool) → cond b (let n : Option Data = None in n) None ≡ None
none_either true = refl
none_either false = refl

put_same : (o : Option Data) (any : Bool) (q : List ℕ) (rest : Members) → get_member q rest ≡ cond any o None → get_member q (put_present q o rest) ≡ o
put_same None any q rest h = h ∙ none_either any
put_same (Some d) any q rest h = get_member-put q d rest

names_at : (M : List Data → Option Data) (run : List Members) (q k : List ℕ) (rest : Members) (any b : Bool) → bytes_eq q k ≡ b → get_member q rest ≡ cond any (M (column_at q run)) None
    → get_member q (put_present k (M (column_at k run)) rest) ≡ cond (b || any) (M (column_at q run)) None
names_at M run q k rest any true e h =
    subst (λ (x : List ℕ). get_member q (put_present x (M (column_at x run)) rest) ≡ M (column_at q run)) ((bytes_eq-Decides q k).0 e) (put_same (M (column_at q run)) any q rest h)
names_at M run q k rest any false e h = get_put_some_other q k _ rest (apart q k e) ∙ h

get_names : (M : List Data → Option Data) (run : List Members) (q : List ℕ) (ks : List (List ℕ)) → get_member q (merge_names M run ks) ≡ cond (list_any (bytes_eq q) ks) (M (column_at q run)) None
get_names M run q [] = refl
get_names M run q (k ∷ ks) = names_at M run q k _ _ _ refl (get_names M run q ks)

pub or_left : (a b : Bool) → (a || b) ≡ false → a ≡ false
or_left true b e = e
or_left false b e = refl

pub or_right : (a b : Bool) → (a || b) ≡ false → b ≡ false
or_right true b e = absurd (true≢false e)
or_right false b e = e

not_among : (q : List ℕ) (ms : Members) → list_any (bytes_eq q) (names_of ms) ≡ false → get_member q ms ≡ None
not_among q no_members h = refl
not_among q (member k d ms) h = skips q k d ms (apart q k (or_left _ _ h)) ∙ not_among q ms (or_right _ _ h)

no_column : (q : List ℕ) (run : List Members) → list_any (bytes_eq q) (names_in run) ≡ false → column_at q run ≡ []
no_column q [] h = refl
no_column q (ms ∷ run) h =
    let e = sym (list_any-append (bytes_eq q) (names_of ms) (names_in run)) ∙ h in
    rw (not_among q ms (or_left _ _ e)) (no_column q run (or_right _ _ e))

at_any : (M : List Data → Option Data) → M [] ≡ None → (q : List ℕ) (run : List Members) (b : Bool) → list_any (bytes_eq q) (names_in run) ≡ b → cond b (M (column_at q run)) None ≡ M (column_at q run)
at_any M none q run true e = refl
at_any M none q run false e = sym (ap M (no_column q run e) ∙ none)

-- at each name there is the merge of its column
pub get_objects : (M : List Data → Option Data) → M [] ≡ None → (run : List Members) (q : List ℕ) → get_member q (merge_objects M run) ≡ M (column_at q run)
get_objects M none run q = get_names M run q (names_in run) ∙ at_any M none q run _ refl

pub sorted_names : (M : List Data → Option Data) (run : List Members) (ks : List (List ℕ)) → IsSorted (merge_names M run ks)
sorted_names M run [] = tt
sorted_names M run (k ∷ ks) = sorted_put_some k (M (column_at k run)) (merge_names M run ks) (sorted_names M run ks)

-- ---- a step's members

abbrev step_at : Option Data → Option Data → Option Data
step_at None t = t
step_at (Some d) t = step t d

pub above : (k : List ℕ) (ms : Members) → AllByRecursion (λ y. bytes_cmp k y ≡ Less) (names_of ms) → get_member k ms ≡ None
above k no_members h = refl
above k (member l e ms) h = rw h.0 (above k ms h.1)

turn_at : (b : Bool) (q k : List ℕ) (d : Data) (ms ts : Members) → bytes_eq q k ≡ b → get_member k ms ≡ None → IsSorted ts
    → step_at (get_member q ms) (get_member q (put_present k (step (get_member k ts) d) (members_without k ts))) ≡ step_at (get_member q (member k d ms)) (get_member q ts)
turn_at true q k d ms ts e none s =
    let same : k ≡ q = sym ((bytes_eq-Decides q k).0 e) in
    subst (λ (x : List ℕ). step_at (get_member x ms) (get_member x (put_present k (step (get_member k ts) d) (members_without k ts))) ≡ step_at (get_member x (member k d ms)) (get_member x ts)) same
    (rw (none, get_put_some k (step (get_member k ts) d) (members_without k ts) (get_delete k ts s), tied_itself nat_list_cmp_total k))
turn_at false q k d ms ts e none s =
    let other = apart q k e in
    rw (skips q k d ms other, get_put_some_other q k (step (get_member k ts) d) (members_without k ts) other, get_delete_other q k ts other)

sorted_turn : (k : List ℕ) (d : Data) (ts : Members) → IsSorted ts → IsSorted (put_present k (step (get_member k ts) d) (members_without k ts))
sorted_turn k d ts s = sorted_put_some k (step (get_member k ts) d) (members_without k ts) (sorted_delete k ts s)

get_step : (q : List ℕ) (ms ts : Members) → IsStrictlySortedBy bytes_cmp (names_of ms) → IsSorted ts → get_member q (step_members ts ms) ≡ step_at (get_member q ms) (get_member q ts)
get_step q no_members ts p s = refl
get_step q (member k d ms) ts p s =
    get_step q ms (put_present k (step (get_member k ts) d) (members_without k ts)) (sorted_tail bytes_cmp k (names_of ms) p) (sorted_turn k d ts s)
    ∙ turn_at _ q k d ms ts refl (above k ms (sorted_head bytes_cmp k (names_of ms) p)) s

sorted_step : (ms ts : Members) → IsSorted ts → IsSorted (step_members ts ms)
sorted_step no_members ts s = s
sorted_step (member k d ms) ts s = sorted_step ms (put_present k (step (get_member k ts) d) (members_without k ts)) (sorted_turn k d ts s)

-- ---- one more object

-- the law for the levels below
abbrev pub Steps : ℕ → (List Data → Option Data) → Type 0
Steps n M = (d : Data) (vs : List Data) → depth d < n → IsProper d → Below n vs → M (d ∷ vs) ≡ step (M vs) d

abbrev Good : ℕ → Option Data → Type 0
Good n None = Unit {0}
Good n (Some d) = (depth d < n) × IsProper d

good_at : (o : Ordering) (n : ℕ) (d : Data) (x : Option Data) → (depth d < n) × IsProper d → Good n x → Good n (match_ordering o x (Some d) x)
good_at Less n d x p h = h
good_at Equal n d x p h = p
good_at Greater n d x p h = h

good : (n : ℕ) (q : List ℕ) (ms : Members) → members_depth ms < n → AreMembersProper ms → Good n (get_member q ms)
good n q no_members h p = tt
good n q (member l e ms) h p =
    good_at (bytes_cmp q l) n e _ (omega (arith, le-max_left (depth e) (members_depth ms)), p.0) (good n q ms (omega (arith, le-max_right (depth e) (members_depth ms))) p.1)

at_member : (n : ℕ) (M : List Data → Option Data) → Steps n M → (o : Option Data) (vs : List Data) → Good n o → Below n vs → M (option_to_list o ++ vs) ≡ step_at o (M vs)
at_member n M steps None vs g h = refl
at_member n M steps (Some d) vs g h = steps d vs g.0 g.1 h

pub objects_law : (n : ℕ) (M : List Data → Option Data) → M [] ≡ None → Steps n M → (ms : Members) (run : List Members) → members_depth ms < n → IsProper (object ms) → AllBelow n run
    → merge_objects M (ms ∷ run) ≡ step_members (merge_objects M run) ms
objects_law n M none steps ms run low p below =
    let sorted = sorted_names M run (names_in run) in
    same_members _ _ (sorted_names M (ms ∷ run) (names_in (ms ∷ run))) (sorted_step ms (merge_objects M run) sorted)
    (λ q. get_objects M none (ms ∷ run) q
    ∙ at_member n M steps (get_member q ms) (column_at q run) (good n q ms low p.1) (column_below n q run below)
    ∙ sym (get_step q ms (merge_objects M run) p.0 sorted ∙ ap (step_at (get_member q ms)) (get_objects M none run q)))
