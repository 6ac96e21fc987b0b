-- A merge keeps the id of an item.
use Rattle.ocds_merge.proofs.Names.{◌≡◌, ℕ, List, [], Bool, true, false, ◌&&◌, Option, Some, None, is_some, option_map, option_and_then, unwrap_or, refl, sym, ap, ◌∙◌, subst, bytes_eq, codes, true≢false, IsStrictlySortedBy, bytes_eq-Decides, sorted_head, sorted_tail, Data, null, boolean, number, string, array, object, Members, no_members, member, put, get_member, as_str, view, Value, Null, get_member-put, text_id, id_of, names_of, put_present, members_without, IsProper, step, step_members, object_of}
use Rattle.ocds_merge.proofs.MemberLemmas.{bytes_cmp, skips, here, get_delete_other, get_put_some_other}
use Rattle.ocds_merge.proofs.ObjectLaw.{apart, above}
use Rattle.ocds_merge.proofs.CodeLemmas.{new_view}

-- ---- a merge leaves the id

abbrev after : List ℕ → Data → Members → Members
after k d ts = put_present k (step (get_member k ts) d) (members_without k ts)

absent_at : (b : Bool) (q k : List ℕ) (d : Data) (ms ts : Members) → bytes_eq q k ≡ b → get_member q (member k d ms) ≡ None
    → (get_member q ms ≡ None → get_member q (step_members (after k d ts) ms) ≡ get_member q (after k d ts))
    → get_member q (step_members ts (member k d ms)) ≡ get_member q ts
absent_at true q k d ms ts e h later =
    absurd (true≢false (ap is_some (sym (here q d ms) ∙ subst (λ (x : List ℕ). get_member q (member x d ms) ≡ None) (sym ((bytes_eq-Decides q k).0 e)) h)))
absent_at false q k d ms ts e h later =
    let other = apart q k e in
    later (sym (skips q k d ms other) ∙ h) ∙ get_put_some_other q k (step (get_member k ts) d) (members_without k ts) other ∙ get_delete_other q k ts other

absent : (q : List ℕ) (ms ts : Members) → get_member q ms ≡ None → get_member q (step_members ts ms) ≡ get_member q ts
absent q no_members ts h = refl
absent q (member k d ms) ts h = absent_at _ q k d ms ts refl h (absent q ms (after k d ts))

text_at : (b : Bool) (q k s : List ℕ) (d : Data) (ms ts : Members) → bytes_eq q k ≡ b → get_member k ms ≡ None → get_member q (member k d ms) ≡ Some (string s)
    → (get_member q ms ≡ Some (string s) → get_member q (step_members (after k d ts) ms) ≡ Some (string s))
    → get_member q (step_members ts (member k d ms)) ≡ Some (string s)
text_at true q k s d ms ts e none h later =
    let same : k ≡ q = sym ((bytes_eq-Decides q k).0 e) in
    let is : Some d ≡ Some (string s) = sym (here q d ms) ∙ subst (λ (x : List ℕ). get_member q (member x d ms) ≡ Some (string s)) same h in
    absent q ms (after k d ts) (subst (λ (x : List ℕ). get_member x ms ≡ None) same none)
    ∙ ap (λ (o : Option Data). get_member q (put_present k (step (get_member k ts) (unwrap_or o null)) (members_without k ts))) is
    ∙ subst (λ (x : List ℕ). get_member q (put x (string s) (members_without k ts)) ≡ Some (string s)) (sym same) (get_member-put q (string s) (members_without k ts))
text_at false q k s d ms ts e none h later = later (sym (skips q k d ms (apart q k e)) ∙ h)

text : (q s : List ℕ) (ms ts : Members) → IsStrictlySortedBy bytes_cmp (names_of ms) → get_member q ms ≡ Some (string s)
    → get_member q (step_members ts ms) ≡ Some (string s)
text q s no_members ts p h = absurd (true≢false (sym (ap is_some h)))
text q s (member k d ms) ts p h =
    text_at _ q k s d ms ts refl (above k ms (sorted_head bytes_cmp k (names_of ms) p)) h (text q s ms (after k d ts) (sorted_tail bytes_cmp k (names_of ms) p))

kept_at : (o : Option Data) (ms ts : Members) → IsStrictlySortedBy bytes_cmp (names_of ms) → get_member (codes "id") ms ≡ o
    → is_some (option_and_then as_str o) ≡ true
    → unwrap_or (option_and_then as_str (get_member (codes "id") (step_members ts ms))) [] ≡ unwrap_or (option_and_then as_str o) []
kept_at None ms ts p h e = absurd (true≢false (sym e))
kept_at (Some null) ms ts p h e = absurd (true≢false (sym e))
kept_at (Some (boolean b)) ms ts p h e = absurd (true≢false (sym e))
kept_at (Some (number b)) ms ts p h e = absurd (true≢false (sym e))
kept_at (Some (array b)) ms ts p h e = absurd (true≢false (sym e))
kept_at (Some (object b)) ms ts p h e = absurd (true≢false (sym e))
kept_at (Some (string s)) ms ts p h e = ap (λ (r : Option Data). unwrap_or (option_and_then as_str r) []) (text (codes "id") s ms ts p h)

pub kept_id : (t : Option Data) (d : Data) → IsProper d → is_some (text_id d) ≡ true → id_of (unwrap_or (step t d) null) ≡ id_of d
kept_id t null p e = refl
kept_id t (boolean b) p e = refl
kept_id t (number b) p e = refl
kept_id t (string b) p e = refl
kept_id t (array b) p e = absurd (true≢false (sym e))
kept_id t (object ms) p e = kept_at (get_member (codes "id") ms) ms (object_of t) p.0 refl e

pub new_id : (t : Option Data) (new : Option Value) (b : Value) (d : Data) → IsProper d → is_some (text_id d) ≡ true → option_map view new ≡ step t d
    → b ≡ unwrap_or new Null → id_of (view b) ≡ id_of d
new_id t new b d proper e made is = ap id_of (new_view new b _ is made) ∙ kept_id t d proper e

-- ---- whether all items have ids

pub first_id : (a b : Bool) → (a && b) ≡ true → a ≡ true
first_id true b e = refl
first_id false b e = e

pub other_ids : (a b : Bool) → (a && b) ≡ true → b ≡ true
other_ids true b e = e
other_ids false b e = absurd (true≢false (sym e))
