-- The members and items of a merge, in the order in which a text is read.
use Rattle.ocds_merge.proofs.Names.{◌≡◌, ◌≢◌, ℕ, ◌+◌, ◌-◌, ◌<◌, List, [], ◌∷◌, ◌++◌, Bool, true, false, Option, Some, None, Less, Equal, Greater, refl, sym, ap, ◌∙◌, subst, append_assoc, decimal, arith, length, cond, ◌==◌, pos, negsuc, suc, ◌⊎◌, inl, inr, ◌≤◌, Ordering, MatchOption, unwrap_or, ordering_reverse, length-append, nat_list_cmp_total, tied_itself, exact_bytes, decimal_is_IsNumeral, ne_eqb, cases_eq, cases_lt, AllDigits, digit_value, escape_byte, escape, quoted, Num, unsigned, negative, float, Data, null, boolean, number, string, array, object, Items, no_items, item, Members, no_members, member, put, get_member, compact_text, items_text, members_text, number_text, comma_if, has_float, escape_byte_plain, put_present, members_without, scan, in_string, IsPlain, step, step_members, IsInRange, AllAbove, IsOrdered, TextIsKept, AreItemsKept, AreMembersKept, EndsBefore, no_comma, StandAt, StartsFrom, SameText, IsProper}
use Rattle.ocds_merge.specs.Inside.Scan.{between}
use Rattle.ocds_merge.specs.Inside.Splice.{Passed}
use Rattle.ocds_merge.proofs.MemberLemmas.{bytes_cmp, here}
use Rattle.ocds_merge.proofs.MergeLaw.{merged_law}
use Rattle.ocds_merge.proofs.StorableLaw.{OptPlain, or_null_plain, merged_plain}
use Rattle.ocds_merge.proofs.ScanLaw.{scan-escape, Each, each_sound}

-- ---- a scan over the text of a value

scan-quoted : (n : ℕ) (s r : List ℕ) → scan n between (quoted s ++ r) ≡ scan n between r
scan-quoted n s r = ap (scan n in_string) (append_assoc (escape s) (34 ∷ []) r) ∙ scan-escape n s r

scan-digit : (n c : ℕ) (r : List ℕ) → digit_value c < 10 → scan n between (c ∷ r) ≡ scan n between r
scan-digit n c r h = rw (
  ne_eqb c 34 (λ e. grind arith),
  ne_eqb c 123 (λ e. grind arith),
  ne_eqb c 91 (λ e. grind arith),
  ne_eqb c 125 (λ e. grind arith),
  ne_eqb c 93 (λ e. grind arith),
  ne_eqb c 44 (λ e. grind arith),
) refl

scan-digits : (n : ℕ) (ds r : List ℕ) → AllDigits 10 ds → scan n between (ds ++ r) ≡ scan n between r
scan-digits n [] r h = refl
scan-digits n (d ∷ ds) r h = scan-digit n d (ds ++ r) h.0 ∙ scan-digits n ds r h.1

scan-number : (n : ℕ) (x : Num) (r : List ℕ) → IsInRange x → scan n between (number_text x ++ r) ≡ scan n between r
scan-number n (unsigned x) r h = scan-digits n (decimal x) r (decimal_is_IsNumeral x h).0.1
scan-number n (negative (pos x)) r h = absurd h
scan-number n (negative (negsuc x)) r h = scan-digits n (decimal (suc x)) r (decimal_is_IsNumeral (suc x) (omega (arith, h))).0.1
scan-number n (float x) r h = absurd h

nonzero : (n : ℕ) → ((n + 1) == 0) ≡ false
nonzero n = ne_eqb (n + 1) 0 (λ e. omega arith)

less_one : (n : ℕ) → (n + 1) - 1 ≡ n
less_one n = omega arith

scan-comma : (later : Bool) (n : ℕ) (r : List ℕ) → scan (n + 1) between (comma_if later ++ r) ≡ scan (n + 1) between r
scan-comma true n r = rw (nonzero n) refl
scan-comma false n r = refl

scan-close : (n : ℕ) (r : List ℕ) → scan (n + 1) between (125 ∷ r) ≡ scan n between r
scan-close n r = rw (nonzero n, less_one n) refl

scan-close_array : (n : ℕ) (r : List ℕ) → scan (n + 1) between (93 ∷ r) ≡ scan n between r
scan-close_array n r = rw (nonzero n, less_one n) refl

group : (a b c r : List ℕ) → (a ++ (b ++ c)) ++ r ≡ a ++ (b ++ (c ++ r))
group a b c r = append_assoc a (b ++ c) r ∙ ap (λ (s : List ℕ). a ++ s) (append_assoc b c r)

pub group_member : (a q b c r : List ℕ) → (a ++ (q ++ 58 ∷ (b ++ c))) ++ r ≡ a ++ (q ++ 58 ∷ (b ++ (c ++ r)))
group_member a q b c r = group a q (58 ∷ (b ++ c)) r ∙ ap (λ (s : List ℕ). a ++ (q ++ 58 ∷ s)) (append_assoc b c r)

mutual
  pub scan-value : (n : ℕ) (d : Data) (r : List ℕ) → TextIsKept d → scan n between (compact_text d ++ r) ≡ scan n between r
  scan-value n null r h = refl
  scan-value n (boolean true) r h = refl
  scan-value n (boolean false) r h = refl
  scan-value n (number x) r h = scan-number n x r h
  scan-value n (string s) r h = scan-quoted n s r
  scan-value n (array ds) r h = scan-items n false ds r h
  scan-value n (object ms) r h = scan-members n false ms r h.1

  pub scan-items : (n : ℕ) (later : Bool) (ds : Items) (r : List ℕ) → AreItemsKept ds → scan (n + 1) between (items_text later ds ++ r) ≡ scan n between r
  scan-items n later no_items r h = scan-close_array n r
  scan-items n later (item d ds) r h =
      ap (scan (n + 1) between) (group (comma_if later) (compact_text d) (items_text true ds) r)
      ∙ scan-comma later n _ ∙ scan-value (n + 1) d (items_text true ds ++ r) h.0 ∙ scan-items n true ds r h.1

  pub scan-members : (n : ℕ) (later : Bool) (ms : Members) (r : List ℕ) → AreMembersKept ms → scan (n + 1) between (members_text later ms ++ r) ≡ scan n between r
  scan-members n later no_members r h = scan-close n r
  scan-members n later (member k d ms) r h =
      ap (scan (n + 1) between) (group_member (comma_if later) (quoted k) (compact_text d) (members_text true ms) r)
      ∙ scan-comma later n _ ∙ scan-quoted (n + 1) k _ ∙ scan-value (n + 1) d (members_text true ms ++ r) h.0 ∙ scan-members n true ms r h.1

-- ---- members one after another

put_past : (k l : List ℕ) (o : Option Data) (e : Data) (ms : Members) → bytes_cmp k l ≡ Greater → put_present k o (member l e ms) ≡ member l e (put_present k o ms)
put_past k l None e ms h = refl
put_past k l (Some d) e ms h = rw h refl

-- a member that comes before all names of the other object stays as it is
pub passes_over : (l : List ℕ) (e : Data) (ms ts : Members) → AllAbove l ms → step_members (member l e ts) ms ≡ member l e (step_members ts ms)
passes_over l e no_members ts h = refl
passes_over l e (member k d ms) ts h =
    let past : bytes_cmp k l ≡ Greater = h.1 in
    let got : get_member k (member l e ts) ≡ get_member k ts = rw past refl in
    let out : members_without k (member l e ts) ≡ member l e (members_without k ts) = rw past refl in
    ap (λ (o : Option Data). step_members (put_present k (step o d) (members_without k (member l e ts))) ms) got
    ∙ ap (λ (r : Members). step_members (put_present k (step (get_member k ts) d) r) ms) out
    ∙ ap (λ (r : Members). step_members r ms) (put_past k l (step (get_member k ts) d) e (members_without k ts) past)
    ∙ passes_over l e ms (put_present k (step (get_member k ts) d) (members_without k ts)) h.2

pub lacks_below : (k : List ℕ) (ts : Members) → AllAbove k ts → get_member k ts ≡ None
lacks_below k no_members h = refl
lacks_below k (member l e ts) h = rw (h.0) (lacks_below k ts h.2)

pub without_below : (k : List ℕ) (ts : Members) → AllAbove k ts → members_without k ts ≡ ts
without_below k no_members h = refl
without_below k (member l e ts) h = rw (h.0) (ap (member l e) (without_below k ts h.2))

pub put_below : (k : List ℕ) (d : Data) (ts : Members) → AllAbove k ts → put k d ts ≡ member k d ts
put_below k d no_members h = refl
put_below k d (member l e ts) h = rw (h.0) refl

-- ---- names without escapes

abbrev Shape : ℕ → Type 0
Shape x = ((escape_byte x ≡ x ∷ []) × (x ≢ 34) × (x ≢ 92)) ⊎ ((t : List ℕ) × (escape_byte x ≡ 92 ∷ t))

control_shapes : Each Shape 32
unfolding escape_byte
control_shapes = (inr (_, refl), (inr (_, refl), (inr (_, refl), (inr (_, refl), (inr (_, refl), (inr (_, refl), (inr (_, refl), (inr (_, refl), (inr (_, refl), (inr (_, refl), (inr (_, refl), (inr (_, refl), (inr (_, refl), (inr (_, refl), (inr (_, refl), (inr (_, refl), (inr (_, refl), (inr (_, refl), (inr (_, refl), (inr (_, refl), (inr (_, refl), (inr (_, refl), (inr (_, refl), (inr (_, refl), (inr (_, refl), (inr (_, refl), (inr (_, refl), (inr (_, refl), (inr (_, refl), (inr (_, refl), (inr (_, refl), (inr (_, refl), tt))))))))))))))))))))))))))))))))

quote_shape : Shape 34
unfolding escape_byte
quote_shape = inr (34 ∷ [], refl)

backslash_shape : Shape 92
unfolding escape_byte
backslash_shape = inr (92 ∷ [], refl)

shape : (x : ℕ) → Shape x
shape x = go (cases_eq x 34) (cases_eq x 92) (cases_lt x 32)
  where
    go : (x ≡ 34) ⊎ (x ≡ 34 → ⊥) → (x ≡ 92) ⊎ (x ≡ 92 → ⊥) → (x < 32) ⊎ (32 ≤ x) → Shape x
    go (inl e) b c = subst Shape (sym e) quote_shape
    go (inr q) (inl e) c = subst Shape (sym e) backslash_shape
    go (inr q) (inr b) (inl c) = each_sound Shape 32 control_shapes x c
    go (inr q) (inr b) (inr l) = inl (escape_byte_plain x q b l, q, b)

head_of : List ℕ → ℕ
head_of [] = 0
head_of (c ∷ r) = c

tail_of : List ℕ → List ℕ
tail_of [] = []
tail_of (c ∷ r) = r

pub heads : (a b : ℕ) (s t : List ℕ) → a ∷ s ≡ b ∷ t → a ≡ b
unfolding head_of
heads a b s t h = ap head_of h

pub tails : (a b : ℕ) (s t : List ℕ) → a ∷ s ≡ b ∷ t → s ≡ t
unfolding tail_of
tails a b s t h = ap tail_of h

plain_at : (x : ℕ) (k name a b : List ℕ) → IsPlain name → escape_byte x ++ (escape k ++ 34 ∷ a) ≡ name ++ 34 ∷ b → Shape x
    → ((n : List ℕ) → IsPlain n → escape k ++ 34 ∷ a ≡ n ++ 34 ∷ b → (k ≡ n) × (a ≡ b)) → (x ∷ k ≡ name) × (a ≡ b)
plain_at x k [] a b p h (inl s) later = absurd (s.1 (heads x 34 (escape k ++ 34 ∷ a) b (ap (λ (t : List ℕ). t ++ (escape k ++ 34 ∷ a)) (sym s.0) ∙ h)))
plain_at x k [] a b p h (inr s) later = absurd (let e : 92 ≡ 34 = heads 92 34 (s.0 ++ (escape k ++ 34 ∷ a)) b (ap (λ (t : List ℕ). t ++ (escape k ++ 34 ∷ a)) (sym s.1) ∙ h) in omega (arith, e))
plain_at x k (c ∷ name) a b p h (inr s) later =
    absurd (p.1 (sym (heads 92 c (s.0 ++ (escape k ++ 34 ∷ a)) (name ++ 34 ∷ b) (ap (λ (t : List ℕ). t ++ (escape k ++ 34 ∷ a)) (sym s.1) ∙ h))))
plain_at x k (c ∷ name) a b p h (inl s) later =
    let e : x ∷ (escape k ++ 34 ∷ a) ≡ c ∷ (name ++ 34 ∷ b) = ap (λ (t : List ℕ). t ++ (escape k ++ 34 ∷ a)) (sym s.0) ∙ h in
    let r = later name p.2 (tails x c (escape k ++ 34 ∷ a) (name ++ 34 ∷ b) e) in
    (ap (λ (y : ℕ). y ∷ k) (heads x c (escape k ++ 34 ∷ a) (name ++ 34 ∷ b) e) ∙ ap (λ (t : List ℕ). c ∷ t) r.0, r.1)

pub plain_name : (k name a b : List ℕ) → IsPlain name → escape k ++ 34 ∷ a ≡ name ++ 34 ∷ b → (k ≡ name) × (a ≡ b)
plain_name [] [] a b p h = (refl, tails 34 34 a b h)
plain_name [] (c ∷ name) a b p h = absurd (p.0 (sym (heads 34 c a (name ++ 34 ∷ b) h)))
plain_name (x ∷ k) name a b p h = plain_at x k name a b p (sym (append_assoc (escape_byte x) (escape k) (34 ∷ a)) ∙ h) (shape x) (λ n q e. plain_name k n a b q e)

-- ---- the next member

-- if a member is read, there is one: its name, and the text from its value on
pub no_member_here : (rest s : List ℕ) {A : Type 0} → members_text false no_members ++ rest ≡ 34 ∷ s → A
no_member_here rest s h = absurd (let e : 125 ≡ 34 = heads 125 34 rest s h in omega (arith, e))

pub member_here : (k name value rest : List ℕ) (d : Data) (ts : Members) → IsPlain name
    → members_text false (member k d ts) ++ rest ≡ 34 ∷ (name ++ 34 ∷ 58 ∷ value)
    → (k ≡ name) × (value ≡ compact_text d ++ (members_text true ts ++ rest))
member_here k name value rest d ts p h =
    let e = group_member [] (quoted k) (compact_text d) (members_text true ts) rest in
    let inside : (escape k ++ 34 ∷ []) ++ 58 ∷ (compact_text d ++ (members_text true ts ++ rest)) ≡ name ++ 34 ∷ 58 ∷ value = tails 34 34 _ _ (sym e ∙ h) in
    let r = plain_name k name (58 ∷ (compact_text d ++ (members_text true ts ++ rest))) (58 ∷ value) p (sym (append_assoc (escape k) (34 ∷ []) _) ∙ inside) in
    (r.0, sym (tails 58 58 _ _ r.1))

-- the text of the members after one, which ends a value
pub ends_before_members : (ts : Members) (rest : List ℕ) → EndsBefore (members_text true ts ++ rest)
ends_before_members no_members rest = refl
ends_before_members (member k d ts) rest = refl

pub no_comma_members : (later : Bool) (ts : Members) (rest : List ℕ) → no_comma (members_text later ts ++ rest) ≡ members_text false ts ++ rest
no_comma_members true no_members rest = refl
no_comma_members false no_members rest = refl
no_comma_members true (member k d ts) rest = refl
no_comma_members false (member k d ts) rest = refl

pub after_member : (d : Data) (ts : Members) (rest value : List ℕ) → TextIsKept d → value ≡ compact_text d ++ (members_text true ts ++ rest)
    → scan 0 between value ≡ members_text true ts ++ rest
after_member d ts rest value h is = ap (scan 0 between) is ∙ scan-value 0 d (members_text true ts ++ rest) h ∙ ends_before_members ts rest

-- ---- names in order

pub below_from_above : (k l : List ℕ) → bytes_cmp k l ≡ Greater → bytes_cmp l k ≡ Less
below_from_above k l h = nat_list_cmp_total.antisymm l k ∙ ap ordering_reverse h

pub above_after : (k l : List ℕ) (ms : Members) → bytes_cmp k l ≡ Less → AllAbove l ms → AllAbove k ms
above_after k l no_members h a = tt
above_after k l (member m d ms) h a = (let less : bytes_cmp k m ≡ Less = nat_list_cmp_total.trans k l m h a.0 in (less, nat_list_cmp_total.antisymm m k ∙ ap ordering_reverse less, above_after k l ms h a.2))

-- ---- a member that is copied

joined : (new comma q e y : List ℕ) → (new ++ (comma ++ (q ++ 58 ∷ e))) ++ y ≡ new ++ (comma ++ (q ++ 58 ∷ (e ++ y)))
joined new comma q e y =
    append_assoc new (comma ++ (q ++ 58 ∷ e)) y
    ∙ ap (λ (s : List ℕ). new ++ s) (append_assoc comma (q ++ 58 ∷ e) y ∙ ap (λ (s : List ℕ). comma ++ s) (append_assoc q (58 ∷ e) y))

pass_at : (name m : List ℕ) (d : Data) (ms ts : Members) (rest old : List ℕ) (later : Bool) (left new : List ℕ) (more : Bool) (whole value left' new' : List ℕ)
    (others : Members) → StandAt left others rest → SameText old later (step_members ts (member name d ms)) new more (step_members others (member name d ms))
    → AllAbove name ms → no_comma left ≡ whole → whole ≡ 34 ∷ (m ++ 34 ∷ 58 ∷ value) → IsPlain m → bytes_cmp name m ≡ Greater
    → left' ≡ scan 0 between value → ((span : List ℕ) → whole ≡ span ++ left' → new' ≡ new ++ (comma_if more ++ span))
    → Passed name d ms ts rest old later left' new' true
pass_at name m d ms ts rest old later left new more whole value left' new' no_members stand same above is form plain greater after copied =
    no_member_here rest _ (sym stand.stands ∙ is ∙ form)
pass_at name m d ms ts rest old later left new more whole value left' new' (member k e others) stand same above is form plain greater after copied =
    let r = member_here k m value rest e others plain (sym stand.stands ∙ is ∙ form) in
    let goes : left' ≡ members_text true others ++ rest = after ∙ after_member e others rest value stand.kept.0 r.1 in
    let bigger : bytes_cmp name k ≡ Greater = subst (λ (x : List ℕ). bytes_cmp name x ≡ Greater) (sym r.0) greater in
    let less : bytes_cmp k name ≡ Less = below_from_above name k bigger in
    let all : AllAbove k (member name d ms) = (less, bigger, above_after k name ms less above) in
    let span : List ℕ = quoted k ++ 58 ∷ compact_text e in
    let whole_is : whole ≡ span ++ left' =
    sym is ∙ stand.stands ∙ group_member [] (quoted k) (compact_text e) (members_text true others) rest
    ∙ sym (append_assoc (quoted k) (58 ∷ compact_text e) (members_text true others ++ rest))
    ∙ ap (λ (s : List ℕ). span ++ s) (sym goes) in
    let pend : Members = member name d ms in
    record {
      others = others;
      stand = record {
        stands = ap no_comma goes ∙ no_comma_members true others rest;
        order = stand.order.1;
        kept = stand.kept.1;
      };
      same = ap (λ (s : List ℕ). s ++ members_text true (step_members others pend)) (copied span whole_is)
          ∙ joined new (comma_if more) (quoted k) (compact_text e) (members_text true (step_members others pend))
          ∙ ap (λ (ss : Members). new ++ members_text more ss) (sym (passes_over k e pend others all))
          ∙ same;
    }

pub pass_one : (name m : List ℕ) (d : Data) (ms ts : Members) (rest old : List ℕ) (later : Bool) (left new : List ℕ) (more : Bool) (whole value left' new' : List ℕ)
    → Passed name d ms ts rest old later left new more
    → AllAbove name ms → no_comma left ≡ whole → whole ≡ 34 ∷ (m ++ 34 ∷ 58 ∷ value) → IsPlain m → bytes_cmp name m ≡ Greater
    → left' ≡ scan 0 between value → ((span : List ℕ) → whole ≡ span ++ left' → new' ≡ new ++ (comma_if more ++ span))
    → Passed name d ms ts rest old later left' new' true
pass_one name m d ms ts rest old later left new more whole value left' new' p = pass_at name m d ms ts rest old later left new more whole value left' new' p.others p.stand p.same

-- no member is left
pub none_left : (name left : List ℕ) (ts : Members) (rest s : List ℕ) → StandAt left ts rest → no_comma left ≡ 125 ∷ s → StartsFrom name ts
none_left name left no_members rest s h e = tt
none_left name left (member k d ts) rest s h e = absurd (let z : 34 ≡ 125 = heads 34 125 _ s (sym h.stands ∙ e) in omega (arith, z))

-- the next member doesn't come before this name
pub not_below : (name left : List ℕ) (ts : Members) (rest m whole value : List ℕ) → StandAt left ts rest → no_comma left ≡ whole → whole ≡ 34 ∷ (m ++ 34 ∷ 58 ∷ value) → IsPlain m
    → bytes_cmp name m ≢ Greater → StartsFrom name ts
not_below name left no_members rest m whole value h is form plain other = tt
not_below name left (member k d ts) rest m whole value h is form plain other =
    let r = member_here k m value rest d ts plain (sym h.stands ∙ is ∙ form) in
    (λ e. other (subst (λ (x : List ℕ). bytes_cmp name x ≡ Greater) r.0 e))

pub some_case : {A : Type 0} (N : Type 0) (S : A → Type 0) (o : Option A) (x : A) → o ≡ Some x → MatchOption o N S → S x
some_case {A} N S o x e h = subst (λ (r : Option A). MatchOption r N S) e h

pub none_case : {A : Type 0} (N : Type 0) (S : A → Type 0) (o : Option A) → o ≡ None → MatchOption o N S → N
none_case {A} N S o e h = subst (λ (r : Option A). MatchOption r N S) e h

-- ---- the remaining text gets shorter

shorter_at : (b : Bool) (c : ℕ) (r : List ℕ) → length (cond b r (c ∷ r)) ≤ suc (length r)
shorter_at true c r = omega arith
shorter_at false c r = omega arith

no_comma_shorter : (l : List ℕ) → length (no_comma l) ≤ length l
no_comma_shorter [] = omega arith
no_comma_shorter (c ∷ r) = shorter_at (c == 44) c r

pub after_shorter : (left whole m value after : List ℕ) → no_comma left ≡ whole → whole ≡ 34 ∷ (m ++ 34 ∷ 58 ∷ value) → length after ≤ length value → length after < length left
after_shorter left whole m value after is form low =
    let a : length (no_comma left) ≤ length left = no_comma_shorter left in
    let b : length (no_comma left) ≡ suc (length (m ++ 34 ∷ 58 ∷ value)) = ap length (is ∙ form) in
    let e : length (m ++ 34 ∷ 58 ∷ value) ≡ length m + suc (suc (length value)) = length-append m (34 ∷ 58 ∷ value) in
    omega (arith, a, b, e, low)

-- ---- the remaining members

pub rest_at : (later : Bool) (ts : Members) (rest left whole after new old : List ℕ) (comma : Bool) → StandAt left ts rest → EndsBefore rest → whole ≡ no_comma left → after ≡ scan 1 between whole
    → ((s : List ℕ) → whole ≡ 125 ∷ s → comma ≡ false) → ((c : ℕ) (s : List ℕ) → whole ≡ c ∷ s → c ≢ 125 → comma ≡ later)
    → ((span : List ℕ) → whole ≡ span ++ after → new ≡ old ++ (comma_if comma ++ span))
    → (after ≡ rest) × (new ≡ old ++ members_text later ts)
rest_at later no_members rest left whole after new old comma h ends is scans end on copied =
    let all : whole ≡ 125 ∷ rest = is ∙ h.stands in
    let goes : after ≡ rest = scans ∙ ap (scan 1 between) all ∙ scan-close 0 rest ∙ ends in
    (goes, copied (125 ∷ []) (all ∙ ap (λ (s : List ℕ). 125 ∷ s) (sym goes)) ∙ ap (λ (b : Bool). old ++ (comma_if b ++ 125 ∷ [])) (end rest all))
rest_at later (member k d ts) rest left whole after new old comma h ends is scans end on copied =
    let ms : Members = member k d ts in
    let all : whole ≡ members_text false ms ++ rest = is ∙ h.stands in
    let goes : after ≡ rest = scans ∙ ap (scan 1 between) all ∙ scan-members 0 false ms rest h.kept ∙ ends in
    let same : comma ≡ later = on 34 _ all (λ z. omega (arith, z)) in
    (goes, copied (members_text false ms) (all ∙ ap (λ (s : List ℕ). members_text false ms ++ s) (sym goes)) ∙ ap (λ (b : Bool). old ++ (comma_if b ++ members_text false ms)) same)

-- ---- one member is merged

abbrev pub with_member : List ℕ → Option Data → Members → Members
with_member k None ms = ms
with_member k (Some d) ms = member k d ms

pub present : (name : List ℕ) (o : Option Data) (ts ms : Members) → AllAbove name ts → AllAbove name ms → step_members (put_present name o ts) ms ≡ with_member name o (step_members ts ms)
present name None ts ms a b = refl
present name (Some d) ts ms a b = ap (λ (r : Members). step_members r ms) (put_below name d ts a) ∙ passes_over name d ms ts b

-- the old object has the name
pub turn_found : (name : List ℕ) (e d : Data) (ts ms : Members) → AllAbove name ts → AllAbove name ms
    → step_members (member name e ts) (member name d ms) ≡ with_member name (step (Some e) d) (step_members ts ms)
turn_found name e d ts ms a b =
    let out : members_without name (member name e ts) ≡ ts = rw (tied_itself nat_list_cmp_total name) refl in
    ap (λ (o : Option Data). step_members (put_present name (step o d) (members_without name (member name e ts))) ms) (here name e ts)
    ∙ ap (λ (r : Members). step_members (put_present name (step (Some e) d) r) ms) out
    ∙ present name (step (Some e) d) ts ms a b

-- the old object doesn't have the name
pub turn_absent : (name : List ℕ) (d : Data) (ts ms : Members) → AllAbove name ts → AllAbove name ms
    → step_members ts (member name d ms) ≡ with_member name (step None d) (step_members ts ms)
turn_absent name d ts ms a b =
    ap (λ (o : Option Data). step_members (put_present name (step o d) (members_without name ts)) ms) (lacks_below name ts a)
    ∙ ap (λ (r : Members). step_members (put_present name (step None d) r) ms) (without_below name ts a)
    ∙ present name (step None d) ts ms a b

less_from : (o : Ordering) → (o ≡ Greater → ⊥) → (o ≡ Equal → ⊥) → o ≡ Less
less_from Less g e = refl
less_from Equal g e = absurd (e refl)
less_from Greater g e = absurd (g refl)

-- no name comes before this one, and the next isn't this one
pub above_from : (name l : List ℕ) (e : Data) (ts : Members) → IsOrdered (member l e ts) → bytes_cmp name l ≢ Greater → (name ≡ l → ⊥) → AllAbove name (member l e ts)
above_from name l e ts h start other =
    let less : bytes_cmp name l ≡ Less = less_from (bytes_cmp name l) start (λ q. other (exact_bytes name l q)) in
    (less, nat_list_cmp_total.antisymm l name ∙ ap ordering_reverse less, above_after name l ts less h.0)

-- ---- a new value

-- the merge of a value without floats has no float
pub new_plain : (v : Data) → IsProper v → has_float v ≡ false → has_float (unwrap_or (step None v) null) ≡ false
new_plain v p h = or_null_plain (step None v) (subst OptPlain (merged_law [] v p) (merged_plain (v ∷ []) (h, tt)))
