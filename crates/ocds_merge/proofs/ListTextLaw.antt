-- The items of a list in its text, and their ids.
use Rattle.ocds_merge.proofs.Names.{◌≡◌, ◌≢◌, ℕ, ◌<◌, suc, pos, negsuc, List, [], ◌∷◌, ◌++◌, Bool, true, false, Some, option_and_then, refl, sym, ap, ◌∙◌, subst, append_assoc, arith, decimal, length, ◌⊎◌, inl, inr, decimal_is_IsNumeral, decimal_nonempty, ne_eqb, AllDigits, digit_value, escape, Num, unsigned, negative, float, Data, null, boolean, number, string, array, object, Items, no_items, item, Members, no_members, member, get_member, as_str, compact_text, items_text, members_text, number_text, text_member, scan, IsPlain, IsInRange, TextIsKept, AreItemsKept, EndsBefore, no_comma, StandAt, Searched, FoundAt}
use Rattle.ocds_merge.specs.Inside.Scan.{between}
use Rattle.ocds_merge.proofs.MemberLemmas.{here, skips}
use Rattle.ocds_merge.proofs.SpliceLaw.{heads, tails, plain_name, no_member_here, member_here, after_member, no_comma_members}

-- ---- the first byte of a value

abbrev pub Lead : Data → ℕ → Type 0
Lead null c = c ≡ 110
Lead (boolean true) c = c ≡ 116
Lead (boolean false) c = c ≡ 102
Lead (number n) c = (c ≡ 45) ⊎ (digit_value c < 10)
Lead (string s) c = c ≡ 34
Lead (array ds) c = c ≡ 91
Lead (object ms) c = c ≡ 123

pub record Led (d : Data) (text : List ℕ) : Type 0 where
  pub first : ℕ
  pub after : List ℕ
  pub is : text ≡ first ∷ after
  pub lead : Lead d first

digits_lead : (x : ℕ) (ds r : List ℕ) → AllDigits 10 ds → 0 < length ds → (c : ℕ) × (s : List ℕ) × (ds ++ r ≡ c ∷ s) × (digit_value c < 10)
digits_lead x [] r h some = absurd (omega arith)
digits_lead x (d ∷ ds) r h some = (d, ds ++ r, refl, h.0)

number_led : (n : Num) (r : List ℕ) → IsInRange n → Led (number n) (number_text n ++ r)
number_led (unsigned n) r h =
    let p = digits_lead n (decimal n) r (decimal_is_IsNumeral n h).0.1 (decimal_nonempty n h) in
    record { first = p.0; after = p.1; is = p.2; lead = inr p.3 }
number_led (negative (pos n)) r h = absurd h
number_led (negative (negsuc n)) r h = record { first = 45; after = decimal (suc n) ++ r; is = refl; lead = inl refl }
number_led (float x) r h = absurd h

pub led : (d : Data) (r : List ℕ) → TextIsKept d → Led d (compact_text d ++ r)
led null r h = record { first = 110; after = _; is = refl; lead = refl }
led (boolean true) r h = record { first = 116; after = _; is = refl; lead = refl }
led (boolean false) r h = record { first = 102; after = _; is = refl; lead = refl }
led (number n) r h = number_led n r h
led (string s) r h = record { first = 34; after = _; is = refl; lead = refl }
led (array ds) r h = record { first = 91; after = _; is = refl; lead = refl }
led (object ms) r h = record { first = 123; after = _; is = refl; lead = refl }

pub not_object : (d : Data) (c : ℕ) → Lead d c → c ≡ 123 → (ms : Members) × (d ≡ object ms)
not_object null c h e = absurd (omega (arith, h, e))
not_object (boolean true) c h e = absurd (omega (arith, h, e))
not_object (boolean false) c h e = absurd (omega (arith, h, e))
not_object (number n) c (inl h) e = absurd (omega (arith, h, e))
not_object (number n) c (inr h) e = absurd (grind arith)
not_object (string s) c h e = absurd (omega (arith, h, e))
not_object (array ds) c h e = absurd (omega (arith, h, e))
not_object (object ms) c h e = (ms, refl)

pub not_array : (d : Data) (c : ℕ) → Lead d c → c ≡ 91 → (ds : Items) × (d ≡ array ds)
not_array null c h e = absurd (omega (arith, h, e))
not_array (boolean true) c h e = absurd (omega (arith, h, e))
not_array (boolean false) c h e = absurd (omega (arith, h, e))
not_array (number n) c (inl h) e = absurd (omega (arith, h, e))
not_array (number n) c (inr h) e = absurd (grind arith)
not_array (string s) c h e = absurd (omega (arith, h, e))
not_array (array ds) c h e = (ds, refl)
not_array (object ms) c h e = absurd (omega (arith, h, e))

pub not_string : (d : Data) (c : ℕ) → Lead d c → c ≡ 34 → (s : List ℕ) × (d ≡ string s)
not_string null c h e = absurd (omega (arith, h, e))
not_string (boolean true) c h e = absurd (omega (arith, h, e))
not_string (boolean false) c h e = absurd (omega (arith, h, e))
not_string (number n) c (inl h) e = absurd (omega (arith, h, e))
not_string (number n) c (inr h) e = absurd (grind arith)
not_string (string s) c h e = (s, refl)
not_string (array ds) c h e = absurd (omega (arith, h, e))
not_string (object ms) c h e = absurd (omega (arith, h, e))

pub opens_well : (d : Data) (c : ℕ) → Lead d c → (c ≢ 93) × (c ≢ 44)
opens_well null c h = (λ e. omega (arith, h, e), λ e. omega (arith, h, e))
opens_well (boolean true) c h = (λ e. omega (arith, h, e), λ e. omega (arith, h, e))
opens_well (boolean false) c h = (λ e. omega (arith, h, e), λ e. omega (arith, h, e))
opens_well (number n) c (inl h) = (λ e. omega (arith, h, e), λ e. omega (arith, h, e))
opens_well (number n) c (inr h) = (λ e. grind arith, λ e. grind arith)
opens_well (string s) c h = (λ e. omega (arith, h, e), λ e. omega (arith, h, e))
opens_well (array ds) c h = (λ e. omega (arith, h, e), λ e. omega (arith, h, e))
opens_well (object ms) c h = (λ e. omega (arith, h, e), λ e. omega (arith, h, e))

-- ---- the member `id`

pub search_one : (name : List ℕ) (ts : Members) (rest left m whole value after : List ℕ) → Searched name ts rest left → no_comma left ≡ whole → whole ≡ 34 ∷ (m ++ 34 ∷ 58 ∷ value) → IsPlain m
    → (m ≡ name → ⊥) → after ≡ scan 0 between value → Searched name ts rest after
search_one name ts rest left m whole value after s = go s.others s.stand s.same
  where
    go : (os : Members) → StandAt left os rest → get_member name os ≡ get_member name ts → no_comma left ≡ whole → whole ≡ 34 ∷ (m ++ 34 ∷ 58 ∷ value) → IsPlain m
        → (m ≡ name → ⊥) → after ≡ scan 0 between value → Searched name ts rest after
    go no_members h same is form plain other goes = no_member_here rest _ (sym h.stands ∙ is ∙ form)
    go (member k d os) h same is form plain other goes =
        let r = member_here k m value rest d os plain (sym h.stands ∙ is ∙ form) in
        let there : after ≡ members_text true os ++ rest = goes ∙ after_member d os rest value h.kept.0 r.1 in
        record {
          others = os;
          stand = record { stands = ap no_comma there ∙ no_comma_members true os rest; order = h.order.1; kept = h.kept.1 };
          same = sym (skips name k d os (λ e. other (sym (e ∙ r.0)))) ∙ same;
        }

pub found_one : (name : List ℕ) (ts : Members) (rest left m whole value : List ℕ) → Searched name ts rest left → no_comma left ≡ whole → whole ≡ 34 ∷ (m ++ 34 ∷ 58 ∷ value) → IsPlain m
    → m ≡ name → FoundAt name ts rest value
found_one name ts rest left m whole value s = go s.others s.stand s.same
  where
    go : (os : Members) → StandAt left os rest → get_member name os ≡ get_member name ts → no_comma left ≡ whole → whole ≡ 34 ∷ (m ++ 34 ∷ 58 ∷ value) → IsPlain m
        → m ≡ name → FoundAt name ts rest value
    go no_members h same is form plain e = no_member_here rest _ (sym h.stands ∙ is ∙ form)
    go (member k d os) h same is form plain e =
        let r = member_here k m value rest d os plain (sym h.stands ∙ is ∙ form) in
        record {
          old = d;
          others = os;
          found = sym same ∙ ap (λ (x : List ℕ). get_member name (member x d os)) (r.0 ∙ e) ∙ here name d os;
          kept = h.kept;
          text = r.1;
        }

-- ---- a text member of an object

pub record Opened (d : Data) (rest inside : List ℕ) : Type 0 where
  pub members : Members
  pub is : d ≡ object members
  pub text : inside ≡ members_text false members ++ rest
  pub kept : TextIsKept (object members)
  pub stand : StandAt inside members rest

pub opened : (d : Data) (rest text inside : List ℕ) → TextIsKept d → text ≡ compact_text d ++ rest → text ≡ 123 ∷ inside → Opened d rest inside
opened d rest text inside h is form =
    let l = led d rest h in
    let o = not_object d l.first l.lead (heads l.first 123 l.after inside (sym l.is ∙ sym is ∙ form)) in
    let kept : TextIsKept (object o.0) = subst TextIsKept o.1 h in
    let inner : inside ≡ members_text false o.0 ++ rest = tails 123 123 _ _ (sym form ∙ is ∙ ap (λ (x : Data). compact_text x ++ rest) o.1) in
    record { members = o.0; is = o.1; text = inner; kept = kept; stand = record { stands = ap no_comma inner ∙ no_comma_members false o.0 rest; order = kept.0; kept = kept.1 } }

member_text : (name : List ℕ) (ms : Members) (old : Data) (s found : List ℕ) → get_member name ms ≡ Some old → old ≡ string s → s ≡ found
    → text_member name (object ms) ≡ Some found
member_text name ms old s found there is same =
    ap (option_and_then as_str) (there ∙ ap Some is) ∙ ap Some same

pub text_at : (name : List ℕ) (d : Data) (rest inside value quote id after : List ℕ) → (o : Opened d rest inside) → FoundAt name o.members rest value → value ≡ 34 ∷ quote
    → quote ≡ id ++ 34 ∷ after → IsPlain id → text_member name d ≡ Some id
text_at name d rest inside value quote id after o f starts form plain =
    let tail = members_text true f.others ++ rest in
    let l = led f.old tail f.kept.0 in
    let s = not_string f.old l.first l.lead (heads l.first 34 l.after quote (sym l.is ∙ sym f.text ∙ starts)) in
    let inner : (escape s.0 ++ 34 ∷ []) ++ tail ≡ id ++ 34 ∷ after = tails 34 34 _ _ (sym (f.text ∙ ap (λ (x : Data). compact_text x ++ tail) s.1) ∙ starts) ∙ form in
    let r = plain_name s.0 id tail after plain (sym (append_assoc (escape s.0) (34 ∷ []) tail) ∙ inner) in
    ap (text_member name) o.is ∙ member_text name o.members f.old s.0 id f.found s.1 r.0

-- ---- one item after another

pub ends_before_items : (ds : Items) (rest : List ℕ) → EndsBefore (items_text true ds ++ rest)
ends_before_items no_items rest = refl
ends_before_items (item d ds) rest = refl

pub record OpenedList (d : Data) (rest inside : List ℕ) : Type 0 where
  pub items : Items
  pub is : d ≡ array items
  pub text : inside ≡ items_text false items ++ rest
  pub kept : AreItemsKept items

pub opened_list : (d : Data) (rest text inside : List ℕ) → TextIsKept d → text ≡ compact_text d ++ rest → text ≡ 91 ∷ inside → OpenedList d rest inside
opened_list d rest text inside h is form =
    let l = led d rest h in
    let o = not_array d l.first l.lead (heads l.first 91 l.after inside (sym l.is ∙ sym is ∙ form)) in
    record { items = o.0; is = o.1; text = tails 91 91 _ _ (sym form ∙ is ∙ ap (λ (x : Data). compact_text x ++ rest) o.1); kept = subst TextIsKept o.1 h }

no_comma_led : (c : ℕ) (s : List ℕ) → c ≢ 44 → no_comma (c ∷ s) ≡ c ∷ s
no_comma_led c s other = rw (ne_eqb c 44 other) refl

pub item_first : (d : Data) (ds : Items) (rest : List ℕ) → items_text false (item d ds) ++ rest ≡ compact_text d ++ (items_text true ds ++ rest)
item_first d ds rest = append_assoc (compact_text d) (items_text true ds) rest

pub no_comma_items : (later : Bool) (ds : Items) (rest : List ℕ) → AreItemsKept ds → no_comma (items_text later ds ++ rest) ≡ items_text false ds ++ rest
no_comma_items true no_items rest h = refl
no_comma_items false no_items rest h = refl
no_comma_items true (item d ds) rest h = refl
no_comma_items false (item d ds) rest h =
    let l = led d (items_text true ds ++ rest) h.0 in
    let e : items_text false (item d ds) ++ rest ≡ l.first ∷ l.after = item_first d ds rest ∙ l.is in
    ap no_comma e ∙ no_comma_led l.first l.after (opens_well d l.first l.lead).1 ∙ sym e
