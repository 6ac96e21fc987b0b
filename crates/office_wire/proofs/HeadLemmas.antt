use Rattle.office_wire.proofs.Names.{drop-cons, add-one, ◌≡◌, ◌≢◌, ℕ, ◌+◌, ◌*◌, ◌-◌, ◌<◌, ◌≤◌, ◌⊎◌, inl, inr, zero, suc, List, [], ◌∷◌, ◌++◌, length, take, drop, get_or, refl, sym, ap, subst, arith, ◌∙◌, Bool, true, false, cond, append_assoc, length-append, ◌==◌, ◌&&◌, ◌||◌, All, list_any, flat_map, All-head, All-tail, eqb-true, nat_tests, get_or-drop, take_at, take-append-le, append-nil, same_from_push, take-append-drop, list_any-append, IsTrue, token_is_no_newline, is_token_byte, is_uri_byte, EndsInTarget, RequestHead, ReadsRequest, print_request, print_blank, print_version, HasNoRequest, MayBecomeRequest, NeverHasRequest, LineEnd, crlf, lf, print_end, print_section, print_field, Field, IsField, RequestExceeds, IsRequestOf, HeaderSpan, RequestSpans, spans_view, ReadsRequest-append, print_request-append, skip_empty, first_line_ends, StandsHead, IsLongHead, IsBadHead, view_of}

-- ---- empty lines

pub skip_lf : (rest : List ℕ) → skip_empty (10 ∷ rest) ≡ skip_empty rest
unfolding skip_empty
skip_lf [] = refl
skip_lf (b ∷ rest) = refl

pub skip_crlf : (rest : List ℕ) → skip_empty (13 ∷ 10 ∷ rest) ≡ skip_empty rest
unfolding skip_empty
skip_crlf rest = refl

pub skip_at_lf : (bytes : List ℕ) (at : ℕ) → at < length bytes → get_or bytes at 0 ≡ 10 → skip_empty (drop (at + 1) bytes) ≡ skip_empty (drop at bytes)
skip_at_lf bytes at within is =
    let e : drop at bytes ≡ 10 ∷ drop (suc at) bytes = drop-cons bytes at 0 within ∙ ap (λ b. b ∷ drop (suc at) bytes) is in
    ap (λ k. skip_empty (drop k bytes)) (add-one at) ∙ sym (ap skip_empty e ∙ skip_lf (drop (suc at) bytes))

pub skip_at_crlf : (bytes : List ℕ) (at : ℕ) → at + 1 < length bytes → get_or bytes at 0 ≡ 13 → get_or bytes (at + 1) 0 ≡ 10 → skip_empty (drop (at + 2) bytes) ≡ skip_empty (drop at bytes)
skip_at_crlf bytes at within cr is =
    let e : drop at bytes ≡ 13 ∷ drop (suc at) bytes = drop-cons bytes at 0 (omega arith) ∙ ap (λ b. b ∷ drop (suc at) bytes) cr in
    let f : drop (at + 1) bytes ≡ 10 ∷ drop (suc (at + 1)) bytes = drop-cons bytes (at + 1) 0 within ∙ ap (λ b. b ∷ drop (suc (at + 1)) bytes) is in
    let g : drop at bytes ≡ 13 ∷ 10 ∷ drop (suc (at + 1)) bytes = e ∙ (ap (λ k. 13 ∷ drop k bytes) (sym (add-one at)) ∙ ap (λ t. 13 ∷ t) f) in
    let two : at + 2 ≡ suc (at + 1) = omega arith in
    ap (λ k. skip_empty (drop k bytes)) two ∙ sym (ap skip_empty g ∙ skip_crlf (drop (suc (at + 1)) bytes))

skip_other : (a : ℕ) (rest : List ℕ) → (a == 10) ≡ false → ((a == 13) && (get_or rest 0 0 == 10)) ≡ false → skip_empty (a ∷ rest) ≡ a ∷ rest
unfolding skip_empty
skip_other a [] h k = rw h refl
skip_other a (b ∷ rest) h k = rw (h, k) refl

test_false : (a b : ℕ) → a ≢ b → (a == b) ≡ false
test_false a b h = grind (arith, nat_tests)

and_false : (b : Bool) → (b && false) ≡ false
and_false true = refl
and_false false = refl

get_or_past : (xs : List ℕ) (i d : ℕ) → length xs ≤ i → get_or xs i d ≡ d
get_or_past [] i d h = refl
get_or_past (x ∷ xs) zero d h = absurd (no h)
  where
    no : length (x ∷ xs) ≤ 0 → ⊥
    no l = omega arith
get_or_past (x ∷ xs) (suc i) d h = get_or_past xs i d (omega arith)

pub skip_stop : (bytes : List ℕ) (at : ℕ) → at < length bytes → get_or bytes at 0 ≢ 10 → (get_or bytes at 0 ≢ 13) ⊎ (length bytes ≤ at + 1) ⊎ (get_or bytes (at + 1) 0 ≢ 10) → drop at bytes ≡ skip_empty (drop at bytes)
skip_stop bytes at within other pair =
    let e = drop-cons bytes at 0 within in
    let next : get_or (drop (suc at) bytes) 0 0 ≡ get_or bytes (at + 1) 0 = get_or-drop (suc at) bytes 0 0 ∙ ap (λ k. get_or bytes k 0) (omega arith) in
    rw e (sym (skip_other (get_or bytes at 0) (drop (suc at) bytes) (test_false _ 10 other) (rw next (pair_false pair))))
  where
    pair_false : (get_or bytes at 0 ≢ 13) ⊎ (length bytes ≤ at + 1) ⊎ (get_or bytes (at + 1) 0 ≢ 10) → ((get_or bytes at 0 == 13) && (get_or bytes (at + 1) 0 == 10)) ≡ false
    pair_false (inl h) = rw (test_false _ 13 h) refl
    pair_false (inr (inl h)) = rw (get_or_past bytes (at + 1) 0 h) (and_false (get_or bytes at 0 == 13))
    pair_false (inr (inr h)) = rw (test_false _ 10 h) (and_false (get_or bytes at 0 == 13))

skip_blank : (es : List LineEnd) (w : List ℕ) → skip_empty (print_blank es ++ w) ≡ skip_empty w
skip_blank [] w = refl
skip_blank (crlf ∷ es) w = skip_crlf (print_blank es ++ w) ∙ skip_blank es w
skip_blank (lf ∷ es) w = skip_lf (print_blank es ++ w) ∙ skip_blank es w

none_lf : (test : ℕ → Bool) → ((b : ℕ) → test b ≡ true → (b == 10) ≡ false) → (bytes : List ℕ) → All (λ b. IsTrue (test b)) bytes → list_any (λ b. b == 10) bytes ≡ false
none_lf test other [] all = refl
none_lf test other (b ∷ bytes) all = rw (other b (All-head (λ b. IsTrue (test b)) b bytes all)) (none_lf test other bytes (All-tail (λ b. IsTrue (test b)) b bytes all))

or_false : (a b : Bool) → (a || b) ≡ false → (a ≡ false) × (b ≡ false)
or_false true b h = cc h
or_false false b h = (refl, h)

token_other : (b : ℕ) → is_token_byte b ≡ true → ((b == 13) ≡ false) × ((b == 10) ≡ false)
token_other b h = or_false (b == 13) (b == 10) (token_is_no_newline b h)

uri_other : (b : ℕ) → is_uri_byte b ≡ true → (b == 10) ≡ false
uri_other b h = grind (arith, nat_tests)

skip_token : (b : ℕ) (rest : List ℕ) → is_token_byte b ≡ true → skip_empty (b ∷ rest) ≡ b ∷ rest
skip_token b rest h = skip_other b rest (token_other b h).1 (rw (token_other b h).0 refl)

-- ---- the last byte of a head

ends_lf : (end : LineEnd) → (xs : List ℕ) × (print_end end ≡ xs ++ 10 ∷ [])
ends_lf crlf = (13 ∷ [], refl)
ends_lf lf = ([], refl)

regroup : (a b c d e : List ℕ) → a ++ ((b ++ c ++ d) ++ e) ≡ ((a ++ b ++ c) ++ d) ++ e
regroup a b c d e = simp append_assoc refl

-- the lines before the last empty one end with a line feed
lines_end : (front : List ℕ) (line : LineEnd) (fields : List Field) → (xs : List ℕ) × ((front ++ print_end line) ++ flat_map print_field fields ≡ xs ++ 10 ∷ [])
lines_end front line [] = by (ends_lf line)
  where
    by : ((xs : List ℕ) × (print_end line ≡ xs ++ 10 ∷ [])) → (xs : List ℕ) × ((front ++ print_end line) ++ [] ≡ xs ++ 10 ∷ [])
    by (xs, e) = (front ++ xs, append-nil (front ++ print_end line) ∙ (ap (λ (t : List ℕ). front ++ t) e ∙ sym (append_assoc front xs (10 ∷ []))))
lines_end front line (f ∷ fields) = by (lines_end (front ++ print_end line ++ f.name ++ 58 ∷ f.raw) f.end fields)
  where
    by : ((xs : List ℕ) × ((((front ++ print_end line ++ f.name ++ 58 ∷ f.raw) ++ print_end f.end) ++ flat_map print_field fields) ≡ xs ++ 10 ∷ [])) → (xs : List ℕ) × ((front ++ print_end line) ++ flat_map print_field (f ∷ fields) ≡ xs ++ 10 ∷ [])
    by (xs, e) = (xs, regroup (front ++ print_end line) f.name (58 ∷ f.raw) (print_end f.end) (flat_map print_field fields) ∙ e)

-- a head ends with an empty line after another line
pub head_ends : (h : RequestHead) → (xs : List ℕ) × (print_request h ≡ xs ++ 10 ∷ print_end h.last)
unfolding print_request
head_ends h = by (lines_end (print_blank h.blank ++ h.method ++ 32 ∷ h.target ++ 32 ∷ print_version h.minor) h.line_end h.fields)
  where
    by : ((xs : List ℕ) × ((print_blank h.blank ++ h.method ++ 32 ∷ h.target ++ 32 ∷ print_version h.minor ++ print_end h.line_end) ++ flat_map print_field h.fields ≡ xs ++ 10 ∷ [])) → (xs : List ℕ) × (print_request h ≡ xs ++ 10 ∷ print_end h.last)
    by (xs, e) = (
      xs,
      sym (append_assoc (print_blank h.blank ++ h.method ++ 32 ∷ h.target ++ 32 ∷ print_version h.minor ++ print_end h.line_end) (flat_map print_field h.fields) (print_end h.last))
          ∙ (ap (λ (t : List ℕ). t ++ print_end h.last) e ∙ append_assoc xs (10 ∷ []) (print_end h.last)),
    )

-- a list is empty, or has a last element
pub last_of : (xs : List ℕ) → (xs ≡ []) ⊎ ((ys : List ℕ) × (y : ℕ) × (xs ≡ ys ++ y ∷ []))
last_of [] = inl refl
last_of (x ∷ xs) = inr (elim (last_of xs) [
  | inl none ↦ ([], x, ap (λ t. x ∷ t) none)
  | inr more ↦ (x ∷ more.0, more.1, ap (λ t. x ∷ t) more.2)
])

-- if the bytes before the last one are no head, a head ends at the last byte
pub whole_head : (buf : List ℕ) (b : ℕ) (h : RequestHead) (rest : List ℕ) → HasNoRequest buf → ReadsRequest (buf ++ b ∷ []) h rest → rest ≡ []
whole_head buf b h rest none r = elim (last_of rest) [
  | inl e ↦ e
  | inr more ↦
      let e : buf ++ b ∷ [] ≡ (print_request h ++ more.0) ++ more.1 ∷ [] = r.1 ∙ (ap (λ (t : List ℕ). print_request h ++ t) more.2 ∙ sym (append_assoc (print_request h) more.0 (more.1 ∷ []))) in
      absurd (none h more.0 (r.0, (same_from_push buf (print_request h ++ more.0) b more.1 e).0))
]

-- without an empty line at the end, bytes don't become a head
pub no_head_push : (buf : List ℕ) (b : ℕ) → HasNoRequest buf → ((front : List ℕ) (end : LineEnd) → buf ++ b ∷ [] ≡ front ++ 10 ∷ print_end end → ⊥) → HasNoRequest (buf ++ b ∷ [])
no_head_push buf b none other h rest r =
    let whole = whole_head buf b h rest none r in
    let (xs, ends) = head_ends h in
    other xs h.last (r.1 ∙ (ap (λ (t : List ℕ). print_request h ++ t) whole ∙ (append-nil (print_request h) ∙ ends)))

-- a byte that isn't a line feed ends no line
pub no_line_feed : (buf : List ℕ) (b : ℕ) → b ≢ 10 → (front : List ℕ) (end : LineEnd) → buf ++ b ∷ [] ≡ front ++ 10 ∷ print_end end → ⊥
no_line_feed buf b other front lf e = other (same_from_push buf (front ++ 10 ∷ []) b 10 (e ∙ sym (append_assoc front (10 ∷ []) (10 ∷ [])))).1
no_line_feed buf b other front crlf e = other (same_from_push buf (front ++ 10 ∷ 13 ∷ []) b 10 (e ∙ sym (append_assoc front (10 ∷ 13 ∷ []) (10 ∷ [])))).1

-- bytes that aren't line feeds make no head
pub no_head_quiet : (buf more : List ℕ) → All (λ b. b ≢ 10) more → HasNoRequest buf → HasNoRequest (buf ++ more)
no_head_quiet buf [] quiet none = subst HasNoRequest (sym (append-nil buf)) none
no_head_quiet buf (b ∷ more) quiet none =
    let next = no_head_push buf b none (no_line_feed buf b (All-head (λ c. c ≢ 10) b more quiet)) in
    subst HasNoRequest (append_assoc buf (b ∷ []) more) (no_head_quiet (buf ++ b ∷ []) more (All-tail (λ c. c ≢ 10) b more quiet) next)

-- empty lines alone aren't a head
pub no_head_blank : (bytes : List ℕ) → skip_empty bytes ≡ [] → HasNoRequest bytes
no_head_blank bytes blank h rest r = by h.method r.0.method.0 r.0.method.1 (sym (ap skip_empty (r.1 ∙ print_request-append h rest) ∙ skip_blank h.blank (h.method ++ 32 ∷ tail)) ∙ blank)
  where
    tail : List ℕ
    tail = h.target ++ 32 ∷ (print_version h.minor ++ (print_end h.line_end ++ (print_section h.fields h.last ++ rest)))

    by : (m : List ℕ) → 0 < length m → All (λ b. IsTrue (is_token_byte b)) m → skip_empty (m ++ 32 ∷ tail) ≡ [] → ⊥
    by [] some all e = absurd (no some)
      where
        no : 0 < 0 → ⊥
        no l = omega arith
    by (b ∷ m) some all e = cc (sym (skip_token b (m ++ 32 ∷ tail) (All-head (λ c. IsTrue (is_token_byte c)) b m all)) ∙ e)

pub skip_nil : skip_empty [] ≡ []
unfolding skip_empty
skip_nil = refl

pub no_head_nil : HasNoRequest []
no_head_nil = no_head_blank [] skip_nil

-- the empty lines at the beginning can be skipped part by part
pub skip_append : (xs ys : List ℕ) → skip_empty (xs ++ ys) ≡ skip_empty (skip_empty xs ++ ys)
unfolding skip_empty
skip_append [] ys = refl
skip_append (a ∷ []) ys = by (a == 10) refl
  where
    by : (t : Bool) → (a == 10) ≡ t → skip_empty (a ∷ ys) ≡ skip_empty (cond t [] (a ∷ []) ++ ys)
    by true e = ap (λ b. skip_empty (b ∷ ys)) (eqb-true a 10 e) ∙ skip_lf ys
    by false e = refl
skip_append (a ∷ b ∷ rest) ys = by (a == 10) ((a == 13) && (b == 10)) refl refl (skip_append (b ∷ rest) ys) (skip_append rest ys)
  where
    by : (t u : Bool) → (a == 10) ≡ t → ((a == 13) && (b == 10)) ≡ u
        → skip_empty (b ∷ (rest ++ ys)) ≡ skip_empty (skip_empty (b ∷ rest) ++ ys)
        → skip_empty (rest ++ ys) ≡ skip_empty (skip_empty rest ++ ys)
        → skip_empty (a ∷ b ∷ (rest ++ ys)) ≡ skip_empty (cond t (skip_empty (b ∷ rest)) (cond u (skip_empty rest) (a ∷ b ∷ rest)) ++ ys)
    by true u e f one two = rw e one
    by false true e f one two = rw (e, f) two
    by false false e f one two = rw (e, f) refl

-- if both parts are empty lines, so is the whole
pub blank_on : (bytes : List ℕ) (at : ℕ) → skip_empty (take at bytes) ≡ [] → skip_empty (drop at bytes) ≡ [] → skip_empty bytes ≡ []
blank_on bytes at before behind =
    ap skip_empty (sym (take-append-drop at bytes)) ∙ (skip_append (take at bytes) (drop at bytes) ∙ (ap (λ (t : List ℕ). skip_empty (t ++ drop at bytes)) before ∙ behind))

-- known empty lines at the beginning remain so when bytes follow
pub blank_stays : (bytes more : List ℕ) (at : ℕ) → at ≤ length bytes → skip_empty (take at bytes) ≡ [] → skip_empty (take at (bytes ++ more)) ≡ []
blank_stays bytes more at within before = ap skip_empty (take-append-le at bytes more within) ∙ before

-- ---- the number of fields

end_long : (end : LineEnd) → 1 ≤ length (print_end end)
end_long crlf = omega arith
end_long lf = omega arith

field_long : (f : Field) → IsField f → 3 ≤ length (print_field f)
field_long f i =
    let a = length-append (f.name ++ 58 ∷ f.raw) (print_end f.end) in
    let b = length-append f.name (58 ∷ f.raw) in
    let e = end_long f.end in
    let n : 0 < length f.name = i.name.0 in
    omega arith

fields_long : (fs : List Field) → All IsField fs → 3 * length fs ≤ length (flat_map print_field fs)
fields_long [] all = omega arith
fields_long (f ∷ fs) all =
    let a = length-append (print_field f) (flat_map print_field fs) in
    let ih = fields_long fs (All-tail IsField f fs all) in
    let one = field_long f (All-head IsField f fs all) in
    omega arith

head_long : (h : RequestHead) → All IsField h.fields → 3 * length h.fields ≤ length (print_request h)
unfolding print_request
head_long h all =
    let front = print_blank h.blank ++ h.method ++ 32 ∷ h.target ++ 32 ∷ print_version h.minor ++ print_end h.line_end in
    let a = length-append front (flat_map print_field h.fields ++ print_end h.last) in
    let b = length-append (flat_map print_field h.fields) (print_end h.last) in
    let c = fields_long h.fields all in
    omega arith

-- 8,192 bytes hold no more than 2,731 fields
pub few_fields : (room : ℕ) (buf : List ℕ) → length buf ≤ 8192 → RequestExceeds room buf → room < 2731
few_fields room buf short x =
    let (front, rest, is, h, reads, over) = x in
    let a = length-append front rest in
    let b = length-append front (10 ∷ []) in
    let c = length-append (print_request h) [] in
    let d = head_long h reads.0.fields in
    let e : length buf ≡ length (front ++ rest) = ap length is in
    let f : length (front ++ 10 ∷ []) ≡ length (print_request h ++ []) = ap length reads.1 in
    omega arith

-- ---- from the bytes read to the whole input

-- if two texts are equal, a first part of the one begins with any shorter first part of the other
prefix_cut : (a b c d : List ℕ) → a ++ b ≡ c ++ d → length c ≤ length a → a ≡ c ++ drop (length c) a
prefix_cut a b c d e short =
    let front : take (length c) a ≡ c = sym (take-append-le (length c) a b short) ∙ (ap (take (length c)) e ∙ take_at c d (length c) refl) in
    sym (take-append-drop (length c) a) ∙ ap (λ t. t ++ drop (length c) a) front

-- if these bytes have no head, bytes that begin with them have no head of that length
no_head_within : (bytes rest : List ℕ) → HasNoRequest bytes → (h : RequestHead) (after : List ℕ) → ReadsRequest (bytes ++ rest) h after → length (print_request h) ≤ length bytes → ⊥
no_head_within bytes rest none h after r short =
    none h (drop (length (print_request h)) bytes) (r.0, prefix_cut bytes rest (print_request h) after r.1 short)

pub eof_bad : (bytes : List ℕ) → length bytes < 8192 → HasNoRequest bytes → IsBadHead bytes
eof_bad bytes short none = record { none = λ h rest s. none h rest s.reads; why = inl short }

first_line_stays : (bytes more : List ℕ) → first_line_ends bytes ≡ true → first_line_ends (bytes ++ more) ≡ true
unfolding skip_empty
first_line_stays [] more h = cc h
first_line_stays (a ∷ []) more h = absurd (none (a == 10) refl h)
  where
    none : (t : Bool) → (a == 10) ≡ t → list_any (λ b. b == 10) (cond t [] (a ∷ [])) ≡ true → ⊥
    none true e l = cc l
    none false e l = cc (rw e at l)
first_line_stays (a ∷ b ∷ rest) more h = by (a == 10) ((a == 13) && (b == 10)) h (first_line_stays (b ∷ rest) more) (first_line_stays rest more)
  where
    by : (t u : Bool) → list_any (λ b. b == 10) (cond t (skip_empty (b ∷ rest)) (cond u (skip_empty rest) (a ∷ b ∷ rest))) ≡ true
        → (first_line_ends (b ∷ rest) ≡ true → first_line_ends (b ∷ (rest ++ more)) ≡ true)
        → (first_line_ends rest ≡ true → first_line_ends (rest ++ more) ≡ true)
        → list_any (λ b. b == 10) (cond t (skip_empty (b ∷ (rest ++ more))) (cond u (skip_empty (rest ++ more)) (a ∷ b ∷ (rest ++ more)))) ≡ true
    by true u l one two = one l
    by false true l one two = two l
    by false false l one two = list_any-append (λ b. b == 10) (a ∷ b ∷ rest) more ∙ rw l refl

never_more : (bytes more : List ℕ) → NeverHasRequest bytes → NeverHasRequest (bytes ++ more)
never_more bytes more never after = subst HasNoRequest (sym (append_assoc bytes more after)) (never (more ++ after))

take_more : (n : ℕ) (xs ys : List ℕ) → length xs ≤ n → take n (xs ++ ys) ≡ xs ++ take (n - length xs) ys
take_more n [] ys h = ap (λ k. take k ys) (omega arith)
take_more zero (x ∷ xs) ys h = absurd (no h)
  where
    no : length (x ∷ xs) ≤ 0 → ⊥
    no l = omega arith
take_more (suc n) (x ∷ xs) ys h = ap (λ t. x ∷ t) (take_more n xs ys (omega arith)) ∙ ap (λ k. x ∷ (xs ++ take k ys)) (omega arith)

pub never_bad : (bytes rest : List ℕ) → length bytes ≤ 8192 → first_line_ends bytes ≡ true → NeverHasRequest bytes → IsBadHead (bytes ++ rest)
never_bad bytes rest short ends never =
    let e = take_more 8192 bytes rest short in
    record {
      none = λ h after s. never rest h after s.reads;
      why = inr (rw e (first_line_stays bytes _ ends), rw e (never_more bytes _ never));
    }

pub open_long : (bytes rest : List ℕ) → length bytes ≡ 8192 → HasNoRequest bytes → (first_line_ends bytes ≡ false) ⊎ MayBecomeRequest bytes → IsLongHead (bytes ++ rest)
open_long bytes rest full none still =
    let e = take_at bytes rest 8192 full in
    let a = length-append bytes rest in
    record {
      none = λ h after s. let short : length (print_request h) ≤ 8192 = s.short in no_head_within bytes rest none h after s.reads (omega arith);
      come = omega arith;
      unended = rw e still;
    }

-- the head that the last byte completes
pub record Stands (bytes : List ℕ) (headers : List HeaderSpan) (spans : RequestSpans) (rest : List ℕ) : Type 0 where
  pub head : RequestHead
  pub stands : StandsHead (bytes ++ rest) head rest
  pub view : spans_view bytes (take spans.headers headers) spans ≡ view_of head

whole_stands : (buf : List ℕ) (b : ℕ) (rest : List ℕ) (headers : List HeaderSpan) (spans : RequestSpans) → HasNoRequest buf → length (buf ++ b ∷ []) ≤ 8192 → IsRequestOf (buf ++ b ∷ []) headers spans → Stands (buf ++ b ∷ []) headers spans rest
whole_stands buf b rest headers spans none short (h, at) =
    let ends = whole_head buf b h (drop spans.len (buf ++ b ∷ [])) none at.reads in
    let reads : ReadsRequest (buf ++ b ∷ []) h [] = subst (λ t. ReadsRequest (buf ++ b ∷ []) h t) ends at.reads in
    let len = length-append (print_request h) [] in
    let same : length (buf ++ b ∷ []) ≡ length (print_request h ++ []) = ap length reads.1 in
    record {
      head = h;
      stands = record { reads = ReadsRequest-append (buf ++ b ∷ []) h [] rest reads; short = omega arith };
      view = rw (at.method, at.path, at.fields) refl;
    }

-- the head that the last byte of known bytes completes
pub stands_now : (bytes buf : List ℕ) (b : ℕ) (rest : List ℕ) (headers : List HeaderSpan) (spans : RequestSpans) → bytes ≡ buf ++ b ∷ [] → HasNoRequest buf → length bytes ≤ 8192 → IsRequestOf bytes headers spans → Stands bytes headers spans rest
stands_now bytes buf b rest headers spans e none short of =
    subst (λ (t : List ℕ). Stands t headers spans rest) (sym e) (whole_stands buf b rest headers spans none (subst (λ (t : List ℕ). length t ≤ 8192) e short) (subst (λ (t : List ℕ). IsRequestOf t headers spans) e of))

pub no_head_now : (bytes : List ℕ) → NeverHasRequest bytes → HasNoRequest bytes
no_head_now bytes never = subst HasNoRequest (append-nil bytes) (never [])

-- ---- the two refusals exclude each other

-- inside a target the first line hasn't ended
target_open : (bytes : List ℕ) → EndsInTarget bytes → first_line_ends bytes ≡ false
target_open bytes (blank, method, target, token, uri, is) =
    let word = regroup (print_blank blank) method target in
    ap first_line_ends (is ∙ word) ∙ (ap (list_any (λ b. b == 10)) (skip_blank blank (method ++ 32 ∷ target)) ∙ by method token.0 token.1)
  where
    regroup : (a m t : List ℕ) → a ++ m ++ 32 ∷ t ≡ a ++ (m ++ 32 ∷ t)
    regroup a m t = append_assoc a m (32 ∷ t)

    tail : list_any (λ b. b == 10) (32 ∷ target) ≡ false
    tail = none_lf is_uri_byte uri_other target uri

    by : (m : List ℕ) → 0 < length m → All (λ b. IsTrue (is_token_byte b)) m → list_any (λ b. b == 10) (skip_empty (m ++ 32 ∷ target)) ≡ false
    by [] some all = absurd (no some)
      where
        no : 0 < 0 → ⊥
        no l = omega arith
    by (b ∷ m) some all =
        ap (list_any (λ c. c == 10)) (skip_token b (m ++ 32 ∷ target) (All-head (λ c. IsTrue (is_token_byte c)) b m all))
        ∙ (list_any-append (λ c. c == 10) (b ∷ m) (32 ∷ target) ∙ rw (none_lf is_token_byte (λ c h. (token_other c h).1) (b ∷ m) all) tail)

-- an input isn't refused in two ways
pub one_refusal : (input : List ℕ) → IsLongHead input → IsBadHead input → ⊥
one_refusal input long bad = by bad.why long.unended
  where
    by : (length input < 8192) ⊎ ((first_line_ends (take 8192 input) ≡ true) × NeverHasRequest (take 8192 input)) → (first_line_ends (take 8192 input) ≡ false) ⊎ MayBecomeRequest (take 8192 input) → ⊥
    by (inl few) still = let come : 8192 ≤ length input = long.come in omega arith
    by (inr b) (inl unended) = cc (sym unended ∙ b.0)
    by (inr b) (inr (inl (more, h, r))) = b.1 more h [] r
    by (inr b) (inr (inr t)) = cc (sym (target_open (take 8192 input) t) ∙ b.0)
