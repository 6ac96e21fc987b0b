-- The texts of packages, member by member.
use Rattle.ocds_release.proofs.Names.{◌≡◌, ◌<◌, ◌-◌, ℕ, zero, suc, List, [], ◌∷◌, ◌++◌, map, length, get_or, Bool, true, false, if◌then◌else◌, ◌==◌, refl, sym, ap, ◌∙◌, arith, rules, codes, true≢false, append_assoc, quoted, Data, null, array, Items, item, object, Members, member, no_members, put, items_of, compact_text, comma_if, items_text, members_text, has_float, items_have_float, moment_text, ReleaseRow, date_of, last_date, text, texts, with_entries, is_empty_list, AreKept, data_of, member_text, with_extensions, moment_of, moment_of_last, spliced, Part}
use Rattle.ocds_release.specs.declared.part.Part.TheVariants as parts

-- ---- no part is a float

pub lines_no_float : (ls : List (List ℕ)) → items_have_float (items_of (map text ls)) ≡ false
lines_no_float [] = refl
lines_no_float (l ∷ ls) = lines_no_float ls

pub part_no_float : (p : Part) → has_float (data_of p) ≡ false
part_no_float (parts.Text t) = refl
part_no_float _ = refl

-- ---- a member that is pushed

joins : (later : Bool) (k : List ℕ) (d : Data) (ms : Members) → member_text later k (compact_text d) ++ members_text true ms ≡ members_text later (member k d ms)
joins later k d ms =
    append_assoc (comma_if later) (quoted k ++ 58 ∷ compact_text d) (members_text true ms)
    ∙ ap (λ (r : List ℕ). comma_if later ++ r) (append_assoc (quoted k) (58 ∷ compact_text d) (members_text true ms))

pub pushed : (new old : List ℕ) (later : Bool) (k : List ℕ) (d : Data) (ms : Members) → new ≡ old ++ member_text later k (compact_text d)
    → new ++ members_text true ms ≡ old ++ members_text later (member k d ms)
pushed new old later k d ms e =
    ap (λ (r : List ℕ). r ++ members_text true ms) e
    ∙ append_assoc old (member_text later k (compact_text d)) (members_text true ms)
    ∙ ap (λ (r : List ℕ). old ++ r) (joins later k d ms)

-- ---- a list that is opened, and its elements

pub opened : (new old : List ℕ) (later : Bool) (k : List ℕ) (d : Data) (items : List ℕ) (ms : Members) → new ≡ old ++ member_text later k (91 ∷ [])
    → compact_text d ≡ 91 ∷ items → new ++ (items ++ members_text true ms) ≡ old ++ members_text later (member k d ms)
opened new old later k d items ms e list =
    let text = comma_if later in
    let rest = members_text true ms in
    ap (λ (r : List ℕ). r ++ (items ++ rest)) e
    ∙ append_assoc old (member_text later k (91 ∷ [])) (items ++ rest)
    ∙ ap (λ (r : List ℕ). old ++ r) (
    append_assoc text (quoted k ++ 58 ∷ 91 ∷ []) (items ++ rest)
    ∙ ap (λ (r : List ℕ). text ++ r) (append_assoc (quoted k) (58 ∷ 91 ∷ []) (items ++ rest))
    ∙ ap (λ (r : List ℕ). text ++ (quoted k ++ 58 ∷ (r ++ rest))) (sym list)
    ∙ ap (λ (r : List ℕ). text ++ r) (sym (append_assoc (quoted k) (58 ∷ compact_text d) rest))
    ∙ sym (append_assoc text (quoted k ++ 58 ∷ compact_text d) rest)
    ∙ joins later k d ms)

-- the text of an object that is closed, with more text after it
pub before_rest : (new items old start members rest : List ℕ) → new ++ (items ++ 125 ∷ []) ≡ start ++ members → start ≡ old ++ 123 ∷ []
    → new ++ (items ++ 125 ∷ rest) ≡ old ++ ((123 ∷ members) ++ rest)
before_rest new items old start members rest body opens =
    ap (λ (r : List ℕ). new ++ r) (sym (append_assoc items (125 ∷ []) rest))
    ∙ sym (append_assoc new (items ++ 125 ∷ []) rest)
    ∙ ap (λ (r : List ℕ). r ++ rest) (body ∙ ap (λ (r : List ℕ). r ++ members) opens ∙ append_assoc old (123 ∷ []) members)
    ∙ append_assoc old (123 ∷ members) rest

pub empty_none : (n : ℕ) → (n == 0) ≡ true → n ≡ 0
empty_none zero h = refl
empty_none (suc n) h = let no : (suc n == 0) ≡ false = grind (arith, rules) in absurd (true≢false (sym h ∙ no))

pub empty_some : (n : ℕ) → (n == 0) ≡ false → 0 < n
empty_some zero h = absurd (true≢false h)
empty_some (suc n) h = omega arith

pub extensions_none : (ls : List (List ℕ)) (ms : Members) → length ls ≡ 0 → with_extensions ls ms ≡ ms
extensions_none [] ms e = refl
extensions_none (l ∷ ls) ms e = absurd (omega arith)

pub extensions_some : (ls : List (List ℕ)) (ms : Members) → 0 < length ls → with_extensions ls ms ≡ member (codes "extensions") (texts ls) ms
extensions_some [] ms e = absurd (omega arith)
extensions_some (l ∷ ls) ms e = refl

-- ---- rows that store releases

pub kept_list : (later : Bool) (rs : List ReleaseRow) (ds : List Data) → AreKept rs ds → spliced later rs ++ 93 ∷ [] ≡ items_text later (items_of ds)
kept_list later [] [] h = refl
kept_list later [] (d ∷ ds) h = absurd h
kept_list later (r ∷ rs) [] h = absurd h
kept_list later (r ∷ rs) (d ∷ ds) h =
    append_assoc (comma_if later) (r.text ++ spliced true rs) (93 ∷ [])
    ∙ ap (λ (x : List ℕ). comma_if later ++ x) (append_assoc r.text (spliced true rs) (93 ∷ [])
    ∙ ap (λ (x : List ℕ). r.text ++ x) (kept_list true rs ds h.1)
    ∙ ap (λ (x : List ℕ). x ++ items_text true (items_of ds)) h.0.text)

kept_length : (rs : List ReleaseRow) (ds : List Data) → AreKept rs ds → length rs ≡ length ds
kept_length [] [] h = refl
kept_length [] (d ∷ ds) h = absurd h
kept_length (r ∷ rs) [] h = absurd h
kept_length (r ∷ rs) (d ∷ ds) h = ap (λ (n : ℕ). suc n) (kept_length rs ds h.1)

kept_date : (rs : List ReleaseRow) (ds : List Data) (n : ℕ) → AreKept rs ds → n < length rs
    → date_of (get_or ds n null) ≡ moment_text (get_or (map moment_of rs) n 0)
kept_date [] ds n h low = absurd (omega arith)
kept_date (r ∷ rs) [] n h low = absurd h
kept_date (r ∷ rs) (d ∷ ds) zero h low = h.0.date
kept_date (r ∷ rs) (d ∷ ds) (suc n) h low = kept_date rs ds n h.1 (omega arith)

pub kept_last : (rs : List ReleaseRow) (d : Data) (ds : List Data) → AreKept rs (d ∷ ds) → last_date (d ∷ ds) ≡ moment_text (moment_of_last rs)
kept_last [] d ds h = absurd h
kept_last (r ∷ rs) d ds h =
    let e : length (r ∷ rs) ≡ length (d ∷ ds) = kept_length (r ∷ rs) (d ∷ ds) h in
    ap (λ (n : ℕ). date_of (get_or (d ∷ ds) (n - 1) null)) (sym e) ∙ kept_date (r ∷ rs) (d ∷ ds) (length (r ∷ rs) - 1) h (omega arith)

-- ---- members in the order of their names

pub releases_in_order : (ls : List (List ℕ)) (p u v : List ℕ) (ms : Members) (d : Data) (ds : Items)
    → with_entries (
    (codes "extensions", texts ls)
    ∷ (codes "publishedDate", text p)
    ∷ (codes "uri", text u)
    ∷ (codes "version", text v)
    ∷ (codes "publisher", object ms)
    ∷ (codes "releases", array (item d ds))
    ∷ []) no_members
    ≡ with_extensions ls (member (codes "publishedDate") (text p) (member (codes "publisher") (object ms)
    (member (codes "releases") (array (item d ds)) (member (codes "uri") (text u) (member (codes "version") (text v) no_members)))))
releases_in_order [] p u v ms d ds = refl
releases_in_order (l ∷ ls) p u v ms d ds = refl

pub records_in_order : (ls : List (List ℕ)) (p u v : List ℕ) (ms : Members) (d : Data) (ds : Items)
    → with_entries (
    (codes "extensions", texts ls)
    ∷ (codes "publishedDate", text p)
    ∷ (codes "uri", text u)
    ∷ (codes "version", text v)
    ∷ (codes "publisher", object ms)
    ∷ (codes "records", array (item d ds))
    ∷ []) no_members
    ≡ with_extensions ls (member (codes "publishedDate") (text p) (member (codes "publisher") (object ms)
    (member (codes "records") (array (item d ds)) (member (codes "uri") (text u) (member (codes "version") (text v) no_members)))))
records_in_order [] p u v ms d ds = refl
records_in_order (l ∷ ls) p u v ms d ds = refl

pub record_in_order : (o : List ℕ) (c d : Data) (ds : Items) → is_empty_list c ≡ false
    → with_entries ((codes "ocid", text o) ∷ (codes "compiledRelease", c) ∷ (codes "releases", array (item d ds)) ∷ []) no_members
    ≡ member (codes "compiledRelease") c (member (codes "ocid") (text o) (member (codes "releases") (array (item d ds)) no_members))
record_in_order o c d ds e =
    ap (λ (b : Bool). put (codes "releases") (array (item d ds))
    (if b then member (codes "ocid") (text o) no_members else put (codes "compiledRelease") c (member (codes "ocid") (text o) no_members))) e
