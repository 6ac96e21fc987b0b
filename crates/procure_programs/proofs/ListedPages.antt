-- A program that writes page by page until none follows has written all notices.
use Rattle.procure_programs.proofs.Names.{◌≡◌, ℕ, zero, suc, zero-add, ◌+◌, List, [], ◌∷◌, ◌++◌, length, take, Option, Some, None, refl, sym, ap, subst, arith, ◌∙◌, append_assoc, Appends-nil, Appends-trans, append-nil, flat_map-append, Appends, id_cmp, page_limit, TablesArePaged, followed, next_after, read_pages, rows_after, Keeps, Meaning, IsSorted, Tables, notice_key, NoticeRow, listing_line, listing_text, WritesPage, page_rows}

-- This many pages after a notice.
abbrev pub read : ℕ → Option (List ℕ) → Tables → List NoticeRow
read more after s = read_pages id_cmp notice_key page_limit more after s.notices

-- The first of these pages.
abbrev pub page : Option (List ℕ) → Tables → List NoticeRow
page after s = take page_limit (rows_after id_cmp notice_key after s.notices)

-- The lines that are written so far of these tables: some pages from the first one on, after which the pages after this notice follow.
abbrev pub IsListed : Option (List ℕ) → Option (List ℕ) → Option (List ℕ) → Tables → Type 0
IsListed old new after s =
    (rows : List NoticeRow) × (turns : ℕ) × Appends old new (listing_text rows) × ((more : ℕ) → read (turns + more) None s ≡ rows ++ read more after s)

pub keeps_self : {S : Type 0} (M : Meaning S) (shelf : S) → Keeps M shelf shelf
keeps_self M shelf = record { before = λ honest. honest; same = λ honest t held. held; stop = λ honest u may. may; sound = λ honest sound. sound }

-- No page is written yet.
pub listed_none : (old : Option (List ℕ)) (s : Tables) → IsListed old old None s
listed_none old s = ([], 0, Appends-nil old, λ more. ap (λ (n : ℕ). read n None s) (zero-add more))

take_within : {A : Type 0} (n : ℕ) (xs : List A) → take n (take (suc n) xs) ≡ take n xs
take_within zero xs = refl
take_within (suc n) [] = refl
take_within (suc n) (x ∷ xs) = ap (λ ys. x ∷ ys) (take_within n xs)

one_page : (more : ℕ) (after : Option (List ℕ)) (s : Tables)
    → read (suc more) after s ≡ page after s ++ followed (next_after notice_key page_limit (page_rows after s)) (λ k. read more (Some k) s)
unfolding read_pages
one_page more after s = refl

-- One more page is written.
module _ (old mid new : Option (List ℕ)) (after : Option (List ℕ)) (s : Tables) where
  with_page : (rows : List NoticeRow) → Appends old mid (listing_text rows) → Appends mid new (listing_text (take page_limit (page_rows after s)))
      → Appends old new (listing_text (rows ++ page after s))
  with_page rows before more =
      subst (Appends old new) (sym (flat_map-append listing_line rows (page after s)))
      (Appends-trans old mid new (listing_text rows) (listing_text (page after s)) before
      (subst (λ (ys : List NoticeRow). Appends mid new (listing_text ys)) (take_within page_limit (rows_after id_cmp notice_key after s.notices)) more))

  follows : (rows : List NoticeRow) (turns : ℕ) (next : Option (List ℕ)) → ((more : ℕ) → read (turns + more) None s ≡ rows ++ read more after s)
      → next ≡ next_after notice_key page_limit (page_rows after s)
      → (more : ℕ) → read (turns + suc more) None s ≡ rows ++ (page after s ++ followed next (λ k. read more (Some k) s))
  follows rows turns next before is more =
      before (suc more) ∙ ap (λ (ys : List NoticeRow). rows ++ ys) (one_page more after s
      ∙ ap (λ (o : Option (List ℕ)). page after s ++ followed o (λ k. read more (Some k) s)) (sym is))

  pub listed_on : (k : List ℕ) → IsListed old mid after s → WritesPage after s mid new (Some k) → IsListed old new (Some k) s
  listed_on k (rows, turns, written, before) (more, is) = (
    rows ++ page after s,
    suc turns,
    with_page rows written more,
    λ rest. let count : suc turns + rest ≡ turns + suc rest = omega arith in
        ap (λ (n : ℕ). read n None s) count ∙ follows rows turns (Some k) before is rest ∙ sym (append_assoc rows (page after s) (read rest (Some k) s)),
  )

  -- The last page is written.
  pub listed_all : TablesArePaged → IsSorted s → IsListed old mid after s → WritesPage after s mid new None → Appends old new (listing_text s.notices)
  listed_all law sorted (rows, turns, written, before) (more, is) =
      let all : rows ++ page after s ≡ s.notices =
      ap (λ (ys : List NoticeRow). rows ++ ys) (sym (append-nil (page after s))) ∙ sym (follows rows turns None before is (length s.notices))
      ∙ (law s sorted).notices page_limit (turns + suc (length s.notices)) (omega arith) (omega arith) in
      subst (λ (ys : List NoticeRow). Appends old new (listing_text ys)) all (with_page rows written more)
