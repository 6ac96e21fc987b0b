-- The bytes of an empty database are a file of one page, which the ported `sqlite` opens as a database with no table.
use Rattle.procure_programs.proofs.Names.{◌≡◌, ℕ, List, [], length, take, Some, None, refl, sym, ap, ◌∙◌, true, inl, inr, arith, ne_eqb, cases_eq, cond-false, Table, IsPage, page_cells, cell_count, content_start, empty_page, Image, AreWhole, only_page, IsPageSize, pages_of_one, first_page, IsHeader, IsFirstPage, IsNew, version_in, in_use, Recovers, sealed, trimmed, first_new, adopts_of, trees_in, all_trees, file_trees, IsOurs, catalog_rows, past_version, named_tree, new_is_empty, empty_is_sound, empty_database, HoldNoTable}
use mathlib.Core.Path.{fun_ext}

abbrev header_of_it : List ℕ
header_of_it = take 100 empty_database

abbrev image : Image
image = record { log = []; db = empty_database }

valid : IsHeader 1024 header_of_it
valid = (
  record { magic = refl; size = refl; versions = inr refl },
  record { fractions = refl; format = inl refl; encoding = inl refl; no_vacuum = (refl, refl); counted = refl },
)

leaf : IsPage (record { tree = Table; leaf = true }) empty_database 100 × (page_cells (record { tree = Table; leaf = true }) empty_database 100 ≡ [])
unfolding cell_count content_start
leaf = empty_page (record { tree = Table; leaf = true }) empty_database 100 (omega arith, omega arith) (omega arith) refl refl refl refl refl

exact : empty_database ≡ first_page 1024
unfolding first_page
exact = refl

first : IsFirstPage empty_database header_of_it
first = record { exact = exact; begins = refl; valid = valid; pages = refl; first = refl; free = refl; leaf = leaf.0; empty = leaf.1 }

pub new : IsNew 1024 (only_page empty_database)
new = first_new empty_database header_of_it 1024 refl (omega arith) (omega arith) first

same_page : (n : ℕ) (bytes : List ℕ) → only_page empty_database n ≡ Some bytes → bytes ≡ empty_database
same_page n bytes is = elim (cases_eq n 1) [
  | inl e ↦ let one = rw e at is in cc
  | inr other ↦ let none : only_page empty_database n ≡ None = cond-false _ _ _ (ne_eqb n 1 other) in absurd (cc)
]

own_sum : sealed (take 1024 empty_database) ≡ empty_database
unfolding sealed
own_sum = refl

whole : AreWhole 1024 (only_page empty_database)
whole = record { first = refl; sized = λ n bytes is. ap length (same_page n bytes is) }

shows : trimmed 1024 (only_page empty_database) ≡ only_page empty_database
unfolding trimmed
shows = fun_ext λ n. elim (cases_eq n 1) [
  | inl e ↦ rw e refl
  | inr other ↦ rw (ne_eqb n 1 other) refl
]

found : Recovers 1024 image (only_page empty_database)
found =
    record {
      stored = only_page empty_database;
      found = record { frames = 0; replays = inl (inl (omega arith), refl); present = omega arith; gives = pages_of_one empty_database [] (omega arith) };
      whole = whole;
      sealed = λ n bytes is. rw (same_page n bytes is) (sym own_sum);
      shows = shows;
      present = omega arith;
    }

valid_size : IsPageSize 1024
valid_size = (omega arith, omega arith, refl, refl)

ours : IsOurs 1024 true [] (only_page empty_database)
ours = let empty = new_is_empty 1024 (only_page empty_database) whole new in record { file = empty.0; numbered = λ _. record { listed = empty.1; spaced = refl; ordered = refl } }

pub holds_no_table : HoldNoTable image
unfolding trees_in
holds_no_table =
    let pages = only_page empty_database in
    let db = file_trees 1024 [] pages in
    let unlisted = catalog_rows 1024 [] (in_use 1024 pages) in (
      db,
      (1024, valid_size, record { pages = pages; wanted = []; schema = _; found = adopts_of 1024 image pages found; ours = ours; reads = refl; sound = empty_is_sound db unlisted }),
      (λ tree low. past_version tree low (all_trees 1024 [] (in_use 1024 pages)) (version_in pages) ∙ named_tree tree low 1024 [] (in_use 1024 pages), unlisted),
    )
