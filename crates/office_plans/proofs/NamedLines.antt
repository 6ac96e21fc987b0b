-- Lines that were looked up by their names: each named line is equal to the office's line.
use Rattle.office_plans.proofs.Names.{◌≡◌, ℕ, List, [], ◌∷◌, map, AllByRecursion, id_cmp, RowsAreKept, Tables, line_key, find_line, line_at, LineRow, IsAsIn, AreFrom, with_line, with_lines, lines_named}
use Rattle.office_plans.proofs.LookedUp.{exact_ids, here, kept, from_one, none_from}

module _ (laws : RowsAreKept id_cmp line_key) (t : Tables) {X : Type 0} (line_of : X → List ℕ) where
  kept_all : (xs : List X) (lines : List LineRow) (q : List ℕ) → IsAsIn id_cmp line_key t.lines lines q → IsAsIn id_cmp line_key t.lines (with_lines t lines (map line_of xs)) q
  kept_all [] lines q h = h
  kept_all (x ∷ xs) lines q h = kept_all xs (with_line t lines (line_of x)) q (kept laws exact_ids t.lines lines (line_of x) q h)

  all_named : (xs : List X) (lines : List LineRow) → AreFrom id_cmp line_key t.lines lines
      → AllByRecursion (λ (x : X). IsAsIn id_cmp line_key t.lines (with_lines t lines (map line_of xs)) (line_of x)) xs
  all_named [] lines from = tt
  all_named (x ∷ xs) lines from =
      let next : List LineRow = with_line t lines (line_of x) in
      (kept_all xs next (line_of x) (here laws exact_ids t.lines lines (line_of x) from), all_named xs next (from_one laws exact_ids t.lines lines (line_of x) from))

  -- For each of these things, the look-up by its line's name gives the same as in the office.
  pub lines_agree : (xs : List X) → AllByRecursion (λ (x : X). find_line (lines_named t (map line_of xs)) (line_of x) ≡ line_at (line_of x) t) xs
  lines_agree xs = all_named xs [] (none_from id_cmp line_key t.lines)
