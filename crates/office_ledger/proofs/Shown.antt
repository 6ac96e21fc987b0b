-- The select shows the join, in the order of its keys.
use Rattle.office_ledger.proofs.Names.{◌≡◌, List, [], ◌∷◌, map, sym, ap, ◌∙◌, Less, IsPermutation-sym, IsPermutation-trans, map-map, IsPermutation-same, Trees, IsAscending, ascending-map, sorted_unique, output_cmp_total, Value, Row, IsAnswerAs, output, output_cmp, matches_as, Tables, IsSorted, joined, Trees4, joined_query, LineCells, LotCells, ContractCells, EntryCells, Show, joined_cells}
use Rattle.sqlite_sql.specs.Query.{Output}
use Rattle.office_ledger.proofs.Ascending.{joined_rises}
use Rattle.office_ledger.proofs.Matched.{out, matched}

module _ (at : Trees4) (lost : Value) (db : Trees) (t : Tables) (sorted : IsSorted t) (params : Row) (rows : List Row)
    (lines : Show LineCells (db at.lines) t.lines) (lots : Show LotCells (db at.lots) t.lots) (contracts : Show ContractCells (db at.contracts) t.contracts) (entries : Show EntryCells (db at.entries) t.entries)
    (a : IsAnswerAs lost (joined_query at) db params rows) where
  rising : IsAscending (λ x y. output_cmp (joined_query at) x y ≡ Less) (map out (joined t))
  rising = ascending-map (λ x y. output_cmp (joined_query at) x y ≡ Less) out (joined t) (joined_rises t sorted)

  kept_is : a.kept ≡ map (output (joined_query at)) (matches_as lost db [] (joined_query at).from (params ∷ []))
  kept_is = a.distinct ∙ ap (map (output (joined_query at))) a.grouped

  ordered_is : a.ordered ≡ map out (joined t)
  ordered_is = sorted_unique (output_cmp (joined_query at)) (output_cmp_total (joined_query at)) (map out (joined t)) a.ordered rising
      (IsPermutation-trans _ _ _ (IsPermutation-sym _ _ (matched at lost db t params lines lots contracts entries)) (IsPermutation-trans _ _ _ (IsPermutation-same _ _ (sym kept_is)) a.same)) a.sorted

  pub shows_joined : rows ≡ map joined_cells (joined t)
  shows_joined = a.shown ∙ ap (map (λ (o : Output). o.1)) ordered_is ∙ map-map (λ (o : Output). o.1) out (joined t)
