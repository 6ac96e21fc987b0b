-- The select over the lots of a line shows their join, in the order of its keys.
use Rattle.office_ledger.proofs.Names.{◌≡◌, ℕ, List, [], ◌∷◌, map, Some, sym, ap, ◌∙◌, Less, IsPermutation-sym, IsPermutation-trans, map-map, IsPermutation-same, Trees, IsAscending, ascending-map, sorted_unique, output_cmp_total, Value, Row, IsAnswerAs, output, output_cmp, matches_as, Tables, IsSorted, joined_lots, JoinedLot, Trees4, is_of_line, lots_query, LotCells, ContractCells, EntryCells, Show, lot_cells}
use Rattle.sqlite_value.specs.declared.value.Value.TheVariants.{Text}
use Rattle.sqlite_sql.specs.Query.{Output}
use Rattle.office_ledger.proofs.Ascending.{lots_rise}
use Rattle.office_ledger.proofs.LotsMatched.{out, lots_matched}

module _ (at : Trees4) (lost : Value) (db : Trees) (t : Tables) (sorted : IsSorted t) (line : List ℕ) (rows : List Row)
    (lots : Show LotCells (db at.lots) t.lots) (contracts : Show ContractCells (db at.contracts) t.contracts) (entries : Show EntryCells (db at.entries) t.entries)
    (a : IsAnswerAs lost (lots_query at) db (Text line ∷ []) rows) where
  rising : IsAscending (λ x y. output_cmp (lots_query at) x y ≡ Less) (map out (joined_lots line t))
  rising = ascending-map (λ x y. output_cmp (lots_query at) x y ≡ Less) out (joined_lots line t) (lots_rise t sorted line)

  kept_is : a.kept ≡ map (output (lots_query at)) (matches_as lost db is_of_line (lots_query at).from ((Text line ∷ []) ∷ []))
  kept_is = a.distinct ∙ ap (map (output (lots_query at))) a.grouped

  ordered_is : a.ordered ≡ map out (joined_lots line t)
  ordered_is = sorted_unique (output_cmp (lots_query at)) (output_cmp_total (lots_query at)) (map out (joined_lots line t)) a.ordered rising
      (IsPermutation-trans _ _ _ (IsPermutation-sym _ _ (lots_matched at lost db t line lots contracts entries)) (IsPermutation-trans _ _ _ (IsPermutation-same _ _ (sym kept_is)) a.same)) a.sorted

  pub shows_lots : rows ≡ map (λ (l : JoinedLot). lot_cells (Some l)) (joined_lots line t)
  shows_lots = a.shown ∙ ap (map (λ (o : Output). o.1)) ordered_is ∙ map-map (λ (o : Output). o.1) out (joined_lots line t)
