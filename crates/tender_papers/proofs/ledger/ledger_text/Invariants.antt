use Rattle.tender_papers.proofs.Names.{◌≡◌, ◌++◌, ◌∷◌, [], codes, take, flat_map, ledger_columns, ledger_line, line}
use Rattle.tender_papers.proofs.ledger.ledger_text.Given as goal

abbrev pub invariant-loop-row : goal.invariant-loop-row
invariant-loop-row l = l.lines ≡ line (codes "LEDGER" ∷ []) ++ line ledger_columns ++ flat_map ledger_line (take l.row-index l.rows)
