use Rattle.tender_papers.proofs.Names.{◌≡◌, ◌++◌, ◌∷◌, [], codes, take, flat_map, line, register_line}
use Rattle.tender_papers.proofs.register.register_text.Given as goal

abbrev pub invariant-loop-row : goal.invariant-loop-row
invariant-loop-row l = l.lines ≡ line (codes "REGISTER" ∷ l.fn.notice ∷ []) ++ flat_map register_line (take l.row-index l.rows)
