use Rattle.office_store.proofs.Names.{◌≡◌, drop, list_any, is_used}
use Rattle.office_store.proofs.found.any_is_used.Given as goal

abbrev pub invariant-names : goal.invariant-names
invariant-names l = list_any (λ name. is_used l.fn.schema name.now) (drop l.name-index l.names) ≡ list_any (λ name. is_used l.fn.schema name.now) l.names
