use Rattle.procure_programs.proofs.Names.{refl, subst, sym, List, ℕ, [], HoldNoTable}
use Rattle.procure_programs.proofs.EmptyFile.{holds_no_table}
use Rattle.procure_programs.proofs.blank.empty_database.Goals as goal

pub returns-clause-bytes : goal.returns-clause-bytes
returns-clause-bytes c = rw c.copy_from_slice-2.ensures.after (rw c.copy_from_slice.ensures.after refl)

pub returns-clause-holds : goal.returns-clause-holds
returns-clause-holds c = subst (λ (db : List ℕ). HoldNoTable (record { log = []; db = db })) (sym (returns-clause-bytes c)) holds_no_table
