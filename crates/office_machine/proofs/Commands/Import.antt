-- The import of a budget file keeps the laws of the office.
pub mod Accounts
pub mod Columns
pub mod Gentle
use Rattle.office_machine.proofs.Names.{[], ◌∷◌, refl, arith, ℕ, ◌||◌, List, map, Import, BudgetRow, standings, imported_line_put, import_puts, import_rows, after_rows, import_tests, Readings}
use Rattle.office_base.specs.declared.puts.Put.TheVariants as puts
use Rattle.office_machine.proofs.Commands.Lawful.{given, Lawful, Moving}
use Rattle.office_machine.proofs.Worlds.WorldsPut.{plain-map, plain-append, plain_pairs}
use Rattle.office_machine.proofs.Commands.Import.Accounts.{import_keeps, covered}
use Rattle.office_machine.proofs.Commands.Import.Columns.{none_below}
use Rattle.office_machine.proofs.FateLaws.QuietFates.{kept_after, one_more, all_append, all_of_map}
use Rattle.office_machine.proofs.FateLaws.Seen.{seen, IsQuiet}
use Rattle.office_machine.proofs.FateLaws.FatesHold.{Keeps}
use Rattle.office_machine.proofs.Parents.NoOrphans.{no_lost_lines}
use Rattle.office_machine.proofs.Parents.ParentsPut.{parents-append, parents-map}
use Rattle.office_machine.proofs.Passed.{none_holds}
use Rattle.office_machine.proofs.Commands.Tail.{front, front_map, quiet}
use Rattle.office_machine.proofs.Commands.Import.Gentle.{import_gently}

-- the puts of lines, the budget file and the clock touch no tender and no security
fates_kept : (readings : Readings) (batch : List ℕ) (rows : List BudgetRow) → Keeps readings (Import batch rows)
fates_kept readings batch rows xs t m caller kept own allowed =
    kept_after readings (given t m caller (Import batch rows) ∷ xs) _ t
    (all_append (IsQuiet (seen t) t.clock.receipts) (map (imported_line_put (after_rows (standings t) rows)) rows) _ (all_of_map (IsQuiet (seen t) t.clock.receipts) (imported_line_put (after_rows (standings t) rows)) rows (λ r. tt)) (tt, (refl, tt)))
    (one_more readings xs (given t m caller (Import batch rows)) t kept refl (λ r. refl) (λ s. refl))

pub import_budget : (batch : List ℕ) (rows : List BudgetRow) → Lawful (Import batch rows)
import_budget batch rows = record {
  accounts = Moving (λ readings xs s moment caller kept order have own allowed. import_keeps readings xs s moment caller batch rows kept order allowed);
  fates = λ readings. fates_kept readings batch rows;
  tail = λ readings s moment caller have allowed.
      front_map (imported_line_put (after_rows (standings s) rows)) rows (λ _. refl) (front (puts.Batch _ ∷ []) (refl, tt) (quiet _ [] tt refl (omega arith)));
  parents = λ readings s moment caller order have registered may allowed u grown later.
      parents-append u (map (imported_line_put (after_rows (standings s) rows)) rows) _ (parents-map u (imported_line_put (after_rows (standings s) rows)) rows (λ _. tt)) (tt, (tt, tt));
  lacks = λ xs s moment caller whole allowed.
      let tests = none_holds (import_tests (import_rows s batch rows)) allowed in
      λ i. none_below (standings s) rows (covered xs s whole.accounts whole.order) tests.1.1.0 i || no_lost_lines s whole.parents whole.order rows i;
  alike = λ th W s es' ss' all seals readings t caller quiet.
      plain_pairs th W (import_puts (import_rows s batch rows) t batch)
      (plain-append (map (imported_line_put (after_rows (standings s) rows)) rows) _ (plain-map (imported_line_put (after_rows (standings s) rows)) rows (λ _. tt)) (tt, (tt, tt)));
  gentle = import_gently batch rows;
}
