-- Commands that move nothing and touch no book keep the accounts.
use Rattle.office_machine.proofs.Names.{◌≡◌, ℕ, ◌≤◌, Bool, false, ◌||◌, List, ◌∷◌, Option, sym, subst, ClockRow, PerformanceRow, Put, after_puts, Given}
use Rattle.office_machine.proofs.Accounts.Aside.{IsIdle, SameBooks, kept_alike, kept_idle}
use Rattle.office_machine.proofs.Commands.Footprint.{TableName, Lines, Lots, Awards, Contracts, Entries, is_in, leaves}
use Rattle.office_machine.proofs.Accounts.Kept.{AccountsStand}
use Rattle.office_machine.proofs.Passed.{neither}
use Rattle.office_machine.proofs.Commands.Tail.{HasTail, is_touched}

-- one of these tables is a book: lines, lots, awards, contracts or entries
abbrev pub touches_books : List TableName → Bool
touches_books names = is_in names Lines || (is_in names Lots || (is_in names Awards || (is_in names Contracts || is_in names Entries)))

module _ (x : Given) (names : List TableName) (apart : touches_books names ≡ false) {t : ℕ} {key : Option (List ℕ)} {bond : Option PerformanceRow} (ps : List Put)
    (tail : HasTail x.before t names key bond ps) where
  same_books : SameBooks x.before.clock.awards x.before (after_puts ps x.before)
  same_books =
      let left = leaves (is_touched names) ps x.before tail.touched in
      let lines = neither (is_in names Lines) _ apart in
      let lots = neither (is_in names Lots) _ lines.1 in
      let awards = neither (is_in names Awards) _ lots.1 in
      let contracts = neither (is_in names Contracts) (is_in names Entries) awards.1 in
      record {
        lines = sym (left.lines lines.0);
        lots = sym (left.lots lots.0);
        awards = sym (left.awards awards.0);
        contracts = sym (left.contracts contracts.0);
        entries = sym (left.entries contracts.1);
        numbers = λ _. subst (λ (c : ClockRow). x.before.clock.awards ≤ c.awards) (sym (tail.writes.clock_is x.before)) tail.drawn;
      }

  pub idle_keeps : (xs : List Given) → IsIdle x xs → AccountsStand xs x.before → AccountsStand (x ∷ xs) (after_puts ps x.before)
  idle_keeps xs idle kept = kept_alike (x ∷ xs) x.before (after_puts ps x.before) same_books (kept_idle x xs x.before idle kept)
