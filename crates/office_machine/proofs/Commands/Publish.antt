-- The publication of a notice keeps the laws of the office.
pub mod Accounts
pub mod Fates
pub mod Gentle
pub mod Rows
use Rattle.office_machine.proofs.Names.{max, IsSome, ℕ, List, [], ◌∷◌, sym, subst, map, ◌++◌, ◌≡◌, Bool, false, Option, Some, None, is_some, refl, ◌∙◌, ap, arith, AllByRecursion, Publish, NewNotice, LateWithdrawal, Forfeits, NewLot, notice_at, Tables, after_puts, NoticeRow, ClockRow, Put, publish_tests, publish_rows, publish_parts, late_puts, reserving_line_put, new_lot_put, notice_row, publish_puts, command_tests, time_of, releases_in}
use Rattle.office_commands.specs.declared.notice.LateWithdrawal.TheVariants.{Refused}
use Rattle.office_base.specs.declared.puts.Put.TheVariants as puts
use Rattle.office_machine.proofs.Commands.Tail.{AsksAsBefore, HasTail, is_own, front, back, counted}
use Rattle.office_machine.proofs.Parents.NoOrphans.{no_rows_of_notice}
use Rattle.office_machine.proofs.Parents.ParentsPut.{Grows, Parents, AllParents, parents-append, parents-map, parents-all}
use Rattle.office_machine.proofs.Worlds.WorldsPut.{plain-map, plain-append, IsPlain, plain_pairs}
use Rattle.office_machine.proofs.Accounts.Aside.{after-append}
use Rattle.office_machine.proofs.Passed.{none_holds}
use Rattle.office_machine.proofs.Commands.Publish.Accounts.{publish_keeps, on_lines, OnLines}
use Rattle.office_machine.proofs.Commands.Footprint.{Notices, Lines, Lots, LateRules, TableName, AreOn, on-append, on-map}
use Rattle.office_machine.proofs.Commands.Lawful.{Lawful, Moving, given}
use Rattle.office_machine.proofs.Rows.Keyed.{found_put}
use Rattle.office_machine.proofs.Commands.Publish.Fates as publish_fates
use Rattle.office_machine.proofs.Rows.Keyed as keyed
use Rattle.office_machine.proofs.Commands.Publish.Gentle.{publish_gently}

-- no such notice exists yet
absent : (o : Option NoticeRow) → is_some o ≡ false → o ≡ None
absent None e = refl
absent (Some n) e = cc

late_own : (notice : List ℕ) (late : LateWithdrawal) → AreOn (is_own (Notices ∷ Lines ∷ Lots ∷ LateRules ∷ [])) (late_puts notice late)
late_own notice Refused = tt
late_own notice Forfeits = (refl, tt)

-- the puts of the command
tail_of : (s : Tables) (t : ℕ) (notice : List ℕ) (content : NewNotice) → is_some (notice_at notice s) ≡ false → HasTail s t (Notices ∷ Lines ∷ Lots ∷ LateRules ∷ []) (Some notice) None (publish_puts (record { notice = None; lines = s.lines; clock = s.clock }) t notice content)
tail_of s t notice content new =
    let own : TableName → Bool = is_own (Notices ∷ Lines ∷ Lots ∷ LateRules ∷ []) in
    let old = ap releases_in (absent (notice_at notice s) new) in
    back (late_puts notice content.late_withdrawal) (late_own notice content.late_withdrawal)
    (front (map (reserving_line_put s.lines content.lots) content.lots ++ map (new_lot_put notice) content.lots)
    (on-append own (map (reserving_line_put s.lines content.lots) content.lots) (map (new_lot_put notice) content.lots) (on-map own (reserving_line_put s.lines content.lots) content.lots (λ _. refl)) (on-map own (new_lot_put notice) content.lots (λ _. refl)))
    (counted notice (notice_row t notice content) _ [] refl (omega (arith, old)) (omega arith) (subst (λ o. AsksAsBefore o (notice_row t notice content)) (sym (absent (notice_at notice s) new)) tt) refl tt refl (omega arith)))

module _ (s u : Tables) (g : Grows s u) where
  published_lots : (notice : List ℕ) → IsSome (notice_at notice u) → (lots : List NewLot) → OnLines s.lines lots → AllByRecursion (λ (l : NewLot). Parents u (new_lot_put notice l)) lots
  published_lots notice there [] on = tt
  published_lots notice there (l ∷ lots) on = (record { notice = there; line = g.lines l.line on.0 }, published_lots notice there lots on.1)

  -- the rows that its rows refer to exist
  parents_of : (clock : ClockRow) (t : ℕ) (notice : List ℕ) (content : NewNotice) → OnLines s.lines content.lots → IsSome (notice_at notice u) → AllParents u (publish_puts (record { notice = None; lines = s.lines; clock = clock }) t notice content)
  parents_of clock t notice content on there =
      parents-append u (publish_parts clock t notice s.lines content) (late_puts notice content.late_withdrawal)
      (parents-append u (map (reserving_line_put s.lines content.lots) content.lots ++ map (new_lot_put notice) content.lots) _
      (parents-append u (map (reserving_line_put s.lines content.lots) content.lots) (map (new_lot_put notice) content.lots)
      (parents-map u (reserving_line_put s.lines content.lots) content.lots (λ _. tt))
      (parents-all u (new_lot_put notice) content.lots (published_lots notice there content.lots on)))
      (tt, (tt, tt)))
      (late_parents content.late_withdrawal)
    where
      late_parents : (late : LateWithdrawal) → AllParents u (late_puts notice late)
      late_parents Refused = tt
      late_parents Forfeits = (record { notice = there }, tt)

-- the puts of a publication have the notice
notice_put_there : (front : List Put) (row : NoticeRow) (clock : ClockRow) (s : Tables) → IsSome (notice_at row.notice (after_puts (front ++ (puts.Notice row ∷ puts.Clock clock ∷ [])) s))
notice_put_there front row clock s =
    ap (λ u. is_some (notice_at row.notice u)) (after-append front (puts.Notice row ∷ puts.Clock clock ∷ []) s)
    ∙ ap is_some (found_put keyed.notices (after_puts front s).notices row)

-- the rule on late withdrawals leaves the notices as they are
late_leaves : (late : LateWithdrawal) (notice k : List ℕ) (u : Tables) → IsSome (notice_at k u) → IsSome (notice_at k (after_puts (late_puts notice late) u))
late_leaves Refused notice k u there = there
late_leaves Forfeits notice k u there = there

-- in both worlds the puts are the same
plain : (s : Tables) (t : ℕ) (notice : List ℕ) (content : NewNotice) → AllByRecursion IsPlain (publish_puts (record { notice = None; lines = s.lines; clock = s.clock }) t notice content)
plain s t notice content =
    plain-append (publish_parts s.clock t notice s.lines content) (late_puts notice content.late_withdrawal)
    (plain-append (map (reserving_line_put s.lines content.lots) content.lots ++ map (new_lot_put notice) content.lots) _
    (plain-append (map (reserving_line_put s.lines content.lots) content.lots) (map (new_lot_put notice) content.lots) (plain-map (reserving_line_put s.lines content.lots) content.lots (λ _. tt)) (plain-map (new_lot_put notice) content.lots (λ _. tt))) (tt, (tt, tt))) (late_plain content.late_withdrawal)
  where
    late_plain : (late : LateWithdrawal) → AllByRecursion IsPlain (late_puts notice late)
    late_plain Refused = tt
    late_plain Forfeits = (tt, tt)

pub publish : (notice : List ℕ) (content : NewNotice) → Lawful (Publish notice content)
publish notice content = record {
  accounts = Moving (λ readings xs s moment caller kept order have own allowed. publish_keeps readings xs s moment caller notice content kept order have own allowed);
  fates = λ readings. publish_fates.publish_keeps readings notice content;
  tail = λ readings s moment caller have allowed.
      let now : ℕ = max moment s.clock.moment in
      tail_of s now notice content (none_holds (publish_tests (publish_rows s notice) now content) allowed).1.0;
  parents = λ readings s moment caller order have registered may allowed u grown later.
      let passes = none_holds (command_tests (given s moment caller (Publish notice content))) allowed in
      parents_of s u grown s.clock _ notice content (on_lines s.lines content.lots passes.0)
      (later.notices notice
      (subst (λ u. IsSome (notice_at notice u)) (sym (after-append (publish_parts s.clock (time_of (given s moment caller (Publish notice content))) notice s.lines content) (late_puts notice content.late_withdrawal) s))
      (late_leaves content.late_withdrawal notice notice _ (notice_put_there (map (reserving_line_put s.lines content.lots) content.lots ++ map (new_lot_put notice) content.lots) _ _ s))));
  lacks = λ xs s moment caller whole allowed.
      let passes = none_holds (publish_tests (publish_rows s notice) (max moment s.clock.moment) content) allowed in
      no_rows_of_notice s whole.parents whole.order notice (absent (notice_at notice s) passes.1.0);
  alike = λ th W s es' ss' all seals readings t caller quiet. plain_pairs th W (publish_puts (record { notice = None; lines = s.lines; clock = s.clock }) t notice content) (plain s t notice content);
  gentle = publish_gently notice content;
}
