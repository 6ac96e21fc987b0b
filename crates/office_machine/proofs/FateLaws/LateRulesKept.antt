-- Tenders of a notice may be withdrawn late exactly if its accepted publication said so.
use Rattle.office_machine.proofs.Names.{◌≡◌, ℕ, Bool, true, false, cond, ◌&&◌, ◌||◌, List, ◌∷◌, ◌++◌, map, Option, Some, None, refl, sym, ap, ◌∙◌, subst, Caller, Command, Publish, LateWithdrawal, Forfeits, NewNotice, same_id, row_at, first_of, Put, ClockRow, LateRow, LineRow, ReleaseRow, Tables, late_at, find_late, put_late, after_puts, equal_ids, same_id_is, late_puts, reserving_line_put, new_lot_put, publish_parts, publish_puts, publish_rows, LateRulesAreKept, is_forfeiting, late_row, lets_late, was_let_late, Given, Means, Reaches, command_tests, effect, publication, publication_puts, time_of}
use Rattle.office_commands.specs.declared.notice.LateWithdrawal.TheVariants.{Refused}
use Rattle.office_machine.proofs.Accounts.Aside.{after-append}
use Rattle.office_machine.proofs.Commands.Footprint.{TableName, LateRules, AreOn, leaves, on-append, on-map, touches}
use Rattle.office_machine.proofs.Commands.Tail.{is_touched}
use Rattle.office_machine.proofs.Passed.{allowed_by}
use Rattle.office_machine.proofs.Rows.Keyed.{elsewhere, found_put}
use Rattle.office_machine.proofs.Runs.{along}
use Rattle.office_machine.proofs.Untouched.{tail_of}
use Rattle.office_machine.proofs.Rows.Keyed as keyed

-- the rule on late withdrawals is put after rows of other tables
abbrev isnt_late : TableName → Bool
isnt_late LateRules = false
isnt_late name = true

parts_on : (clock : ClockRow) (t : ℕ) (notice : List ℕ) (lines : List LineRow) (content : NewNotice) → AreOn isnt_late (publish_parts clock t notice lines content)
parts_on clock t notice lines content =
    on-append isnt_late (map (reserving_line_put lines content.lots) content.lots ++ map (new_lot_put notice) content.lots) _
    (on-append isnt_late (map (reserving_line_put lines content.lots) content.lots) (map (new_lot_put notice) content.lots)
    (on-map isnt_late (reserving_line_put lines content.lots) content.lots (λ _. refl)) (on-map isnt_late (new_lot_put notice) content.lots (λ _. refl)))
    (refl, (refl, tt))

abbrev with_late : LateWithdrawal → List ℕ → List LateRow → List LateRow
with_late Refused notice rows = rows
with_late Forfeits notice rows = put_late rows (late_row notice)

late_after : (late : LateWithdrawal) (notice : List ℕ) (u : Tables) → (after_puts (late_puts notice late) u).late_rules ≡ with_late late notice u.late_rules
late_after Refused notice u = refl
late_after Forfeits notice u = refl

published : (s : Tables) (t : ℕ) (notice : List ℕ) (content : NewNotice)
    → (after_puts (publish_puts (publish_rows s notice) t notice content) s).late_rules ≡ with_late content.late_withdrawal notice s.late_rules
published s t notice content =
    let parts : List Put = publish_parts s.clock t notice s.lines content in
    ap (λ (u : Tables). u.late_rules) (after-append parts (late_puts notice content.late_withdrawal) s)
    ∙ late_after content.late_withdrawal notice (after_puts parts s)
    ∙ ap (with_late content.late_withdrawal notice) ((leaves isnt_late parts s (parts_on s.clock t notice s.lines content)).late_rules refl)

-- the row of a notice after the publication
row_by : (late : LateWithdrawal) (notice : List ℕ) (rows : List LateRow) (q : List ℕ) (b : Bool) → same_id notice q ≡ b
    → find_late (with_late late notice rows) q ≡ cond (b && is_forfeiting late) (Some (late_row q)) (find_late rows q)
row_by Refused notice rows q true e = refl
row_by Refused notice rows q false e = refl
row_by Forfeits notice rows q true e =
    let one : notice ≡ q = equal_ids notice q e in
    ap (find_late (put_late rows (late_row notice))) (sym one) ∙ found_put keyed.late_rules rows (late_row notice) ∙ ap (λ n. Some (late_row n)) one
row_by Forfeits notice rows q false e = elsewhere keyed.late_rules rows (late_row notice) q (sym (same_id_is notice q) ∙ e)

either : (a b : Bool) (o : Option LateRow) → cond a o (cond b o None) ≡ cond (a || b) o None
either true b o = refl
either false b o = refl

abbrev AreKept : List Given → Tables → Type 0
AreKept xs t = (notice : List ℕ) → late_at notice t ≡ cond (was_let_late xs notice) (Some (late_row notice)) None

module _ (means : Means) (xs : List Given) (s : Tables) (moment : ℕ) (caller : Caller) (kept : AreKept xs s) (reached : Reaches means xs s) where
  abbrev given : Command → Given
  given command = record { before = s; moment = moment; caller = caller; command = command }

  abbrev Keeps : Command → Type 0
  Keeps command = AreKept (given command ∷ xs) (after_puts (effect means.readings (given command)) s)

  other : (command : Command) → is_touched (touches command) LateRules ≡ false → ((notice : List ℕ) → lets_late notice command ≡ false) → first_of (command_tests (given command)) ≡ None → Keeps command
  other command off none allowed q =
      ap (λ rows. find_late rows q) ((leaves (is_touched (touches command)) (effect means.readings (given command)) s (tail_of means xs s moment caller reached command allowed).touched).late_rules off)
      ∙ kept q
      ∙ ap (λ b. cond (b || was_let_late xs q) (Some (late_row q)) None) (sym (none q))

  one_kept : (command : Command) → first_of (command_tests (given command)) ≡ None → Keeps command
  one_kept (Publish notice content) allowed q =
      ap (λ rows. find_late rows q) (published s (time_of (given (Publish notice content))) notice content)
      ∙ row_by content.late_withdrawal notice s.late_rules q (same_id notice q) refl
      ∙ ap (cond (same_id notice q && is_forfeiting content.late_withdrawal) (Some (late_row q))) (kept q)
      ∙ either (same_id notice q && is_forfeiting content.late_withdrawal) (was_let_late xs q) (Some (late_row q))
  one_kept command allowed q = other command refl (λ notice. refl) allowed q

-- the put of a release leaves the rules on late withdrawals
published_kept : (xs : List Given) (t : Tables) (p : Option ReleaseRow) → AreKept xs t → AreKept xs (after_puts (publication_puts p) t)
published_kept xs t None kept q = kept q
published_kept xs t (Some p) kept q = kept q

pub late_rules_kept : LateRulesAreKept
unfolding row_at
late_rules_kept means = along means AreKept (λ q. refl) (λ merges in_order xs t of_notices kept q. kept q)
    (λ xs x accepted kept.
    subst (AreKept (x ∷ xs)) (sym (after-append (effect means.readings x) (publication_puts (publication means x)) x.before))
    (published_kept (x ∷ xs) (after_puts (effect means.readings x) x.before) (publication means x)
    (one_kept means xs x.before x.moment x.caller kept accepted.reached x.command (allowed_by x accepted.allowed))))
