-- No sum exceeds its range.
use Rattle.office_machine.proofs.Names.{◌≡◌, ℕ, ◌+◌, ◌-◌, ◌≤◌, Bool, true, false, cond, ◌&&◌, List, [], ◌∷◌, ◌++◌, Option, Some, None, nat_le, refl, sym, ◌∙◌, ap, subst, arith, nat_cmp, row_at, same_id, total_limit, first_of, LotRow, ContractRow, EnvelopeRow, ChangeKind, Command, Import, Publish, Cancel, Award, Sign, AmendContract, Pay, End, Tables, IsSorted, lot_cmp, lot_key, contract_key, find_lot, notice_at, lot_at, contract_at, envelopes_of_lot, after_puts, price_of, winner, outstanding, paid_under, is_on_line, lot_of_contract, Means, Given, Reaches, command_tests, effect, publication_puts, next, publication, Move, Outside, inflow, outflow, moves, moves_by, move_of_lot, move_back, move_of_award, move_of_change, reserved_for, line_in, Free, Reserved, appropriation, SumsInRange, same_itself, sum_over-append_map, sum_over-zero}
use Rattle.office_commands.specs.declared.contract.ChangeKind.TheVariants as change_kinds
use Rattle.office_machine.proofs.Accounts.AccountsKept.{all_kept}
use Rattle.office_machine.proofs.Accounts.Aside.{all_aside, published_aside, after-append}
use Rattle.office_machine.proofs.Accounts.Balance.{add_up, balanced}
use Rattle.office_machine.proofs.Commands.Import.Accounts.{import_fits}
use Rattle.office_machine.proofs.Accounts.Joins.{is_of}
use Rattle.office_machine.proofs.Accounts.Kept.{AccountsStand, reserved_by, over_contracts}
use Rattle.office_machine.proofs.Parents.ParentsThere.{parents_there}
use Rattle.office_machine.proofs.Rows.Keyed.{weight_le}
use Rattle.office_machine.proofs.Passed.{witness, allowed_by}
use Rattle.office_machine.proofs.Rows.SortedTables.{sorted}

-- these further moves move nothing from outside to the line or back
record IsInside (ms : List Move) (more : List Move) (q : List ℕ) : Type 0 where
  came_is : inflow (more ++ ms) q Outside ≡ inflow ms q Outside
  went_is : outflow (more ++ ms) q Outside ≡ outflow ms q Outside

nothing_more : (ms : List Move) (q : List ℕ) → IsInside ms [] q
nothing_more ms q = record { came_is = refl; went_is = refl }

of_award : (o : Option EnvelopeRow) (line : List ℕ) (held : ℕ) (ms : List Move) (q : List ℕ) → IsInside ms (move_of_award line held o ∷ []) q
of_award None line held ms q = record { came_is = omega arith; went_is = omega arith }
of_award (Some e) line held ms q = by (nat_le (price_of e) held)
  where
    by : (b : Bool) → IsInside ms (cond b (record { line = line; from = Reserved; to = Free; amount = held - price_of e }) (record { line = line; from = Free; to = Reserved; amount = price_of e - held }) ∷ []) q
    by true = record { came_is = omega arith; went_is = omega arith }
    by false = record { came_is = omega arith; went_is = omega arith }

of_change : (kind : ChangeKind) (line : List ℕ) (amount : ℕ) (ms : List Move) (q : List ℕ) → IsInside ms (move_of_change kind line amount ∷ []) q
of_change change_kinds.Raise line amount ms q = record { came_is = omega arith; went_is = omega arith }
of_change change_kinds.Cut line amount ms q = record { came_is = omega arith; went_is = omega arith }

-- if no move is from or to the outside, the appropriation remains as it was
same_appropriation : (xs : List Given) (x : Given) (s t : Tables) (q : List ℕ) → AccountsStand xs s → AccountsStand (x ∷ xs) t → IsInside (moves xs) (moves_by x xs) q → appropriation q t ≡ appropriation q s
same_appropriation xs x s t q kept after inside =
    omega (arith, (kept.pots q).appropriation_is, (after.pots q).appropriation_is, inside.came_is, inside.went_is)

abbrev Fit : Tables → Type 0
Fit s = (q : List ℕ) → appropriation q s ≤ total_limit

module _ (means : Means) (xs : List Given) (s : Tables) (moment : ℕ) (caller : Rattle.office_commands.specs.declared.command.Caller.Caller) (kept : AccountsStand xs s) (order : IsSorted s) (fit : Fit s) where
  abbrev given : Command → Given
  given command = record { before = s; moment = moment; caller = caller; command = command }

  abbrev FitsAfter : Command → Type 0
  FitsAfter command = first_of (command_tests (given command)) ≡ None → (t : Tables) → AccountsStand (given command ∷ xs) t → ((q : List ℕ) → appropriation q t ≡ appropriation q (after_puts (effect means.readings (given command)) s)) → Fit t

  inside : (command : Command) → ((q : List ℕ) → IsInside (moves xs) (moves_by (given command) xs) q) → FitsAfter command
  inside command is allowed t after same q = omega (arith, fit q, same_appropriation xs (given command) s t q kept after (is q))

  fits : (command : Command) → FitsAfter command
  fits (Import batch rows) = λ allowed t after same q. omega (arith, import_fits means.readings xs s moment caller batch rows kept order allowed fit q, same q)
  fits (Publish notice content) = inside (Publish notice content) (λ q. record {
    came_is = omega (arith, sum_over-append_map (λ (m : Move). cond (Rattle.office_machine.specs.Moves.same_pot m.to Outside && same_id m.line q) m.amount 0) move_of_lot content.lots (moves xs), sum_over-zero content.lots);
    went_is = omega (arith, sum_over-append_map (λ (m : Move). cond (Rattle.office_machine.specs.Moves.same_pot m.from Outside && same_id m.line q) m.amount 0) move_of_lot content.lots (moves xs), sum_over-zero content.lots);
  })
  fits (Cancel notice rationale) = inside (Cancel notice rationale) (λ q.
      let ended = Rattle.std.proofs.Common.filter Rattle.tender_core.specs.Rules.Cancel.is_open_lot (Rattle.office_base.specs.Tables.lots_of_notice notice s) in
      record {
        came_is = omega (arith, sum_over-append_map (λ (m : Move). cond (Rattle.office_machine.specs.Moves.same_pot m.to Outside && same_id m.line q) m.amount 0) (move_back (reserved_for xs)) ended (moves xs), sum_over-zero ended);
        went_is = omega (arith, sum_over-append_map (λ (m : Move). cond (Rattle.office_machine.specs.Moves.same_pot m.from Outside && same_id m.line q) m.amount 0) (move_back (reserved_for xs)) ended (moves xs), sum_over-zero ended);
      })
  fits (Award notice lot) = inside (Award notice lot) (of_award (winner (notice_at notice s) (envelopes_of_lot notice lot s)) (line_in (lot_at (notice, lot) s)) (reserved_for xs (notice, lot)) (moves xs))
  fits (Sign award named) = inside (Sign award named) (λ q. record { came_is = omega arith; went_is = omega arith })
  fits (AmendContract contract entry kind amount rationale) = inside (AmendContract contract entry kind amount rationale) (of_change kind (line_in (lot_of_contract (contract_at contract s) s)) amount (moves xs))
  fits (Pay contract entry amount) = inside (Pay contract entry amount) (λ q. record { came_is = omega arith; went_is = omega arith })
  fits (End contract how) = inside (End contract how) (λ q. record { came_is = omega arith; went_is = omega arith })
  fits command = inside command (nothing_more (moves xs))

-- the release of a command changes no line
published_line : (means : Means) (x : Given) (q : List ℕ) → appropriation q (next means x) ≡ appropriation q (after_puts (effect means.readings x) x.before)
published_line means x q =
    ap (appropriation q) (after-append (effect means.readings x) (publication_puts (publication means x)) x.before)
    ∙ ap (λ lines. Rattle.office_base.specs.Joined.appropriation_in (Rattle.office_base.specs.Tables.find_line lines q)) (sym (all_aside 0 (publication_puts (publication means x)) (after_puts (effect means.readings x) x.before) (published_aside 0 (publication means x))).lines)

all_fit : (means : Means) (xs : List Given) (t : Tables) → Reaches means xs t → Fit t
unfolding row_at
all_fit means [] t reached = subst Fit (sym reached) (λ q. omega arith)
all_fit means (x ∷ xs) t reached =
    let kept = all_kept means xs x.before reached.reached in
    let order = sorted means xs x.before reached.reached in
    let fit = all_fit means xs x.before reached.reached in
    fits means xs x.before x.moment x.caller kept order fit x.command (allowed_by x reached.allowed) t (all_kept means (x ∷ xs) t reached) (λ q. ap (appropriation q) reached.is ∙ published_line means x q)

-- a contract's amount is at most the sum over the contracts of its line
one_of : (f : ContractRow → ℕ) (lots : List LotRow) (cs : List ContractRow) (n : ℕ) (c : ContractRow) (l : LotRow) → Rattle.office_base.specs.Tables.find_contract cs n ≡ Some c → find_lot lots (c.notice, c.lot) ≡ Some l → f c ≤ over_contracts f lots cs l.line
one_of f lots cs n c l is lot =
    let own : is_on_line lots l.line c ≡ true = ap (λ o. is_of o l.line) lot ∙ same_itself l.line in
    omega (arith, weight_le nat_cmp contract_key (λ (y : ContractRow). cond (is_on_line lots l.line y) (f y) 0) cs n c is, ap (λ b. cond b (f c) 0) own)

pub sums_fit : SumsInRange
sums_fit means xs t reached = record {
  lines = λ q.
      let p = balanced xs t kept order q in
      let a = all_fit means xs t reached q in
      record {
        appropriation_fits = a;
        free_fits = omega (arith, a, p.adds_up);
        reserved_fits = omega (arith, a, p.adds_up);
        contracted_fits = omega (arith, a, p.adds_up);
        paid_fits = omega (arith, a, p.adds_up);
      };
  lots = λ key lot is.
      let own = same_itself lot.line in
      omega (arith, weight_le lot_cmp lot_key (reserved_by lot.line) t.lots key lot is, ap (λ b. cond b lot.reserved 0) own, all_fit means xs t reached lot.line, add_up xs t kept order lot.line);
  contracts = λ n c is.
      let lot = witness (lot_at (c.notice, c.lot) t) ((parents_there means xs t reached).contracts n c is).lot in
      let sum = add_up xs t kept order lot.0.line in
      let fit = all_fit means xs t reached lot.0.line in
      record {
        within = (kept.contracts n c is).within;
        outstanding_fits = omega (arith, one_of (outstanding t.entries) t.lots t.contracts n c lot.0 is lot.1, sum, fit);
        paid_fits = omega (arith, one_of (paid_under t.entries) t.lots t.contracts n c lot.0 is lot.1, sum, fit);
      };
}
  where
    kept : AccountsStand xs t
    kept = all_kept means xs t reached

    order : IsSorted t
    order = sorted means xs t reached
