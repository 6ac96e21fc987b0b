-- A failure of an award keeps the accounts.
use Rattle.office_machine.proofs.Names.{HaveParents, ◌≡◌, ℕ, Bool, true, false, List, ◌∷◌, ◌++◌, Some, None, refl, sym, ◌∙◌, ap, subst, arith, AllByRecursion, Caller, Refusal, Forfeited, first_of, with_next_release, clock_put, put_if, passed_over, security_settled, NoticeRow, LotRow, Tables, notice_at, lot_at, find_lot, after_puts, find_award, put_award, put_lot, award_at, plus, minus, paid_under, notice_of_award, lot_of_award, envelope_of_award, security_of_envelope, Given, time_of, command_tests, effect, Readings, moves, found_key, AwardRow, is_active, isnt_active, failed_award, undecided_again, fail_puts}
use Rattle.office_commands.specs.declared.commands.Command.TheVariants as commands
use Rattle.office_base.specs.declared.puts.Put.TheVariants as puts
use Rattle.office_machine.proofs.Accounts.Aside.{kept_aside, aside-append, aside-if}
use Rattle.office_machine.proofs.Rows.Keyed.{found}
use Rattle.office_machine.proofs.Rows.Keyed as keyed
use Rattle.office_machine.proofs.Accounts.Kept.{AccountsStand, PotsAre, AwardIs, is_awarded}
use Rattle.office_machine.proofs.Passed.{none_holds, not_false, witness, test_of}
use Rattle.office_base.specs.declared.records.AwardState.TheVariants as award_states
use Rattle.office_base.specs.declared.records.LotState.TheVariants as lot_states
use Rattle.office_machine.proofs.Accounts.LotChanged.{joined, reserved_after, lots_are, awards_are, one_active, award_of}
use Rattle.office_machine.proofs.Commands.Sign.Accounts.{open_too}

module _ (readings : Readings) (xs : List Given) (s : Tables) (moment : ℕ) (caller : Caller) (a : ℕ) (kept : AccountsStand xs s) where
  abbrev x : Given
  x = record { before = s; moment = moment; caller = caller; command = commands.Fail a }

  module _ (w : AwardRow) (l : LotRow) (n : NoticeRow) (is : award_at a s ≡ Some w) (lot : lot_at (w.notice, w.lot) s ≡ Some l) (notice : notice_at w.notice s ≡ Some n)
      (active : is_active w.state ≡ true) where
    abbrev k : List ℕ × List ℕ
    k = (w.notice, w.lot)

    number : w.award ≡ a
    number = found_key keyed.awards s.awards a w is

    award : AwardIs s a w
    award = kept.awards a w is

    here : find_award s.awards w.award ≡ Some w
    here = ap (find_award s.awards) number ∙ is

    awarded : is_awarded l.state ≡ true
    awarded = (award.of_lot l lot active).0

    at : (l.notice, l.lot) ≡ k
    at = found_key keyed.lots s.lots k l lot

    lot_here : find_lot s.lots (l.notice, l.lot) ≡ Some l
    lot_here = ap (find_lot s.lots) at ∙ lot

    abbrev s' : Tables
    s' = record s { awards = put_award s.awards (failed_award w); lots = put_lot s.lots (undecided_again l) }

    pots : (q : List ℕ) → PotsAre (moves (x ∷ xs)) s' q
    pots q =
        let old = kept.pots q in
        record {
          appropriation_is = old.appropriation_is;
          free_is = old.free_is;
          reserved_is = omega (arith, old.reserved_is, reserved_after xs s kept l lot_states.Undecided l.reserved lot_here q);
          gains_are = omega (arith, old.gains_are, joined xs s kept l lot_states.Undecided l.reserved lot_here (plus s.entries) q);
          losses_are = omega (arith, old.losses_are, joined xs s kept l lot_states.Undecided l.reserved lot_here (minus s.entries) q);
          paid_is = omega (arith, old.paid_is, joined xs s kept l lot_states.Undecided l.reserved lot_here (paid_under s.entries) q);
          none_spent = old.none_spent;
        }

    failed_keeps : AccountsStand (x ∷ xs) s'
    failed_keeps = record {
      pots = pots;
      lots = lots_are xs s kept l lot_states.Undecided l.reserved lot_here x (λ e. kept.lots _ l lot_here (open_too l.state awarded)) (λ j e. refl);
      awards = awards_are xs s kept l lot_states.Undecided l.reserved lot_here w award_states.Failed refl here active at s' refl (omega arith);
      one_active = one_active xs s kept l lot_states.Undecided l.reserved lot_here w award_states.Failed refl here active at;
      contracts = λ c y h. let old = kept.contracts c y h in record { of_award = award_of xs s kept l lot_states.Undecided l.reserved lot_here w award_states.Failed refl here active at c y h; running = old.running; within = old.within; came_in = omega (arith, old.came_in); went_out = omega (arith, old.went_out) };
      no_contract = λ c h. let old = kept.no_contract c h in record { came_in = omega (arith, old.came_in); went_out = omega (arith, old.went_out); raised = old.raised; lessened = old.lessened; paid_out = old.paid_out };
    }

    effect_is : fail_puts (record { award = Some w; notice = Some n; lot = Some l; envelope = (envelope_of_award (award_at a s) s); security = (security_of_envelope (envelope_of_award (award_at a s) s) s); clock = s.clock }) (time_of x) ≡ effect readings x
    effect_is = λ i. fail_puts (record { award = sym is i; notice = (sym (ap (λ o. notice_of_award o s) is ∙ notice) i); lot = (sym (ap (λ o. lot_of_award o s) is ∙ lot) i); envelope = (envelope_of_award (award_at a s) s); security = (security_of_envelope (envelope_of_award (award_at a s) s) s); clock = s.clock }) (time_of x)

    abbrev rest : List Rattle.office_base.specs.declared.puts.Put.Put
    rest = put_if (λ e. puts.Envelope (passed_over e)) (envelope_of_award (award_at a s) s) ++ put_if (security_settled Forfeited) (security_of_envelope (envelope_of_award (award_at a s) s) s)

    rest_aside : Rattle.office_machine.proofs.Accounts.Aside.AreAside s.clock.awards rest
    rest_aside = aside-append s.clock.awards (put_if (λ e. puts.Envelope (passed_over e)) (envelope_of_award (award_at a s) s)) (put_if (security_settled Forfeited) (security_of_envelope (envelope_of_award (award_at a s) s) s))
        (aside-if s.clock.awards (λ e. puts.Envelope (passed_over e)) (envelope_of_award (award_at a s) s) (λ _. tt))
        (aside-if s.clock.awards (security_settled Forfeited) (security_of_envelope (envelope_of_award (award_at a s) s) s) (λ _. tt))

    keeps : AccountsStand (x ∷ xs) (after_puts (effect readings x) s)
    keeps = subst (λ ps. AccountsStand (x ∷ xs) (after_puts ps s)) effect_is
        (kept_aside (x ∷ xs) (puts.Notice (with_next_release n) ∷ clock_put s.clock (time_of x) ∷ rest) s' (tt, (omega arith, rest_aside)) failed_keeps)

  module _ (have : HaveParents s s) (allowed : first_of (command_tests x) ≡ None) where
    passes : AllByRecursion (λ (test : Bool × Refusal). test.0 ≡ false) (command_tests x)
    passes = none_holds (command_tests x) allowed

    pub fail_keeps : AccountsStand (x ∷ xs) (after_puts (effect readings x) s)
    fail_keeps =
        let found = witness (award_at a s) (not_false _ passes.0) in
        let w = found.0 in
        let is = found.1 in
        let of = have.awards a w is in
        let lot = witness _ of.lot in
        let notice = witness _ of.notice in
        keeps w lot.0 notice.0 is lot.1 notice.1 (not_false _ (test_of isnt_active (award_at a s) w is false passes.1.0))
