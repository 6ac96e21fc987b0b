-- A signing keeps the accounts.
use Rattle.office_machine.proofs.Names.{HaveParents, ◌≡◌, ℕ, ◌+◌, Bool, true, false, cond, List, ◌∷◌, Option, Some, None, refl, sym, ◌∙◌, ap, subst, ◌⊎◌, inl, inr, arith, ◌++◌, nat_cmp-IsAntisymmetric, nat_cmp_total, AllByRecursion, nat_cmp, eq_by_cmp, same_id, NamedSecurity, same_number, Tables, IsSorted, notice_at, lot_at, find_lot, find_contract, put_contract, after_puts, find_award, put_award, put_lot, award_at, Caller, Refusal, first_of, with_next_release, clock_put, securities_returned, put_if, NoticeRow, LotRow, ContractRow, plus, minus, paid_under, notice_of_award, lot_of_award, envelope_of_award, securities_of_award, Given, time_of, command_tests, effect, Readings, moves, reserved_for, line_in, lot_in_award, other_keys, found_key, own_key, AwardRow, is_open, is_active, LotState, isnt_active, signed_award, contracted_lot, contract_row, tenderer_in, performance_put, sign_puts}
use Rattle.office_commands.specs.declared.commands.Command.TheVariants as commands
use Rattle.office_base.specs.declared.puts.Put.TheVariants as puts
use Rattle.office_machine.proofs.Accounts.Aside.{kept_aside, aside-securities, aside-append, aside-if}
use Rattle.office_machine.proofs.Rows.Keyed.{found, found_put, none_before}
use Rattle.office_machine.proofs.Rows.Keyed as keyed
use Rattle.office_machine.proofs.Accounts.Kept.{AccountsStand, PotsAre, AwardIs, ContractIs, NoContractIs, over_contracts, is_awarded}
use Rattle.office_machine.proofs.Passed.{none_holds, not_false, witness, test_of, no_zero}
use Rattle.office_base.specs.declared.records.LotState.TheVariants as lot_states
use Rattle.office_base.specs.declared.records.AwardState.TheVariants as award_states
use Rattle.office_machine.proofs.Accounts.LotChanged.{joined, reserved_after, lots_are, awards_are, one_active, award_of}
use Rattle.office_machine.proofs.Accounts.Joins.{over_contracts-new}

pub open_too : (l : LotState) → is_awarded l ≡ true → is_open l ≡ true
open_too lot_states.Undecided e = cc
open_too lot_states.Awarded e = refl
open_too lot_states.Contracted e = cc
open_too lot_states.Unsuccessful e = cc
open_too lot_states.Cancelled e = cc

module _ (readings : Readings) (xs : List Given) (s : Tables) (moment : ℕ) (caller : Caller) (a : ℕ) (named : Option NamedSecurity) (kept : AccountsStand xs s) (order : IsSorted s) where
  abbrev x : Given
  x = record { before = s; moment = moment; caller = caller; command = commands.Sign a named }

  module _ (w : AwardRow) (l : LotRow) (n : NoticeRow) (is : award_at a s ≡ Some w) (lot : lot_at (w.notice, w.lot) s ≡ Some l) (notice : notice_at w.notice s ≡ Some n)
      (active : is_active w.state ≡ true) where
    abbrev k : List ℕ × List ℕ
    k = (w.notice, w.lot)

    abbrev l' : LotRow
    l' = contracted_lot l

    abbrev w' : AwardRow
    w' = signed_award w

    abbrev r : ContractRow
    r = contract_row (time_of x) w (tenderer_in (envelope_of_award (award_at a s) s))

    abbrev s' : Tables
    s' = record s { awards = put_award s.awards w'; lots = put_lot s.lots l'; contracts = put_contract s.contracts r }

    number : w.award ≡ a
    number = found_key keyed.awards s.awards a w is

    award : AwardIs s a w
    award = kept.awards a w is

    here : find_award s.awards w.award ≡ Some w
    here = ap (find_award s.awards) number ∙ is

    awarded : (is_awarded l.state ≡ true) × (l.reserved ≡ w.price)
    awarded = award.of_lot l lot active

    at : (l.notice, l.lot) ≡ k
    at = found_key keyed.lots s.lots k l lot

    lot_here : find_lot s.lots (l.notice, l.lot) ≡ Some l
    lot_here = ap (find_lot s.lots) at ∙ lot

    held : reserved_for xs k ≡ l.reserved
    held = kept.lots k l lot (open_too l.state awarded.0)

    -- the lot of the move is that of the award
    of_award : lot_in_award (award_at a s) ≡ k
    of_award = ap lot_in_award is

    held_here : reserved_for xs (lot_in_award (award_at a s)) ≡ l.reserved
    held_here = ap (reserved_for xs) of_award ∙ held

    of_lot : line_in (lot_of_award (award_at a s) s) ≡ l.line
    of_lot = ap line_in (ap (λ o. lot_of_award o s) is ∙ lot)

    new : find_contract s.contracts w.award ≡ None
    new = by (find_contract s.contracts w.award) refl
      where
        by : (o : Option ContractRow) → find_contract s.contracts w.award ≡ o → o ≡ None
        by None e = refl
        by (Some c) e = let i = (kept.contracts _ c e).of_award in let j : i.0 ≡ w = (let g = i.1 in cc here) in let f : is_active w.state ≡ false = subst (λ (v : AwardRow). is_active v.state ≡ false) j i.2 in cc active

    lot_there : find_lot s'.lots (r.notice, r.lot) ≡ Some l'
    lot_there = ap (find_lot s'.lots) (sym at) ∙ found_put keyed.lots s.lots l'

    nothing_yet : NoContractIs xs s w.award
    nothing_yet = kept.no_contract w.award new

    joined_new : (f : ContractRow → ℕ) (q : List ℕ) (n : ℕ) → f r ≡ n → over_contracts f s'.lots s'.contracts q ≡ over_contracts f s.lots s.contracts q + cond (same_id l.line q) n 0
    joined_new f q n e =
        omega (arith, over_contracts-new f s'.lots s.contracts r l' q new lot_there, joined xs s kept l lot_states.Contracted 0 lot_here f q, ap (λ n. cond (same_id l.line q) n 0) e)

    pots : (q : List ℕ) → PotsAre (moves (x ∷ xs)) s' q
    pots q =
        let moved : cond (same_id (line_in (lot_of_award (award_at a s) s)) q) (reserved_for xs (lot_in_award (award_at a s))) 0 ≡ cond (same_id l.line q) l.reserved 0 = (λ i. cond (same_id (of_lot i) q) (held_here i) 0) in
        record {
          appropriation_is = omega (arith, old.appropriation_is);
          free_is = omega (arith, old.free_is);
          reserved_is = omega (arith, old.reserved_is, reserved_after xs s kept l lot_states.Contracted 0 lot_here q, moved, no_zero (same_id l.line q));
          gains_are = omega (arith, old.gains_are, joined_new (plus s.entries) q l.reserved (omega (arith, nothing_yet.raised, awarded.1)), moved);
          losses_are = omega (arith, old.losses_are, joined_new (minus s.entries) q 0 (omega (arith, nothing_yet.lessened)), no_zero (same_id l.line q));
          paid_is = omega (arith, old.paid_is, joined_new (paid_under s.entries) q 0 nothing_yet.paid_out, no_zero (same_id l.line q));
          none_spent = omega (arith, old.none_spent);
        }
      where
        old : PotsAre (moves xs) s q
        old = kept.pots q

    contracts : (c : ℕ) (y : ContractRow) → find_contract s'.contracts c ≡ Some y → ContractIs (x ∷ xs) s' c y
    contracts c y h = by (found keyed.contracts s.contracts r c y h)
      where
        by : ((c ≡ w.award) × (y ≡ r)) ⊎ ((eq_by_cmp nat_cmp c w.award ≡ false) × (find_contract s.contracts c ≡ Some y)) → ContractIs (x ∷ xs) s' c y
        by (inl p) =
            let at : ContractIs (x ∷ xs) s' w.award r =
            record {
              of_award = (w', found_put keyed.awards s.awards w', refl);
              running = λ _. refl;
              within = omega (arith, nothing_yet.lessened);
              came_in = omega (arith, nothing_yet.raised, nothing_yet.came_in, awarded.1, held_here, ap (λ b. cond b (reserved_for xs (lot_in_award (award_at a s))) 0) (ap (λ n. same_number a n) number ∙ own_key nat_cmp_total a));
              went_out = omega (arith, nothing_yet.lessened, nothing_yet.went_out);
            }
            in
            subst (λ c. ContractIs (x ∷ xs) s' c y) (sym p.0) (subst (ContractIs (x ∷ xs) s' w.award) (sym p.1) at)
        by (inr p) = record {
          of_award = award_of xs s kept l lot_states.Contracted 0 lot_here w award_states.Signed refl here active at c y p.1;
          running = old.running;
          within = old.within;
          came_in = omega (arith, old.came_in, ap (λ b. cond b (reserved_for xs (lot_in_award (award_at a s))) 0) apart);
          went_out = omega (arith, old.went_out);
        }
          where
            old : ContractIs xs s c y
            old = kept.contracts c y p.1

            apart : same_number a c ≡ false
            apart = other_keys nat_cmp-IsAntisymmetric a c (λ e. let i : same_number c w.award ≡ true = ap (λ n. same_number c n) (number ∙ e) ∙ own_key nat_cmp_total c in let f = p.0 in absurd cc)

    no_contract : (c : ℕ) → find_contract s'.contracts c ≡ None → NoContractIs (x ∷ xs) s' c
    no_contract c h =
        let p = none_before keyed.contracts s.contracts r c h in
        let old = kept.no_contract c p.1 in
        let apart : same_number a c ≡ false = other_keys nat_cmp-IsAntisymmetric a c (λ e. let i : same_number c w.award ≡ true = ap (λ n. same_number c n) (number ∙ e) ∙ own_key nat_cmp_total c in let f = p.0 in absurd cc) in
        record {
          came_in = omega (arith, old.came_in, ap (λ b. cond b (reserved_for xs (lot_in_award (award_at a s))) 0) apart);
          went_out = omega (arith, old.went_out);
          raised = old.raised;
          lessened = old.lessened;
          paid_out = old.paid_out;
        }

    signed_keeps : AccountsStand (x ∷ xs) s'
    signed_keeps = record {
      pots = pots;
      lots = lots_are xs s kept l lot_states.Contracted 0 lot_here x (λ e. cc) (λ j e. refl);
      awards = awards_are xs s kept l lot_states.Contracted 0 lot_here w award_states.Signed refl here active at s' refl (omega arith);
      one_active = one_active xs s kept l lot_states.Contracted 0 lot_here w award_states.Signed refl here active at;
      contracts = contracts;
      no_contract = no_contract;
    }

    effect_is : sign_puts (record { award = Some w; notice = Some n; lot = Some l; envelope = (envelope_of_award (award_at a s) s); securities = (securities_of_award (award_at a s) s); clock = s.clock }) (time_of x) named ≡ effect readings x
    effect_is = λ i. sign_puts (record { award = sym is i; notice = (sym (ap (λ o. notice_of_award o s) is ∙ notice) i); lot = (sym (ap (λ o. lot_of_award o s) is ∙ lot) i); envelope = (envelope_of_award (award_at a s) s); securities = (securities_of_award (award_at a s) s); clock = s.clock }) (time_of x) named

    keeps : AccountsStand (x ∷ xs) (after_puts (effect readings x) s)
    keeps = subst (λ ps. AccountsStand (x ∷ xs) (after_puts ps s)) effect_is
        (kept_aside (x ∷ xs) (puts.Notice (with_next_release n) ∷ clock_put s.clock (time_of x) ∷ securities_returned (securities_of_award (award_at a s) s) ++ put_if (performance_put w) named) s' (tt, (omega arith, aside-append s.clock.awards (securities_returned (securities_of_award (award_at a s) s)) (put_if (performance_put w) named) (aside-securities s.clock.awards (securities_of_award (award_at a s) s)) (aside-if s.clock.awards (performance_put w) named (λ _. tt)))) signed_keeps)

  module _ (have : HaveParents s s) (allowed : first_of (command_tests x) ≡ None) where
    passes : AllByRecursion (λ (test : Bool × Refusal). test.0 ≡ false) (command_tests x)
    passes = none_holds (command_tests x) allowed

    pub sign_keeps : AccountsStand (x ∷ xs) (after_puts (effect readings x) s)
    sign_keeps =
        let found = witness (award_at a s) (not_false _ passes.0) in
        let w = found.0 in
        let is = found.1 in
        let of = have.awards a w is in
        let lot = witness _ of.lot in
        let notice = witness _ of.notice in
        keeps w lot.0 notice.0 is lot.1 notice.1 (not_false _ (test_of isnt_active (award_at a s) w is false passes.1.1.1.1.0))
