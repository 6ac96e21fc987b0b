-- An award keeps the accounts.
use Rattle.office_machine.proofs.Names.{HaveParents, option_map_or, ◌≡◌, ℕ, ◌+◌, ◌-◌, ◌≤◌, Bool, true, false, cond, not, ◌&&◌, List, ◌∷◌, Option, Some, None, refl, sym, ◌∙◌, ap, subst, ◌⊎◌, inl, inr, arith, nat_le, ◌<◌, nat_cmp-IsAntisymmetric, AllByRecursion, nat_cmp, eq_by_cmp, same_id, Caller, Refusal, holds_of, first_of, with_next_release, clock_put, securities_returned, LineRow, NoticeRow, LotRow, Tables, line_at, notice_at, lot_at, find_line, put_line, find_lot, after_puts, lot_cmp, find_award, put_award, put_lot, envelopes_of_lot, securities_of_lot, free_in, line_of_lot, Given, time_of, command_tests, effect, Readings, Move, Free, Reserved, moves, reserved_for, line_in, same_lot, move_of_award, other_keys, equal_ids, same_itself, found_key, own_key, nat_tests, AwardRow, EnvelopeRow, SecurityRow, is_open, is_undecided, is_active, LotState, price_of, winner, is_above, reserved_in, unsuccessful, awarded, award_row, decision_puts, award_puts}
use Rattle.office_commands.specs.declared.commands.Command.TheVariants as commands
use Rattle.office_base.specs.declared.puts.Put.TheVariants as puts
use Rattle.office_machine.proofs.Accounts.Aside.{kept_aside, aside-securities}
use Rattle.office_machine.proofs.Rows.Keyed.{found, found_put, elsewhere}
use Rattle.office_machine.proofs.Rows.Keyed as keyed
use Rattle.office_machine.proofs.Accounts.Kept.{AccountsStand, PotsAre, AwardIs, is_awarded}
use Rattle.office_machine.proofs.Accounts.LotChanged.{lots_are, award_is, back, over, after_line}
use Rattle.office_machine.proofs.Passed.{none_holds, not_false, at_least, witness, test_of}
use Rattle.office_base.specs.declared.records.LotState.TheVariants as lot_states

open_too : (l : LotState) → is_undecided l ≡ true → is_open l ≡ true
open_too lot_states.Undecided e = refl
open_too lot_states.Awarded e = cc
open_too lot_states.Contracted e = cc
open_too lot_states.Unsuccessful e = cc
open_too lot_states.Cancelled e = cc

not_awarded : (l : LotState) → is_undecided l ≡ true → is_awarded l ≡ false
not_awarded lot_states.Undecided e = refl
not_awarded lot_states.Awarded e = cc
not_awarded lot_states.Contracted e = cc
not_awarded lot_states.Unsuccessful e = cc
not_awarded lot_states.Cancelled e = cc

-- the price of the winner; 0 if there is none
abbrev price : Option EnvelopeRow → ℕ
price None = 0
price (Some e) = price_of e

module _ (readings : Readings) (xs : List Given) (s : Tables) (moment : ℕ) (caller : Caller) (n i : List ℕ) (kept : AccountsStand xs s) where
  abbrev x : Given
  x = record { before = s; moment = moment; caller = caller; command = commands.Award n i }

  abbrev k : List ℕ × List ℕ
  k = (n, i)

  abbrev best : Option EnvelopeRow
  best = winner (notice_at n s) (envelopes_of_lot n i s)

  abbrev securities : List SecurityRow
  securities = securities_of_lot n i s

  -- with any winner, or none
  module _ (l : LotRow) (row : NoticeRow) (w : LineRow) (lot : lot_at k s ≡ Some l) (notice : notice_at n s ≡ Some row) (line : line_at l.line s ≡ Some w) (undecided : is_undecided l.state ≡ true) where
    at : (l.notice, l.lot) ≡ k
    at = found_key keyed.lots s.lots k l lot

    lot_here : find_lot s.lots (l.notice, l.lot) ≡ Some l
    lot_here = ap (find_lot s.lots) at ∙ lot

    held : reserved_for xs k ≡ l.reserved
    held = kept.lots k l lot (open_too _ undecided)

    line_is : w.line ≡ l.line
    line_is = found_key keyed.lines s.lines l.line w line

    line_here : find_line s.lines w.line ≡ Some w
    line_here = ap (find_line s.lines) line_is ∙ line

    -- the books after the award
    abbrev after : Option EnvelopeRow → Tables
    after None = record s { lots = put_lot s.lots (unsuccessful l); lines = put_line s.lines (record w { free = w.free + l.reserved }) }
    after (Some e) = record s {
      awards = put_award s.awards (award_row s.clock (time_of x) l e);
      lots = put_lot s.lots (awarded e l);
      lines = put_line s.lines (record w { free = (w.free + l.reserved) - price_of e });
      notices = Rattle.office_base.specs.Tables.put_notice s.notices (with_next_release row);
      clock = record s.clock { moment = time_of x; awards = s.clock.awards + 1 };
    }

    abbrev moved : Option EnvelopeRow → List Move
    moved o = move_of_award l.line (reserved_for xs k) o ∷ moves xs

    pots : (o : Option EnvelopeRow) → price o ≤ l.reserved + w.free → (q : List ℕ) → PotsAre (moved o) (after o) q
    pots None p q = back xs s kept l lot_states.Unsuccessful 0 lot_here w line_is line_here q (reserved_for xs k) (w.free + l.reserved) (omega (arith, held)) (omega (arith, held))
    pots (Some e) p q = by (nat_le (price_of e) (reserved_for xs k)) refl
      where
        back_move : Move
        back_move = record { line = l.line; from = Reserved; to = Free; amount = reserved_for xs k - price_of e }

        over_move : Move
        over_move = record { line = l.line; from = Free; to = Reserved; amount = price_of e - reserved_for xs k }

        same : (ms : List Move) → PotsAre ms (after_line xs s kept l lot_states.Awarded (price_of e) lot_here w line_is line_here q 0 ((w.free + l.reserved) - price_of e)) q → PotsAre ms (after (Some e)) q
        same ms p = record { appropriation_is = p.appropriation_is; free_is = p.free_is; reserved_is = p.reserved_is; gains_are = p.gains_are; losses_are = p.losses_are; paid_is = p.paid_is; none_spent = p.none_spent }

        by : (b : Bool) → nat_le (price_of e) (reserved_for xs k) ≡ b → PotsAre (cond b back_move over_move ∷ moves xs) (after (Some e)) q
        by true h =
            let le : price_of e ≤ reserved_for xs k = grind (arith, nat_tests) in
            same _ (back xs s kept l lot_states.Awarded (price_of e) lot_here w line_is line_here q (reserved_for xs k - price_of e) ((w.free + l.reserved) - price_of e) (omega (arith, held, le)) (omega (arith, held, le)))
        by false h =
            let lt : reserved_for xs k < price_of e = grind (arith, nat_tests) in
            same _ (over xs s kept l lot_states.Awarded (price_of e) lot_here w line_is line_here q (price_of e - reserved_for xs k) ((w.free + l.reserved) - price_of e) (omega (arith, held, lt)) (omega (arith, held, lt, p)))

    abbrev held' : Option EnvelopeRow → List ℕ × List ℕ → ℕ
    held' o j = cond (same_lot k j) (option_map_or price_of o (reserved_for xs j)) (reserved_for xs j)

    held'-other : (o : Option EnvelopeRow) (j : List ℕ × List ℕ) → eq_by_cmp lot_cmp j (l.notice, l.lot) ≡ false → held' o j ≡ reserved_for xs j
    held'-other o j e = by (same_id n j.0) (same_id i j.1) refl refl
      where
        by : (a b : Bool) → same_id n j.0 ≡ a → same_id i j.1 ≡ b → cond (a && b) (option_map_or price_of o (reserved_for xs j)) (reserved_for xs j) ≡ reserved_for xs j
        by true true f g =
            let h : j ≡ (l.notice, l.lot) = (λ z. (sym (equal_ids n j.0 f) z, sym (equal_ids i j.1 g) z)) ∙ sym at in
            let m : eq_by_cmp lot_cmp j (l.notice, l.lot) ≡ true = ap (λ m. eq_by_cmp lot_cmp j m) (sym h) ∙ own_key keyed.lots.total j in
            absurd (let q = e in cc)
        by true false f g = refl
        by false b f g = refl

    held'-here : (o : Option EnvelopeRow) → held' o k ≡ option_map_or price_of o (reserved_for xs k)
    held'-here o = ap (λ b. cond b (option_map_or price_of o (reserved_for xs k)) (reserved_for xs k)) ((λ z. same_itself n z && same_id i i) ∙ same_itself i)

    -- no active award is of this lot
    none_active : (a : ℕ) (v : AwardRow) → find_award s.awards a ≡ Some v → is_active v.state ≡ true → v.notice ≡ l.notice → v.lot ≡ l.lot → ⊥
    none_active a v h f e g =
        let b : is_awarded l.state ≡ true = ((kept.awards a v h).of_lot l (ap (find_lot s.lots) (λ z. (e z, g z)) ∙ lot_here) f).0 in
        let c = not_awarded l.state undecided in
        cc

    -- the moves after the award: its own on the lot's line, and the earlier ones
    moves_are : (o : Option EnvelopeRow) → best ≡ o → moved o ≡ moves (x ∷ xs)
    moves_are o won = λ z. move_of_award (line_in (sym lot z)) (reserved_for xs k) (sym won z) ∷ moves xs

    keeps_by : (o : Option EnvelopeRow) → best ≡ o → price o ≤ l.reserved + w.free → AccountsStand (x ∷ xs) (after o)
    keeps_by None won p = record {
      pots = λ q. subst (λ ms. PotsAre ms (after None) q) (moves_are None won) (pots None p q);
      lots = lots_are xs s kept l lot_states.Unsuccessful 0 lot_here x (λ e. cc) (held'-other best);
      awards = λ a v h. award_is xs s kept l lot_states.Unsuccessful 0 lot_here (after None) refl (omega arith) a v h (none_active a v h);
      one_active = kept.one_active;
      contracts = λ c y h. let old = kept.contracts c y h in record { of_award = old.of_award; running = old.running; within = old.within; came_in = omega (arith, old.came_in); went_out = omega (arith, old.went_out) };
      no_contract = λ c h. let old = kept.no_contract c h in record { came_in = omega (arith, old.came_in); went_out = omega (arith, old.went_out); raised = old.raised; lessened = old.lessened; paid_out = old.paid_out };
    }
    keeps_by (Some e) won p = record {
      pots = λ q. subst (λ ms. PotsAre ms (after (Some e)) q) (moves_are (Some e) won) (pots (Some e) p q);
      lots = lots_are xs s kept l lot_states.Awarded (price_of e) lot_here x
          (λ _. ap (held' best) at ∙ (held'-here best ∙ ap (λ o. option_map_or price_of o (reserved_for xs k)) won)) (held'-other best);
      awards = λ a v h. an_award a v (was a v h);
      one_active = λ a b v u g h f' f e1 e2. one a b v u (was a v g) (was b u h) f' f e1 e2;
      contracts = λ c y h. let old = kept.contracts c y h in record { of_award = (old.of_award.0, elsewhere keyed.awards s.awards new c (drawn_before c old.of_award.0 old.of_award.1) ∙ old.of_award.1, old.of_award.2); running = old.running; within = old.within; came_in = omega (arith, old.came_in); went_out = omega (arith, old.went_out) };
      no_contract = λ c h. let old = kept.no_contract c h in record { came_in = omega (arith, old.came_in); went_out = omega (arith, old.went_out); raised = old.raised; lessened = old.lessened; paid_out = old.paid_out };
    }
      where
        new : AwardRow
        new = award_row s.clock (time_of x) l e

        drawn_before : (a : ℕ) (v : AwardRow) → find_award s.awards a ≡ Some v → eq_by_cmp nat_cmp a (s.clock.awards + 1) ≡ false
        drawn_before a v h = other_keys nat_cmp-IsAntisymmetric a (s.clock.awards + 1) (λ g. let d = (kept.awards a v h).drawn in omega arith)

        was : (a : ℕ) (v : AwardRow) → find_award (after (Some e)).awards a ≡ Some v → ((a ≡ s.clock.awards + 1) × (v ≡ new)) ⊎ ((eq_by_cmp nat_cmp a (s.clock.awards + 1) ≡ false) × (find_award s.awards a ≡ Some v))
        was a v h = found keyed.awards s.awards new a v h

        an_award : (a : ℕ) (v : AwardRow) → ((a ≡ s.clock.awards + 1) × (v ≡ new)) ⊎ ((eq_by_cmp nat_cmp a (s.clock.awards + 1) ≡ false) × (find_award s.awards a ≡ Some v)) → AwardIs (after (Some e)) a v
        an_award a v (inl q) =
            let at : AwardIs (after (Some e)) (s.clock.awards + 1) new = record { drawn = omega arith; of_lot = λ m h _. let same : Some m ≡ Some (awarded e l) = sym h ∙ found_put keyed.lots s.lots _ in let is : m ≡ awarded e l = cc in subst (λ (m : LotRow). (is_awarded m.state ≡ true) × (m.reserved ≡ price_of e)) (sym is) (refl, refl) } in
            subst (λ a. AwardIs (after (Some e)) a v) (sym q.0) (subst (AwardIs (after (Some e)) (s.clock.awards + 1)) (sym q.1) at)
        an_award a v (inr q) = award_is xs s kept l lot_states.Awarded (price_of e) lot_here (after (Some e)) refl (omega arith) a v q.1 (none_active a v q.1)

        one : (a b : ℕ) (v u : AwardRow) → ((a ≡ s.clock.awards + 1) × (v ≡ new)) ⊎ ((eq_by_cmp nat_cmp a (s.clock.awards + 1) ≡ false) × (find_award s.awards a ≡ Some v)) → ((b ≡ s.clock.awards + 1) × (u ≡ new)) ⊎ ((eq_by_cmp nat_cmp b (s.clock.awards + 1) ≡ false) × (find_award s.awards b ≡ Some u)) → is_active v.state ≡ true → is_active u.state ≡ true → v.notice ≡ u.notice → v.lot ≡ u.lot → a ≡ b
        one a b v u (inl p) (inl q) f g x y = p.0 ∙ sym q.0
        one a b v u (inl p) (inr q) f g x y = absurd (none_active b u q.1 g (sym x ∙ ap (λ (v : AwardRow). v.notice) p.1) (sym y ∙ ap (λ (v : AwardRow). v.lot) p.1))
        one a b v u (inr p) (inl q) f g x y = absurd (none_active a v p.1 f (x ∙ ap (λ (v : AwardRow). v.notice) q.1) (y ∙ ap (λ (v : AwardRow). v.lot) q.1))
        one a b v u (inr p) (inr q) f g x y = kept.one_active a b v u p.1 q.1 f g x y

    -- all puts of the award
    effect_is : (o : Option EnvelopeRow) → best ≡ o → decision_puts s.clock (time_of x) row l w o securities ≡ effect readings x
    effect_is o won =
        (λ z. decision_puts s.clock (time_of x) row l w (sym (ap (λ r. winner r (envelopes_of_lot n i s)) (sym notice) ∙ won) z) securities)
        ∙ (λ z. award_puts (record { notice = sym notice z; lot = sym lot z; line = (sym (ap (λ o. line_of_lot o s) lot ∙ line) z); envelopes = envelopes_of_lot n i s; securities = securities; clock = s.clock }) (time_of x))

    puts_by : (o : Option EnvelopeRow) → best ≡ o → price o ≤ l.reserved + w.free → AccountsStand (x ∷ xs) (after_puts (decision_puts s.clock (time_of x) row l w o securities) s)
    puts_by None won p =
        kept_aside (x ∷ xs) (puts.Notice (with_next_release row) ∷ clock_put s.clock (time_of x) ∷ securities_returned securities) (after None) (tt, (omega arith, aside-securities s.clock.awards securities)) (keeps_by None won p)
    puts_by (Some e) won p = keeps_by (Some e) won p

    keeps : (o : Option EnvelopeRow) → best ≡ o → price o ≤ l.reserved + w.free → AccountsStand (x ∷ xs) (after_puts (effect readings x) s)
    keeps o won p = subst (λ ps. AccountsStand (x ∷ xs) (after_puts ps s)) (effect_is o won) (puts_by o won p)

  module _ (have : HaveParents s s) (allowed : first_of (command_tests x) ≡ None) where
    passes : AllByRecursion (λ (test : Bool × Refusal). test.0 ≡ false) (command_tests x)
    passes = none_holds (command_tests x) allowed

    enough_by : (o : Option EnvelopeRow) (funds : ℕ) → holds_of (is_above funds) o ≡ false → price o ≤ funds
    enough_by None funds h = omega arith
    enough_by (Some e) funds h = at_least _ _ h

    pub award_keeps : AccountsStand (x ∷ xs) (after_puts (effect readings x) s)
    award_keeps =
        let notice = witness (notice_at n s) (not_false _ passes.0) in
        let lot = witness (lot_at k s) (not_false _ passes.1.0) in
        let line = witness _ (have.lots k lot.0 lot.1).line in
        let undecided = not_false _ (test_of (λ (l : LotRow). not (is_undecided l.state)) (lot_at k s) lot.0 lot.1 false passes.1.1.1.0) in
        let enough = enough_by best _ passes.1.1.1.1.1.1.0 in
        keeps lot.0 notice.0 line.0 lot.1 notice.1 line.1 undecided best refl
        (omega (arith, enough, ap reserved_in lot.1, ap free_in (ap (λ o. line_of_lot o s) lot.1 ∙ line.1)))
