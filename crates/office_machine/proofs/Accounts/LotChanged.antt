-- A lot gets another state and another reserved amount.
use Rattle.office_machine.proofs.Names.{◌≡◌, ℕ, ◌+◌, ◌≤◌, true, false, cond, List, ◌∷◌, Some, refl, sym, ◌∙◌, ap, subst, ◌⊎◌, inl, inr, arith, nat_cmp-IsAntisymmetric, nat_cmp_total, nat_cmp, eq_by_cmp, same_id, same_number, Tables, lot_cmp, find_line, put_line, find_lot, put_lot, find_award, put_award, find_contract, is_open, is_active, LotState, AwardState, LineRow, LotRow, AwardRow, ContractRow, plus, minus, paid_under, Given, Free, Reserved, moves, reserved_for, other_keys, own_key}
use Rattle.office_machine.proofs.Accounts.Joins.{over_contracts-lot_kept, reserved-replaced, free-replaced}
use Rattle.office_machine.proofs.Rows.Keyed.{found, found_put, elsewhere}
use Rattle.office_machine.proofs.Rows.Keyed as keyed
use Rattle.office_machine.proofs.Accounts.Kept.{AccountsStand, PotsAre, LotIs, AwardIs, reserved_over, over_contracts, is_awarded}
use Rattle.office_machine.proofs.Passed.{split}

module _ (xs : List Given) (s : Tables) (kept : AccountsStand xs s) (l : LotRow) (state : LotState) (amount : ℕ) (here : find_lot s.lots (l.notice, l.lot) ≡ Some l) where
  abbrev pub lot_after : LotRow
  lot_after = record l { state = state; reserved = amount }

  abbrev pub lots_after : List LotRow
  lots_after = put_lot s.lots lot_after

  pub there_after : find_lot lots_after (l.notice, l.lot) ≡ Some lot_after
  there_after = found_put keyed.lots s.lots lot_after

  pub joined : (f : ContractRow → ℕ) (q : List ℕ) → over_contracts f lots_after s.contracts q ≡ over_contracts f s.lots s.contracts q
  joined f q = over_contracts-lot_kept f s.lots s.contracts l lot_after q here refl

  pub reserved_after : (q : List ℕ) → reserved_over q lots_after + cond (same_id l.line q) l.reserved 0 ≡ reserved_over q s.lots + cond (same_id l.line q) amount 0
  reserved_after q = reserved-replaced s.lots l lot_after q here refl

  -- if the facts are true of the changed lot, they are true of every lot
  pub lots_are : (x : Given)
      → (is_open state ≡ true → reserved_for (x ∷ xs) (l.notice, l.lot) ≡ amount)
      → ((j : List ℕ × List ℕ) → eq_by_cmp lot_cmp j (l.notice, l.lot) ≡ false → reserved_for (x ∷ xs) j ≡ reserved_for xs j)
      → (j : List ℕ × List ℕ) (y : LotRow) → find_lot lots_after j ≡ Some y → LotIs (x ∷ xs) j y
  lots_are x now others j y h = by (found keyed.lots s.lots lot_after j y h)
    where
      by : ((j ≡ (l.notice, l.lot)) × (y ≡ lot_after)) ⊎ ((eq_by_cmp lot_cmp j (l.notice, l.lot) ≡ false) × (find_lot s.lots j ≡ Some y)) → LotIs (x ∷ xs) j y
      by (inl p) = subst (λ j. LotIs (x ∷ xs) j y) (sym p.0) (subst (LotIs (x ∷ xs) (l.notice, l.lot)) (sym p.1) now)
      by (inr p) = λ e. others j p.0 ∙ kept.lots j y p.1 e

  -- the facts remain true of an award, unless it is an active one of this lot
  pub award_is : (s' : Tables) → s'.lots ≡ lots_after → s.clock.awards ≤ s'.clock.awards → (a : ℕ) (v : AwardRow) → find_award s.awards a ≡ Some v
      → (is_active v.state ≡ true → v.notice ≡ l.notice → v.lot ≡ l.lot → ⊥) → AwardIs s' a v
  award_is s' is later a v h none = record { drawn = omega (arith, old.drawn, later); of_lot = λ m h active. of m active (found keyed.lots s.lots lot_after (v.notice, v.lot) m (ap (λ rows. find_lot rows (v.notice, v.lot)) (sym is) ∙ h)) }
    where
      old : AwardIs s a v
      old = kept.awards a v h

      of : (m : LotRow) → is_active v.state ≡ true
          → ((◌≡◌ {A = List ℕ × List ℕ} (v.notice, v.lot) (l.notice, l.lot)) × (m ≡ lot_after)) ⊎ ((eq_by_cmp lot_cmp (v.notice, v.lot) (l.notice, l.lot) ≡ false) × (find_lot s.lots (v.notice, v.lot) ≡ Some m))
          → (is_awarded m.state ≡ true) × (m.reserved ≡ v.price)
      of m active (inl p) = absurd (none active (ap (λ (k : List ℕ × List ℕ). k.0) p.0) (ap (λ (k : List ℕ × List ℕ). k.1) p.0))
      of m active (inr p) = old.of_lot m p.1 active

  -- the difference moves between the lot's reserved amount and the free amount of its line
  module _ (w : LineRow) (line_is : w.line ≡ l.line) (line_here : find_line s.lines w.line ≡ Some w) (q : List ℕ) (n free : ℕ) where
    abbrev pub after_line : Tables
    after_line = record s { lots = lots_after; lines = put_line s.lines (record w { free = free }) }

    at_line : (m : ℕ) → cond (same_id w.line q) m 0 ≡ cond (same_id l.line q) m 0
    at_line m = ap (λ k. cond (same_id k q) m 0) line_is

    pub back : amount + n ≡ l.reserved → free ≡ w.free + n → PotsAre (record { line = l.line; from = Reserved; to = Free; amount = n } ∷ moves xs) after_line q
    back less more =
        let old = kept.pots q in
        let freed = free-replaced s.lines w free q line_here in
        record {
          appropriation_is = omega (arith, old.appropriation_is, freed.appropriation_is);
          free_is = omega (arith, old.free_is, freed.free_is, split (same_id w.line q) w.free n free more, at_line n);
          reserved_is = omega (arith, old.reserved_is, reserved_after q, split (same_id l.line q) amount n l.reserved (sym less));
          gains_are = omega (arith, old.gains_are, joined (plus s.entries) q);
          losses_are = omega (arith, old.losses_are, joined (minus s.entries) q);
          paid_is = omega (arith, old.paid_is, joined (paid_under s.entries) q);
          none_spent = omega (arith, old.none_spent);
        }

    pub over : amount ≡ l.reserved + n → free + n ≡ w.free → PotsAre (record { line = l.line; from = Free; to = Reserved; amount = n } ∷ moves xs) after_line q
    over more less =
        let old = kept.pots q in
        let freed = free-replaced s.lines w free q line_here in
        record {
          appropriation_is = omega (arith, old.appropriation_is, freed.appropriation_is);
          free_is = omega (arith, old.free_is, freed.free_is, split (same_id w.line q) free n w.free (sym less), at_line n);
          reserved_is = omega (arith, old.reserved_is, reserved_after q, split (same_id l.line q) l.reserved n amount more);
          gains_are = omega (arith, old.gains_are, joined (plus s.entries) q);
          losses_are = omega (arith, old.losses_are, joined (minus s.entries) q);
          paid_is = omega (arith, old.paid_is, joined (paid_under s.entries) q);
          none_spent = omega (arith, old.none_spent);
        }

  -- the lot's active award gets a state that isn't active
  module _ (w : AwardRow) (settled : AwardState) (inactive : is_active settled ≡ false) (is : find_award s.awards w.award ≡ Some w) (active : is_active w.state ≡ true) (at : ◌≡◌ {A = List ℕ × List ℕ} (l.notice, l.lot) (w.notice, w.lot)) where
    abbrev pub award_after : AwardRow
    award_after = record w { state = settled }

    abbrev pub awards_after : List AwardRow
    awards_after = put_award s.awards award_after

    abbrev WasThere : ℕ → AwardRow → Type 0
    WasThere b v = ((b ≡ w.award) × (v ≡ award_after)) ⊎ ((eq_by_cmp nat_cmp b w.award ≡ false) × (find_award s.awards b ≡ Some v))

    was_there : (b : ℕ) (v : AwardRow) → find_award awards_after b ≡ Some v → WasThere b v
    was_there b v h = found keyed.awards s.awards award_after b v h

    -- no other award of the lot is active
    alone : (b : ℕ) (v : AwardRow) → eq_by_cmp nat_cmp b w.award ≡ false → find_award s.awards b ≡ Some v → is_active v.state ≡ true → v.notice ≡ l.notice → v.lot ≡ l.lot → ⊥
    alone b v other h f i j =
        let g : b ≡ w.award = kept.one_active b w.award v w h is f active (i ∙ ap (λ k. k.0) at) (j ∙ ap (λ k. k.1) at) in
        let same : same_number b w.award ≡ true = ap (λ n. same_number b n) (sym g) ∙ own_key nat_cmp_total b in
        let differ : same_number b w.award ≡ false = other in
        cc

    settled_by : (s' : Tables) → s'.lots ≡ lots_after → s.clock.awards ≤ s'.clock.awards → (b : ℕ) (v : AwardRow) → WasThere b v → AwardIs s' b v
    settled_by s' lots later b v (inl p) =
        let old = kept.awards w.award w is in
        let own : AwardIs s' w.award award_after = record {
          drawn = omega (arith, old.drawn, later);
          of_lot = λ m h e. absurd (let f : true ≡ false = sym e ∙ inactive in cc);
        } in
        subst (λ b. AwardIs s' b v) (sym p.0) (subst (AwardIs s' w.award) (sym p.1) own)
    settled_by s' lots later b v (inr p) = award_is s' lots later b v p.1 (alone b v p.0 p.1)

    pub awards_are : (s' : Tables) → s'.lots ≡ lots_after → s.clock.awards ≤ s'.clock.awards → (b : ℕ) (v : AwardRow) → find_award awards_after b ≡ Some v → AwardIs s' b v
    awards_are s' lots later b v h = settled_by s' lots later b v (was_there b v h)

    was_active : (b : ℕ) (v : AwardRow) → WasThere b v → is_active v.state ≡ true → find_award s.awards b ≡ Some v
    was_active b v (inl p) e = absurd (let f : true ≡ false = sym e ∙ (ap (λ (v : AwardRow). is_active v.state) p.1 ∙ inactive) in cc)
    was_active b v (inr p) e = p.1

    pub one_active : (b d : ℕ) (v u : AwardRow) → find_award awards_after b ≡ Some v → find_award awards_after d ≡ Some u → is_active v.state ≡ true → is_active u.state ≡ true → v.notice ≡ u.notice → v.lot ≡ u.lot → b ≡ d
    one_active b d v u h i e f = kept.one_active b d v u (was_active b v (was_there b v h) e) (was_active d u (was_there d u i) f) e f

    -- an existing contract has another award
    pub other_award : (c : ℕ) (y : ContractRow) → find_contract s.contracts c ≡ Some y → eq_by_cmp nat_cmp c w.award ≡ false
    other_award c y h = other_keys nat_cmp-IsAntisymmetric c w.award (λ e.
        let i = (kept.contracts c y h).of_award in
        let j : i.0 ≡ w = (let g : Some i.0 ≡ Some w = sym i.1 ∙ (ap (find_award s.awards) e ∙ is) in cc) in
        let f : is_active w.state ≡ false = subst (λ (v : AwardRow). is_active v.state ≡ false) j i.2 in
        let both : true ≡ false = sym active ∙ f in
        cc)

    pub award_of : (c : ℕ) (y : ContractRow) → find_contract s.contracts c ≡ Some y → (v : AwardRow) × (find_award awards_after c ≡ Some v) × (is_active v.state ≡ false)
    award_of c y h =
        let old = (kept.contracts c y h).of_award in
        (old.0, elsewhere keyed.awards s.awards award_after c (other_award c y h) ∙ old.1, old.2)
