-- The award of a lot keeps the laws of the office.
pub mod Accounts
pub mod Fates
pub mod Gentle
pub mod Winners
use Rattle.office_machine.proofs.Names.{max, IsSome, arith, ◌≡◌, ℕ, false, List, [], ◌∷◌, Option, Some, None, refl, ◌∙◌, ap, Bool, filter, is_some, subst, sym, not, ◌||◌, AllByRecursion, Award, EnvelopeRow, IsSorted, Tables, notice_at, lot_at, line_at, envelopes_of_lot, securities_of_lot, envelope_at, LineRow, NoticeRow, LotRow, with_next_release, has_all_releases, security_returned, is_held_security, line_of_lot, SecurityRow, ClockRow, IsBest, IsAnswer, of_one, best_is_found, winner, decision_puts, award_rows, award_tests, best_of, award_puts, award_lacks, ChosenTender, Pairs, HaveParents, found_key}
use Rattle.office_base.specs.declared.puts.Put.TheVariants as puts
use Rattle.office_machine.proofs.Worlds.WorldsPut.{Alike, AlikeOptions, plain-map, IsPlain, PutPair, blind-option, plain_pairs}
use Rattle.office_machine.proofs.Parents.NoOrphans.{award_is_new}
use Rattle.office_machine.proofs.Parents.ParentsPut.{Grows, AllParents, lot_still, all-filter}
use Rattle.office_machine.proofs.Worlds.WorldsRows.{pairs-winner, lot_pairs}
use Rattle.office_machine.proofs.Parents.RowsHave.{lot_securities}
use Rattle.office_machine.proofs.Commands.Award.Accounts.{award_keeps}
use Rattle.office_machine.proofs.Commands.Footprint.{Notices, Awards, Lots, Lines, Securities}
use Rattle.office_machine.proofs.Commands.Lawful.{Lawful, Moving}
use Rattle.office_machine.proofs.Passed.{none_holds, not_false, witness}
use Rattle.office_machine.proofs.Commands.Tail.{HasTail, moved, front, loud, returned_own}
use Rattle.office_machine.proofs.Rows.Keyed.{all_found}
use Rattle.office_machine.proofs.Commands.Award.Fates as award_fates
use Rattle.office_machine.proofs.Rows.Keyed as keyed
use Rattle.office_machine.proofs.Commands.Award.Gentle.{award_gently}

module _ (s : Tables) (now : ℕ) (notice lot : List ℕ) (n : NoticeRow) (l : LotRow) (w : LineRow) (is : notice_at notice s ≡ Some n)
    (full : has_all_releases (notice_at notice s) ≡ false) where
  decided : (o : Option EnvelopeRow) → HasTail s now (Notices ∷ Awards ∷ Lots ∷ Lines ∷ Securities ∷ []) (Some notice) None (decision_puts s.clock now n l w o (securities_of_lot notice lot s))
  decided None = front (puts.Lot _ ∷ puts.Line _ ∷ []) (refl, (refl, tt)) (loud notice n (with_next_release n) _ _ is full refl refl refl refl (returned_own (Notices ∷ Awards ∷ Lots ∷ Lines ∷ Securities ∷ []) refl (securities_of_lot notice lot s)) refl (omega arith))
  decided (Some e) = front (puts.Award _ ∷ puts.Lot _ ∷ puts.Line _ ∷ []) (refl, (refl, (refl, tt))) (loud notice n (with_next_release n) _ [] is full refl refl refl refl tt refl (omega arith))

module _ (s u : Tables) (have : HaveParents s s) (g : Grows s u) (order : IsSorted s) where
  -- the winner's envelope exists in the office
  winner_there : (weight : ℕ) (notice lot : List ℕ) (e : EnvelopeRow) → best_of weight (envelopes_of_lot notice lot s) ≡ Some e → IsSome (envelope_at e.receipt s)
  winner_there weight notice lot e is =
      let best : IsBest weight (envelopes_of_lot notice lot s) e = subst (IsAnswer weight (envelopes_of_lot notice lot s)) is (best_is_found.found weight (envelopes_of_lot notice lot s)) in
      of_one (λ (f : EnvelopeRow). IsSome (envelope_at f.receipt s)) (envelopes_of_lot notice lot s) best.among.0 e
      (all-filter _ _ s.envelopes (all_found keyed.envelopes (λ (f : EnvelopeRow). IsSome (envelope_at f.receipt s)) s.envelopes order.envelopes (λ f found. ap is_some found)))
      best.among.1 best.among.2

  decision_parents : (clock : ClockRow) (t : ℕ) (notice lot : List ℕ) (n : NoticeRow) (l : LotRow) (w : LineRow) → lot_at (notice, lot) s ≡ Some l → (o : Option EnvelopeRow) → winner (Some n) (envelopes_of_lot notice lot s) ≡ o
      → AllParents u (decision_puts clock t n l w o (securities_of_lot notice lot s))
  decision_parents clock t notice lot n l w is None won =
      let h = lot_still s u g l (have.lots (notice, lot) l is) in
      (record { notice = h.notice; line = h.line }, (tt, (tt, (tt, lot_securities s u have g order notice lot))))
  decision_parents clock t notice lot n l w is (Some e) won =
      let h = lot_still s u g l (have.lots (notice, lot) l is) in
      let at = found_key keyed.lots s.lots (notice, lot) l is in
      let here : IsSome (lot_at (l.notice, l.lot) s) = ap is_some (ap (λ k. lot_at k s) at ∙ is) in
      (record { notice = h.notice; lot = g.lots (l.notice, l.lot) here; envelope = g.envelopes e.receipt (winner_there n.weight notice lot e won) }, (record { notice = h.notice; line = h.line }, (tt, (tt, (tt, tt)))))

  -- the rows that its rows refer to exist
  parents_of : (clock : ClockRow) (t : ℕ) (notice lot : List ℕ) (n : Option NoticeRow) (o : Option LotRow) (w : Option LineRow) → lot_at (notice, lot) s ≡ o
      → AllParents u (award_puts (record { notice = n; lot = o; line = w; envelopes = envelopes_of_lot notice lot s; securities = securities_of_lot notice lot s; clock = clock }) t)
  parents_of clock t notice lot (Some n) (Some l) (Some w) is = decision_parents clock t notice lot n l w is (winner (Some n) (envelopes_of_lot notice lot s)) refl
  parents_of clock t notice lot None o w is = tt
  parents_of clock t notice lot (Some n) None w is = tt
  parents_of clock t notice lot (Some n) (Some l) None is = tt

-- if the tenders of two worlds are alike, so are the awards
module _ (th : ChosenTender) (W : ℕ → Bool) where
  decision_pairs : (clock : ClockRow) (t : ℕ) (n : NoticeRow) (l : LotRow) (w : LineRow) (o o' : Option EnvelopeRow) (securities : List SecurityRow) → AlikeOptions th W o o' → Pairs (PutPair th W) (decision_puts clock t n l w o securities) (decision_puts clock t n l w o' securities)
  decision_pairs clock t n l w o o' securities a =
      subst (λ ps. Pairs (PutPair th W) (decision_puts clock t n l w o securities) ps) (sym (blind-option th W (λ o. decision_puts clock t n l w o securities) (λ _ _. refl) o o' a))
      (plain_pairs th W (decision_puts clock t n l w o securities) (plain o))
    where
      -- in both worlds the puts are the same
      plain : (o : Option EnvelopeRow) → AllByRecursion IsPlain (decision_puts clock t n l w o securities)
      plain None = (tt, (tt, (tt, (tt, plain-map security_returned (filter is_held_security securities) (λ _. tt)))))
      plain (Some e) = (tt, (tt, (tt, (tt, (tt, tt)))))

  -- in both worlds the puts are alike
  pairs : (clock : ClockRow) (t : ℕ) (n : Option NoticeRow) (l : Option LotRow) (w : Option LineRow) (es es' : List EnvelopeRow) (securities : List SecurityRow) → Pairs (Alike th W) es es'
      → Pairs (PutPair th W) (award_puts (record { notice = n; lot = l; line = w; envelopes = es; securities = securities; clock = clock }) t) (award_puts (record { notice = n; lot = l; line = w; envelopes = es'; securities = securities; clock = clock }) t)
  pairs clock t (Some n) (Some l) (Some w) es es' securities all = decision_pairs clock t n l w (winner (Some n) es) (winner (Some n) es') securities (pairs-winner th W (Some n) es es' all)
  pairs clock t None l w es es' securities all = tt
  pairs clock t (Some n) None w es es' securities all = tt
  pairs clock t (Some n) (Some l) None es es' securities all = tt

-- the line of the lot exists
none_lacking : (s : Tables) → HaveParents s s → (notice lot : List ℕ) (o : Option LotRow) → lot_at (notice, lot) s ≡ o
    → award_lacks (record { notice = None; lot = o; line = line_of_lot o s; envelopes = []; securities = []; clock = s.clock }) ≡ false
none_lacking s have notice lot None is = refl
none_lacking s have notice lot (Some l) is = ap not (have.lots (notice, lot) l is).line

pub award : (notice lot : List ℕ) → Lawful (Award notice lot)
award notice lot = record {
  accounts = Moving (λ readings xs s moment caller kept order have own allowed. award_keeps readings xs s moment caller notice lot kept have allowed);
  fates = λ readings. award_fates.award_keeps readings notice lot;
  tail = λ readings s moment caller have allowed.
      let now : ℕ = max moment s.clock.moment in
      let tests = none_holds (award_tests (award_rows s notice lot) now) allowed in
      let n = witness (notice_at notice s) (not_false _ tests.0) in
      let l = witness (lot_at (notice, lot) s) (not_false _ tests.1.0) in
      let w = witness (line_at l.0.line s) (have.lots (notice, lot) l.0 l.1).line in
      let line : line_of_lot (lot_at (notice, lot) s) s ≡ Some w.0 = ap (λ o. line_of_lot o s) l.1 ∙ w.1 in
      moved refl (λ i. award_puts (record { notice = n.1 i; lot = l.1 i; line = line i; envelopes = envelopes_of_lot notice lot s; securities = securities_of_lot notice lot s; clock = s.clock }) now)
      (decided s now notice lot n.0 l.0 w.0 n.1 tests.1.1.1.1.1.1.1.0 (winner (Some n.0) (envelopes_of_lot notice lot s)));
  parents = λ readings s moment caller order have registered may allowed u grown later. parents_of s u have grown order s.clock _ notice lot (notice_at notice s) (lot_at (notice, lot) s) (line_of_lot (lot_at (notice, lot) s) s) refl;
  lacks = λ xs s moment caller whole allowed.
      λ i. none_lacking s whole.parents notice lot (lot_at (notice, lot) s) refl i || award_is_new xs s whole notice lot i;
  alike = λ th W s es' ss' all seals readings t caller quiet.
      pairs th W s.clock t (notice_at notice s) (lot_at (notice, lot) s) (line_of_lot (lot_at (notice, lot) s) s) (envelopes_of_lot notice lot s) (envelopes_of_lot notice lot (record s { envelopes = es' })) (securities_of_lot notice lot s) (lot_pairs th W s es' all notice lot);
  gentle = award_gently notice lot;
}
