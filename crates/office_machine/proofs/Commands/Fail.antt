-- The failure of an award keeps the laws of the office.
pub mod Accounts
pub mod Fates
pub mod Gentle
use Rattle.office_machine.proofs.Names.{max, ℕ, [], ◌∷◌, refl, ◌≡◌, Bool, Option, Some, None, option_map, sym, ◌∙◌, ap, arith, subst, false, not, ◌||◌, Fail, EnvelopeRow, notice_of_award, lot_of_award, envelope_of_award, security_of_envelope, award_at, Tables, envelope_at, holds_of, with_next_release, has_all_releases, security_settled, passed_over, put_if, lacks_security, NoticeRow, LotRow, SecurityRow, AwardRow, Forfeited, ClockRow, fail_tests, fail_rows, fail_puts, fail_lacks, ChosenTender, Pairs, HaveParents, EnvelopeHas}
use Rattle.office_base.specs.declared.puts.Put.TheVariants as puts
use Rattle.office_machine.proofs.Commands.Footprint.{TableName, touches, on-append, on-if}
use Rattle.office_machine.proofs.Worlds.WorldsPut.{TwoEnvelopes, AlikeOptions, plain-if, PutPair, Plain, blind-option, plain_pairs, pairs-append, alike-set}
use Rattle.office_machine.proofs.Parents.ParentsPut.{Grows, AllParents, envelope_still, award_still, parents-append, parents-if}
use Rattle.office_machine.proofs.Worlds.WorldsRows.{awarded_pair}
use Rattle.office_machine.proofs.Parents.RowsHave.{security_found, lot_of}
use Rattle.office_machine.proofs.Parents.Whole.{security_there}
use Rattle.office_machine.proofs.Commands.Fail.Accounts.{fail_keeps}
use Rattle.office_machine.proofs.Commands.Lawful.{Lawful, Moving}
use Rattle.office_machine.proofs.Passed.{none_holds, not_false}
use Rattle.office_machine.proofs.Parents.SpokenOf.{of_award}
use Rattle.office_machine.proofs.Commands.Tail.{moved, front, loud, is_own}
use Rattle.office_machine.proofs.Commands.Fail.Fates as fail_fates
use Rattle.office_machine.proofs.Commands.Fail.Gentle.{fail_gently}

module _ (s u : Tables) (have : HaveParents s s) (g : Grows s u) where
  envelope_of : (o : Option AwardRow) (e : EnvelopeRow) → envelope_of_award o s ≡ Some e → EnvelopeHas u e
  envelope_of None e is = cc
  envelope_of (Some a) e is = envelope_still s u g e (have.envelopes a.receipt e is)

  -- the rows that its rows refer to exist
  parents_of : (clock : ClockRow) (t award : ℕ) (o : Option AwardRow) (n : Option NoticeRow) (l : Option LotRow) → award_at award s ≡ o → lot_of_award o s ≡ l
      → AllParents u (fail_puts (record { award = o; notice = n; lot = l; envelope = envelope_of_award o s; security = (security_of_envelope (envelope_of_award o s) s); clock = clock }) t)
  parents_of clock t award (Some a) (Some n) (Some l) is lot =
      let h = award_still s u g a (have.awards award a is) in
      let k = lot_of s u have g (Some a) l lot in (
        record { notice = h.notice; lot = h.lot; envelope = h.envelope },
        (
          record { notice = k.notice; line = k.line },
          (
            tt,
            (
              tt,
              parents-append u (put_if (λ e. puts.Envelope (passed_over e)) (envelope_of_award (Some a) s)) _
                  (parents-if u (λ e. puts.Envelope (passed_over e)) (envelope_of_award (Some a) s) (λ e found. let f = envelope_of (Some a) e found in record { notice = f.notice; lot = f.lot; tenderer = f.tenderer; security = f.security }))
                  (parents-if u (security_settled Forfeited) (security_of_envelope (envelope_of_award (Some a) s) s) (λ r found. let f = security_found s u have g (envelope_of_award (Some a) s) r found in record { notice = f.notice; lot = f.lot; tenderer = f.tenderer })),
            ),
          ),
        ),
      )
  parents_of clock t award None n l is lot = tt
  parents_of clock t award (Some a) None l is lot = tt
  parents_of clock t award (Some a) (Some n) None is lot = tt

-- if the tenders of two worlds are alike, they fail alike
module _ (th : ChosenTender) (W : ℕ → Bool) where
  pairs : (clock : ClockRow) (t : ℕ) (w : Option AwardRow) (n : Option NoticeRow) (l : Option LotRow) (o o' : Option EnvelopeRow) (r r' : Option SecurityRow) → AlikeOptions th W o o' → r' ≡ r → Pairs (PutPair th W) (fail_puts (record { award = w; notice = n; lot = l; envelope = o; security = r; clock = clock }) t) (fail_puts (record { award = w; notice = n; lot = l; envelope = o'; security = r'; clock = clock }) t)
  pairs clock t None n l o o' r r' a same = tt
  pairs clock t (Some w) None l o o' r r' a same = tt
  pairs clock t (Some w) (Some n) None o o' r r' a same = tt
  pairs clock t (Some w) (Some n) (Some l) o o' r r' a same = (
    Plain tt refl,
    (
      Plain tt refl,
      (
        Plain tt refl,
        (
          Plain tt refl,
          pairs-append th W (put_if (λ e. puts.Envelope (passed_over e)) o) (put_if (λ e. puts.Envelope (passed_over e)) o') (put_if (security_settled Forfeited) r) (put_if (security_settled Forfeited) r') (by o o' a)
              (subst (λ q. Pairs (PutPair th W) (put_if (security_settled Forfeited) r) (put_if (security_settled Forfeited) q)) (sym same) (plain_pairs th W (put_if (security_settled Forfeited) r) (plain-if (security_settled Forfeited) r (λ _. tt)))),
        ),
      ),
    ),
  )
    where
      by : (o o' : Option EnvelopeRow) → AlikeOptions th W o o' → Pairs (PutPair th W) (put_if (λ e. puts.Envelope (passed_over e)) o) (put_if (λ e. puts.Envelope (passed_over e)) o')
      by None None a = tt
      by None (Some e') a = absurd a
      by (Some e) None a = absurd a
      by (Some e) (Some e') a = (TwoEnvelopes (passed_over e) (passed_over e') refl refl (alike-set th W passed_over (λ _ _. refl) (λ _. refl) (λ _. refl) (λ _. refl) e e' a), tt)

-- the award's notice, lot and tender exist, and so does the security that the tender carries
module _ (s : Tables) (have : HaveParents s s) where
  tender_lacks_none : (receipt : ℕ) (o : Option EnvelopeRow) → envelope_at receipt s ≡ o → holds_of (λ (e : EnvelopeRow). lacks_security e (security_of_envelope o s)) o ≡ false
  tender_lacks_none receipt None is = refl
  tender_lacks_none receipt (Some e) is = security_there s have e (have.envelopes receipt e is)

  none_lacking : (award : ℕ) (o : Option AwardRow) → award_at award s ≡ o
      → fail_lacks (record { award = o; notice = notice_of_award o s; lot = lot_of_award o s; envelope = envelope_of_award o s; security = security_of_envelope (envelope_of_award o s) s; clock = s.clock }) ≡ false
  none_lacking award None is = refl
  none_lacking award (Some a) is =
      let h = have.awards award a is in
      λ i. ap not h.notice i || ap not h.lot i || ap not h.envelope i || tender_lacks_none a.receipt (envelope_at a.receipt s) refl i

pub fail : (award : ℕ) → Lawful (Fail award)
fail award = record {
  accounts = Moving (λ readings xs s moment caller kept order have own allowed. fail_keeps readings xs s moment caller award kept have allowed);
  fates = λ readings. fail_fates.fail_keeps readings award;
  tail = λ readings s moment caller have allowed.
      let now : ℕ = max moment s.clock.moment in
      let tests = none_holds (fail_tests (fail_rows s award) now) allowed in
      let of = of_award s have award (not_false _ tests.0) in
      let own : TableName → Bool = is_own (touches (Fail award)) in
      let envelope = envelope_of_award (award_at award s) s in
      let security = security_of_envelope envelope s in
      moved (ap (option_map (λ (a : AwardRow). a.notice)) of.is) (λ i. fail_puts (record { award = of.is i; notice = of.notice i; lot = of.lot i; envelope = envelope; security = security; clock = s.clock }) now)
      (front (puts.Award _ ∷ puts.Lot _ ∷ []) (refl, (refl, tt))
      (loud of.w.notice of.n (with_next_release of.n) _ _ of.notice_is (ap has_all_releases (of.notice_is ∙ sym of.notice) ∙ tests.1.1.1.1.0) refl refl refl refl
      (on-append own _ _ (on-if own (λ e. puts.Envelope (passed_over e)) envelope (λ _. refl)) (on-if own (security_settled Forfeited) security (λ _. refl))) refl (omega arith)));
  parents = λ readings s moment caller order have registered may allowed u grown later. parents_of s u have grown s.clock _ award (award_at award s) (notice_of_award (award_at award s) s) (lot_of_award (award_at award s) s) refl refl;
  lacks = λ xs s moment caller whole allowed. none_lacking s whole.parents award (award_at award s) refl;
  alike = λ th W s es' ss' all seals readings t caller quiet.
      let o = envelope_of_award (award_at award s) s in
      let o' = envelope_of_award (award_at award s) (record s { envelopes = es' }) in
      let pair = awarded_pair th W s es' all (award_at award s) in
      pairs th W s.clock t (award_at award s) (notice_of_award (award_at award s) s) (lot_of_award (award_at award s) s) o o' (security_of_envelope o s) (security_of_envelope o' s) pair (blind-option th W (λ o. security_of_envelope o s) (λ _ _. refl) o o' pair);
  gentle = fail_gently award;
}
