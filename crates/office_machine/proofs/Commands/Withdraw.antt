-- The withdrawal of a tender keeps the laws of the office.
pub mod Fates
pub mod Gentle
use Rattle.office_machine.proofs.Names.{max, arith, ℕ, Bool, true, false, [], ◌∷◌, Option, None, refl, ◌≡◌, List, Some, ap, subst, sym, not, ◌||◌, Withdraw, find_envelope, Tables, envelope_at, EnvelopeRow, notice_of_envelope, late_of_envelope, security_of_envelope, lot_of_envelope, SecurityRow, Returned, Forfeited, is_late, security_settled, put_if, settled, passed_over, SecurityState, LateRow, NoticeRow, ClockRow, withdraw_puts, withdraw_rows, withdraw_tests, taken_back_puts, withdraw_lacks, withdrawn, ChosenTender, Pairs, HaveParents, SecurityHas}
use Rattle.office_base.specs.declared.puts.Put.TheVariants as puts
use Rattle.office_machine.proofs.Commands.Footprint.{Envelopes, Seals, Securities, on-if}
use Rattle.office_machine.proofs.Worlds.WorldsPut.{TwoEnvelopes, Alike, AlikeOptions, plain-if, PutPair, Plain, receipt_is, blind-option, plain_pairs, alike-set}
use Rattle.office_machine.proofs.Parents.NoOrphans.{has_seal}
use Rattle.office_machine.proofs.Parents.ParentsPut.{Grows, AllParents, envelope_still, parents-if}
use Rattle.office_machine.proofs.Worlds.WorldsRows.{envelope_pair}
use Rattle.office_machine.proofs.Parents.RowsHave.{security_found}
use Rattle.office_machine.proofs.Parents.Whole.{security_there}
use Rattle.office_machine.proofs.Commands.Lawful.{Lawful, Idle}
use Rattle.office_machine.proofs.Passed.{none_holds, not_false, witness}
use Rattle.office_machine.proofs.Commands.Tail.{HasTail, is_own, moved, front, quiet}
use Rattle.office_machine.proofs.Commands.Withdraw.Fates as withdraw_fates
use Rattle.office_machine.proofs.Commands.Withdraw.Gentle.{withdraw_gently}

-- the puts of the command
tail_of : (s : Tables) (t : ℕ) (e : EnvelopeRow) (security : Option SecurityRow) (late : Bool) → HasTail s t (Envelopes ∷ Seals ∷ Securities ∷ []) None None (taken_back_puts s.clock t e security late)
tail_of s t e security false = front (puts.Envelope _ ∷ puts.DropSeal _ ∷ []) (refl, (refl, tt)) (quiet _ _ (on-if (is_own (Envelopes ∷ Seals ∷ Securities ∷ [])) (security_settled Returned) security (λ _. refl)) refl (omega arith))
tail_of s t e security true = front (puts.Envelope _ ∷ []) (refl, tt) (quiet _ _ (on-if (is_own (Envelopes ∷ Seals ∷ Securities ∷ [])) (security_settled Forfeited) security (λ _. refl)) refl (omega arith))

module _ (s u : Tables) (have : HaveParents s s) (g : Grows s u) where
  settled_has : (state : SecurityState) (r : SecurityRow) → SecurityHas u r → SecurityHas u (settled state r)
  settled_has state r h = record { notice = h.notice; lot = h.lot; tenderer = h.tenderer }

  taken_back_parents : (clock : ClockRow) (t receipt : ℕ) (e : EnvelopeRow) → envelope_at receipt s ≡ Some e → (late : Bool) → AllParents u (taken_back_puts clock t e (security_of_envelope (Some e) s) late)
  taken_back_parents clock t receipt e is false =
      let h = envelope_still s u g e (have.envelopes receipt e is) in
      (record { notice = h.notice; lot = h.lot; tenderer = h.tenderer; security = h.security }, (tt, (tt, parents-if u (security_settled Returned) (security_of_envelope (Some e) s) (λ r found. settled_has Returned r (security_found s u have g (Some e) r found)))))
  taken_back_parents clock t receipt e is true =
      let h = envelope_still s u g e (have.envelopes receipt e is) in
      (record { notice = h.notice; lot = h.lot; tenderer = h.tenderer; security = h.security }, (tt, parents-if u (security_settled Forfeited) (security_of_envelope (Some e) s) (λ r found. settled_has Forfeited r (security_found s u have g (Some e) r found))))

  -- the rows that its rows refer to exist
  parents_of : (clock : ClockRow) (t receipt : ℕ) (o : Option EnvelopeRow) (n : Option NoticeRow) (late : Option LateRow) → envelope_at receipt s ≡ o → AllParents u (withdraw_puts (record { envelope = o; notice = n; lot = None; late = late; security = security_of_envelope o s; clock = clock }) t)
  parents_of clock t receipt None n late is = tt
  parents_of clock t receipt (Some e) n late is = taken_back_parents clock t receipt e is (is_late late t n)

-- if the tenders of two worlds are alike, they are withdrawn alike
module _ (th : ChosenTender) (W : ℕ → Bool) where
  taken_back_pairs : (clock : ClockRow) (t : ℕ) (e e' : EnvelopeRow) (r r' : Option SecurityRow) (late : Bool) → Alike th W e e' → r' ≡ r → Pairs (PutPair th W) (taken_back_puts clock t e r late) (taken_back_puts clock t e' r' late)
  taken_back_pairs clock t e e' r r' false a same = (
    TwoEnvelopes (withdrawn e) (withdrawn e') refl refl (alike-set th W withdrawn (λ _ _. refl) (λ _. refl) (λ _. refl) (λ _. refl) e e' a),
    (
      Plain tt (ap (λ n. puts.DropSeal n) (sym (receipt_is th W e e' a))),
      (Plain tt refl, subst (λ q. Pairs (PutPair th W) (put_if (security_settled Returned) r) (put_if (security_settled Returned) q)) (sym same) (plain_pairs th W (put_if (security_settled Returned) r) (plain-if (security_settled Returned) r (λ _. tt)))),
    ),
  )
  taken_back_pairs clock t e e' r r' true a same = (
    TwoEnvelopes (passed_over e) (passed_over e') refl refl (alike-set th W passed_over (λ _ _. refl) (λ _. refl) (λ _. refl) (λ _. refl) e e' a),
    (Plain tt refl, subst (λ q. Pairs (PutPair th W) (put_if (security_settled Forfeited) r) (put_if (security_settled Forfeited) q)) (sym same) (plain_pairs th W (put_if (security_settled Forfeited) r) (plain-if (security_settled Forfeited) r (λ _. tt)))),
  )

  withdraw_pairs : (clock : ClockRow) (t : ℕ) (o o' : Option EnvelopeRow) (n : Option NoticeRow) (late : Option LateRow) (r r' : Option SecurityRow) → AlikeOptions th W o o' → r' ≡ r → Pairs (PutPair th W) (withdraw_puts (record { envelope = o; notice = n; lot = None; late = late; security = r; clock = clock }) t) (withdraw_puts (record { envelope = o'; notice = n; lot = None; late = late; security = r'; clock = clock }) t)
  withdraw_pairs clock t None None n late r r' a same = tt
  withdraw_pairs clock t None (Some e') n late r r' a same = absurd a
  withdraw_pairs clock t (Some e) None n late r r' a same = absurd a
  withdraw_pairs clock t (Some e) (Some e') n late r r' a same = taken_back_pairs clock t e e' r r' (is_late late t n) a same

module _ (th : ChosenTender) (W : ℕ → Bool) (s : Tables) (es' : List EnvelopeRow) (all : Pairs (Alike th W) s.envelopes es') where
  -- in both worlds the puts are alike
  alike : (t receipt : ℕ) → Pairs (PutPair th W) (withdraw_puts (withdraw_rows s receipt) t) (withdraw_puts (withdraw_rows (record s { envelopes = es' }) receipt) t)
  alike t receipt =
      let o : Option EnvelopeRow = envelope_at receipt s in
      let o' : Option EnvelopeRow = find_envelope es' receipt in
      let pair = envelope_pair th W s es' all receipt in
      let notice : notice_of_envelope o s ≡ notice_of_envelope o' s = sym (blind-option th W (λ o. notice_of_envelope o s) (λ _ _. refl) o o' pair) in
      let late : late_of_envelope o s ≡ late_of_envelope o' s = sym (blind-option th W (λ o. late_of_envelope o s) (λ _ _. refl) o o' pair) in
      subst (λ ps. Pairs (PutPair th W) (withdraw_puts (withdraw_rows s receipt) t) ps)
      (λ i. withdraw_puts (record { envelope = o'; notice = notice i; lot = None; late = late i; security = security_of_envelope o' s; clock = s.clock }) t)
      (withdraw_pairs th W s.clock t o o' (notice_of_envelope o s) (late_of_envelope o s) (security_of_envelope o s) (security_of_envelope o' s) pair (blind-option th W (λ o. security_of_envelope o s) (λ _ _. refl) o o' pair))

-- the tender's notice and lot exist, and so does the security that it carries
none_lacking : (s : Tables) → HaveParents s s → (receipt : ℕ) (o : Option EnvelopeRow) → envelope_at receipt s ≡ o
    → withdraw_lacks (record { envelope = o; notice = notice_of_envelope o s; lot = lot_of_envelope o s; late = None; security = security_of_envelope o s; clock = s.clock }) ≡ false
none_lacking s have receipt None is = refl
none_lacking s have receipt (Some e) is = let h = have.envelopes receipt e is in λ i. ap not h.notice i || ap not h.lot i || security_there s have e h i

pub withdraw : (receipt : ℕ) → Lawful (Withdraw receipt)
withdraw receipt = record {
  accounts = Idle refl (λ s moment caller xs. record { moves_none = refl; held = λ _. refl; none_brought = λ _. refl; none_taken = λ _. refl });
  fates = λ readings. withdraw_fates.withdraw_keeps readings receipt;
  tail = λ readings s moment caller have allowed.
      let t = max moment s.clock.moment in
      let rows = withdraw_rows s receipt in
      let tests = none_holds (withdraw_tests rows t caller) allowed in
      let e = witness (envelope_at receipt s) (not_false _ tests.0) in
      moved refl (λ i. withdraw_puts (record { envelope = e.1 i; notice = rows.notice; lot = None; late = rows.late; security = rows.security; clock = s.clock }) t) (tail_of s t e.0 rows.security (is_late rows.late t rows.notice));
  parents = λ readings s moment caller order have registered may allowed u grown later. parents_of s u have grown s.clock _ receipt (envelope_at receipt s) (notice_of_envelope (envelope_at receipt s) s) (late_of_envelope (envelope_at receipt s) s) refl;
  lacks = λ xs s moment caller whole allowed.
      let rows = withdraw_rows s receipt in
      let now : ℕ = max moment s.clock.moment in
      let tests = none_holds (withdraw_tests rows now caller) allowed in
      λ i.
      none_lacking s whole.parents receipt (envelope_at receipt s) refl i
      || has_seal xs s whole (is_late rows.late now rows.notice) receipt (envelope_at receipt s) refl tests.1.1.1.0 i;
  alike = λ th W s es' ss' all seals readings t caller quiet. alike th W s es' all t receipt;
  gentle = withdraw_gently receipt;
}
