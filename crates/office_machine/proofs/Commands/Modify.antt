-- The replacement of a tender keeps the laws of the office.
pub mod Fates
pub mod Gentle
use Rattle.office_machine.proofs.Names.{max, ℕ, List, [], ◌∷◌, refl, ◌≡◌, Bool, false, Option, Some, None, sym, ◌∙◌, ap, arith, ◌+◌, length, not, ◌||◌, Modify, EnvelopeRow, envelope_at, Tables, notice_of_envelope, holds_of, ClockRow, modify_tests, modify_rows, withdrawn, replacing, modify_puts, modify_lacks, ChosenTender, Pairs, is_theirs, HaveParents}
use Rattle.office_base.specs.declared.puts.Put.TheVariants as puts
use Rattle.office_base.specs.declared.records.EnvelopeState.TheVariants as envelope_states
use Rattle.office_machine.proofs.Worlds.WorldsPut.{TwoEnvelopes, TwoSeals, AlikeOptions, PutPair, Plain, receipt_is, alike-set}
use Rattle.office_machine.proofs.Parents.NoOrphans.{isnt_torn, receipt_is_new}
use Rattle.office_machine.proofs.Parents.ParentsPut.{Grows, AllParents, envelope_still}
use Rattle.office_machine.proofs.Commands.Lawful.{Lawful, Idle}
use Rattle.office_machine.proofs.Passed.{none_holds, not_false, witness}
use Rattle.office_machine.proofs.Commands.Tail.{moved, front, quiet}
use Rattle.office_machine.proofs.Commands.Modify.Fates as modify_fates
use Rattle.office_machine.proofs.Commands.Modify.Gentle.{modify_gently}

module _ (s u : Tables) (have : HaveParents s s) (g : Grows s u) where
  -- the rows that its rows refer to exist
  parents_of : (digest : List ℕ → List ℕ) (clock : ClockRow) (t receipt : ℕ) (bytes : List ℕ) (o : Option EnvelopeRow) → envelope_at receipt s ≡ o → AllParents u (modify_puts digest (record { envelope = o; notice = None; clock = clock }) t bytes)
  parents_of digest clock t receipt bytes None is = tt
  parents_of digest clock t receipt bytes (Some e) is =
      let h = envelope_still s u g e (have.envelopes receipt e is) in
      (record { notice = h.notice; lot = h.lot; tenderer = h.tenderer; security = h.security }, (tt, (record { notice = h.notice; lot = h.lot; tenderer = h.tenderer; security = h.security }, (tt, (tt, tt)))))

-- the command with these bytes in one world and other bytes in the other
module _ (th : ChosenTender) (W : ℕ → Bool) (digest : List ℕ → List ℕ) (clock : ClockRow) (t : ℕ) (bytes bytes' : List ℕ) (len : length bytes ≡ length bytes') where
  pub modify_pairs : (o o' : Option EnvelopeRow) → AlikeOptions th W o o' → (holds_of (is_theirs th) o ≡ W (clock.receipts + 1)) → (holds_of (is_theirs th) o ≡ false → bytes ≡ bytes')
      → Pairs (PutPair th W) (modify_puts digest (record { envelope = o; notice = None; clock = clock }) t bytes) (modify_puts digest (record { envelope = o'; notice = None; clock = clock }) t bytes')
  modify_pairs None None a own same = tt
  modify_pairs None (Some e') a own same = absurd a
  modify_pairs (Some e) None a own same = absurd a
  modify_pairs (Some e) (Some e') a own same = (
    TwoEnvelopes (withdrawn e) (withdrawn e') refl refl (alike-set th W withdrawn (λ _ _. refl) (λ _. refl) (λ _. refl) (λ _. refl) e e' a),
    (
      Plain tt (ap (λ n. puts.DropSeal n) (sym (receipt_is th W e e' a))),
      (
        TwoEnvelopes (replacing digest clock t e bytes) (replacing digest clock t e' bytes') refl refl
            (record {
              rows = record {
                but_digest = λ i. record (a.rows.but_digest i) { receipt = clock.receipts + 1; moment = t; length = sym len i; digest = digest bytes'; state = envelope_states.Sealed; reading = None; responsive = None; quality = None; failed = false };
                digest = λ out. ap digest (sym (same out));
              };
              own = own;
            }),
        (
          TwoSeals (record { receipt = clock.receipts + 1; bytes = bytes }) (record { receipt = clock.receipts + 1; bytes = bytes' }) refl refl refl (λ out. λ i. record { receipt = clock.receipts + 1; bytes = same (own ∙ out) i }),
          (Plain tt refl, tt),
        ),
      ),
    ),
  )

-- the tender's notice exists
none_lacking : (s : Tables) → HaveParents s s → (receipt : ℕ) (o : Option EnvelopeRow) → envelope_at receipt s ≡ o → modify_lacks (record { envelope = o; notice = notice_of_envelope o s; clock = s.clock }) ≡ false
none_lacking s have receipt None is = refl
none_lacking s have receipt (Some e) is = ap not (have.envelopes receipt e is).notice

pub modify : (receipt : ℕ) (bytes : List ℕ) → Lawful (Modify receipt bytes)
modify receipt bytes = record {
  accounts = Idle refl (λ s moment caller xs. record { moves_none = refl; held = λ _. refl; none_brought = λ _. refl; none_taken = λ _. refl });
  fates = λ readings. modify_fates.modify_keeps readings receipt bytes;
  tail = λ readings s moment caller have allowed.
      let now : ℕ = max moment s.clock.moment in
      let e = witness (envelope_at receipt s) (not_false _ (none_holds (modify_tests (modify_rows s receipt) now caller) allowed).0) in
      moved refl (λ i. modify_puts readings.digest (record { envelope = e.1 i; notice = None; clock = s.clock }) now bytes)
      (front (puts.Envelope _ ∷ puts.DropSeal _ ∷ puts.Envelope _ ∷ puts.Seal _ ∷ []) (refl, (refl, (refl, (refl, tt)))) (quiet _ [] tt refl (omega arith)));
  parents = λ readings s moment caller order have registered may allowed u grown later. parents_of s u have grown readings.digest s.clock _ receipt bytes (envelope_at receipt s) refl;
  lacks = λ xs s moment caller whole allowed.
      let tests = none_holds (modify_tests (modify_rows s receipt) (max moment s.clock.moment) caller) allowed in
      λ i.
      none_lacking s whole.parents receipt (envelope_at receipt s) refl i || receipt_is_new xs s whole i
      || isnt_torn xs s whole receipt (envelope_at receipt s) refl tests.1.1.1.0 i;
  alike = λ th W s es' ss' all seals readings t caller quiet. absurd quiet;
  gentle = modify_gently receipt bytes;
}
