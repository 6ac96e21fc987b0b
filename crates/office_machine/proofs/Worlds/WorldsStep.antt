-- In two worlds a command has the same refusal, and leaves them alike.
use Rattle.office_machine.proofs.Names.{◌≡◌, ℕ, ◌+◌, Bool, false, List, filter, Option, refl, [], None, AllByRecursion, Caller, Command, Open, Present, Modify, Withdraw, Examine, Award, free_in, LineRow, find_seal, seal_at, find_envelope, Tables, notice_at, lot_at, envelope_at, envelopes_of_notice, envelopes_of_lot, SealRow, EnvelopeRow, holds_of, NoticeRow, LotRow, notice_of_envelope, lot_of_envelope, line_of_lot, late_of_envelope, is_sealed_by, modify_tests, withdraw_tests, is_sealed_envelope, reserved_in, is_admissible, isnt_examined, is_above, winner, award_tests, examine_tests, ChosenTender, Pairs, Readings, tests_for, puts_for}
use Rattle.office_machine.proofs.Worlds.WorldsPut.{Alike, PutPair, pairs-any, blind-option}
use Rattle.office_machine.proofs.Worlds.WorldsRows.{pairs-winner, envelope_pair, lot_pairs}

-- these tenders have equal seals in both worlds
abbrev pub SealsAlike : Tables → List SealRow → List EnvelopeRow → Type 0
SealsAlike s ss' es = AllByRecursion (λ (e : EnvelopeRow). seal_at e.receipt s ≡ find_seal ss' e.receipt) es

module _ (th : ChosenTender) (W : ℕ → Bool) (s : Tables) (es' : List EnvelopeRow) (ss' : List SealRow) (all : Pairs (Alike th W) s.envelopes es') (seals : (n : ℕ) → W n ≡ false → seal_at n s ≡ find_seal ss' n) where
  abbrev pub s' : Tables
  s' = record s { envelopes = es'; seals = ss' }

  awards_alike : (t : ℕ) (n : Option NoticeRow) (l : Option LotRow) (w : Option LineRow) (es es'' : List EnvelopeRow) → Pairs (Alike th W) es es'' → award_tests (record { notice = n; lot = l; line = w; envelopes = es''; securities = []; clock = s.clock }) t ≡ award_tests (record { notice = n; lot = l; line = w; envelopes = es; securities = []; clock = s.clock }) t
  awards_alike t n l w es es'' all =
      rw (
        pairs-any th W isnt_examined (λ _ _. refl) es es'' all,
        pairs-any th W is_admissible (λ _ _. refl) es es'' all,
        blind-option th W (holds_of (is_above (reserved_in l + free_in w))) (λ _ _. refl) (winner n es) (winner n es'') (pairs-winner th W n es es'' all),
      ) refl

  -- every test has the same result in both worlds
  pub tests_same : (t : ℕ) (caller : Caller) (command : Command) → tests_for s' t caller command ≡ tests_for s t caller command
  tests_same t caller (Present notice lot security bytes) = rw (pairs-any th W (is_sealed_by caller) (λ _ _. refl) (envelopes_of_lot notice lot s) (envelopes_of_lot notice lot s') (lot_pairs th W s es' all notice lot)) refl
  tests_same t caller (Modify receipt bytes) =
      blind-option th W (λ o. modify_tests (record { envelope = o; notice = notice_of_envelope o s; clock = s.clock }) t caller) (λ _ _. refl) (envelope_at receipt s) (find_envelope es' receipt) (envelope_pair th W s es' all receipt)
  tests_same t caller (Withdraw receipt) =
      blind-option th W (λ o. withdraw_tests (record { envelope = o; notice = notice_of_envelope o s; lot = lot_of_envelope o s; late = late_of_envelope o s; security = None; clock = s.clock }) t caller) (λ _ _. refl) (envelope_at receipt s) (find_envelope es' receipt) (envelope_pair th W s es' all receipt)
  tests_same t caller (Examine receipt responsive quality) =
      blind-option th W (λ o. examine_tests (record { envelope = o; notice = notice_of_envelope o s; lot = lot_of_envelope o s; clock = s.clock }) responsive quality) (λ _ _. refl) (envelope_at receipt s) (find_envelope es' receipt) (envelope_pair th W s es' all receipt)
  tests_same t caller (Award notice lot) =
      awards_alike t (notice_at notice s) (lot_at (notice, lot) s) (line_of_lot (lot_at (notice, lot) s) s) (envelopes_of_lot notice lot s) (envelopes_of_lot notice lot s') (lot_pairs th W s es' all notice lot)
  tests_same t caller _ = refl

  -- the command gives out no receipt, and opens equal seals if it opens any
  abbrev pub GivesNoReceipt : Command → Type 0
  GivesNoReceipt (Present notice lot security bytes) = ⊥
  GivesNoReceipt (Modify receipt bytes) = ⊥
  GivesNoReceipt (Open notice) = SealsAlike s ss' (filter is_sealed_envelope (envelopes_of_notice notice s))
  GivesNoReceipt command = Unit {0}

-- in two worlds the command puts rows that are alike, if it gives out no receipt and opens equal seals
abbrev pub PutsAlike : Command → Type 0
PutsAlike command = (th : ChosenTender) (W : ℕ → Bool) (s : Tables) (es' : List EnvelopeRow) (ss' : List SealRow) (all : Pairs (Alike th W) s.envelopes es') (seals : (n : ℕ) → W n ≡ false → seal_at n s ≡ find_seal ss' n)
    (readings : Readings) (t : ℕ) (caller : Caller) → GivesNoReceipt th W s es' ss' all seals command
    → Pairs (PutPair th W) (puts_for readings s t caller command) (puts_for readings (record s { envelopes = es'; seals = ss' }) t caller command)
