-- The opening of the tenders of a notice keeps the laws of the office.
pub mod Fates
pub mod Gentle
use Rattle.office_machine.proofs.Names.{LotRow, max, ℕ, List, [], ◌∷◌, refl, ◌≡◌, Bool, map, filter, Option, Some, None, sym, ◌∙◌, ap, arith, AllByRecursion, Item, Open, Reading, find_seal, seal_at, IsSorted, notice_at, Tables, envelopes_of_notice, lot_at, SealRow, EnvelopeRow, NoticeRow, ClockRow, open_tests, open_rows, opened_put, opened_notice, is_sealed_envelope, opened_envelope, open_puts, sealed_tenders, sealed_tender, option_map_or, ChosenTender, Pairs, HaveParents, EnvelopeHas}
use Rattle.office_base.specs.declared.records.EnvelopeState.TheVariants as envelope_states
use Rattle.office_machine.proofs.Worlds.WorldsPut.{TwoEnvelopes, Alike, PutPair, Plain, receipt_is, pairs-filter, blind, pairs-append}
use Rattle.office_machine.proofs.Parents.NoOrphans.{no_tender_lost}
use Rattle.office_machine.proofs.Parents.ParentsPut.{Grows, AllParents, envelope_still, parents-append, all-filter, all-table}
use Rattle.office_machine.proofs.Worlds.WorldsRows.{notice_pairs}
use Rattle.office_machine.proofs.Worlds.WorldsStep.{SealsAlike}
use Rattle.office_machine.proofs.Commands.Lawful.{Lawful, Idle}
use Rattle.office_machine.proofs.Passed.{none_holds, not_false, witness}
use Rattle.office_machine.proofs.Commands.Tail.{moved, front_map, loud}
use Rattle.office_machine.proofs.Commands.Open.Fates as open_fates
use Rattle.office_machine.proofs.Rows.Keyed as keyed
use Rattle.office_machine.proofs.Commands.Open.Gentle.{open_gently}

module _ (s u : Tables) (have : HaveParents s s) (g : Grows s u) (order : IsSorted s) where
  opened_all : (read : List ℕ → List Item → Reading) (rows : List EnvelopeRow) → AllByRecursion (λ e. EnvelopeHas u e) rows → AllParents u (map (opened_put read) (map (sealed_tender s) rows))
  opened_all read [] h = tt
  opened_all read (e ∷ rows) h = (record { notice = h.0.notice; lot = h.0.lot; tenderer = h.0.tenderer; security = h.0.security }, opened_all read rows h.1)

  -- the rows that its rows refer to exist
  parents_of : (read : List ℕ → List Item → Reading) (clock : ClockRow) (t : ℕ) (notice : List ℕ) (row : Option NoticeRow) → AllParents u (open_puts read (record { notice = row; clock = clock }) t (sealed_tenders notice s))
  parents_of read clock t notice None = tt
  parents_of read clock t notice (Some n) =
      parents-append u (map (opened_put read) (sealed_tenders notice s)) _
      (opened_all read (filter is_sealed_envelope (envelopes_of_notice notice s)) (all-filter _ is_sealed_envelope (envelopes_of_notice notice s) (all-filter _ _ s.envelopes
      (all-table keyed.envelopes (EnvelopeHas u) s.envelopes order.envelopes (λ k e is. envelope_still s u g e (have.envelopes k e is))))))
      (tt, (tt, tt))

-- tenders with equal seals are opened alike
module _ (th : ChosenTender) (W : ℕ → Bool) (s : Tables) (es' : List EnvelopeRow) (ss' : List SealRow) (all : Pairs (Alike th W) s.envelopes es') where
  abbrev other : Tables
  other = record s { envelopes = es'; seals = ss' }

  opened_pair : (read : List ℕ → List Item → Reading) (e e' : EnvelopeRow) → Alike th W e e' → seal_at e.receipt s ≡ find_seal ss' e.receipt → PutPair th W (opened_put read (sealed_tender s e)) (opened_put read (sealed_tender other e'))
  opened_pair read e e' a same =
      let held : Option SealRow → List ℕ = λ o. option_map_or (λ (seal : SealRow). seal.bytes) o [] in
      let its : Option LotRow → List Item = λ o. option_map_or (λ (lot : LotRow). lot.items) o [] in
      let bytes : held (find_seal ss' e'.receipt) ≡ held (seal_at e.receipt s) = ap (λ n. held (find_seal ss' n)) (receipt_is th W e e' a) ∙ ap held (sym same) in
      let items : its (lot_at (e'.notice, e'.lot) s) ≡ its (lot_at (e.notice, e.lot) s) = blind th W (λ (e : EnvelopeRow). its (lot_at (e.notice, e.lot) s)) (λ _ _. refl) e e' a in
      TwoEnvelopes (opened_envelope read (sealed_tender s e)) (opened_envelope read (sealed_tender other e')) refl refl
      (record {
        rows = record { but_digest = λ i. record (a.rows.but_digest i) { state = envelope_states.Opened; reading = Some (read (bytes i) (items i)) }; digest = a.rows.digest };
        own = a.own;
      })

  opened_pairs : (read : List ℕ → List Item → Reading) (es es'' : List EnvelopeRow) → Pairs (Alike th W) es es'' → SealsAlike s ss' es → Pairs (PutPair th W) (map (opened_put read) (map (sealed_tender s) es)) (map (opened_put read) (map (sealed_tender other) es''))
  opened_pairs read [] [] all same = tt
  opened_pairs read [] (e' ∷ es'') all same = absurd all
  opened_pairs read (e ∷ es) [] all same = absurd all
  opened_pairs read (e ∷ es) (e' ∷ es'') all same = (opened_pair read e e' all.0 same.0, opened_pairs read es es'' all.1 same.1)

  -- in both worlds the puts are alike
  pairs : (read : List ℕ → List Item → Reading) (clock : ClockRow) (t : ℕ) (notice : List ℕ) (n : Option NoticeRow) → SealsAlike s ss' (filter is_sealed_envelope (envelopes_of_notice notice s)) → Pairs (PutPair th W) (open_puts read (record { notice = n; clock = clock }) t (sealed_tenders notice s)) (open_puts read (record { notice = n; clock = clock }) t (sealed_tenders notice other))
  pairs read clock t notice None same = tt
  pairs read clock t notice (Some n) same =
      pairs-append th W (map (opened_put read) (sealed_tenders notice s)) (map (opened_put read) (sealed_tenders notice other)) _ _
      (opened_pairs read (filter is_sealed_envelope (envelopes_of_notice notice s)) (filter is_sealed_envelope (envelopes_of_notice notice other))
      (pairs-filter th W is_sealed_envelope (λ _ _. refl) (envelopes_of_notice notice s) (envelopes_of_notice notice other) (notice_pairs th W s es' all notice)) same)
      (Plain tt refl, (Plain tt refl, tt))

pub open_tenders : (notice : List ℕ) → Lawful (Open notice)
open_tenders notice = record {
  accounts = Idle refl (λ s moment caller xs. record { moves_none = refl; held = λ _. refl; none_brought = λ _. refl; none_taken = λ _. refl });
  fates = λ readings. open_fates.open_keeps readings notice;
  tail = λ readings s moment caller have allowed.
      let now : ℕ = max moment s.clock.moment in
      let tests = none_holds (open_tests (open_rows s notice) now) allowed in
      let n = witness (notice_at notice s) (not_false _ tests.0) in
      moved refl (λ i. open_puts readings.read (record { notice = n.1 i; clock = s.clock }) now (sealed_tenders notice s))
      (front_map (opened_put readings.read) (sealed_tenders notice s) (λ _. refl)
      (loud notice n.0 (opened_notice now n.0) _ [] n.1 tests.1.1.1.1.0 refl refl refl refl tt refl (omega arith)));
  parents = λ readings s moment caller order have registered may allowed u grown later. parents_of s u have grown order readings.read s.clock _ notice (notice_at notice s);
  lacks = λ xs s moment caller whole allowed. no_tender_lost xs s whole notice;
  alike = λ th W s es' ss' all seals readings t caller quiet. pairs th W s es' ss' all readings.read s.clock t notice (notice_at notice s) quiet;
  gentle = open_gently notice;
}
