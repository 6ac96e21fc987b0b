-- The examination of a tender keeps the laws of the office.
pub mod Gentle
use Rattle.office_machine.proofs.Names.{max, cond, List, arith, ◌≡◌, ℕ, Bool, [], ◌∷◌, Option, Some, None, refl, sym, ap, ◌∙◌, false, not, ◌||◌, nat_cmp_total, nat_cmp-IsAntisymmetric, nat_cmp, eq_by_cmp, Examine, Caller, find_envelope, Tables, envelope_at, envelope_key, after_puts, notice_of_envelope, lot_of_envelope, EnvelopeRow, ClockRow, clock_put, examine_rows, examine_tests, examined, examine_puts, examine_lacks, ChosenTender, Pairs, HaveParents, Given, Readings, is_kept, found_key}
use Rattle.office_base.specs.declared.puts.Put.TheVariants as puts
use Rattle.office_machine.proofs.Commands.Lawful.{given, Lawful, Idle}
use Rattle.office_machine.proofs.Worlds.WorldsPut.{TwoEnvelopes, AlikeOptions, PutPair, Plain, alike-set}
use Rattle.office_machine.proofs.Parents.ParentsPut.{Grows, AllParents, envelope_still}
use Rattle.office_machine.proofs.Worlds.WorldsRows.{envelope_pair}
use Rattle.office_machine.proofs.Passed.{none_holds, not_false, witness}
use Rattle.office_machine.proofs.Commands.Tail.{moved, front, quiet}
use Rattle.office_machine.proofs.Rows.RowsChanged.{row_at-changed_put}
use Rattle.office_machine.proofs.FateLaws.Views.{Change, after_change}
use Rattle.office_machine.proofs.FateLaws.Steps.{cond_keeps, examination, fair_examination}
use Rattle.office_machine.proofs.FateLaws.Seen.{seen, alike}
use Rattle.office_machine.proofs.FateLaws.FatesHold.{FatesStand, HaveFates, Keeps, still_sealed, still_held, securities_keep}
use Rattle.office_machine.proofs.FateLaws.QuietFates.{one_more}
use Rattle.office_machine.proofs.FateLaws.FatesChanged.{kept_by_change}
use Rattle.office_machine.proofs.FateLaws.States.{map_same}
use Rattle.office_machine.proofs.Rows.Keyed as keyed
use Rattle.office_machine.proofs.Commands.Examine.Gentle.{examine_gently}

module _ (readings : Readings) (receipt : ℕ) (responsive : Bool) (quality : Option ℕ) (xs : List Given) (t : Tables) (m : ℕ) (caller : Caller)
    (kept : FatesStand readings xs t) where
  abbrev x : Given
  x = given t m caller (Examine receipt responsive quality)

  module _ (e : EnvelopeRow) (found : envelope_at receipt t ≡ Some e) where
    abbrev examine_change : Change
    examine_change = examination (seen t) receipt (examined responsive quality) (λ e. refl) (λ e. refl) (λ e. refl) (λ e. refl)

    abbrev after_examine : Tables
    after_examine = after_puts (puts.Envelope (examined responsive quality e) ∷ clock_put t.clock (max m t.clock.moment) ∷ []) t

    examine_state : (r : ℕ) (d : EnvelopeRow) → (examine_change.envelope_to r d).state ≡ d.state
    examine_state r d = cond_keeps (λ (e : EnvelopeRow). e.state) (eq_by_cmp nat_cmp r receipt) (examined responsive quality d) d refl

    examined_kept : HaveFates readings (x ∷ xs) after_examine
    examined_kept =
        kept_by_change readings xs x t after_examine examine_change kept
        (fair_examination (seen t) receipt (examined responsive quality) (λ e. refl) (λ e. refl) (λ e. refl) (λ e. refl))
        (record {
          none = refl;
          seen_is =
              alike (seen after_examine) (after_change examine_change (seen t))
              (λ r. row_at-changed_put nat_cmp_total nat_cmp-IsAntisymmetric envelope_key (examined responsive quality) t.envelopes receipt r e found (found_key keyed.envelopes t.envelopes receipt e found))
              (λ s. map_same ((seen t).security_at s)) (λ a. map_same ((seen t).award_at a)) (λ k. map_same ((seen t).lot_at k)) (λ n. map_same ((seen t).notice_at n));
          receipts_are = refl;
          e_keeps = record {
            notice = λ r d. cond_keeps (λ (e : EnvelopeRow). e.notice) (eq_by_cmp nat_cmp r receipt) (examined responsive quality d) d refl;
            lot = λ r d. cond_keeps (λ (e : EnvelopeRow). e.lot) (eq_by_cmp nat_cmp r receipt) (examined responsive quality d) d refl;
            tenderer = λ r d. cond_keeps (λ (e : EnvelopeRow). e.tenderer) (eq_by_cmp nat_cmp r receipt) (examined responsive quality d) d refl;
            security = λ r d. cond_keeps (λ (e : EnvelopeRow). e.security) (eq_by_cmp nat_cmp r receipt) (examined responsive quality d) d refl;
            moment = λ r d. cond_keeps (λ (e : EnvelopeRow). e.moment) (eq_by_cmp nat_cmp r receipt) (examined responsive quality d) d refl;
            len = λ r d. cond_keeps (λ (e : EnvelopeRow). e.length) (eq_by_cmp nat_cmp r receipt) (examined responsive quality d) d refl;
            digest = λ r d. cond_keeps (λ (e : EnvelopeRow). e.digest) (eq_by_cmp nat_cmp r receipt) (examined responsive quality d) d refl;
          };
          s_keeps = securities_keep;
          tender_goes = λ r d a at came_is is. examine_state r d ∙ still_sealed d.state;
          seal_goes =
              λ r d a at is. is.seal_is
              ∙ ap (λ s. cond (is_kept s) (Some (record { receipt = r; bytes = a.bytes })) None) (sym (examine_state r d));
          no_seal = λ r at none. none;
          security_goes = λ s w a named at came_is is. still_held w.state;
        })

  examine_by : (o : Option EnvelopeRow) → envelope_at receipt t ≡ o
      → HaveFates readings (x ∷ xs) (after_puts (examine_puts (record { envelope = o; notice = None; lot = None; clock = t.clock }) (max m t.clock.moment) responsive quality) t)
  examine_by None found = one_more readings xs x t kept refl (λ r. refl) (λ s. refl)
  examine_by (Some e) found = examined_kept e found

-- the command takes no tender in, and decides no tender and no security
fates_kept : (readings : Readings) (receipt : ℕ) (responsive : Bool) (quality : Option ℕ) → Keeps readings (Examine receipt responsive quality)
fates_kept readings receipt responsive quality xs t m caller kept _ allowed =
    examine_by readings receipt responsive quality xs t m caller kept (envelope_at receipt t) refl

-- the rows that its rows refer to exist
parents_of : (s u : Tables) → HaveParents s s → Grows s u → (clock : ClockRow) (t receipt : ℕ) (responsive : Bool) (quality : Option ℕ) (o : Option EnvelopeRow)
    → envelope_at receipt s ≡ o → AllParents u (examine_puts (record { envelope = o; notice = None; lot = None; clock = clock }) t responsive quality)
parents_of s u have g clock t receipt responsive quality None is = tt
parents_of s u have g clock t receipt responsive quality (Some e) is =
    let h = envelope_still s u g e (have.envelopes receipt e is) in
    (record { notice = h.notice; lot = h.lot; tenderer = h.tenderer; security = h.security }, (tt, tt))

-- if the tenders of two worlds are alike, they are examined alike
module _ (th : ChosenTender) (W : ℕ → Bool) where
  pairs : (clock : ClockRow) (t : ℕ) (responsive : Bool) (quality : Option ℕ) (o o' : Option EnvelopeRow) → AlikeOptions th W o o' → Pairs (PutPair th W) (examine_puts (record { envelope = o; notice = None; lot = None; clock = clock }) t responsive quality) (examine_puts (record { envelope = o'; notice = None; lot = None; clock = clock }) t responsive quality)
  pairs clock t responsive quality None None a = tt
  pairs clock t responsive quality None (Some e') a = absurd a
  pairs clock t responsive quality (Some e) None a = absurd a
  pairs clock t responsive quality (Some e) (Some e') a = (
    TwoEnvelopes (examined responsive quality e) (examined responsive quality e') refl refl (alike-set th W (examined responsive quality) (λ _ _. refl) (λ _. refl) (λ _. refl) (λ _. refl) e e' a),
    (Plain tt refl, tt),
  )

-- the tender's notice and lot exist
none_lacking : (s : Tables) → HaveParents s s → (receipt : ℕ) (o : Option EnvelopeRow) → envelope_at receipt s ≡ o → examine_lacks (record { envelope = o; notice = notice_of_envelope o s; lot = lot_of_envelope o s; clock = s.clock }) ≡ false
none_lacking s have receipt None is = refl
none_lacking s have receipt (Some e) is = let h = have.envelopes receipt e is in λ i. ap not h.notice i || ap not h.lot i

pub examine : (receipt : ℕ) (responsive : Bool) (quality : Option ℕ) → Lawful (Examine receipt responsive quality)
examine receipt responsive quality = record {
  accounts = Idle refl (λ s moment caller xs. record { moves_none = refl; held = λ _. refl; none_brought = λ _. refl; none_taken = λ _. refl });
  fates = λ readings. fates_kept readings receipt responsive quality;
  tail = λ readings s moment caller have allowed.
      let tests = none_holds (examine_tests (examine_rows s receipt) responsive quality) allowed in
      let e = witness (envelope_at receipt s) (not_false _ tests.1.0) in
      moved refl (λ i. examine_puts (record { envelope = e.1 i; notice = None; lot = None; clock = s.clock }) (max moment s.clock.moment) responsive quality) (front (puts.Envelope _ ∷ []) (refl, tt) (quiet _ [] tt refl (omega arith)));
  parents = λ readings s moment caller order have registered may allowed u grown later. parents_of s u have grown s.clock _ receipt responsive quality (envelope_at receipt s) refl;
  lacks = λ xs s moment caller whole allowed. none_lacking s whole.parents receipt (envelope_at receipt s) refl;
  alike = λ th W s es' ss' all seals readings t caller quiet. pairs th W s.clock t responsive quality (envelope_at receipt s) (find_envelope es' receipt) (envelope_pair th W s es' all receipt);
  gentle = examine_gently receipt responsive quality;
}
