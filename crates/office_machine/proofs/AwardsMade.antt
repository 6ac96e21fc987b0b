-- Each award of a reached office was made by one of its commands, for the tender that was shown as best.
use Rattle.office_machine.proofs.Names.{◌≡◌, ℕ, Bool, true, false, List, [], ◌∷◌, map, filter, Option, Some, None, inl, inr, ◌⊎◌, refl, sym, ap, subst, AllByRecursion, Refusal, Caller, Clerk, Command, Award, Cancel, Fail, Sign, NamedSecurity, envelope_of_award, line_of_lot, lot_of_award, notice_of_award, securities_of_award, security_of_envelope, row_at, first_of, Tables, IsSorted, no_tables, notice_at, lot_at, lot_key, award_at, lots_of_notice, envelopes_of_notice, securities_of_notice, awards_of_notice, envelopes_of_lot, securities_of_lot, after_put, after_puts, is_held_security, passed_over, put_if, securities_returned, security_returned, security_settled, Put, AwardRow, AwardState, EnvelopeRow, LineRow, LotRow, NoticeRow, ReleaseRow, SecurityRow, Forfeited, found_key, award_put, cancel_puts, cancelled_award, cancelled_lot_put, drop_put, envelope_put, freed_line_put, is_ended_award, is_ended_envelope, is_ended_security, is_open_lot, IsAnswer, IsBest, award_puts, award_row, award_rows, award_tests, decision_puts, price_of, winner, fail_puts, performance_put, sign_puts, best_is_found, IsShownBest, AwardsWereShown, MakesAward, WasMade, Means, Given, Reaches, command_tests, effect, publication, publication_puts, time_of}
use Rattle.office_base.specs.declared.puts.Put.TheVariants as puts
use Rattle.office_base.specs.declared.records.AwardState.TheVariants as award_states
use Rattle.office_machine.proofs.Accounts.Aside.{after-append}
use Rattle.office_machine.proofs.AwardsShown.{best_shown, lot_shown, open_notice}
use Rattle.office_machine.proofs.Commands.Footprint.{Awards, Reads}
use Rattle.office_machine.proofs.FateLaws.QuietFates.{all_append, all_of_map}
use Rattle.office_machine.proofs.Parents.ParentsPut.{all-filter, all-table}
use Rattle.office_machine.proofs.Passed.{allowed_by, none_holds}
use Rattle.office_machine.proofs.Rows.Keyed.{found}
use Rattle.office_machine.proofs.Rows.SortedTables.{sorted}
use Rattle.office_machine.proofs.Runs.{along}
use Rattle.office_machine.proofs.Terms.Said.{all_if}
use Rattle.office_machine.proofs.Terms.TermsKept.{all_made}
use Rattle.office_machine.proofs.Untouched.{untouched}
use Rattle.office_machine.proofs.Rows.Keyed as keyed

-- Another state of an award doesn't change who made it.

one_still : (x : Given) (command : Command) (a : AwardRow) (state : AwardState) → MakesAward x a command → MakesAward x (record a { state = state }) command
one_still x (Award notice lot) a state h = record { of_notice = h.of_notice; of_lot = h.of_lot; number = h.number; moment = h.moment; shown = h.shown }
one_still x _ a state h = h

still : (xs : List Given) (a : AwardRow) (state : AwardState) → WasMade xs a → WasMade xs (record a { state = state })
still [] a state h = h
still (x ∷ xs) a state h = elim h as (λ _. MakesAward x (record a { state = state }) x.command ⊎ WasMade xs (record a { state = state })) [
  | inl made ↦ inl (one_still x x.command a state made)
  | inr earlier ↦ inr (still xs a state earlier)
]

-- The award of each put was made by one of the commands.

abbrev AreMade : List Given → Tables → Type 0
AreMade xs t = (number : ℕ) (a : AwardRow) → award_at number t ≡ Some a → WasMade xs a

abbrev PutIsMade : List Given → Put → Type 0
PutIsMade xs (puts.Award a) = WasMade xs a
PutIsMade xs p = Unit {0}

put_made : (xs : List Given) (p : Put) (t : Tables) → PutIsMade xs p → AreMade xs t → AreMade xs (after_put p t)
put_made xs (puts.Award r) t own h number a is =
    elim (found keyed.awards t.awards r number a is) as (λ _. WasMade xs a) [
      | inl new ↦ subst (WasMade xs) (sym new.1) own
      | inr old ↦ h number a old.1
    ]
put_made xs _ t own h number a is = h number a is

puts_made : (xs : List Given) (ps : List Put) (t : Tables) → AllByRecursion (PutIsMade xs) ps → AreMade xs t → AreMade xs (after_puts ps t)
puts_made xs [] t own h = h
puts_made xs (p ∷ ps) t own h = puts_made xs ps (after_put p t) own.1 (put_made xs p t own.0 h)

reads_awards : (xs : List Given) → Reads (Awards ∷ []) (PutIsMade xs)
reads_awards xs (puts.Award a) other = absurd (let no : true ≡ false = other in cc)
reads_awards xs _ other = tt

-- A command, if the awards before it were made.

module _ (means : Means) (xs : List Given) (s : Tables) (moment : ℕ) (caller : Caller) (kept : AreMade xs s) (reached : Reaches means xs s) where
  abbrev given : Command → Given
  given command = record { before = s; moment = moment; caller = caller; command = command }

  abbrev Makes : Command → List Put → Type 0
  Makes command ps = AllByRecursion (PutIsMade (given command ∷ xs)) ps

  -- an award from before, in any state, was made by one of the commands
  earlier : (command : Command) (number : ℕ) (a : AwardRow) (state : AwardState) → award_at number s ≡ Some a → WasMade (given command ∷ xs) (record a { state = state })
  earlier command number a state is = inr (still xs a state (kept number a is))

  made_now : (command : Command) (a : AwardRow) → MakesAward (given command) a command → WasMade (given command ∷ xs) a
  made_now command a made = inl made

  returned_off : (command : Command) (securities : List SecurityRow) → Makes command (securities_returned securities)
  returned_off command securities =
      all_of_map (PutIsMade (given command ∷ xs)) security_returned (filter is_held_security securities) (λ _. tt)

  module _ (notice lot : List ℕ) (tests : AllByRecursion (λ (test : Bool × Refusal). test.0 ≡ false) (award_tests (award_rows s notice lot) (time_of (given (Award notice lot))))) where
    abbrev x : Given
    x = given (Award notice lot)

    decision_made : (n : NoticeRow) (l : LotRow) (r : LineRow) → notice_at notice s ≡ Some n → lot_at (notice, lot) s ≡ Some l → (o : Option EnvelopeRow) → winner (Some n) (envelopes_of_lot notice lot s) ≡ o
        → Makes (Award notice lot) (decision_puts s.clock (time_of x) n l r o (securities_of_lot notice lot s))
    decision_made n l r there is None won = (tt, (tt, (tt, (tt, returned_off (Award notice lot) (securities_of_lot notice lot s)))))
    decision_made n l r there is (Some e) won =
        let tenders : List EnvelopeRow = envelopes_of_lot notice lot s in
        let named : lot_key l ≡ (notice, lot) = found_key keyed.lots s.lots (notice, lot) l is in
        let best : IsBest n.weight tenders e = subst (IsAnswer n.weight tenders) won (best_is_found.found n.weight tenders) in (
          made_now (Award notice lot) (award_row s.clock (time_of x) l e)
              (record {
                of_notice = ap (λ (k : List ℕ × List ℕ). k.0) named;
                of_lot = ap (λ (k : List ℕ × List ℕ). k.1) named;
                number = refl;
                moment = refl;
                shown =
                    lot_shown Clerk s notice lot n l there (open_notice s notice lot (time_of x) tests n there) is refl (λ shown. IsShownBest shown e.receipt (price_of e))
                    (best_shown n.weight tenders e best);
              }),
          (tt, (tt, (tt, (tt, tt)))),
        )

    award_made : (n : Option NoticeRow) (l : Option LotRow) (r : Option LineRow) → notice_at notice s ≡ n → lot_at (notice, lot) s ≡ l
        → Makes (Award notice lot) (award_puts (record { notice = n; lot = l; line = r; envelopes = envelopes_of_lot notice lot s; securities = securities_of_lot notice lot s; clock = s.clock }) (time_of x))
    award_made None l r there is = tt
    award_made (Some n) None r there is = tt
    award_made (Some n) (Some l) None there is = tt
    award_made (Some n) (Some l) (Some r) there is = decision_made n l r there is (winner (Some n) (envelopes_of_lot notice lot s)) refl

  fail_made : (award : ℕ) (o : Option AwardRow) (n : Option NoticeRow) (l : Option LotRow) (e : Option EnvelopeRow) (w : Option SecurityRow) → award_at award s ≡ o
      → Makes (Fail award) (fail_puts (record { award = o; notice = n; lot = l; envelope = e; security = w; clock = s.clock }) (time_of (given (Fail award))))
  fail_made award None n l e w is = tt
  fail_made award (Some a) None l e w is = tt
  fail_made award (Some a) (Some n) None e w is = tt
  fail_made award (Some a) (Some n) (Some l) e w is = let P : Put → Type 0 = PutIsMade (given (Fail award) ∷ xs) in (
    earlier (Fail award) award a award_states.Failed is,
    (
      tt,
      (
        tt,
        (
          tt,
          all_append P (put_if (λ e. puts.Envelope (passed_over e)) e) (put_if (security_settled Forfeited) w) (all_if P (λ e. puts.Envelope (passed_over e)) e (λ _. tt))
              (all_if P (security_settled Forfeited) w (λ _. tt)),
        ),
      ),
    ),
  )

  sign_made : (award : ℕ) (named : Option NamedSecurity) (o : Option AwardRow) (n : Option NoticeRow) (l : Option LotRow) (e : Option EnvelopeRow) (ws : List SecurityRow) → award_at award s ≡ o
      → Makes (Sign award named) (sign_puts (record { award = o; notice = n; lot = l; envelope = e; securities = ws; clock = s.clock }) (time_of (given (Sign award named))) named)
  sign_made award named None n l e ws is = tt
  sign_made award named (Some a) None l e ws is = tt
  sign_made award named (Some a) (Some n) None e ws is = tt
  sign_made award named (Some a) (Some n) (Some l) e ws is = let P : Put → Type 0 = PutIsMade (given (Sign award named) ∷ xs) in (
    earlier (Sign award named) award a award_states.Signed is,
    (
      tt,
      (
        tt,
        (
          tt,
          (
            tt,
            all_append P (securities_returned ws) (put_if (performance_put a) named) (returned_off (Sign award named) ws) (all_if P (performance_put a) named (λ _. tt)),
          ),
        ),
      ),
    ),
  )

  cancel_made : (notice rationale : List ℕ) (o : Option NoticeRow)
      → Makes (Cancel notice rationale)
      (cancel_puts (record { notice = o; lines = s.lines; lots = lots_of_notice notice s; awards = awards_of_notice notice s; envelopes = envelopes_of_notice notice s; securities = securities_of_notice notice s; clock = s.clock }) (time_of (given (Cancel notice rationale))))
  cancel_made notice rationale None = tt
  cancel_made notice rationale (Some n) =
      let ys : List Given = given (Cancel notice rationale) ∷ xs in
      let lots : List LotRow = lots_of_notice notice s in
      let ended : List LotRow = filter is_open_lot lots in
      let gone : List EnvelopeRow = filter (is_ended_envelope lots) (envelopes_of_notice notice s) in
      let freed : List SecurityRow = filter (is_ended_security lots) (securities_of_notice notice s) in
      let order : IsSorted s = sorted means xs s reached in
      let P : Put → Type 0 = PutIsMade ys in
      all_append P (map (freed_line_put s.lines ended) ended) _ (all_of_map P (freed_line_put s.lines ended) ended (λ _. tt))
      (all_append P (map cancelled_lot_put ended) _ (all_of_map P cancelled_lot_put ended (λ _. tt))
      (all_append P (map award_put (filter (is_ended_award lots) (awards_of_notice notice s))) _
      (all_made P award_put (filter (is_ended_award lots) (awards_of_notice notice s))
      (all-filter _ (is_ended_award lots) (awards_of_notice notice s)
      (all-filter _ _ s.awards
      (all-table keyed.awards (λ (a : AwardRow). WasMade ys (cancelled_award a)) s.awards order.awards (λ k a is. earlier (Cancel notice rationale) k a award_states.Cancelled is)))))
      (all_append P (map envelope_put gone) _ (all_of_map P envelope_put gone (λ _. tt))
      (all_append P (map drop_put gone) _ (all_of_map P drop_put gone (λ _. tt))
      (all_append P (map security_returned freed) _ (all_of_map P security_returned freed (λ _. tt)) (tt, (tt, tt)))))))

  one_made : (command : Command) → first_of (command_tests (given command)) ≡ None → Makes command (effect means.readings (given command))
  one_made (Award notice lot) allowed =
      award_made notice lot (none_holds (award_tests (award_rows s notice lot) (time_of (given (Award notice lot)))) allowed) (notice_at notice s) (lot_at (notice, lot) s)
      (line_of_lot (lot_at (notice, lot) s) s) refl refl
  one_made (Fail award) allowed =
      let w : Option AwardRow = award_at award s in
      fail_made award w (notice_of_award w s) (lot_of_award w s) (envelope_of_award w s) (security_of_envelope (envelope_of_award w s) s) refl
  one_made (Sign award named) allowed =
      let w : Option AwardRow = award_at award s in
      sign_made award named w (notice_of_award w s) (lot_of_award w s) (envelope_of_award w s) (securities_of_award w s) refl
  one_made (Cancel notice rationale) allowed = cancel_made notice rationale (notice_at notice s)
  one_made command allowed = untouched means xs s moment caller reached (PutIsMade (given command ∷ xs)) (Awards ∷ []) (reads_awards (given command ∷ xs)) command refl allowed

-- the put of a release puts no award
published_made : (xs : List Given) (t : Tables) (p : Option ReleaseRow) → AreMade xs t → AreMade xs (after_puts (publication_puts p) t)
published_made xs t None h number = h number
published_made xs t (Some p) h number = h number

none_there : AreMade [] no_tables
unfolding row_at
none_there number a is = absurd (let none : ◌≡◌ {A = Option AwardRow} None (Some a) = is in cc)

pub awards_were_shown : AwardsWereShown
awards_were_shown means = along means AreMade none_there (λ merges in_order xs t of_notices h number. h number)
    (λ xs x accepted h.
    subst (AreMade (x ∷ xs)) (sym (after-append (effect means.readings x) (publication_puts (publication means x)) x.before))
    (published_made (x ∷ xs) (after_puts (effect means.readings x) x.before) (publication means x)
    (puts_made (x ∷ xs) (effect means.readings x) x.before (one_made means xs x.before x.moment x.caller h accepted.reached x.command (allowed_by x accepted.allowed))
    (λ number a is. inr (h number a is)))))
