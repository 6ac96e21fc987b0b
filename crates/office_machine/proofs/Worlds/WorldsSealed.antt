-- A tender that is submitted or replaced with other bytes leaves two worlds alike.
use Rattle.office_machine.proofs.Names.{◌≡◌, ℕ, ◌+◌, Bool, true, false, cond, not, ◌&&◌, List, [], ◌∷◌, ◌++◌, length, Option, Some, None, is_some, refl, sym, ◌∙◌, ap, subst, nat_cmp-IsAntisymmetric, nat_cmp_total, AllByRecursion, same_id, same_number, Tables, IsSorted, find_envelope, find_seal, notice_at, envelope_at, seal_at, after_put, after_puts, holds_of, Caller, Tenderer, NamedSecurity, Forbidden, first_of, is_in_time, receipt_clock, put_if, Command, may_give, Given, time_of, command_tests, effect, refusal_of, Readings, EnvelopeRow, SealRow, Put, received, seal_puts, security_put, is_anothers, replacing, withdrawn, modify_puts, ChosenTender, is_for_chosen_lot, is_theirs, AlikeRows, Pairs, IsNext, SameBut, Same, Presented, Modified, AcceptedAlike, StepsStayAlike, equal_keys, equal_ids, same_itself, each_found, own_key}
use Rattle.office_commands.specs.declared.commands.Command.TheVariants as commands
use Rattle.office_base.specs.declared.puts.Put.TheVariants as puts
use Rattle.office_machine.proofs.Rows.Keyed.{found_put}
use Rattle.office_machine.proofs.Rows.Keyed as keyed
use Rattle.office_machine.proofs.Parents.ParentsPut.{grows-puts}
use Rattle.office_machine.proofs.Passed.{none_holds, allowed_by}
use Rattle.office_machine.proofs.Worlds.WorldsPut.{Alike, pair_puts, pairs-found}
use Rattle.office_machine.proofs.Commands.Present.{present_pairs}
use Rattle.office_machine.proofs.Commands.Modify.{modify_pairs}
use Rattle.office_machine.proofs.Worlds.WorldsStep.{tests_same}
use Rattle.office_machine.proofs.Worlds.WorldsKept.{GivesNone, offices_of, is_there, quiet_step}

-- an envelope that is put first exists afterwards
put_first : (e : EnvelopeRow) (rest : List Put) (s : Tables) → is_some (envelope_at e.receipt (after_puts (puts.Envelope e ∷ rest) s)) ≡ true
put_first e rest s = (grows-puts rest (after_put (puts.Envelope e) s)).envelopes e.receipt (ap is_some (found_put keyed.envelopes s.envelopes e))

module _ (th : ChosenTender) (readings : Readings) (s : Tables) (es' : List EnvelopeRow) (ss' : List SealRow) (moment : ℕ) (caller : Caller) (order : IsSorted s) (next : IsNext s) (fresh : Bool) where
  abbrev other : Tables
  other = record s { envelopes = es'; seals = ss' }

  abbrev last : ℕ
  last = s.clock.receipts + 1

  -- `W` marks the receipts of the chosen tenderer for the chosen lot, and the next receipt if `fresh`
  abbrev W : ℕ → Bool
  W n = cond (same_number n last) fresh (holds_of (is_theirs th) (envelope_at n s))

  W_last : W last ≡ fresh
  W_last = ap (λ b. cond b fresh (holds_of (is_theirs th) (envelope_at last s))) (own_key nat_cmp_total last)

  own_by : (e : EnvelopeRow) → envelope_at e.receipt s ≡ Some e → (b : Bool) → same_number e.receipt last ≡ b → is_theirs th e ≡ cond b fresh (holds_of (is_theirs th) (envelope_at e.receipt s))
  own_by e found true h = absurd (let none : None ≡ Some e = sym (ap (λ n. envelope_at n s) (equal_keys nat_cmp-IsAntisymmetric e.receipt last h) ∙ next.envelope) ∙ found in cc)
  own_by e found false h = sym (ap (holds_of (is_theirs th)) found)

  with_new : (es es'' : List EnvelopeRow) → AllByRecursion (λ e. envelope_at e.receipt s ≡ Some e) es → Pairs (AlikeRows th) es es'' → Pairs (Alike th W) es es''
  with_new [] [] found all = tt
  with_new [] (e' ∷ es'') found all = absurd all
  with_new (e ∷ es) [] found all = absurd all
  with_new (e ∷ es) (e' ∷ es'') found all = (record { rows = all.0; own = own_by e found.0 (same_number e.receipt last) refl }, with_new es es'' found.1 all.1)

  seal_by : find_seal ss' last ≡ None → ((n : ℕ) → holds_of (is_theirs th) (envelope_at n s) ≡ false → seal_at n s ≡ find_seal ss' n) → (n : ℕ) (b : Bool) → same_number n last ≡ b
      → cond b fresh (holds_of (is_theirs th) (envelope_at n s)) ≡ false → seal_at n s ≡ find_seal ss' n
  seal_by none seals n true h out = let at : n ≡ last = equal_keys nat_cmp-IsAntisymmetric n last h in ap (λ n. seal_at n s) at ∙ (next.seal ∙ sym (ap (find_seal ss') at ∙ none))
  seal_by none seals n false h out = seals n out

  there_by : (t : Tables) → (fresh ≡ true → is_some (envelope_at last t) ≡ true) → ((n : ℕ) → is_some (envelope_at n s) ≡ true → is_some (envelope_at n t) ≡ true) → (n : ℕ) (b : Bool) → same_number n last ≡ b
      → cond b fresh (holds_of (is_theirs th) (envelope_at n s)) ≡ true → is_some (envelope_at n t) ≡ true
  there_by t new grow n true h e = ap (λ n. is_some (envelope_at n t)) (equal_keys nat_cmp-IsAntisymmetric n last h) ∙ new e
  there_by t new grow n false h e = grow n (is_there th (envelope_at n s) e)

  module _ (order' : IsSorted other) (none : find_seal ss' last ≡ None) (rows : Pairs (AlikeRows th) s.envelopes es') (seals : (n : ℕ) → holds_of (is_theirs th) (envelope_at n s) ≡ false → seal_at n s ≡ find_seal ss' n) where
    all : Pairs (Alike th W) s.envelopes es'
    all = with_new s.envelopes es' (each_found keyed.envelopes s.envelopes order.envelopes) rows

    same_seals : (n : ℕ) → W n ≡ false → seal_at n s ≡ find_seal ss' n
    same_seals n out = seal_by none seals n (same_number n last) refl out

    abbrev given : Command → Given
    given command = record { before = s; moment = moment; caller = caller; command = command }

    abbrev given' : Command → Given
    given' command = record { before = other; moment = moment; caller = caller; command = command }

    refused_alike : (command : Command) → refusal_of (given' command) ≡ refusal_of (given command)
    refused_alike command = ap (λ tests. first_of ((not (may_give caller command), Forbidden) ∷ tests)) (tests_same th W s es' ss' all same_seals (time_of (given command)) caller command)

    present_envelope : (notice lot : List ℕ) (security : Option NamedSecurity) (bytes : List ℕ) → is_some (envelope_at last (after_puts (effect readings (given (commands.Present notice lot security bytes))) s)) ≡ true
    present_envelope notice lot security bytes =
        let t : ℕ = time_of (given (commands.Present notice lot security bytes)) in
        let in_time : Bool = holds_of (is_in_time t) (notice_at notice s) in
        put_first (received readings.digest s.clock t caller notice lot security bytes in_time) (receipt_clock s.clock t ∷ seal_puts s.clock bytes in_time ++ put_if (security_put s.clock caller notice lot in_time) security) s

    pub presented : (notice lot : List ℕ) (security : Option NamedSecurity) (bytes bytes' : List ℕ) → length bytes ≡ length bytes'
        → same_id (Rattle.office_commands.specs.Callers.tenderer_of caller) th.who && (same_id notice th.notice && same_id lot th.lot) ≡ fresh → (fresh ≡ false → bytes ≡ bytes')
        → AcceptedAlike th readings (given (commands.Present notice lot security bytes)) (given' (commands.Present notice lot security bytes'))
    presented notice lot security bytes bytes' len is same = record {
      refused = refused_alike (commands.Present notice lot security bytes);
      alike = λ _ _.
          offices_of th W (after_puts (effect readings (given (commands.Present notice lot security bytes))) s) (after_puts (effect readings (given' (commands.Present notice lot security bytes'))) other)
          (λ n e. there_by (after_puts (effect readings (given (commands.Present notice lot security bytes))) s) (λ _. present_envelope notice lot security bytes) (grows-puts (effect readings (given (commands.Present notice lot security bytes))) s).envelopes n (same_number n last) refl e)
          (pair_puts th W (effect readings (given (commands.Present notice lot security bytes))) (effect readings (given' (commands.Present notice lot security bytes'))) s other
          (present_pairs th W readings.digest s.clock (time_of (given (commands.Present notice lot security bytes))) bytes bytes' len caller notice lot security (holds_of (is_in_time (time_of (given (commands.Present notice lot security bytes)))) (notice_at notice s)) (is ∙ sym W_last) (λ out. same (sym is ∙ out)))
          (record { but_sealed = refl; envelopes = all; seals = same_seals }) order order');
    }

    modify_there : (t : ℕ) (bytes : List ℕ) (o : Option EnvelopeRow) → holds_of (is_theirs th) o ≡ true → is_some (envelope_at last (after_puts (modify_puts readings.digest (record { envelope = o; notice = None; clock = s.clock }) t bytes) s)) ≡ true
    modify_there t bytes None e = cc
    modify_there t bytes (Some x) e = ap is_some (found_put keyed.envelopes (Rattle.office_base.specs.Tables.put_envelope s.envelopes (withdrawn x)) (replacing readings.digest s.clock t x bytes))

    pub modified : (receipt : ℕ) (bytes bytes' : List ℕ) → length bytes ≡ length bytes' → holds_of (is_theirs th) (envelope_at receipt s) ≡ fresh
        → (refusal_of (given (commands.Modify receipt bytes)) ≡ None → fresh ≡ false → bytes ≡ bytes')
        → AcceptedAlike th readings (given (commands.Modify receipt bytes)) (given' (commands.Modify receipt bytes'))
    modified receipt bytes bytes' len is same = record {
      refused = refused_alike (commands.Modify receipt bytes);
      alike = λ allowed _.
          offices_of th W (after_puts (effect readings (given (commands.Modify receipt bytes))) s) (after_puts (effect readings (given' (commands.Modify receipt bytes'))) other)
          (λ n e. there_by (after_puts (effect readings (given (commands.Modify receipt bytes))) s) (λ f. modify_there (time_of (given (commands.Modify receipt bytes))) bytes (envelope_at receipt s) (is ∙ f)) (grows-puts (effect readings (given (commands.Modify receipt bytes))) s).envelopes n (same_number n last) refl e)
          (pair_puts th W (effect readings (given (commands.Modify receipt bytes))) (effect readings (given' (commands.Modify receipt bytes'))) s other
          (modify_pairs th W readings.digest s.clock (time_of (given (commands.Modify receipt bytes))) bytes bytes' len (envelope_at receipt s) (find_envelope es' receipt) (pairs-found th W s.envelopes es' receipt all) (is ∙ sym W_last) (λ out. same allowed (sym is ∙ out)))
          (record { but_sealed = refl; envelopes = all; seals = same_seals }) order order');
    }

-- if a replacement isn't refused, its tenderer owns the tender
owns : (th : ChosenTender) (o : Option EnvelopeRow) → holds_of (is_for_chosen_lot th) o ≡ true → holds_of (is_anothers (Tenderer th.who)) o ≡ false → holds_of (is_theirs th) o ≡ true
owns th None lot mine = lot
owns th (Some e) lot mine =
    let own : same_id th.who e.tenderer ≡ true = by (same_id th.who e.tenderer) mine in
    let back : same_id e.tenderer th.who ≡ true = ap (λ k. same_id k th.who) (sym (equal_ids th.who e.tenderer own)) ∙ same_itself th.who in
    λ i. back i && lot i
  where
    by : (b : Bool) → not b ≡ false → b ≡ true
    by true h = refl
    by false h = cc

module _ (th : ChosenTender) (readings : Readings) (s : Tables) (es' : List EnvelopeRow) (ss' : List SealRow) (moment : ℕ) (order : IsSorted s) (next : IsNext s)
    (order' : IsSorted (record s { envelopes = es'; seals = ss' })) (none : find_seal ss' (s.clock.receipts + 1) ≡ None) (rows : Pairs (AlikeRows th) s.envelopes es') (seals : (n : ℕ) → holds_of (is_theirs th) (envelope_at n s) ≡ false → seal_at n s ≡ find_seal ss' n) where
  abbrev world : Tables
  world = record s { envelopes = es'; seals = ss' }

  abbrev Alike_after : Caller → Command → Command → Type 0
  Alike_after caller command command' = AcceptedAlike th readings (record { before = s; moment = moment; caller = caller; command = command }) (record { before = world; moment = moment; caller = caller; command = command' })

  quietly : (caller : Caller) (command : Command) → GivesNone command → Alike_after caller command command
  quietly caller command quiet = quiet_step th readings s es' ss' moment caller command order order' rows seals quiet

  -- the same command in both worlds
  same_command : (caller : Caller) (command : Command) → Alike_after caller command command
  same_command caller (commands.Present notice lot security bytes) =
      presented th readings s es' ss' moment caller order next (same_id (Rattle.office_commands.specs.Callers.tenderer_of caller) th.who && (same_id notice th.notice && same_id lot th.lot)) order' none rows seals notice lot security bytes bytes refl refl (λ _. refl)
  same_command caller (commands.Modify receipt bytes) =
      modified th readings s es' ss' moment caller order next (holds_of (is_theirs th) (envelope_at receipt s)) order' none rows seals receipt bytes bytes refl refl (λ _ _. refl)
  same_command caller command = quietly caller command tt

  -- the chosen tenderer submits other bytes for the chosen lot
  other_bytes : (security : Option NamedSecurity) (bytes bytes' : List ℕ) → length bytes ≡ length bytes' → Alike_after (Tenderer th.who) (commands.Present th.notice th.lot security bytes) (commands.Present th.notice th.lot security bytes')
  other_bytes security bytes bytes' len =
      presented th readings s es' ss' moment (Tenderer th.who) order next true order' none rows seals th.notice th.lot security bytes bytes' len
      (λ i. same_itself th.who i && (same_itself th.notice i && same_itself th.lot i)) (λ e. cc)

  other_tender : (receipt : ℕ) (bytes bytes' : List ℕ) → length bytes ≡ length bytes' → holds_of (is_for_chosen_lot th) (envelope_at receipt s) ≡ true → Alike_after (Tenderer th.who) (commands.Modify receipt bytes) (commands.Modify receipt bytes')
  other_tender receipt bytes bytes' len lot =
      modified th readings s es' ss' moment (Tenderer th.who) order next (holds_of (is_theirs th) (envelope_at receipt s)) order' none rows seals receipt bytes bytes' len refl
      (λ allowed out.
      let x : Given = record { before = s; moment = moment; caller = Tenderer th.who; command = commands.Modify receipt bytes } in
      let passes = none_holds (command_tests x) (allowed_by x allowed) in
      let theirs : holds_of (is_theirs th) (envelope_at receipt s) ≡ true = owns th (envelope_at receipt s) lot passes.1.0 in
      absurd (let clash : true ≡ false = sym theirs ∙ out in cc))

  step : (caller : Caller) (command command' : Command) → SameBut th s caller command command' → Alike_after caller command command'
  step caller command command' (Same e) = subst (Alike_after caller command) e (same_command caller command)
  step caller command command' (Presented security bytes bytes' len who is is') =
      subst (λ c. Alike_after c command command') who (subst (λ c. Alike_after (Tenderer th.who) c command') is (subst (Alike_after (Tenderer th.who) (commands.Present th.notice th.lot security bytes)) is' (other_bytes security bytes bytes' len)))
  step caller command command' (Modified receipt bytes bytes' len who lot is is') =
      subst (λ c. Alike_after c command command') who (subst (λ c. Alike_after (Tenderer th.who) c command') is (subst (Alike_after (Tenderer th.who) (commands.Modify receipt bytes)) is' (other_tender receipt bytes bytes' len lot)))

pub steps_stay : StepsStayAlike
steps_stay th readings s s' moment caller command command' order order' next next' alike same =
    let other : s' ≡ record s { envelopes = s'.envelopes; seals = s'.seals } = alike.but_sealed in
    let none : find_seal s'.seals (s.clock.receipts + 1) ≡ None = ap (λ (u : Tables). find_seal s'.seals (u.clock.receipts + 1)) (sym other) ∙ next'.seal in
    subst (λ u. AcceptedAlike th readings (record { before = s; moment = moment; caller = caller; command = command }) (record { before = u; moment = moment; caller = caller; command = command' })) (sym other)
    (step th readings s s'.envelopes s'.seals moment order next (subst IsSorted other order') none alike.envelopes alike.seals caller command command' same)
