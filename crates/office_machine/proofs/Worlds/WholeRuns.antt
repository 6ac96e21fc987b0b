-- If no differing tender is opened, two runs are alike to their end.
use Rattle.office_machine.proofs.Names.{◌≡◌, ℕ, ◌+◌, Bool, true, false, cond, List, [], ◌∷◌, Option, Some, None, refl, sym, ◌∙◌, ap, subst, inl, inr, same_id, same_number, Tables, envelope_at, seal_at, holds_of, Refusal, EnvelopeState, EnvelopeRow, SealRow, is_sealed, is_sealed_envelope, Means, Given, Reaches, refusal_of, Reception, received_by, received_at, fate_of_tender, fate_after, tender_decided, is_of_notice, is_kept, ChosenTender, is_theirs, AlikeOffices, Demand, Asks, Looks, Request, given_by_request, accepted_by, demand_accepted, office_after, accepted_with, all_accepted, AreRequests, Packages, ReleasesHideSeals, PackagesHideSeals, SameButSeals, AlikeThroughout, bytes_of, is_gone, DifferingAreGone, WholeRunsAreAlike, each_found}
use Rattle.office_commands.specs.declared.commands.Command.TheVariants as commands
use Rattle.office_base.specs.declared.records.EnvelopeState.TheVariants as envelope_states
use Rattle.office_machine.proofs.FateLaws.FatesKept.{all_kept}
use Rattle.office_machine.proofs.Rows.Keyed as keyed
use Rattle.office_machine.proofs.FateLaws.NextReceipt.{came_old}
use Rattle.office_machine.proofs.Rows.SortedTables.{sorted}
use Rattle.office_machine.proofs.Worlds.WorldsPut.{AlikeOptions, pairs-found}
use Rattle.office_machine.proofs.Worlds.WorldsKept.{with_own}
use Rattle.office_machine.proofs.Worlds.SealsKept.{FindsAlike, step, itself, know_alike}

-- a fact that further commands keep is kept by a run
module _ (P : List Given → Type 0) (on : (x : Given) (xs : List Given) → P xs → P (x ∷ xs)) where
  by_refusal : (o : Option Refusal) (x : Given) (xs : List Given) → P xs → P (accepted_by o x xs)
  by_refusal None x xs h = on x xs h
  by_refusal (Some why) x xs h = h

  by_demand : (s : Tables) (a : Request) (d : Demand) (xs : List Given) → P xs → P (demand_accepted s a d xs)
  by_demand s a (Asks command) xs h = by_refusal (refusal_of (given_by_request s a command)) (given_by_request s a command) xs h
  by_demand s a (Looks query) xs h = h

  one_more : (s : Tables) (a : Request) (xs : List Given) → P xs → P (accepted_with s a xs)
  one_more s a xs h = by a.unavailable
    where
      by : (u : Bool) → P (cond u xs (demand_accepted s a a.demand xs))
      by true = h
      by false = by_demand s a a.demand xs h

  all_more : (means : Means) (s : Tables) (xs : List Given) (rest : List Request) → P xs → P (all_accepted means s xs rest)
  all_more means s xs [] h = h
  all_more means s xs (a ∷ rest) h = all_more means (office_after means s a) (accepted_with s a xs) rest (one_more s a xs h)

-- a tender that came in remains through a run
still_came : (means : Means) (s : Tables) (xs : List Given) (rest : List Request) (r : ℕ) (c : Reception) → received_at xs r ≡ Some c → received_at (all_accepted means s xs rest) r ≡ Some c
still_came means s xs rest r c h = all_more (λ xs. received_at xs r ≡ Some c) (λ x xs e. came_old (received_at xs r) (cond (same_number r (x.before.clock.receipts + 1)) (received_by x.command x (λ q. received_at xs q)) None) c e ∙ e) means s xs rest h

still_opened : (means : Means) (s : Tables) (xs : List Given) (rest : List Request) (r : ℕ) → fate_of_tender xs r ≡ Some envelope_states.Opened → fate_of_tender (all_accepted means s xs rest) r ≡ Some envelope_states.Opened
still_opened means s xs rest r h =
    all_more (λ xs. fate_of_tender xs r ≡ Some envelope_states.Opened) (λ x xs e. ap (λ o. fate_after o (received_at (x ∷ xs) r) (tender_decided x.command x (received_at xs) r)) e) means s xs rest h

sealed_is : (state : EnvelopeState) → is_sealed state ≡ true → state ≡ envelope_states.Sealed
sealed_is envelope_states.Sealed e = refl
sealed_is envelope_states.Withdrawn e = cc
sealed_is envelope_states.Returned e = cc
sealed_is envelope_states.Opened e = cc

record Other (e : EnvelopeRow) (o : Option EnvelopeRow) : Type 0 where
  row : EnvelopeRow
  is : o ≡ Some row
  state : row.state ≡ e.state

other_row : (th : ChosenTender) (W : ℕ → Bool) (e : EnvelopeRow) (o : Option EnvelopeRow) → AlikeOptions th W (Some e) o → Other e o
other_row th W e None a = absurd a
other_row th W e (Some e') a = record { row = e'; is = refl; state = ap (λ (e : EnvelopeRow). e.state) a.rows.but_digest }

-- the seal of a sealed tender has the bytes that came in
its_seal : (r : ℕ) (c : Reception) (state : EnvelopeState) (seal : Option SealRow) → seal ≡ cond (is_kept state) (Some (record { receipt = r; bytes = c.bytes })) None → state ≡ envelope_states.Sealed → seal ≡ Some (record { receipt = r; bytes = c.bytes })
its_seal r c state seal is sealed = is ∙ ap (λ st. cond (is_kept st) (Some (record { receipt = r; bytes = c.bytes })) None) sealed

module _ (means : Means) (th : ChosenTender) (xs ys : List Given) (s s' : Tables) (reached : Reaches means xs s) (reached' : Reaches means ys s') (alike : AlikeOffices th s s')
    (a b : Request) (rest rest' : List Request) (gone : DifferingAreGone (all_accepted means s xs (a ∷ rest)) (all_accepted means s' ys (b ∷ rest'))) where
  abbrev W : ℕ → Bool
  W n = holds_of (is_theirs th) (envelope_at n s)

  other_found : (r : ℕ) → AlikeOptions th W (envelope_at r s) (envelope_at r s')
  other_found r = pairs-found th W s.envelopes s'.envelopes r (with_own th s s.envelopes s'.envelopes (each_found keyed.envelopes s.envelopes (sorted means xs s reached).envelopes) alike.envelopes)

  module _ (notice : List ℕ) (is : a.demand ≡ Asks (commands.Open notice)) (available : a.unavailable ≡ false) (allowed : refusal_of (given_by_request s a (commands.Open notice)) ≡ None) where
    abbrev x : Given
    x = given_by_request s a (commands.Open notice)

    joins : accepted_with s a xs ≡ x ∷ xs
    joins = (λ i. cond (available i) xs (demand_accepted s a (is i) xs)) ∙ ap (λ o. accepted_by o x xs) allowed

    opened_now : (r : ℕ) (e : EnvelopeRow) (c : Reception) → received_at xs r ≡ Some c → e.notice ≡ c.notice → same_id e.notice notice ≡ true → fate_of_tender xs r ≡ Some envelope_states.Sealed
        → fate_of_tender (accepted_with s a xs) r ≡ Some envelope_states.Opened
    opened_now r e c came_is of_notice of fate =
        ap (λ zs. fate_of_tender zs r) joins
        ∙ (ap (λ f. fate_after f (received_at (x ∷ xs) r) (tender_decided (commands.Open notice) x (received_at xs) r)) fate
        ∙ (ap (λ o. Some (cond (is_of_notice notice o) envelope_states.Opened envelope_states.Sealed)) came_is
        ∙ ap (λ b. Some (cond b envelope_states.Opened envelope_states.Sealed)) (ap (λ k. same_id k notice) (sym of_notice) ∙ of)))

    same_seal : (r : ℕ) (e : EnvelopeRow) → envelope_at r s ≡ Some e → same_id e.notice notice ≡ true → is_sealed_envelope e ≡ true → seal_at r s ≡ seal_at r s'
    same_seal r e found of sealed =
        let one = (all_kept means xs s reached).tenders.received r e found in
        let there : Other e (envelope_at r s') = other_row th W e (envelope_at r s') (subst (λ o. AlikeOptions th W o (envelope_at r s')) found (other_found r)) in
        let two = (all_kept means ys s' reached').tenders.received r there.row there.is in
        let state : e.state ≡ envelope_states.Sealed = sealed_is e.state sealed in
        let seal : seal_at r s ≡ Some (record { receipt = r; bytes = one.came.bytes }) = its_seal r one.came e.state (seal_at r s) one.stands.seal_is state in
        let seal' : seal_at r s' ≡ Some (record { receipt = r; bytes = two.came.bytes }) = its_seal r two.came there.row.state (seal_at r s') two.stands.seal_is (there.state ∙ state) in
        elim (gone r) as (λ _. seal_at r s ≡ seal_at r s') [
          | inl q ↦
              let bytes : Some one.came.bytes ≡ Some two.came.bytes = sym (ap bytes_of (still_came means s xs (a ∷ rest) r one.came one.came_is)) ∙ (q ∙ ap bytes_of (still_came means s' ys (b ∷ rest') r two.came two.came_is)) in
              let same : one.came.bytes ≡ two.came.bytes = cc in
              seal ∙ (ap (λ bytes. Some (record { receipt = r; bytes = bytes })) same ∙ sym seal')
          | inr q ↦
              let opened : fate_of_tender (all_accepted means s xs (a ∷ rest)) r ≡ Some envelope_states.Opened =
              still_opened means (office_after means s a) (accepted_with s a xs) rest r (opened_now r e one.came one.came_is one.stands.of_notice of (one.stands.fate_is ∙ ap Some state)) in
              absurd (let clash : false ≡ true = sym (ap is_gone opened) ∙ q in cc)
        ]

  finds : FindsAlike s s' a
  finds (commands.Open notice) is available allowed = same_seal notice is available allowed
  finds _ is available allowed = tt

module _ (means : Means) (packages : Packages) (publishes : ReleasesHideSeals means) (sees : PackagesHideSeals packages) (th : ChosenTender) where
  run : (xs ys : List Given) (s s' : Tables) → Reaches means xs s → Reaches means ys s' → AlikeOffices th s s' → (rest rest' : List Request) → AreRequests means s rest → SameButSeals means th s rest rest'
      → DifferingAreGone (all_accepted means s xs rest) (all_accepted means s' ys rest') → AlikeThroughout means packages th s s' rest rest'
  run xs ys s s' reached reached' alike [] [] own same gone = know_alike th s s' alike
  run xs ys s s' reached reached' alike [] (b ∷ rest') own same gone = absurd same
  run xs ys s s' reached reached' alike (a ∷ rest) [] own same gone = absurd same
  run xs ys s s' reached reached' alike (a ∷ rest) (b ∷ rest') own same gone =
      let it = step means packages publishes sees th xs ys s s' reached reached' alike a b own.0 same.0 in (
        know_alike th s s' alike,
        it.told,
        λ goes_on. run (accepted_with s a xs) (accepted_with s' b ys) (office_after means s a) (office_after means s' b) it.reached it.reached'
            (it.alike (finds means th xs ys s s' reached reached' alike a b rest rest' gone)) rest rest' own.1 same.1 gone,
      )

pub whole_runs : WholeRunsAreAlike
whole_runs means packages publishes sees th xs s reached rest rest' own same gone = run means packages publishes sees th xs xs s s reached reached (itself th s) rest rest' own same gone
