-- An office that was served while the sums of its budget lines were remembered was served.
use Rattle.procure_programs.proofs.Names.{◌≡◌, ℕ, List, [], sym, subst, Keeps, Meaning, Tables, Step, StopsBy, remembering, RememberingShelf, WasServed}
use Rattle.office_values.specs.declared.settings.Settings.{Settings}
use Rattle.office_http.specs.Answering.{Held}
use Rattle.procure_programs.proofs.ServingSteps.{stops_none, stops_on, stops_still}

module _ {S : Type 0} (M : Meaning S) (old : S) where
  -- A store around this one was asked. So this one was.
  pub asked_inside : (blank first : RememberingShelf S) → blank.shelf ≡ old → ((t : Tables) → M.holds old t → (remembering M).holds blank t) → Keeps (remembering M) blank first
      → Keeps M old first.shelf
  asked_inside blank first same held keeps = record {
    before = λ honest. subst M.honest same (keeps.before honest);
    same = λ honest t holds. (keeps.same honest t (held t holds)).0;
    stop = λ honest u may. subst (λ s. M.may_leave s u) same (keeps.stop honest u may);
    sound = λ honest was. keeps.sound honest (subst M.leaves_sound (sym same) was);
  }

  -- A stop leaves in this store what the steps allow that the store around it went through.
  pub stops_inside : (first last : RememberingShelf S) → Keeps M old first.shelf → M.honest first.shelf → (h : Held) (steps : List Step) → StopsBy (remembering M) first last h steps
      → StopsBy M old last.shelf h steps
  stops_inside first last around honest h steps stops =
      let inside : StopsBy M first.shelf last.shelf h steps = record { left = stops.left; sound = stops.sound } in
      stops_on M old first.shelf last.shelf h [] steps (stops_still M old old first.shelf h [] (stops_none M old h) around honest) inside

  pub served_inside : (most : ℕ) (settings : Settings) (first last : RememberingShelf S) → Keeps M old first.shelf
      → (M.honest first.shelf → (t : Tables) → M.holds old t → (remembering M).holds first t) → WasServed (remembering M) most settings first last
      → WasServed M most settings old last.shelf
  served_inside most settings first last around holds (before, (now, turns)) = (
    λ honest. around.before (before honest),
    (
      now,
      λ honest h stands.
          let (steps, few, went) = turns honest h ((stands.0.0, holds (before honest) h.tables stands.0.1), stands.1) in (
            steps,
            few,
            record {
              stands = ((went.stands.0.0, went.stands.0.1.0), went.stands.1);
              stops = stops_inside first last around (before honest) h steps went.stops;
              kept = went.kept;
            },
          ),
    ),
  )
