-- A command that was asked for is done as a whole, or nothing is done.
use Rattle.office_desk.proofs.Names.{◌≡◌, ℕ, ◌⊎◌, List, Result, Ok, Err, IsErr, IfErr, ap, ◌∙◌, subst, inl, inr, Caller, Command, Refusal, Unavailable, Publisher, Tables, after_puts, Meaning, Alters, Keeps, Put, KeepsItsReleases, next_with_merges, given, Plan, IsPlan, MovesAddUp, Does, IsOfficeAfter}

module _ {S : Type 0} (M : Meaning S) (publisher : Publisher) (moment : ℕ) (caller : Caller) (command : Command) where
  -- The command was refused.
  pub does_nothing : {T : Type 0} (old new : S) (result : Result T Refusal) → IsErr result → Keeps M old new
      → Does M publisher old new result (λ s. given s moment caller command)
  does_nothing old new (Ok done) err kept = cc
  does_nothing old new (Err why) err kept = record {
    before = kept.before;
    all = λ honest t held keeps. tt;
    none = λ honest t held. kept.same honest t held;
    written = λ honest t held. tt;
    whole = λ honest t held. tt;
    moved = λ honest t held. tt;
    stop_all = λ honest t held keeps. tt;
    stop_none = λ honest u left. inl (kept.stop honest u left);
    sound = λ honest was. kept.sound honest was;
  }

  -- The command was planned, and then carried out or not.
  module _ (old mid new : S) (planned : Plan) (kept : Keeps M old mid)
      (plan : M.honest mid → (t : Tables) → M.holds old t → IsPlan publisher (given t moment caller command) planned)
      (moved : M.honest mid → (t : Tables) → M.holds old t → MovesAddUp command t) where
    next_is : (t : Tables) → IsPlan publisher (given t moment caller command) planned → KeepsItsReleases (given t moment caller command)
        → after_puts planned.puts t ≡ next_with_merges publisher (given t moment caller command)
    next_is t is keeps = ap (λ (ps : List Put). after_puts ps t) (is.put keeps).puts

    pub does_what_was_planned : {T : Type 0} (result : Result T Refusal) → Alters M mid new result (after_puts planned.puts) → IfErr result (λ why. why ≡ Unavailable)
        → Does M publisher old new result (λ s. given s moment caller command)
    does_what_was_planned (Ok done) alters only = record {
      before = λ honest. kept.before (alters.before honest);
      all = λ honest t held keeps. subst (λ (u : Tables). M.holds new u) (next_is t (plan (alters.before honest) t held) keeps)
          (alters.all honest t (kept.same (alters.before honest) t held));
      none = λ honest t held. tt;
      written = λ honest t held.
          let effect = (plan (alters.before honest) t held).effect in
          (effect.0, subst (λ (ps : List Put). M.holds new (after_puts ps t)) effect.1 (alters.all honest t (kept.same (alters.before honest) t held)));
      whole = λ honest t held. (plan (alters.before honest) t held).whole;
      moved = λ honest t held. moved (alters.before honest) t held;
      stop_all = λ honest t held keeps u left.
          alters.stop_all honest t (kept.same (alters.before honest) t held) u left ∙ next_is t (plan (alters.before honest) t held) keeps;
      stop_none = λ honest. tt;
      sound = λ honest was. alters.sound honest (kept.sound (alters.before honest) was);
    }
    does_what_was_planned (Err why) alters only = record {
      before = λ honest. kept.before (alters.before honest);
      all = λ honest t held keeps. tt;
      none = λ honest t held. alters.none honest t (kept.same (alters.before honest) t held);
      written = λ honest t held. tt;
      whole = λ honest t held. tt;
      moved = λ honest t held. tt;
      stop_all = λ honest t held keeps. tt;
      stop_none = λ honest u left. stopped u (alters.before honest) (alters.stop_none honest u left);
      sound = λ honest was. alters.sound honest (kept.sound (alters.before honest) was);
    }
      where
        stopped : (u : Tables) → M.honest mid → M.may_leave mid u ⊎ ((t : Tables) → M.holds mid t → u ≡ after_puts planned.puts t)
            → M.may_leave old u ⊎ ((why ≡ Unavailable) × IsOfficeAfter M publisher old (λ s. given s moment caller command) u)
        stopped u honest (inl left) = inl (kept.stop honest u left)
        stopped u honest (inr done) = inr (
          only,
          λ t held keeps.
              let is = plan honest t held in
              (is.allowed, done t (kept.same honest t held) ∙ next_is t is keeps),
        )
