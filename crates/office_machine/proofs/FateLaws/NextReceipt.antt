-- The next receipt is unused.
use Rattle.office_machine.proofs.Names.{◌≡◌, ℕ, ◌+◌, ◌≤◌, Bool, true, false, cond, List, ◌∷◌, Option, Some, None, option_map, refl, sym, ap, ◌∙◌, subst, arith, same_number, Tables, envelope_at, seal_at, security_at, EnvelopeRow, SecurityRow, EnvelopeState, SecurityState, Given, Readings, Reception, received_by, received_after, received_at, fate_after, fate_of_tender, security_received, security_decided, security_after, fate_of_security}
use Rattle.office_base.specs.declared.records.SecurityState.TheVariants as security
use Rattle.office_machine.proofs.FateLaws.Matched.{NoneStands, SecuritiesMatch, named_in, securities_changed}
use Rattle.office_machine.proofs.FateLaws.FatesHold.{FatesStand, security_goes, still_held, securities_keep}
use Rattle.office_machine.proofs.FateLaws.States.{map_same}

pub none_fate : (fate : Option EnvelopeState) (now : Option Reception) (d : EnvelopeState) → fate ≡ None → now ≡ None → fate_after fate now d ≡ None
none_fate fate now d e n = ap (λ f. fate_after f now d) e ∙ ap (λ now. fate_after None now d) n

no_name : (now : Option Reception) → named_in now ≡ None → security_received now ≡ None
no_name None e = refl
no_name (Some c) e = ap (option_map (Rattle.office_machine.specs.Fates.first_security c)) e

pub none_security : (fate : Option SecurityState) (now : Option Reception) (d : SecurityState) → fate ≡ None → named_in now ≡ None
    → security_after fate now d ≡ None
none_security fate now d e n = ap (λ f. security_after f now d) e ∙ no_name now n

pub came_other : (o new : Option Reception) (b : Bool) → b ≡ false → received_after o (cond b new None) ≡ o
came_other None new b e = ap (λ b. let n : Option Reception = cond b new None in n) e
came_other (Some c) new b e = refl

pub came_old : (o new : Option Reception) (c : Reception) → o ≡ Some c → received_after o new ≡ o
came_old o new c e = ap (λ o. received_after o new) e ∙ sym e

pub came_here : (o new : Option Reception) (b : Bool) → o ≡ None → b ≡ true → received_after o (cond b new None) ≡ new
came_here o new b none e = ap (λ o. received_after o (cond b new None)) none ∙ ap (λ b. let n : Option Reception = cond b new None in n) e

no_envelope : (o : Option EnvelopeRow) (r n : ℕ) → ((e : EnvelopeRow) → o ≡ Some e → (1 ≤ r) × (r ≤ n)) → r ≡ n + 1 → o ≡ None
no_envelope None r n given e = refl
no_envelope (Some d) r n given e = let g = given d refl in absurd (omega (arith, g.1, e))

module _ (readings : Readings) (xs : List Given) (t : Tables) (kept : FatesStand readings xs t) where
  abbrev next : ℕ
  next = t.clock.receipts + 1

  pub no_envelope_yet : envelope_at next t ≡ None
  no_envelope_yet = no_envelope (envelope_at next t) next t.clock.receipts (λ e h. kept.tenders.given next e h) refl

  pub nothing_yet : NoneStands readings.digest (received_at xs next) (fate_of_tender xs next) (seal_at next t)
  nothing_yet = kept.tenders.others next no_envelope_yet

  no_security_by : (o : Option SecurityRow) → security_at next t ≡ o → o ≡ None
  no_security_by None found = refl
  no_security_by (Some w) found =
      let is = kept.named.there next w found in
      let no : Some is.came_with ≡ None = sym is.came_is ∙ nothing_yet.no_reception in cc

  pub no_security_yet : security_at next t ≡ None
  no_security_yet = no_security_by (security_at next t) refl

  -- a command that takes in a tender without a new security leaves the securities as they are
  module _ (x : Given) (unnamed : named_in (received_by x.command x (λ q. received_at xs q)) ≡ None)
      (held : (s : ℕ) → security_decided x.command x (received_at xs) s ≡ security.Held) where
    name_by : (o new : Option Reception) (b : Bool) → named_in o ≡ None → named_in new ≡ None → named_in (received_after o (cond b new None)) ≡ None
    name_by None new true e n = n
    name_by None new false e n = refl
    name_by (Some c) new b e n = e

    stays : SecuritiesMatch (received_at (x ∷ xs)) (fate_of_security (x ∷ xs)) (λ s. option_map (λ w. w) (security_at s t))
    stays =
        securities_changed (received_at xs) (received_at (x ∷ xs)) (fate_of_security xs) (fate_of_security (x ∷ xs)) (λ s. security_at s t) kept.named (λ s w. w) securities_keep
        (λ s w found. let is = kept.named.there s w found in came_old (received_at xs s) _ is.came_with is.came_is)
        (λ s w found c named came_is named_is stands.
        security_goes (fate_of_security xs s) w.state (received_at (x ∷ xs) s) (security_decided x.command x (received_at xs) s) stands.fate_is
        ∙ ap Some (ap (λ d. cond (Rattle.office_base.specs.States.is_held w.state) d w.state) (held s) ∙ sym (still_held w.state)))
        (λ s found was.
        let none = name_by (received_at xs s) (received_by x.command x (λ q. received_at xs q)) (same_number s (x.before.clock.receipts + 1)) was.none_named unnamed in
        record { none_named = none; no_fate = none_security (fate_of_security xs s) (received_at (x ∷ xs) s) (security_decided x.command x (received_at xs) s) was.no_fate none })

    pub securities_stay : SecuritiesMatch (received_at (x ∷ xs)) (fate_of_security (x ∷ xs)) (λ s. security_at s t)
    securities_stay = subst (SecuritiesMatch (received_at (x ∷ xs)) (fate_of_security (x ∷ xs))) (sym (λ i s. map_same (security_at s t) i)) stays
