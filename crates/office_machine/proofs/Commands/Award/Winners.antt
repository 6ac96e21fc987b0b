-- The winner of a lot.
use Rattle.office_machine.proofs.Names.{◌≡◌, ℕ, Bool, true, false, cond, ◌||◌, List, [], ◌∷◌, filter, Option, Some, None, refl, subst, AllByRecursion, list_any, EnvelopeRow, is_admissible, is_better, better, best_with}

-- the elements that pass keep their property
pub passing : {X : Type 0} (P : X → Type 0) (p : X → Bool) (xs : List X) → AllByRecursion P xs
    → AllByRecursion (λ x. P x × (p x ≡ true)) (filter p xs)
passing P p [] h = tt
passing P p (x ∷ xs) h =
    elim (p x) as (λ b. p x ≡ b → AllByRecursion (λ x. P x × (p x ≡ true)) (cond b (x ∷ filter p xs) (filter p xs))) [
      | true ↦ λ e. ((h.0, e), passing P p xs h.1)
      | false ↦ λ e. passing P p xs h.1
    ] refl

module _ (P : EnvelopeRow → Type 0) (weight lowest : ℕ) where
  better_step : (f : EnvelopeRow) (found : Option EnvelopeRow) → P f × (is_admissible f ≡ true)
      → ((g : EnvelopeRow) → found ≡ Some g → P g × (is_admissible g ≡ true))
      → P (better weight lowest f found) × (is_admissible (better weight lowest f found) ≡ true)
  better_step f None own rest = own
  better_step f (Some g) own rest =
      elim (is_better weight lowest g f) as (λ b. P (cond b g f) × (is_admissible (cond b g f) ≡ true)) [ true ↦ rest g refl | false ↦ own ]

  best_step : (f : EnvelopeRow) (found : Option EnvelopeRow) (e : EnvelopeRow) → P f
      → ((g : EnvelopeRow) → found ≡ Some g → P g × (is_admissible g ≡ true))
      → (b : Bool) → is_admissible f ≡ b → cond b (Some (better weight lowest f found)) found ≡ Some e → P e × (is_admissible e ≡ true)
  best_step f found e own rest true adm h =
      let is : better weight lowest f found ≡ e = cc in
      subst (λ e. P e × (is_admissible e ≡ true)) is (better_step f found (own, adm) rest)
  best_step f found e own rest false adm h = rest e h

  -- the winner is one of the rows, and admissible
  pub best_is : (rows : List EnvelopeRow) (e : EnvelopeRow) → AllByRecursion P rows → best_with weight lowest rows ≡ Some e
      → P e × (is_admissible e ≡ true)
  best_is [] e all h = absurd (let no : None ≡ Some e = h in cc)
  best_is (f ∷ rows) e all h = best_step f (best_with weight lowest rows) e all.0 (λ g found. best_is rows g all.1 found) (is_admissible f) refl h

none_step : (b others : Bool) (f : EnvelopeRow) (found : Option EnvelopeRow) → (found ≡ None → others ≡ false) → cond b (Some f) found ≡ None
    → (b || others) ≡ false
none_step true others f found rest h = cc
none_step false others f found rest h = rest h

some_step : (b others : Bool) (f e : EnvelopeRow) (found : Option EnvelopeRow) → (found ≡ Some e → others ≡ true) → cond b (Some f) found ≡ Some e
    → (b || others) ≡ true
some_step true others f e found rest h = refl
some_step false others f e found rest h = rest h

-- without a winner no row is admissible
pub best_none : (weight lowest : ℕ) (rows : List EnvelopeRow) → best_with weight lowest rows ≡ None → list_any is_admissible rows ≡ false
best_none weight lowest [] h = refl
best_none weight lowest (f ∷ rows) h =
    none_step (is_admissible f) (list_any is_admissible rows) (better weight lowest f (best_with weight lowest rows)) (best_with weight lowest rows) (best_none weight lowest rows) h

pub best_some : (weight lowest : ℕ) (rows : List EnvelopeRow) (e : EnvelopeRow) → best_with weight lowest rows ≡ Some e
    → list_any is_admissible rows ≡ true
best_some weight lowest [] e h = let no : None ≡ Some e = h in cc
best_some weight lowest (f ∷ rows) e h =
    some_step (is_admissible f) (list_any is_admissible rows) (better weight lowest f (best_with weight lowest rows)) e (best_with weight lowest rows) (best_some weight lowest rows e) h
