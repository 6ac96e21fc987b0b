use Rattle.office_store.proofs.Names.{arith, ◌≡◌, ◌∙◌, ◌<◌, ◌+◌, [], ◌∷◌, ◌++◌, inl, inr, List, ℕ, Bor, IsTrue, map, slice_index_or, take, refl, sym, subst, ap, true≢false, take_all, Table, Has, IsIn, HasPlainRules, StandsOrLacks}
use Rattle.office_store.proofs.FormsFound.{has_item, last_one}
use Rattle.office_store.proofs.forms.named_stand.Goals as goal

pub loop-name-preserved : goal.loop-name-preserved
loop-name-preserved c form n h is_in =
    last_one c.args.names.now c.loop-name.name-index _
    (λ (name : List ℕ). (form : Table) (n : ℕ) → name ≡ form.name → IsIn c.args.forms.now form n → StandsOrLacks c.args.edition c.args.schema.now form) c.loop-name-test.true
    (λ name early form n is. c.loop-name.invariant form n (subst (Has _) is early)) (c.form_stands.ensures.right c.if-not-form_stands.false) form.name h form n refl is_in

pub returns-then-not-form_stands-clause-found : goal.returns-then-not-form_stands-clause-found
returns-then-not-form_stands-clause-found c each =
    let it = each _ (has_item c.args.names.now c.loop-name.name-index _ c.loop-name-test.true) in
    let found : IsTrue c.form_stands.result = c.form_stands.ensures.found it.0 it.1 it.2 it.3 it.4 it.5 in
    absurd (true≢false (sym found ∙ c.if-not-form_stands.true))

pub returns-clause-right : goal.returns-clause-right
returns-clause-right c is form n h is_in =
    c.loop-name.invariant form n (subst (λ (l : List (Bor (List ℕ))). Has (map (λ (name : Bor (List ℕ)). name.now) l) form.name) (sym (take_all c.loop-name.name-index c.args.names.now (omega arith))) h) is_in
