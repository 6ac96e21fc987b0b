-- The facts that follow from a decision on rows (`Decides`).
use Rattle.office_plans.proofs.Names.{◌≡◌, ◌⊎◌, Bool, false, List, Option, Some, None, Result, Vec, Ok, Err, IsErrAnd, ◌∙◌, refl, sym, subst, inl, inr, Global, Refusal, Unavailable, Publisher, Decides, Put, Given, refusal_of, Plan, IsPlanned}

-- An `Err` is the first refusal whose condition holds, or `Unavailable`.
pub refuses : (why : Refusal) (first : Option Refusal) (lacks : Bool) (made : List Put) → Decides (Err why) first lacks made → (first ≡ Some why) ⊎ (why ≡ Unavailable)
unfolding Decides
refuses why (Some w) lacks made is = inl (let same : w ≡ why = cc in λ i. Some (same i))
refuses why None lacks made is = inr is.1

-- If the decision is Ok, no condition of a refusal holds.
pub allows : (puts : Vec Put Global) (first : Option Refusal) (lacks : Bool) (made : List Put) → Decides (Ok puts) first lacks made → first ≡ None
unfolding Decides
allows puts (Some w) lacks made is = absurd cc
allows puts None lacks made is = refl

-- If the decision is Ok, its changes are those of the rule.
pub makes : (puts : Vec Put Global) (first : Option Refusal) (lacks : Bool) (made : List Put) → Decides (Ok puts) first lacks made → puts.items ≡ made
unfolding Decides
makes puts (Some w) lacks made is = absurd cc
makes puts None lacks made is = is.0.1

-- And nothing is missing.
pub wholes : (puts : Vec Put Global) (first : Option Refusal) (lacks : Bool) (made : List Put) → Decides (Ok puts) first lacks made → lacks ≡ false
unfolding Decides
wholes puts (Some w) lacks made is = absurd cc
wholes puts None lacks made is = is.0.0

-- A plan with the decision's refusal is right if the specification refuses the command by the same conditions.
pub told_refused : (publisher : Publisher) (x : Given) (result : Result Plan Refusal) (why : Refusal) (first : Option Refusal) → IsErrAnd result (λ y. y ≡ why)
    → refusal_of x ≡ first → (first ≡ Some why) ⊎ (why ≡ Unavailable) → IsPlanned publisher x result
told_refused publisher x (Ok planned) why first same refused is = absurd same
told_refused publisher x (Err y) why first same refused (inl is) = inl (subst (λ (w : Refusal). refusal_of x ≡ Some w) (sym same) (refused ∙ is))
told_refused publisher x (Err y) why first same refused (inr is) = inr (same ∙ is)
