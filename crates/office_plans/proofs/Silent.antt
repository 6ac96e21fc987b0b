-- Lemmas for a command that publishes nothing.
use Rattle.office_plans.proofs.Names.{◌≡◌, [], ◌++◌, Option, Some, None, ◌∙◌, ap, append-nil, sym, Publisher, Given, effect, publication, publication_puts, puts_of, office_readings, publishing}

-- Anything follows if the same thing is both absent and found.
pub nothing_published : {X : Type 0} {P : Type 0} {found : Option X} {x : X} → found ≡ None → found ≡ Some x → P
nothing_published {X} {P} {found} {x} none some =
    let differ : None ≡ Some x = sym none ∙ some in
    absurd (cc)

-- The effect of a command that publishes nothing is all that it changes.
pub all_silent : (publisher : Publisher) (x : Given) → publication (publishing publisher) x ≡ None → effect office_readings x ≡ puts_of (publishing publisher) x ++ []
all_silent publisher x none =
    sym (append-nil (effect office_readings x))
    ∙ (ap (λ o. effect office_readings x ++ publication_puts o) (sym none)
    ∙ sym (append-nil (puts_of (publishing publisher) x)))
