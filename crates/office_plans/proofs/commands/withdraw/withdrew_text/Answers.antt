use Rattle.office_plans.proofs.Names.{◌≡◌, IfOk, ℕ, List, [], ◌∷◌, Vec, codes, subst, Global, text_entry, number_entry, moment_entry, object_text}
use Rattle.office_plans.proofs.commands.withdraw.withdrew_text.Goals as goal

pub returns : goal.returns
returns c =
    let family : ℕ → List ℕ → Type 0 = λ number word. IfOk c.object_text.result (λ (text : Vec ℕ Global). text.items ≡ object_text (moment_entry c.args.moment
    ∷ number_entry (codes "receipt") number ∷ text_entry (codes "state") word ∷ [])) in
    subst (family c.args.receipt) c.state_word-word.ensures (subst (λ (n : ℕ). family n c.state_word-word.result.now) c.get-receipt.ensures.value c.object_text.ensures)
