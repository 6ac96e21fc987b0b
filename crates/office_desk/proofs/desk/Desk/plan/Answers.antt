use Rattle.office_desk.proofs.Names.{rules, ◌≡◌, ℕ, inl, inr, subst, HasRisen, given, TellsRefusal, DeskOf}
use Rattle.office_desk.proofs.desk.Desk.plan.Goals as goal

pub returns-in_err-planned-clause-tells : goal.returns-in_err-planned-clause-tells
returns-in_err-planned-clause-tells g c =
    let family : DeskOf g.row.H.Denot → Type 0 = λ d.
    TellsRefusal g.H.Lookups.meaning d.shelf c.plan_command.new.shelf (λ s. given s c.args.moment c.args.caller.now c.args.command) c.from_residual-in_err-planned.result in
    subst family c.self.view_is (λ honest s held why is small.
    let planned = c.in_err-planned.ensures in
    let tested = c.in_ok-adds_up.ensures in
    let before = planned.looks.0.before honest in
    elim (planned.tells honest s (tested.0.same before s held) why is small) [
      | inl told ↦ inl (search rules)
      | inr risen ↦ inr (subst (λ (n : ℕ). HasRisen n (g.H.Lookups.meaning.fault_count c.plan_command.new.shelf)) (tested.1 before s held).0 risen)
    ])
