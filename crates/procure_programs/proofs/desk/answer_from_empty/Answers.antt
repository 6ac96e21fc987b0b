use Rattle.procure_programs.proofs.Names.{◌∙◌, inl, ℕ, ap, subst, Tables, DeskOf, memory_meaning, AnswersBlocks}
use Rattle.procure_programs.proofs.desk.answer_from_empty.Goals as goal

pub returns-in-Ok-clause-ran : goal.returns-in-Ok-clause-ran
returns-in-Ok-clause-ran g c =
    inl (
      c.answer_streams.new.office,
      subst (λ (d : DeskOf (Tables × ℕ)).
          AnswersBlocks memory_meaning c.args.input.now c.answer_streams.new.input c.args.output.now c.answer_streams.new.output d c.answer_streams.new.office c.answer_streams.result)
          (c.in-Ok.ensures ∙ c.new-desk.ensures ∙ ap (λ (s : Tables × ℕ). record { shelf = s; settings = c.args.settings }) c.new.ensures.empty) c.answer_streams.ensures.ran,
    )
