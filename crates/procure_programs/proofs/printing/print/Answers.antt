use Rattle.procure_programs.proofs.ConnectionSteps.{of_printing, of_refusal, printed, printed_nothing}
use Rattle.procure_programs.proofs.Names.{refl}
use Rattle.procure_programs.proofs.printing.print.Goals as goal

pub returns-in-Ok-clause-looks : goal.returns-in-Ok-clause-looks
returns-in-Ok-clause-looks g c = (
  c.in-Ok.ensures.looks.0,
  λ honest s held. printed c.args.desk.now.settings c.args.query s c.args.output.now.contents c.print_text.new.output.contents c.in-Ok.text.items c.print_text.result
      (c.in-Ok.ensures.looks.1 honest s held) (rw c.deref.ensures.value at c.print_text.ensures.whole) (rw c.deref.ensures.value at c.print_text.ensures.part) c.print_text.ensures.fault,
)

pub returns-in-Err-clause-looks : goal.returns-in-Err-clause-looks
returns-in-Err-clause-looks g c = (
  c.in-Err.ensures.looks.0,
  λ honest s held. printed_nothing c.args.desk.now.settings c.args.query s c.args.output.now.contents c.args.output.now.contents c.in-Err.fault (c.in-Err.ensures.looks.1 honest s held) refl,
)

pub returns-in-Ok-clause-cause : goal.returns-in-Ok-clause-cause
returns-in-Ok-clause-cause g c = of_printing c.print_text.new.output.has_failed c.print_text.result c.print_text.ensures.fault c.print_text.ensures.cause

pub returns-in-Err-clause-cause : goal.returns-in-Err-clause-cause
returns-in-Err-clause-cause g c = of_refusal c.args.output.now.has_failed c.in-Err.fault c.in-Err.ensures.refuses
