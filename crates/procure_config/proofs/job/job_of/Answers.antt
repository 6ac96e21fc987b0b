use Rattle.procure_config.proofs.Names.{◌∙◌, ap, sym, job_of_subcommand}
use Rattle.procure_config.proofs.CommandLine.{stated, is_right, is_taken, has_kind, memory_fault, no_job, nothing_there, parse_fault}
use Rattle.procure_config.proofs.job.job_of.Goals as goal

pub returns-in_err-matches-clause-fault : goal.returns-in_err-matches-clause-fault
returns-in_err-matches-clause-fault g c =
    let error = c.in_err-matches.field-0.0 in
    parse_fault error _ _ _ (has_kind _ _ error c.in_ok-command.ensures c.in_err-matches.ensures.kinds) c.from_residual-in_err-matches.ensures.1

pub returns-in_err-matches-clause-taken : goal.returns-in_err-matches-clause-taken
returns-in_err-matches-clause-taken g c taken there =
    memory_fault _ _ (c.in_err-matches.ensures.passes (is_taken _ _ c.in_ok-command.ensures taken)) c.from_residual-in_err-matches.ensures.1

pub returns-in-Some-clause-asked : goal.returns-in-Some-clause-asked
returns-in-Some-clause-asked g c = sym (c.in-Some.ensures ∙ ap job_of_subcommand (stated _ _ _ c.in_ok-command.ensures c.in_ok-matches.ensures.ok.2))

pub returns-in-Some-clause-right : goal.returns-in-Some-clause-right
returns-in-Some-clause-right g c = is_right _ _ c.in_ok-command.ensures c.in_ok-matches.ensures.kinds

pub returns-clause-taken : goal.returns-clause-taken
returns-clause-taken g c taken there =
    let nothing = c.in-None.ensures ∙ ap job_of_subcommand (stated _ _ _ c.in_ok-command.ensures c.in_ok-matches.ensures.ok.2) in
    nothing_there _ nothing there

pub returns-clause-fault : goal.returns-clause-fault
returns-clause-fault g c =
    let right = is_right _ _ c.in_ok-command.ensures c.in_ok-matches.ensures.kinds in
    let nothing = c.in-None.ensures ∙ ap job_of_subcommand (stated _ _ _ c.in_ok-command.ensures c.in_ok-matches.ensures.ok.2) in
    no_job _ _ right nothing c.no_job.ensures
