use Rattle.office_plans.proofs.Names.{ap, Standing}
use Rattle.office_plans.proofs.NamedStandings.{fit_put, kept_put, there_put}
use Rattle.office_plans.proofs.standings.load_new.Goals as goal

pub returns-in-Ok-clause-there : goal.returns-in-Ok-clause-there
returns-in-Ok-clause-there g c =
    there_put c.rows_are_kept.ensures c.args.lines.now c.put.new.self c.standing_at.result c.args.name.now c.in-Ok.ensures.rows (ap (λ (s : Standing). s.line) c.standing_at.ensures.value)

pub returns-in-Ok-clause-kept : goal.returns-in-Ok-clause-kept
returns-in-Ok-clause-kept g c = kept_put c.rows_are_kept.ensures c.args.lines.now c.put.new.self c.standing_at.result c.in-Ok.ensures.rows

pub returns-in-Ok-clause-fit : goal.returns-in-Ok-clause-fit
returns-in-Ok-clause-fit g c = fit_put c.args.lines.now c.put.new.self c.standing_at.result c.in-Ok.ensures.rows c.standing_at.ensures.fits
