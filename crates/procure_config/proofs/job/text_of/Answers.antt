use Rattle.procure_config.proofs.Names.{◌∙◌, found_of, first_value-rows}
use Rattle.procure_config.proofs.job.text_of.Goals as goal

pub returns : goal.returns
returns c = c.get_str.ensures ∙ first_value-rows (found_of c.args.met.now) c.args.name.now
