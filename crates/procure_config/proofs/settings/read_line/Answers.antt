use Rattle.procure_config.proofs.Names.{ap, Some, ◌∙◌}
use Rattle.procure_config.proofs.Forms.{line_kept}
use Rattle.procure_config.proofs.settings.read_line.Goals as goal

pub returns-in-Some : goal.returns-in-Some
returns-in-Some c =
    line_kept _ _ (ap Some c.as_bytes.ensures.value ∙ c.in-Some.ensures) c.read.result c.read.ensures.found c.read.ensures.right c.read.ensures.none
