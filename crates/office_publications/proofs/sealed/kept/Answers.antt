use Rattle.office_publications.proofs.Names.{packages, publishing}
use Rattle.office_publications.proofs.sealed.kept.Goals as goal

pub returns-clause-seals : goal.returns-clause-seals
returns-clause-seals c publisher =
    c.seals.ensures (publishing publisher) (packages publisher) (c.texts.ensures.publishes publisher) (c.texts.ensures.sees publisher)

pub returns-clause-whole : goal.returns-clause-whole
returns-clause-whole c publisher =
    c.whole.ensures (publishing publisher) (packages publisher) (c.texts.ensures.publishes publisher) (c.texts.ensures.sees publisher)
