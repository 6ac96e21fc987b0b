use Rattle.office_http.proofs.SealedSteps.{meanings_read, runs_alike, seals_kept}
use Rattle.office_http.proofs.laws.seals.Goals as goal

pub returns-clause-seals : goal.returns-clause-seals
returns-clause-seals c = c.kept.ensures.seals

pub returns-clause-whole : goal.returns-clause-whole
returns-clause-whole c = c.kept.ensures.whole

pub returns-clause-answers : goal.returns-clause-answers
returns-clause-answers c =
    seals_kept (record {
      seals = c.kept.ensures.seals;
      whole = c.kept.ensures.whole;
      refusals = c.merges.ensures.refusals;
      replies = c.merges.ensures.replies;
      looks = c.merges_apart.ensures.looks;
      kept = c.merges_apart.ensures.kept;
      fates = c.merges.ensures.fates;
      asked = c.can_be_given.ensures;
    })

pub returns-clause-runs : goal.returns-clause-runs
returns-clause-runs c =
    runs_alike (record {
      seals = c.kept.ensures.seals;
      whole = c.kept.ensures.whole;
      refusals = c.merges.ensures.refusals;
      replies = c.merges.ensures.replies;
      looks = c.merges_apart.ensures.looks;
      kept = c.merges_apart.ensures.kept;
      fates = c.merges.ensures.fates;
      asked = c.can_be_given.ensures;
    })

pub returns-clause-meanings : goal.returns-clause-meanings
returns-clause-meanings c = meanings_read
