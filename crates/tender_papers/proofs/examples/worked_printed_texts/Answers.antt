use Rattle.tender_papers.proofs.Names.{refl, digits, moment_text, month_after, year_after}
use Rattle.tender_papers.proofs.examples.worked_printed_texts.Goals as goal

pub returns-clause-ledger : goal.returns-clause-ledger
unfolding digits moment_text month_after year_after
returns-clause-ledger c = refl

pub returns-clause-register : goal.returns-clause-register
unfolding digits moment_text month_after year_after
returns-clause-register c = refl

pub returns-clause-minutes : goal.returns-clause-minutes
unfolding digits moment_text month_after year_after
returns-clause-minutes c = refl

pub returns-clause-evaluation : goal.returns-clause-evaluation
unfolding digits
returns-clause-evaluation c = refl

pub returns-clause-listing : goal.returns-clause-listing
unfolding digits moment_text month_after year_after
returns-clause-listing c = refl
