use Rattle.procure_config.proofs.Names.{refl, clap_on_literals, procure}
use Rattle.procure_config.proofs.worked_words.worked_jobs.Goals as goal

pub returns-clause-desk : goal.returns-clause-desk
unfolding clap_on_literals procure
returns-clause-desk c = refl

pub returns-clause-serve : goal.returns-clause-serve
unfolding clap_on_literals procure
returns-clause-serve c = refl

pub returns-clause-ledger : goal.returns-clause-ledger
unfolding clap_on_literals procure
returns-clause-ledger c = refl

pub returns-clause-minutes : goal.returns-clause-minutes
unfolding clap_on_literals procure
returns-clause-minutes c = refl

pub returns-clause-record_of : goal.returns-clause-record_of
unfolding clap_on_literals procure
returns-clause-record_of c = refl

pub returns-clause-notices : goal.returns-clause-notices
unfolding clap_on_literals procure
returns-clause-notices c = refl

pub returns-clause-evaluation : goal.returns-clause-evaluation
unfolding clap_on_literals procure
returns-clause-evaluation c = refl

pub returns-clause-read_tender : goal.returns-clause-read_tender
unfolding clap_on_literals procure
returns-clause-read_tender c = refl

pub returns-clause-read_budget : goal.returns-clause-read_budget
unfolding clap_on_literals procure
returns-clause-read_budget c = refl

pub returns-clause-taken : goal.returns-clause-taken
unfolding clap_on_literals procure
returns-clause-taken c = refl

pub returns-clause-right : goal.returns-clause-right
unfolding clap_on_literals procure
returns-clause-right c = refl
