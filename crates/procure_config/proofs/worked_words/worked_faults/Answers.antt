use Rattle.procure_config.proofs.Names.{refl, clap_on_literals, procure}
use Rattle.procure_config.proofs.worked_words.worked_faults.Goals as goal

pub returns-clause-none : goal.returns-clause-none
unfolding clap_on_literals procure
returns-clause-none c = refl

pub returns-clause-more : goal.returns-clause-more
unfolding clap_on_literals procure
returns-clause-more c = refl

pub returns-clause-no_word : goal.returns-clause-no_word
unfolding clap_on_literals procure
returns-clause-no_word c = refl

pub returns-clause-no_path : goal.returns-clause-no_path
unfolding clap_on_literals procure
returns-clause-no_path c = refl

pub returns-clause-no_tender : goal.returns-clause-no_tender
unfolding clap_on_literals procure
returns-clause-no_tender c = refl

pub returns-clause-no_notice : goal.returns-clause-no_notice
unfolding clap_on_literals procure
returns-clause-no_notice c = refl

pub returns-clause-unknown : goal.returns-clause-unknown
unfolding clap_on_literals procure
returns-clause-unknown c = refl

pub returns-clause-port_0 : goal.returns-clause-port_0
unfolding clap_on_literals procure
returns-clause-port_0 c = refl

pub returns-clause-port_65536 : goal.returns-clause-port_65536
unfolding clap_on_literals procure
returns-clause-port_65536 c = refl

pub returns-clause-count_1000001 : goal.returns-clause-count_1000001
unfolding clap_on_literals procure
returns-clause-count_1000001 c = refl

pub returns-clause-port_0_asks : goal.returns-clause-port_0_asks
unfolding clap_on_literals procure
returns-clause-port_0_asks c = refl

pub returns-clause-help : goal.returns-clause-help
unfolding clap_on_literals procure
returns-clause-help c = refl

pub returns-clause-version : goal.returns-clause-version
unfolding clap_on_literals procure
returns-clause-version c = refl

pub returns-clause-version_short : goal.returns-clause-version_short
unfolding clap_on_literals procure
returns-clause-version_short c = refl

pub returns-clause-version_of_a_job : goal.returns-clause-version_of_a_job
unfolding clap_on_literals procure
returns-clause-version_of_a_job c = refl
