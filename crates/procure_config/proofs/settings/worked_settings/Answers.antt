use Rattle.procure_config.proofs.Names.{refl, is_utf8, chars, toml_on_literals, hex_on_literals, lines_of, setting_or_fault, buyer_in, settings_of}
use Rattle.procure_config.proofs.settings.worked_settings.Goals as goal

pub returns-clause-city : goal.returns-clause-city
unfolding toml_on_literals hex_on_literals lines_of setting_or_fault buyer_in settings_of is_utf8 chars
returns-clause-city c = refl

pub returns-clause-empty : goal.returns-clause-empty
unfolding toml_on_literals hex_on_literals lines_of setting_or_fault buyer_in settings_of is_utf8 chars
returns-clause-empty c = refl

pub returns-clause-other : goal.returns-clause-other
unfolding toml_on_literals hex_on_literals lines_of setting_or_fault buyer_in settings_of is_utf8 chars
returns-clause-other c = refl
