-- The names of other crates, and of this one's definitions, that the proofs of this crate use. A file takes them by one import.
unfoldable pub use Rattle.clap.proofs.OnLiterals.{clap_on_literals}
pub use Rattle.clap.proofs.ValueTestLemmas.{accepts-Accepts, Accepts-accepts}
pub use Rattle.clap.proofs.WalkLemmas.{both, one_text-rows, first_value-rows}
pub use Rattle.clap.specs.Kinds.{or_else}
pub use Rattle.clap.specs.Matches.{ReadsOne, one_text}
pub use Rattle.clap.specs.Simple.{app_of_fields}
pub use Rattle.clap.specs.ValueTests.{is_unsigned_in}
pub use Rattle.clap.specs.Words.{AddsArg, AddsSubcommand, App, HasKind, IsAmong, Kinds, kind_of, Row, Rule, Text, app_of, rule_of, is_simple, is_simple_and_free, fault_of, HasMatchesOf, subcommand_of, subcommand_name_of, subcommand_rows, subcommand_rows_of, takes, with_rule, with_subcommand, one_of, rows_of, found_of}
pub use Rattle.clap.specs.declared.builder.arg.Arg.{Arg}
pub use Rattle.clap.specs.declared.builder.command.Command.{Command}
pub use Rattle.clap.specs.declared.builder.value_parser.ValueParser.TheVariants.{Unsigned}
pub use Rattle.clap.specs.declared.error.Error.{Error}
pub use Rattle.clap.specs.declared.error.kind.ErrorKind.{ErrorKind}
pub use Rattle.clap.specs.declared.error.kind.ErrorKind.TheVariants.{MissingSubcommand, OutOfMemory}
pub use Rattle.clap.specs.declared.parser.matches.ArgMatches.{ArgMatches}
pub use Rattle.clap.specs.declared.parser.matches.ArgMatches.TheViews.{out-ArgMatches, out-SubCommand}
pub use Rattle.clap.specs.declared.parser.matches.Found.{Found}
pub use Rattle.clap.specs.declared.parser.matches.SubCommand.{SubCommand}
unfoldable pub use Rattle.hex.proofs.OnLiterals.{hex_on_literals}
pub use Rattle.office_values.specs.Ids.{IsId, is_id_byte}
pub use Rattle.office_values.specs.Texts.{IsTextLine, is_line_byte}
pub use Rattle.procure_config.specs.Configuration.{ReadsAs, settings_in, is_id_text, is_line_text, if_passing}
unfoldable pub use Rattle.procure_config.specs.Configuration.{settings_of, lines_of, setting_or_fault, buyer_in}
pub use Rattle.procure_config.specs.Faults.{IsOfParse, no_memory}
pub use Rattle.procure_config.specs.Jobs.{IsFaultOf, Asked, asked, faults_of, number_in, named, subcommands, job_of_subcommand}
unfoldable pub use Rattle.procure_config.specs.Jobs.{procure}
pub use Rattle.procure_config.specs.declared.fault.ProgramFault.{ProgramFault}
pub use Rattle.procure_config.specs.declared.fault.ProgramFault.TheVariants.{Arguments, Store, Input, Output, Refused}
pub use Rattle.procure_config.specs.declared.settings.SettingsFault.{SettingsFault}
pub use Rattle.procure_config.specs.declared.settings.SettingsFault.TheVariants.{NoMemory, NotToml}
pub use Rattle.std.proofs.Common.{◌≡◌, true, false, List, [], ◌∷◌, Option, Some, None, refl, sym, ap, ap₂, subst, inl, inr, ◌∙◌, Result, Ok, Err, ℕ, Bool, IfOk, ◌⊎◌, IfSome, IfNone, arith, ◌+◌, ◌≤◌, ◌<◌, ◌++◌, length, drop, append_assoc, get_or, ◌^◌, ◌&&◌, codes}
pub use Rattle.std.proofs.lemmas.Bool.{leb-true, le-leb}
pub use Rattle.std.proofs.lemmas.Bool.Decides.{nat_tests}
pub use Rattle.std.proofs.lemmas.List.{drop_all, append-nil}
pub use Rattle.std.proofs.lemmas.List.Sums.{AllPass-from_list_all, list_all-from_AllPass}
pub use Rattle.std.proofs.lemmas.Str.{IsUtf8-from_is_utf8, is_utf8-from_IsUtf8}
pub use Rattle.std.specs.Box.{box_value}
pub use Rattle.std.specs.Prelude.{option_map, Box, IfErr, IsSome, IsUtf8, if◌then◌else◌, nat_le}
pub use Rattle.std.specs.Result.{IsErrAnd}
unfoldable pub use Rattle.std.specs.Str.{is_utf8, chars}
pub use Rattle.std.specs.Str.Parse.{ParsesUnsigned, digits_value, without_leading_plus, ExplainsUnsignedError, HasUnsignedDigitsIfOk}
unfoldable pub use Rattle.toml.proofs.OnLiterals.{toml_on_literals}
pub use Rattle.toml.proofs.Views.{items_view-drop, table_get}
pub use Rattle.toml.specs.Data.{Members, Data, Items, item, as_str}
pub use Rattle.toml.specs.Parse.{parse_document}
pub use Rattle.toml.specs.View.{items_view, view}
pub use Rattle.toml.specs.declared.value.Value.{Value}
