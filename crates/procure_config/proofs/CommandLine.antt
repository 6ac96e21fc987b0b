-- From clap's definitions about a command line to the program's own.
use Rattle.procure_config.proofs.Names.{◌≡◌, true, false, List, [], ◌∷◌, Option, Some, None, option_map, refl, sym, ap, ap₂, subst, inl, inr, ◌∙◌, Box, box_value, Result, Ok, Err, IfErr, IsSome, IsErrAnd, Error, or_else, ErrorKind, MissingSubcommand, OutOfMemory, ProgramFault, Arguments, Store, Input, Output, Refused, IsOfParse, no_memory, AddsArg, AddsSubcommand, App, HasKind, IsAmong, Kinds, kind_of, Row, Rule, Text, app_of, rule_of, is_simple, is_simple_and_free, fault_of, HasMatchesOf, subcommand_of, subcommand_name_of, subcommand_rows, subcommand_rows_of, takes, with_rule, with_subcommand, Arg, Command, ArgMatches, SubCommand, out-ArgMatches, out-SubCommand, clap_on_literals, IsFaultOf, Asked, asked, faults_of, procure}
use Rattle.procure_config.specs.declared.fault.ProgramFault.TheVariants.{Settings}
use Rattle.clap.specs.declared.builder.command.Command.TheViews.{out-Command as fields_of}

-- A command with one more argument, and with one more subcommand.
pub argument_added : (old new : Command) (a : Arg) (app : App) (rule : Rule) → AddsArg old a new → app_of old ≡ app → rule_of a ≡ rule → a.global ≡ false
    → app_of new ≡ with_rule app rule
argument_added old new a app rule added old_is rule_is local = added.shape local ∙ ap₂ with_rule old_is rule_is

pub stays_local : (old new : Command) (a : Arg) → AddsArg old a new → (fields_of old).has_globals ≡ false → a.global ≡ false → (fields_of new).has_globals ≡ false
stays_local old new a added old_is local = added.globals ∙ rw (old_is, local) refl

pub subcommand_added : (old new sub : Command) (app inner : App) → AddsSubcommand old sub new → app_of old ≡ app → app_of sub ≡ inner → (fields_of sub).has_globals ≡ false
    → app_of new ≡ with_subcommand app inner.top
subcommand_added old new sub app inner added old_is sub_is local = added.shape local ∙ ap₂ with_subcommand old_is (ap (λ (a : App). a.top) sub_is)

pub procure_is_simple : is_simple procure ≡ true
unfolding clap_on_literals procure
procure_is_simple = refl

pub procure_is_free : is_simple_and_free procure ≡ true
unfolding clap_on_literals procure
procure_is_free = refl

-- The subcommand that was found, with its name and its values.
pub met : (s : Option (Text × List Row)) (name : Text) (rows : List Row) → option_map (λ p. p.0) s ≡ Some name → option_map (λ p. p.1) s ≡ Some rows → s ≡ Some (name, rows)
met None name rows n r = cc
met (Some (n, r)) name rows is_name is_rows =
    let a : n ≡ name = cc in
    let b : r ≡ rows = cc in
    rw (a, b) refl

pub name_met : (m : ArgMatches) → option_map (λ p. p.0) (subcommand_rows_of m) ≡ subcommand_name_of m
name_met m = by (out-ArgMatches m).subcommand
  where
    by : {Z : Type 0} (met : Option (Box SubCommand Z)) → option_map (λ p. p.0) (subcommand_rows met) ≡ option_map (λ b. (out-SubCommand (box_value b)).name.now) met
    by None = refl
    by (Some b) = refl

-- If clap had too little memory, the program reports this.
pub memory_fault : {T : Type 0} (error : Error) (r : Result T ProgramFault) → kind_of error ≡ OutOfMemory → IsErrAnd r (IsOfParse error) → IfErr r (λ fault. fault ≡ no_memory)
memory_fault error (Ok value) kind is = tt
memory_fault error (Err (Arguments told)) kind is = absurd (is.1 kind)
memory_fault error (Err (Settings name)) kind is = absurd is
memory_fault error (Err Store) kind is = absurd is
memory_fault error (Err Input) kind is = absurd is
memory_fault error (Err Output) kind is = absurd is
memory_fault error (Err (Refused refusal)) kind is = rw is.1 refl

-- A kind that is among those that come first.
among_first : (kind : ErrorKind) (kinds more : Kinds) → IsAmong kind kinds → IsAmong kind (or_else kinds more)
among_first kind [] more is = absurd is
among_first kind (k ∷ ks) more is = is

-- If clap found a fault or had too little memory, the program reports exactly this.
pub parse_fault : {T : Type 0} (error : Error) (kinds more : Kinds) (r : Result T ProgramFault) → HasKind kinds error → IsErrAnd r (IsOfParse error) → IfErr r (IsFaultOf (or_else kinds more))
parse_fault error kinds more (Ok value) has is = tt
parse_fault error kinds more (Err (Arguments told)) (inl memory) is = absurd (is.1 memory)
parse_fault error kinds more (Err (Arguments told)) (inr among) is = rw is.0 (among_first (kind_of error) kinds more among)
parse_fault error kinds more (Err (Settings name)) has is = absurd is
parse_fault error kinds more (Err Store) has is = absurd is
parse_fault error kinds more (Err Input) has is = absurd is
parse_fault error kinds more (Err Output) has is = absurd is
parse_fault error kinds more (Err (Refused refusal)) has is = is.1

pub has_kind : (command : App) (words : List Text) (error : Error) → command ≡ procure → (is_simple_and_free command ≡ true → HasKind (fault_of command words) error) → HasKind (fault_of procure words) error
has_kind command words error e h = subst (λ a. HasKind (fault_of a words) error) e (h (ap is_simple_and_free e ∙ procure_is_free))

-- Arguments that clap accepts but that name no job.
pub no_job : (words : List Text) (fault : ProgramFault) → fault_of procure words ≡ [] → None ≡ asked words → IsFaultOf (MissingSubcommand ∷ []) fault → IsFaultOf (faults_of words) fault
no_job words fault right none is = rw (right, sym none) is

pub stated : (command : App) (words : List Text) (m : ArgMatches) → command ≡ procure → HasMatchesOf command words m → subcommand_rows_of m ≡ subcommand_of procure words
stated command words m e h = (h (ap is_simple e ∙ procure_is_simple)).1 ∙ ap (λ a. subcommand_of a words) e

pub is_right : (command : App) (words : List Text) → command ≡ procure → (is_simple_and_free command ≡ true → fault_of command words ≡ []) → fault_of procure words ≡ []
is_right command words e h = ap (λ a. fault_of a words) (sym e) ∙ h (ap is_simple_and_free e ∙ procure_is_free)

pub is_taken : (command : App) (words : List Text) → command ≡ procure → takes procure words ≡ true → takes command words ≡ true
is_taken command words e h = ap (λ a. takes a words) e ∙ h

pub nothing_there : {P : Type 0} (o : Option Asked) → None ≡ o → IsSome o → P
nothing_there None e there = cc
nothing_there (Some what) e there = cc
