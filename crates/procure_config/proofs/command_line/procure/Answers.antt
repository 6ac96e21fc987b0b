use Rattle.procure_config.proofs.Names.{◌≡◌, ◌∙◌, ap, true, App, app_of, app_of_fields, named, procure, subcommands}
use Rattle.procure_config.proofs.CommandLine.{subcommand_added}
use Rattle.procure_config.proofs.command_line.procure.Goals as goal

pub returns : goal.returns
unfolding procure
returns c =
    let versioned : app_of c.version.result ≡ named =
    ap app_of_fields c.version.ensures
    ∙ ap (λ (a : App). let app : App = record a { top = record a.top { has_version = true } } in app) (ap app_of_fields c.about.ensures ∙ c.new.ensures.app) in
    let alone : app_of c.after_help.result ≡ named = ap app_of_fields c.after_help.ensures ∙ versioned in
    let desk = subcommand_added _ _ _ _ _ c.in_ok-subcommand.ensures alone c.in_ok-over_settings.ensures.shape c.in_ok-over_settings.ensures.local in
    let serve = subcommand_added _ _ _ _ _ c.in_ok-subcommand-2.ensures desk c.in_ok-serve.ensures.shape c.in_ok-serve.ensures.local in
    let ledger = subcommand_added _ _ _ _ _ c.in_ok-subcommand-3.ensures serve c.in_ok-over_store.ensures.shape c.in_ok-over_store.ensures.local in
    let minutes = subcommand_added _ _ _ _ _ c.in_ok-subcommand-4.ensures ledger c.in_ok-over_notice.ensures.shape c.in_ok-over_notice.ensures.local in
    let record_of = subcommand_added _ _ _ _ _ c.in_ok-subcommand-5.ensures minutes c.in_ok-over_notice-2.ensures.shape c.in_ok-over_notice-2.ensures.local in
    let notices = subcommand_added _ _ _ _ _ c.in_ok-subcommand-6.ensures record_of c.in_ok-over_store-2.ensures.shape c.in_ok-over_store-2.ensures.local in
    let evaluation = subcommand_added _ _ _ _ _ c.in_ok-subcommand-7.ensures notices c.in_ok-over_notice-3.ensures.shape c.in_ok-over_notice-3.ensures.local in
    let tender = subcommand_added _ _ _ _ _ c.in_ok-subcommand-8.ensures evaluation c.in_ok-read_tender.ensures.shape c.in_ok-read_tender.ensures.local in
    let whole : app_of c.in_ok-procure.procure ≡ subcommands =
    subcommand_added _ _ _ _ _ c.in_ok-procure.ensures tender c.in_ok-read_budget.ensures.shape c.in_ok-read_budget.ensures.local in
    ap app_of_fields c.subcommand_required.ensures
    ∙ ap (λ (a : App). let app : App = record a { top = record a.top { subcommand_required = true } } in app) whole
