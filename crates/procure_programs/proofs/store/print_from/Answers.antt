use Rattle.procure_programs.proofs.Names.{◌≡◌, true, Result, subst, sym, OnOk, ProgramFault, image_at, over_files, sql_meaning}
use Rattle.procure_programs.proofs.OpenedFiles.{closes, closes_used, half_prints, kept_served, prints_files}
use Rattle.procure_programs.proofs.StoppedFiles.{closes_half}
use Rattle.procure_programs.proofs.store.print_from.Goals as goal

pub returns-in-Ok-close_office-clause-keeps : goal.returns-in-Ok-close_office-clause-keeps
returns-in-Ok-close_office-clause-keeps g c =
    let opened = c.in-Ok.opened.shelf in
    let left = c.print_shelf-shelf.result.0 in
    closes (image_at g.S.Start) c.args.settings 0 opened left c.in-Ok-close_office.left.0 c.in-Ok.ensures.held c.in-Ok.ensures.empty
    (kept_served (sql_meaning over_files) c.accounts_and_fates.ensures.steps c.args.settings opened left c.print_shelf-shelf.ensures.looks.0) c.in-Ok-close_office.ensures.closed

pub returns-in-Ok-close_office-clause-used : goal.returns-in-Ok-close_office-clause-used
returns-in-Ok-close_office-clause-used g c =
    let opened = c.in-Ok.opened.shelf in
    let left = c.print_shelf-shelf.result.0 in
    closes_used (image_at g.S.Start) c.args.settings 0 opened left c.in-Ok-close_office.left.0 c.in-Ok.ensures.used
    (kept_served (sql_meaning over_files) c.accounts_and_fates.ensures.steps c.args.settings opened left c.print_shelf-shelf.ensures.looks.0) c.in-Ok-close_office.ensures.closed

pub returns-in-Err-close_office-clause-half : goal.returns-in-Err-close_office-clause-half
returns-in-Err-close_office-clause-half g c =
    let opened = c.in-Ok.opened.shelf in
    let left = c.print_shelf-shelf.result.0 in
    closes_half (image_at g.S.Start) c.args.settings 0 opened left c.in-Err-close_office.store c.order.ensures c.in-Ok.ensures.held c.in-Ok.ensures.empty c.in-Ok.ensures.sound c.in-Ok.ensures.alone
    (kept_served (sql_meaning over_files) c.accounts_and_fates.ensures.steps c.args.settings opened left c.print_shelf-shelf.ensures.looks.0) c.in-Err-close_office.ensures.half

pub returns-in-Ok-close_office-clause-printed : goal.returns-in-Ok-close_office-clause-printed
returns-in-Ok-close_office-clause-printed g c =
    prints_files (image_at g.S.Start) c.args.settings c.args.printout c.in-Ok-close_office.left.0 c.args.output.now.contents c.print_shelf-shelf.new.output.contents
    c.in-Ok.opened.shelf c.print_shelf-shelf.result.0 c.print_shelf-shelf.result.1 c.in-Ok-close_office.left.1 c.in-Ok.ensures.held c.in-Ok.ensures.empty
    c.print_shelf-shelf.ensures.looks c.in-Ok-close_office.ensures.closed c.in-Ok-close_office.ensures.worked

pub returns-in-Ok-close_office-clause-flushed : goal.returns-in-Ok-close_office-clause-flushed
returns-in-Ok-close_office-clause-flushed g c =
    subst (λ (r : Result (Unit {0}) ProgramFault). OnOk r (c.print_shelf-shelf.new.output.is_flushed ≡ true)) (sym c.in-Ok-close_office.ensures.worked) c.print_shelf-shelf.ensures.flushed

pub returns-in-Err-close_office-clause-half_text : goal.returns-in-Err-close_office-clause-half_text
returns-in-Err-close_office-clause-half_text g c =
    half_prints (image_at g.S.Start) c.args.settings c.args.printout c.in-Err-close_office.store c.args.output.now.contents c.print_shelf-shelf.new.output.contents
    c.in-Ok.opened.shelf c.print_shelf-shelf.result.0 c.print_shelf-shelf.result.1 c.in-Err-close_office.fault c.in-Ok.ensures.held c.in-Ok.ensures.empty
    c.print_shelf-shelf.ensures.looks c.in-Err-close_office.ensures.half c.in-Err-close_office.ensures.told
