use Rattle.office_store.proofs.Names.{arith, inl, inr, file_state, over_files, HasCleanDisk}
use Rattle.office_store.proofs.Founding.{enters_bare}
use Rattle.office_store.proofs.ReadLogs.{finds_before, leaves_before, left_before, opens_used}
use Rattle.office_store.proofs.Reopening.{bare_schema, closed_holds, finds_in, found_now, held_shown, leaves_no_other, turned_away, usable_left}
use Rattle.office_store.proofs.open.SqlShelf+FileStore+D.open_files.Goals as goal

pub returns-in-Ok-enter-clause-is_open : goal.returns-in-Ok-enter-clause-is_open
returns-in-Ok-enter-clause-is_open g c clean = c.in-Ok-enter.ensures.is_open clean

pub returns-in-Ok-enter-clause-sound : goal.returns-in-Ok-enter-clause-sound
returns-in-Ok-enter-clause-sound g c clean t shows = c.in-Ok-enter.ensures.sound clean t shows

pub returns-in-Ok-enter-clause-alone : goal.returns-in-Ok-enter-clause-alone
returns-in-Ok-enter-clause-alone g c clean =
    leaves_no_other c.enter.new.conn c.trees_tell_one_office.ensures g.met.D.Disk.seen_may_stay (c.in-Ok-enter.ensures.is_open clean)

pub returns-in-Ok-enter-clause-held : goal.returns-in-Ok-enter-clause-held
returns-in-Ok-enter-clause-held g c clean t holds =
    let early : HasCleanDisk (file_state c.in-Ok-open_files.conn) = omega (arith, clean, c.enter.ensures.survives.clean) in
    c.in-Ok-enter.ensures.found clean t (held_shown _ c.in-Ok-open_files.conn (c.in-Ok-open_files.ensures.opened early) (finds_in c.args.files c.in-Ok-open_files.conn (finds_before c.args.files c.check_log.new.files c.check_log.ensures.log c.check_log.ensures.db c.in-Ok-open_files.conn (c.in-Ok-open_files.ensures.found early))) t holds)

pub returns-in-Ok-enter-clause-again : goal.returns-in-Ok-enter-clause-again
returns-in-Ok-enter-clause-again g c clean last closed t shows =
    let early : HasCleanDisk (file_state c.in-Ok-open_files.conn) = omega (arith, clean, c.enter.ensures.survives.clean) in
    let found = finds_before c.args.files c.check_log.new.files c.check_log.ensures.log c.check_log.ensures.db c.in-Ok-open_files.conn (c.in-Ok-open_files.ensures.found early) in
    c.in-Ok-enter.ensures.found clean t
    (held_shown _ c.in-Ok-open_files.conn (c.in-Ok-open_files.ensures.opened early) (finds_in c.args.files c.in-Ok-open_files.conn found) t (closed_holds last c.args.files (closed found.honest) t shows))

pub returns-in-Ok-enter-clause-blank : goal.returns-in-Ok-enter-clause-blank
returns-in-Ok-enter-clause-blank g c clean none =
    let early : HasCleanDisk (file_state c.in-Ok-open_files.conn) = omega (arith, clean, c.enter.ensures.survives.clean) in
    enters_bare over_files _ c.in-Ok-open_files.conn c.enter.new.conn
    (bare_schema _ c.in-Ok-open_files.conn none (c.in-Ok-open_files.ensures.opened early) (finds_in c.args.files c.in-Ok-open_files.conn (finds_before c.args.files c.check_log.new.files c.check_log.ensures.log c.check_log.ensures.db c.in-Ok-open_files.conn (c.in-Ok-open_files.ensures.found early)))) (c.in-Ok-enter.ensures.enters clean)

pub returns-in-Ok-enter-clause-enters : goal.returns-in-Ok-enter-clause-enters
returns-in-Ok-enter-clause-enters g c clean =
    let early : HasCleanDisk (file_state c.in-Ok-open_files.conn) = omega (arith, clean, c.enter.ensures.survives.clean) in (
      c.in-Ok-open_files.conn,
      found_now _ c.in-Ok-open_files.conn g.met.D.Disk.seen_may_stay (c.in-Ok-open_files.ensures.opened early) (finds_in c.args.files c.in-Ok-open_files.conn (finds_before c.args.files c.check_log.new.files c.check_log.ensures.log c.check_log.ensures.db c.in-Ok-open_files.conn (c.in-Ok-open_files.ensures.found early))),
      record { enters = c.in-Ok-enter.ensures.enters clean; kept = λ t shows. c.in-Ok-enter.ensures.found clean t shows; stops = c.enter.ensures.survives },
    )

pub returns-in-Err-enter-clause-refused : goal.returns-in-Err-enter-clause-refused
returns-in-Err-enter-clause-refused g c clean =
    inr (turned_away c.in-Err-enter.fault c.args.files c.in-Ok-open_files.conn c.enter.new.conn c.let_go.result g.met.D.Disk.seen_may_stay (record {
      kept = c.in-Err-enter.ensures.kept;
      stops = c.enter.ensures.survives;
      spared = c.in-Err-enter.ensures.spared;
      none = c.in-Err-enter.ensures.none;
      known = c.in-Err-enter.ensures.known;
      failed = c.in-Err-enter.ensures.failed;
    }) c.in-Ok-open_files.ensures.opened
    (λ early. finds_before c.args.files c.check_log.new.files c.check_log.ensures.log c.check_log.ensures.db c.in-Ok-open_files.conn (c.in-Ok-open_files.ensures.found early)) c.let_go.ensures.left clean)

pub returns-in-Err-enter-clause-usable : goal.returns-in-Err-enter-clause-usable
returns-in-Err-enter-clause-usable g c why = usable_left c.enter.new.conn c.let_go.result c.let_go.ensures.left

pub returns-in-Err-open_files-clause-refused : goal.returns-in-Err-open_files-clause-refused
returns-in-Err-open_files-clause-refused g c clean =
    let looked = c.check_log.new.files in
    inl (
      c.open_fault.ensures.office,
      inl (looked, (c.check_log.ensures.log, c.check_log.ensures.db), (c.in-Err-open_files.error, c.in-Err-open_files.ensures.cause clean, c.open_fault.ensures.is)),
      leaves_before c.args.files looked c.check_log.ensures.log c.check_log.ensures.db c.in-Err-open_files.left (c.in-Err-open_files.ensures.unharmed clean),
    )

pub returns-in-Err-clause-refused : goal.returns-in-Err-clause-refused
returns-in-Err-clause-refused g c clean =
    inl (c.in-Err.ensures.cause, inr (c.in-Err.ensures.failed clean), left_before c.args.files c.check_log.new.files c.check_log.ensures.log c.check_log.ensures.db)

pub returns-in-Ok-enter-clause-used : goal.returns-in-Ok-enter-clause-used
returns-in-Ok-enter-clause-used g c clean =
    let early : HasCleanDisk (file_state c.in-Ok-open_files.conn) = omega (arith, clean, c.enter.ensures.survives.clean) in
    opens_used c.args.files c.check_log.new.files c.check_log.ensures.log c.check_log.ensures.db c.in-Ok-enter.origin c.in-Ok.is_unused (c.in-Ok-open_files.ensures.found early).honest
    c.in-Ok.ensures.unused c.in-Ok.ensures.commit c.in-Ok-enter.ensures.made
