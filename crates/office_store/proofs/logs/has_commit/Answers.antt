use Rattle.office_store.proofs.Names.{rules, arith, ◌≡◌, ◌∙◌, ℕ, ◌+◌, inl, inr, List, [], length, ap, sym, subst, common_steps, MoreFaults, RefusesLog, bytes_of, AreClean, AreFramesOf, both_clean}
use Rattle.office_store.proofs.LogCauses.{log_clean, more_beside, names_none, names_some, none_left, refused_log}
use Rattle.office_store.proofs.logs.has_commit.Goals as goal

pub returns-in-Ok-None-clause-lacks : goal.returns-in-Ok-None-clause-lacks
returns-in-Ok-None-clause-lacks g c clean none =
    let seen = g.D.Disk.seen in
    inr (inl (names_none (seen c.args.files.now.log) (seen c.args.files.now.db) _ c.in-Ok-None.field-0 (search rules) c.len.ensures.seen (c.in-Ok-None.ensures.by_log clean) (c.in-Ok-None.ensures.by_file clean)))

pub returns-in-Ok-probe_frames-clause-lacks : goal.returns-in-Ok-probe_frames-clause-lacks
returns-in-Ok-probe_frames-clause-lacks g c clean none =
    let seen = g.D.Disk.seen in
    let size = c.in-Ok-Some.size in
    let early : AreClean g.D.Disk c.probe_page_size.new.files.log c.probe_page_size.new.files.db = both_clean _ _ _ _ c.probe_frames.ensures.same.clean (λ is. is) clean in
    let named = names_some (seen c.args.files.now.log) (seen c.args.files.now.db) _ c.in-Ok-Some.field-0 size (search rules) c.len.ensures.seen (c.in-Ok-Some.ensures.by_log early) (c.in-Ok-Some.ensures.by_file early) in
    let frames = c.in-Ok-probe_frames.ensures.ok (log_clean _ _ clean) in
    let empty : c.in-Ok-probe_frames.numbers.items ≡ [] = none_left _ (grind (arith, common_steps)) in
    inr (inr (bytes_of size, named, inl (subst (λ (l : List ℕ). AreFramesOf (bytes_of size) l []) c.probe_page_size.ensures.log.seen (subst (AreFramesOf (bytes_of size) (seen c.probe_page_size.new.files.log)) empty frames))))

pub returns-in-Err-probe_frames-clause-failed : goal.returns-in-Err-probe_frames-clause-failed
returns-in-Err-probe_frames-clause-failed g c clean store =
    let seen = g.D.Disk.seen in
    let faults = g.D.Disk.faults in
    let size = c.in-Ok-Some.size in
    let files = c.probe_page_size.new.files in
    let early : AreClean g.D.Disk files.log files.db = both_clean _ _ _ _ c.probe_frames.ensures.same.clean (λ is. is) clean in
    let named = names_some (seen c.args.files.now.log) (seen c.args.files.now.db) _ c.in-Ok-Some.field-0 size (search rules) c.len.ensures.seen (c.in-Ok-Some.ensures.by_log early) (c.in-Ok-Some.ensures.by_file early) in
    let total : faults files.log + faults files.db ≡ faults c.args.files.now.log + faults c.args.files.now.db =
    c.in-Ok-Some.ensures.faults ∙ ap (λ (n : ℕ). faults c.args.files.now.log + n) c.in-Ok.ensures.faults in
    elim (refused_log (faults files.log) (faults c.probe_frames.new.log) (RefusesLog (bytes_of size) (seen files.log)) c.in-Err-probe_frames.error c.log_fault.result c.log_fault.ensures.memory
    (c.in-Err-probe_frames.ensures.cause.0 (log_clean _ _ clean)) store) [
      | inl more ↦ inl (subst (λ (n : ℕ). MoreFaults n (faults c.probe_frames.new.log + faults files.db)) total (more_beside (faults files.log) (faults c.probe_frames.new.log) (faults files.db) more))
      | inr refused ↦ inr (inr (inr (bytes_of size, named, inr (refused.0, subst (λ (l : List ℕ). RefusesLog (bytes_of size) l refused.0) c.probe_page_size.ensures.log.seen refused.1))))
    ]
