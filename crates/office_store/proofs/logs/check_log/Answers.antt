use Rattle.office_store.proofs.Names.{rules, arith, ◌≡◌, ◌∙◌, ℕ, inl, inr, List, false, sym, subst, LacksCommit, is_unused}
use Rattle.sqlite_wal.specs.Reads.{IsClean}
use Rattle.office_store.proofs.LogCauses.{log_clean, more_later}
use Rattle.office_store.proofs.logs.check_log.Goals as goal

pub returns-in-Ok-false-has_commit-clause-failed : goal.returns-in-Ok-false-has_commit-clause-failed
returns-in-Ok-false-has_commit-clause-failed g c clean store =
    let seen = g.D.Disk.seen in
    let early : IsClean g.D.Disk c.is_unused.new.log = c.has_commit.ensures.log.clean (log_clean _ _ clean) in
    let used : is_unused (seen c.args.files.now.log) ≡ false = sym (c.in-Ok-false.ensures.unused early) ∙ c.in-Ok-false.field-0-test in
    inr (used, subst (λ (l : List ℕ). LacksCommit (record { log = l; db = seen c.args.files.now.db })) c.is_unused.ensures.same.seen (c.in-Ok-false-has_commit.ensures.lacks clean c.in-Ok-false-has_commit.field-0-test))

pub returns-in-Err-has_commit-clause-failed : goal.returns-in-Err-has_commit-clause-failed
returns-in-Err-has_commit-clause-failed g c clean store =
    let seen = g.D.Disk.seen in
    let early : IsClean g.D.Disk c.is_unused.new.log = c.has_commit.ensures.log.clean (log_clean _ _ clean) in
    let used : is_unused (seen c.args.files.now.log) ≡ false = sym (c.in-Ok-false.ensures.unused early) ∙ c.in-Ok-false.field-0-test in
    elim (c.in-Err-has_commit.ensures.failed clean store) [
      | inl more ↦ inl (more_later _ _ _ (omega (arith, c.is_unused.ensures.counts)) more)
      | inr lacks ↦ inr (used, subst (λ (l : List ℕ). LacksCommit (record { log = l; db = seen c.args.files.now.db })) c.is_unused.ensures.same.seen lacks)
    ]
