use Rattle.office_tables.proofs.Names.{◌≡◌, inl, map, AllByRecursion, bound, IsUnwritten}
use Rattle.office_tables.proofs.Asked.{from_rows, rows_unread, tells_all}
use Rattle.office_tables.proofs.ask.ask_all.Goals as goal

pub returns-in-Ok-clause-told : goal.returns-in-Ok-clause-told
returns-in-Ok-clause-told g c part finds = (
  tells_all g.S.Store c.args.sql.now (bound c.args.values.now) c.args.conn.now c.ask.new.conn c.all.result (λ found. found.items) g.R.Stored.read part (λ clean.
      from_rows g.S.Store c.args.sql.now (bound c.args.values.now) c.args.conn.now c.in-Ok.rows.items c.all.result (λ found rows. found.items ≡ map g.R.Stored.read rows) (c.in-Ok.ensures.asked clean) (rw c.as_slice.ensures.value at c.all.ensures.read)) finds,
  c.in-Ok.ensures.kept,
  c.in-Ok.ensures.survives,
)

pub returns-in-Err-clause-told : goal.returns-in-Err-clause-told
returns-in-Err-clause-told g c part finds = (λ clean t shows. tt, c.in-Err.ensures.kept, c.in-Err.ensures.survives)

pub returns-in-Ok-clause-exact : goal.returns-in-Ok-clause-exact
returns-in-Ok-clause-exact g c clean =
    from_rows g.S.Store c.args.sql.now (bound c.args.values.now) c.args.conn.now c.in-Ok.rows.items c.all.result (λ found rows. map g.R.Stored.row_of found.items ≡ rows) (c.in-Ok.ensures.asked clean) (rw c.as_slice.ensures.value at c.all.ensures.exact)

pub returns-in-Ok-clause-cause : goal.returns-in-Ok-clause-cause
returns-in-Ok-clause-cause g c clean =
    rows_unread g.S.Store c.args.sql.now (bound c.args.values.now) c.args.conn.now c.in-Ok.rows.items c.all.result (IsUnwritten (map g.R.Stored.row_of) (AllByRecursion g.R.Stored.fits))
    (c.in-Ok.ensures.asked clean) (rw c.as_slice.ensures.value at c.all.ensures.cause)

pub returns-in-Err-clause-cause : goal.returns-in-Err-clause-cause
returns-in-Err-clause-cause g c clean = inl (c.in-Err.error, c.in-Err.ensures.refused clean, c.fault.ensures)
