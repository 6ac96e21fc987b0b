use Rattle.office_tables.proofs.Names.{◌≡◌, inl, IfSome, option_map, slice_get, bound, IsUnwritten}
use Rattle.office_tables.proofs.Asked.{from_rows, rows_unread, tells_one}
use Rattle.office_tables.proofs.ask.ask_first.Goals as goal

pub returns-in-Ok-clause-told : goal.returns-in-Ok-clause-told
returns-in-Ok-clause-told g c part finds = (
  tells_one g.S.Store c.args.sql.now (bound c.args.values.now) c.args.conn.now c.ask.new.conn c.first.result g.R.Stored.read part (λ clean.
      from_rows g.S.Store c.args.sql.now (bound c.args.values.now) c.args.conn.now c.in-Ok.rows.items c.first.result (λ found rows. found ≡ option_map g.R.Stored.read (slice_get rows 0)) (c.in-Ok.ensures.asked clean) (rw c.as_slice.ensures.value at c.first.ensures.read)) finds,
  c.in-Ok.ensures.kept,
  c.in-Ok.ensures.survives,
)

pub returns-in-Err-clause-told : goal.returns-in-Err-clause-told
returns-in-Err-clause-told g c part finds = (λ clean t shows. tt, c.in-Err.ensures.kept, c.in-Err.ensures.survives)

pub returns-in-Ok-clause-exact : goal.returns-in-Ok-clause-exact
returns-in-Ok-clause-exact g c clean =
    from_rows g.S.Store c.args.sql.now (bound c.args.values.now) c.args.conn.now c.in-Ok.rows.items c.first.result (λ found rows. option_map g.R.Stored.row_of found ≡ slice_get rows 0) (c.in-Ok.ensures.asked clean) (rw c.as_slice.ensures.value at c.first.ensures.exact)

pub returns-in-Ok-clause-cause : goal.returns-in-Ok-clause-cause
returns-in-Ok-clause-cause g c clean =
    rows_unread g.S.Store c.args.sql.now (bound c.args.values.now) c.args.conn.now c.in-Ok.rows.items c.first.result (λ rows. IsUnwritten (option_map g.R.Stored.row_of) (λ found. IfSome found g.R.Stored.fits) (slice_get rows 0))
    (c.in-Ok.ensures.asked clean) (rw c.as_slice.ensures.value at c.first.ensures.cause)

pub returns-in-Err-clause-cause : goal.returns-in-Err-clause-cause
returns-in-Err-clause-cause g c clean = inl (c.in-Err.error, c.in-Err.ensures.refused clean, c.fault.ensures)
