use Rattle.office_store.proofs.Names.{◌∙◌}
use Rattle.office_store.proofs.Shelves.{applied_ok, applied_err}
use Rattle.office_store.proofs.shelf.SqlShelfShelf.apply.Goals as goal

pub returns-in-Ok : goal.returns-in-Ok
returns-in-Ok g c =
    applied_ok g.S.Store c.self.inside.conn c.apply_all.new.conn c.trees_tell_one_office.ensures c.changes_keep_order.ensures c.is_live.ensures (λ open_now. g.met.S.Store.stays c.self.inside.conn.store open_now) c.args.puts.items (rw c.as_slice.ensures.value at c.in-Ok.ensures.survives) c.args.self.now c.self.inside.faults c.self.view_is
    (rw c.as_slice.ensures.value at c.in-Ok.ensures.applied)

pub returns : goal.returns
returns g c =
    applied_err g.S.Store c.self.inside.conn c.apply_all.new.conn c.trees_tell_one_office.ensures c.changes_keep_order.ensures c.is_live.ensures (λ open_now. g.met.S.Store.stays c.self.inside.conn.store open_now) c.args.puts.items (rw c.as_slice.ensures.value at c.in-Err.ensures.survives) c.args.self.now c.count.new.self c.self.inside.faults
    c.in-Err.error c.count.result c.self.view_is c.count.ensures.kept c.count.ensures.counted (c.count.ensures.fault ∙ c.fault.ensures) c.in-Err.ensures.refused (rw c.as_slice.ensures.value at c.in-Err.ensures.failed)
