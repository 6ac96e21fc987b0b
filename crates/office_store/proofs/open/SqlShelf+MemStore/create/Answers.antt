use Rattle.office_store.proofs.Names.{memory_is_clean, no_tables}
use Rattle.office_store.proofs.Founding.{enters_empty}
use Rattle.office_store.proofs.open.SqlShelf+MemStore.create.Goals as goal

pub returns-in-Ok-enter-clause-is_open : goal.returns-in-Ok-enter-clause-is_open
returns-in-Ok-enter-clause-is_open c = c.in-Ok-enter.ensures.is_open (memory_is_clean c.enter.new.conn)

pub returns-in-Ok-enter-clause-empty : goal.returns-in-Ok-enter-clause-empty
returns-in-Ok-enter-clause-empty c = enters_empty _ c.in-Ok.conn c.enter.new.conn c.in-Ok.ensures.empty (c.in-Ok-enter.ensures.enters (memory_is_clean c.enter.new.conn))

pub returns-in-Ok-enter-clause-sound : goal.returns-in-Ok-enter-clause-sound
returns-in-Ok-enter-clause-sound c =
    let clean = memory_is_clean c.enter.new.conn in
    c.in-Ok-enter.ensures.sound clean no_tables (enters_empty _ c.in-Ok.conn c.enter.new.conn c.in-Ok.ensures.empty (c.in-Ok-enter.ensures.enters clean))
