use Rattle.office_memory.proofs.Names.{ap, ◌∙◌, after_puts}
use Rattle.office_memory.proofs.Applied.{all_made}
use Rattle.office_memory.proofs.memory.MemoryShelfShelf.apply.Goals as goal

pub returns-in-Ok : goal.returns-in-Ok
returns-in-Ok c = (
  all_made c.changes_keep_order.ensures c.args.self.now _ c.args.puts.items (c.in-Ok.ensures.all ∙ ap (λ s. after_puts c.args.puts.items s.0) c.self.view_is),
  ap (λ s. s.1) c.self.view_is,
  λ h t held. tt,
)
