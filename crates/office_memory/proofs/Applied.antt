-- Changes that were all made fulfil the promise of `apply`.
use Rattle.office_memory.proofs.Names.{◌≡◌, ℕ, List, Ok, sym, ap, ◌∙◌, Tables, after_puts, ChangesKeepOrder, Alters, memory_meaning, Put, ShelfFault}

pub all_made : ChangesKeepOrder → (old new : Tables × ℕ) (ps : List Put) → new.0 ≡ after_puts ps old.0 → Alters {T = Unit {0}} {E = ShelfFault} memory_meaning old new (Ok tt) (after_puts ps)
all_made kept old new ps made = record {
  before = λ h. tt;
  all = λ h t held. (made ∙ ap (after_puts ps) held.0, kept ps t held.1);
  none = λ h t held. tt;
  stop_all = λ h t held u left. sym left ∙ made ∙ ap (after_puts ps) held.0;
  stop_none = λ h. tt;
  sound = λ h was. tt;
}
