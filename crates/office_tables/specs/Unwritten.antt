-- Values in a store that no office writes.
use Rattle.std.specs.Prelude.{◌≡◌}

-- the value there isn't written for any valid record
pub record IsUnwritten {X V : Type 0} (written : X → V) (fits : X → Type 0) (there : V) : Type 0 where
  pub none : (x : X) → fits x → written x ≡ there → ⊥
