-- Stores that a fault can close for good.
use Rattle.std.specs.Prelude.{◌≡◌, ◌⊎◌, ℕ, ◌≤◌, Bool, not, Result, IfOk, IfErr, OnOk}
use Rattle.office_base.specs.Faults.{one_fault_more}
use Rattle.office_base.specs.Shelves.{Meaning, Keeps, CountsFaults}
use Rattle.office_base.specs.declared.shelf.ShelfFault.{ShelfFault}
use Rattle.office_base.specs.declared.shelf.ShelfFault.TheVariants.{NoMemory}

-- the condition of a store
pub record Standing (S : Type 0) : Type 0 where
  -- whether the store still answers; if it doesn't, only opening it again helps
  pub is_open : S → Bool
  -- the number of times that its disk failed or refused
  pub disk_faults : S → ℕ

-- The answer says whether the store was closed for good; asking changes and closes nothing. An error means too little memory, or a fault of the disk during the
-- call, which is counted.
abbrev pub TellsShut : {S : Type 0} → Meaning S → Standing S → S → S → Result Bool ShelfFault → Type 0
TellsShut M store old new result =
    (M.honest new → IfOk result (λ shut. shut ≡ not (store.is_open old)))
    × (M.honest new → OnOk result (store.is_open new ≡ store.is_open old))
    × (M.honest new → IfErr result (λ fault. (fault ≡ NoMemory) ⊎ (one_fault_more (store.disk_faults old) ≤ store.disk_faults new)))
    × Keeps M old new
    × CountsFaults M old new result
