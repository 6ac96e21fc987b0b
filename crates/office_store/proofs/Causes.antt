-- Why an office isn't entered.
use Rattle.office_store.proofs.Names.{◌≡◌, ◌∙◌, ◌⊎◌, inl, inr, ℕ, ◌≤◌, List, [], true, false, refl, sym, subst, IsTrue, arith, Row, Database, Held, state, State, HasCleanDisk, Survives, edition_of, has_late, DiskFails, fault_of, IsAsked, IsRefusedBy, Refused, get_version, HasForms, ShelfFault, EntersOrCanNot, IsHindered, is_other_version, opening_of, version_in, OpenFault}
use Rattle.sqlite_trees.specs.declared.store.Store.{Ghosts}
use Rattle.sqlite.specs.declared.error.Error.{Error}
use Rattle.office_base.specs.declared.shelf.ShelfFault.TheVariants as shelf
use Rattle.office_store.specs.declared.found.OpenFault.TheVariants as fault

-- what hindered the opening did so before too, because the last commit is the same
hindered_before : (edition : ℕ) (old mid : State) → mid.committed ≡ old.committed → IsHindered edition mid → IsHindered edition old
hindered_before edition old mid same (inl early) = inl early
hindered_before edition old mid same (inr lacks) = inr (λ has. lacks (subst (λ (d : Database). HasForms edition d.schema) (sym same) has))

pub hindered : {S : Type 0} (g : Ghosts S) (old mid new : Held S) (rows : List Row) (edition : ℕ) (why : OpenFault) → IsAsked g get_version [] old rows → is_other_version rows ≡ false
    → edition_of (version_in rows) (has_late old.schema) ≡ edition → HasCleanDisk (state g mid) → Refused (state g old) (state g mid) → Survives (state g old) (state g mid) (λ _. ⊥)
    → (old.in_transaction ≡ false → mid.in_transaction ≡ false) → (state g mid).faults ≤ (state g new).faults
    → (why ≡ fault.Store → IsTrue (state g mid).is_open → mid.in_transaction ≡ false → DiskFails (state g mid) (state g new) ⊎ IsHindered edition (state g mid)) → EntersOrCanNot g why old new
hindered g old mid new rows edition why asked known is clean kept survives ended up failed store was alone = elim (survives.closes clean was) [
  | inl open_now ↦ elim (failed store open_now (ended alone)) [
    | inl disk ↦ inl (omega (arith, disk, survives.counts))
    | inr stands ↦ inr (inr (inl (edition, (rows, asked, known, is), hindered_before edition (state g old) (state g mid) (kept.committed open_now) stands)))
  ]
  | inr disk ↦ inl (omega (arith, disk, up))
]

-- an opening that calls the store at fault had a look-up that did
pub store_of : (why : ShelfFault) → opening_of why ≡ fault.Store → why ≡ shelf.Store
store_of shelf.NoMemory is = absurd (cc)
store_of shelf.Store is = refl

-- the question for the version was refused
pub refused_so : {S : Type 0} (g : Ghosts S) (old new : Held S) (e : Error) (why : OpenFault) → IsRefusedBy g get_version [] old new e → why ≡ opening_of (fault_of e) → EntersOrCanNot g why old new
refused_so g old new e why refused is store was alone = inr (inl (e, refused, store_of (fault_of e) (sym is ∙ store)))
